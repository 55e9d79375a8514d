-- The keys of the collector's rows. Unnamed parts are empty or 0.
use Rattle.std.specs.Prelude.{ℕ, List, []}
use Rattle.wef_keeper.specs.Kinds.{number_of}
use Rattle.wef_keeper.specs.declared.keys.Key.{Key}
use Rattle.wef_keeper.specs.declared.kinds.RowKind.TheVariants.{Subscription, Bookmark, Held, Mark, Loose, Heard, Lease, CollectorBoot}

abbrev pub key : ℕ → List ℕ → List ℕ → List ℕ → ℕ → Key
key kind u s c n = record { kind = kind; sub = u; source = s; channel = c; number = n }

abbrev pub subscription_key : List ℕ → Key
subscription_key u = key (number_of Subscription) u [] [] 0

abbrev pub bookmark_key : List ℕ → List ℕ → List ℕ → Key
bookmark_key u s c = key (number_of Bookmark) u s c 0

abbrev pub held_key : List ℕ → List ℕ → List ℕ → ℕ → Key
held_key u s c n = key (number_of Held) u s c n

abbrev pub mark_key : List ℕ → List ℕ → List ℕ → ℕ → Key
mark_key u s c first = key (number_of Mark) u s c first

abbrev pub loose_key : List ℕ → List ℕ → List ℕ → ℕ → Key
loose_key u s c first = key (number_of Loose) u s c first

abbrev pub heard_key : List ℕ → List ℕ → Key
heard_key u s = key (number_of Heard) u s [] 0

abbrev pub lease_key : List ℕ → List ℕ → Key
lease_key u s = key (number_of Lease) u s [] 0

abbrev pub boot_key : Key
boot_key = key (number_of CollectorBoot) [] [] [] 0
