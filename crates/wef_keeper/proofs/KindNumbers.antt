-- What the number of a kind tells.
use Rattle.std.proofs.Common.{◌≡◌, ℕ, ◌==◌, if◌then◌else◌, List, [], ◌∷◌, refl, ap, sym, ◌∙◌}
use Rattle.wef_keeper.specs.Kinds.{number_of}
use Rattle.wef_keeper.specs.Laws.{NumbersTellKinds, NumbersTellOwners}
use Rattle.wef_keeper.specs.declared.kinds.RowKind.{RowKind}
use Rattle.wef_keeper.specs.declared.kinds.RowKind.TheVariants.{Subscription, Bookmark, Held, Mark, Loose, Heard, Lease, CollectorBoot, Record, LastNumber, Capacity, SourceBoot}

-- the first of some kinds that has a number, or else the last kind
abbrev kind_among : List RowKind → ℕ → RowKind
kind_among [] n = SourceBoot
kind_among (kind ∷ kinds) n = if number_of kind == n then kind else kind_among kinds n

abbrev kind_at : ℕ → RowKind
kind_at = kind_among (Subscription ∷ Bookmark ∷ Held ∷ Mark ∷ Loose ∷ Heard ∷ Lease ∷ CollectorBoot ∷ Record ∷ LastNumber ∷ Capacity ∷ [])

found_again : (kind : RowKind) → kind_at (number_of kind) ≡ kind
found_again Subscription = refl
found_again Bookmark = refl
found_again Held = refl
found_again Mark = refl
found_again Loose = refl
found_again Heard = refl
found_again Lease = refl
found_again CollectorBoot = refl
found_again Record = refl
found_again LastNumber = refl
found_again Capacity = refl
found_again SourceBoot = refl

pub numbers_tell_kinds : NumbersTellKinds
numbers_tell_kinds one other same = sym (found_again one) ∙ ap kind_at same ∙ found_again other

pub numbers_tell_owners : NumbersTellOwners
numbers_tell_owners Subscription = refl
numbers_tell_owners Bookmark = refl
numbers_tell_owners Held = refl
numbers_tell_owners Mark = refl
numbers_tell_owners Loose = refl
numbers_tell_owners Heard = refl
numbers_tell_owners Lease = refl
numbers_tell_owners CollectorBoot = refl
numbers_tell_owners Record = refl
numbers_tell_owners LastNumber = refl
numbers_tell_owners Capacity = refl
numbers_tell_owners SourceBoot = refl
