-- The keys of a source's rows. Unnamed parts are empty or 0.
use Rattle.std.specs.Prelude.{ℕ, List, []}
use Rattle.wef_keeper.specs.Kinds.{number_of}
use Rattle.wef_keeper.specs.declared.keys.Key.{Key}
use Rattle.wef_keeper.specs.declared.kinds.RowKind.TheVariants.{Record, LastNumber, Capacity, SourceBoot}

abbrev pub key : ℕ → List ℕ → ℕ → Key
key kind c n = record { kind = kind; sub = []; source = []; channel = c; number = n }

abbrev pub record_key : List ℕ → ℕ → Key
record_key c n = key (number_of Record) c n

abbrev pub last_key : List ℕ → Key
last_key c = key (number_of LastNumber) c 0

abbrev pub capacity_key : Key
capacity_key = key (number_of Capacity) [] 0

abbrev pub boot_key : Key
boot_key = key (number_of SourceBoot) [] 0
