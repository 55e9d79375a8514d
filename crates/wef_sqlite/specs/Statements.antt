-- The values that the statements are given for their parameters.
use Rattle.std.specs.Prelude.{ℕ, ◌+◌, min, pos, List, [], ◌∷◌, ◌++◌}
use Rattle.sqlite_value.specs.declared.value.Value.{Value}
use Rattle.sqlite_value.specs.declared.value.Value.TheVariants.{Int, Text}
use Rattle.wef_base.specs.declared.numbers.TheConstants.{MAX}
use Rattle.wef_keeper.specs.declared.keys.Key.{Key}
use Rattle.wef_keeper.specs.declared.keys.Row.{Row}
use Rattle.wef_sqlite.specs.declared.read.Section.{Section}
use Rattle.wef_sqlite.specs.declared.read.Section.TheVariants.{Number, Channel, Source, Sub, Kind}
use Rattle.wef_sqlite.specs.declared.read.TheConstants.{BEHIND_NUMBER, BEHIND_CHANNEL, BEHIND_SOURCE, BEHIND_SUB, BEHIND_KIND}

-- the least text that is greater by its bytes
abbrev pub next_bytes : List ℕ → List ℕ
next_bytes bytes = bytes ++ 0 ∷ []

-- a key
abbrev pub key_values : Key → List Value
key_values key = Int (pos key.kind) ∷ Text key.sub ∷ Text key.source ∷ Text key.channel ∷ Int (pos key.number) ∷ []

-- a row
abbrev pub row_values : Row → List Value
row_values row =
    Int (pos row.key.kind) ∷ Text row.key.sub ∷ Text row.key.source ∷ Text row.key.channel ∷ Int (pos row.key.number)
    ∷ Int (pos row.value) ∷ Text row.body ∷ []

-- the statement that shows the rows of a section behind a key
abbrev pub text_behind : Section → List ℕ
text_behind Number = BEHIND_NUMBER.now
text_behind Channel = BEHIND_CHANNEL.now
text_behind Source = BEHIND_SOURCE.now
text_behind Sub = BEHIND_SUB.now
text_behind Kind = BEHIND_KIND.now

-- and its values: greater numbers of the same channel, where no row has a number above the greatest that is kept, greater
-- channels of the same source, greater sources of the same subscription, greater subscriptions of the same kind, greater kinds
abbrev pub values_behind : Section → Key → ℕ → List Value
values_behind Number after room =
    Int (pos after.kind) ∷ Text after.sub ∷ Text after.source ∷ Text after.channel ∷ Int (pos (min after.number MAX)) ∷ Int (pos room) ∷ []
values_behind Channel after room =
    Int (pos after.kind) ∷ Text after.sub ∷ Text after.source ∷ Text (next_bytes after.channel) ∷ Int (pos room) ∷ []
values_behind Source after room = Int (pos after.kind) ∷ Text after.sub ∷ Text (next_bytes after.source) ∷ Int (pos room) ∷ []
values_behind Sub after room = Int (pos after.kind) ∷ Text (next_bytes after.sub) ∷ Int (pos room) ∷ []
values_behind Kind after room = Int (pos (after.kind + 1)) ∷ Int (pos room) ∷ []
