-- What row the columns of an answer say.
use Rattle.std.specs.Prelude.{◌≡◌, ℕ, ◌+◌, pos, cond, nat_lt, List, Option, Some, None, Result, Ok, Err}
use Rattle.std.specs.Option.{option_and_then, option_map}
use Rattle.std.specs.Str.{is_utf8}
use Rattle.std.proofs.Common.{of_z, w64}
use Rattle.sqlite_value.specs.Order.{Row as Columns, column}
use Rattle.sqlite_value.specs.declared.value.Value.{Value}
use Rattle.sqlite_value.specs.declared.value.Value.TheVariants.{Int, Text}
use Rattle.wef_base.specs.declared.numbers.TheConstants.{MAX}
use Rattle.wef_keeper.specs.declared.keys.Cell.{Cell}
use Rattle.wef_keeper.specs.declared.keys.Key.{Key}
use Rattle.wef_sqlite.specs.declared.refusal.Refusal.{Refusal}
use Rattle.wef_sqlite.specs.declared.refusal.Refusal.TheVariants.{NoMemory, Failed}

-- the number that a column holds, where it isn't negative and is below a bound
abbrev pub number_below : ℕ → Value → Option ℕ
number_below bound (Int (pos number)) = cond (nat_lt number bound) (Some number) None
number_below bound _ = None

-- the text that a column holds, which is UTF-8
abbrev pub text_in : Value → Option (List ℕ)
text_in (Text bytes) = cond (is_utf8 bytes) (Some bytes) None
text_in _ = None

-- the number of 64 bits that a column holds: a negative one is read as itself plus 2^64
abbrev pub wrapped_in : Value → Option ℕ
wrapped_in (Int kept) = Some (of_z w64 kept)
wrapped_in _ = None

-- the kind, which is below 256
abbrev pub kind_in : Columns → Option ℕ
kind_in columns = number_below 256 (column columns 0)

-- the number, which is at most the greatest that is kept
abbrev pub number_in : Columns → Option ℕ
number_in columns = number_below (MAX + 1) (column columns 4)

-- the key that the first five columns say
abbrev pub key_in : Columns → Option Key
key_in columns =
    option_and_then (λ kind.
    option_and_then (λ sub.
    option_and_then (λ source.
    option_and_then (λ channel.
    option_map (λ number. record { kind = kind; sub = sub; source = source; channel = channel; number = number }) (number_in columns))
    (text_in (column columns 3)))
    (text_in (column columns 2)))
    (text_in (column columns 1)))
    (kind_in columns)

-- what stands at the key, as the next two columns say it
abbrev pub cell_in : Columns → Option Cell
cell_in columns = option_and_then (λ value. option_map (λ body. record { value = value; body = body }) (text_in (column columns 6))) (wrapped_in (column columns 5))

-- the key and what stands there, as seven columns say them; none where they are no row
abbrev pub entry_in : Columns → Option (Key × Cell)
entry_in columns = option_and_then (λ key. option_map (λ cell. (key, cell)) (cell_in columns)) (key_in columns)

-- a call answers what is read, and fails where there is none to read; only want of memory says nothing
abbrev pub Reads : {T : Type 0} → Option T → Result T Refusal → Type 0
Reads read (Ok said) = read ≡ Some said
Reads read (Err NoMemory) = Unit {0}
Reads read (Err Failed) = read ≡ None
