-- What the columns of an answer read as, and why a reading fails.
use Rattle.std.proofs.Common.{◌≡◌, ◌^◌, ◌+◌, ℤ, ◌≢◌, ◌<◌, ℕ, pos, Result, Err, Option, Some, None, List, length, cond, nat_lt, refl, sym, ap, subst, ◌∙◌, inl, inr, IsErrAnd}
use Rattle.std.proofs.lemmas.Bool.{cases_Bool, ltb-true, ltb-false, lt-ltb}
use Rattle.std.proofs.lemmas.List.{get_or_past}
use Rattle.std.proofs.lemmas.Result.{err_from_is_err_and}
use Rattle.std.proofs.lemmas.Str.{is_utf8-from_IsUtf8, IsUtf8-from_is_utf8}
use Rattle.std.specs.Str.{is_utf8, IsUtf8}
use Rattle.std.specs.Int.Signed.{mag}
use Rattle.std.specs.Option.{option_and_then, option_map}
use Rattle.sqlite.specs.declared.error.Error.{Error}
use Rattle.sqlite.specs.declared.error.Error.TheVariants.{SqliteFailure}
use Rattle.sqlite.specs.declared.error.ErrorCode.TheVariants.{OutOfMemory}
use Rattle.sqlite_value.specs.Order.{Row as Columns, column}
use Rattle.sqlite_value.specs.declared.value.Value.{Value}
use Rattle.sqlite_value.specs.declared.value.Value.TheVariants.{Null, Int, Real, Text, Blob}
use Rattle.wef_base.specs.declared.numbers.TheConstants.{MAX}
use Rattle.wef_keeper.specs.Rows.{cell_of_row}
use Rattle.wef_keeper.specs.declared.keys.Cell.{Cell}
use Rattle.wef_keeper.specs.declared.keys.Key.{Key}
use Rattle.wef_keeper.specs.declared.keys.Row.{Row}
use Rattle.wef_sqlite.specs.Columns.{Reads, text_in, number_below, entry_in}
use Rattle.wef_sqlite.specs.Statements.{row_values}
use Rattle.wef_sqlite.specs.Refusals.{refusal_of}
use Rattle.wef_sqlite.specs.declared.refusal.Refusal.{Refusal}
use Rattle.wef_sqlite.specs.declared.refusal.Refusal.TheVariants.{NoMemory, Failed}

-- why a column isn't read: memory is wanting, there is no such column, or it doesn't hold what is asked for
abbrev pub Unread : Columns → ℕ → (Value → Type 0) → Error → Type 0
Unread columns at Readable e = e ≢ SqliteFailure OutOfMemory → at < length columns → ¬ (Readable (column columns at))

failed_is_not_memory : Failed ≢ NoMemory
failed_is_not_memory e = cc

module _ {T : Type 0} (read : Value → Option T) (Readable : Value → Type 0) (nothing : read Null ≡ None) (unreadable : (v : Value) → ¬ (Readable v) → read v ≡ None) (columns : Columns) (at : ℕ) where
  none_read : (e : Error) → Unread columns at Readable e → e ≢ SqliteFailure OutOfMemory → read (column columns at) ≡ None
  none_read e why other = elim (cases_Bool (nat_lt at (length columns))) [
    | inl within ↦ unreadable (column columns at) (why other (ltb-true at (length columns) within))
    | inr past ↦ ap read (get_or_past columns at Null (ltb-false at (length columns) past)) ∙ nothing
  ]

  refuses : (e : Error) (refusal : Refusal) → refusal ≡ refusal_of e → Unread columns at Readable e → Reads (read (column columns at)) (Err refusal)
  refuses e NoMemory is why = tt
  refuses e Failed is why = none_read e why (λ memory. failed_is_not_memory (is ∙ ap refusal_of memory))

  -- what the exit of a `?` on a column answers
  pub fails : (e : Error) (r : Result T Refusal) → IsErrAnd r (λ refusal. refusal ≡ refusal_of e) → Unread columns at Readable e → Reads (read (column columns at)) r
  fails e r is why =
      let it = err_from_is_err_and r is in
      subst (Reads (read (column columns at))) (sym it.1) (refuses e it.0 it.2 why)

-- a text that a column holds, as a string
abbrev pub IsString : Value → Type 0
IsString v = (t : List ℕ) × (v ≡ Text t) × IsUtf8 t

pub no_text : (v : Value) → ¬ (IsString v) → text_in v ≡ None
no_text Null h = refl
no_text (Int n) h = refl
no_text (Real x) h = refl
no_text (Text t) h = elim (cases_Bool (is_utf8 t)) [
  | inl fits ↦ absurd (h (t, refl, IsUtf8-from_is_utf8 t fits))
  | inr wrong ↦ ap (λ b. cond b (Some t) None) wrong
]
no_text (Blob b) h = refl

pub text_read : (v : Value) (t : List ℕ) → IsUtf8 t → v ≡ Text t → text_in v ≡ Some t
text_read v t fits is = ap text_in is ∙ ap (λ b. cond b (Some t) None) (is_utf8-from_IsUtf8 t fits)

pub number_read : (bound : ℕ) (v : Value) (n : ℕ) → n < bound → v ≡ Int (pos n) → number_below bound v ≡ Some n
number_read bound v n fits is = ap (number_below bound) is ∙ ap (λ b. cond b (Some n) None) (lt-ltb n bound fits)

-- ---- the values of a row say the row

below_read : (bound n : ℕ) → n < bound → number_below bound (Int (pos n)) ≡ Some n
below_read bound n fits = number_read bound (Int (pos n)) n fits refl

-- a key from its parts, where each reads
abbrev keyed : Option ℕ → Option (List ℕ) → Option (List ℕ) → Option (List ℕ) → Option ℕ → Option Key
keyed kind sub source channel number =
    option_and_then (λ k. option_and_then (λ s. option_and_then (λ o. option_and_then (λ c. option_map (λ n. record { kind = k; sub = s; source = o; channel = c; number = n }) number) channel) source) sub) kind

abbrev valued : Option ℕ → Option (List ℕ) → Option Cell
valued value body = option_and_then (λ v. option_map (λ b. record { value = v; body = b }) body) value

abbrev entered : Option Key → Option Cell → Option (Key × Cell)
entered key cell = option_and_then (λ k. option_map (λ c. (k, c)) cell) key

pub values_read : (row : Row) → row.key.kind < 256 → row.key.number < 2 ^ 63 → IsUtf8 row.key.sub → IsUtf8 row.key.source → IsUtf8 row.key.channel → IsUtf8 row.body
    → entry_in (row_values row) ≡ Some (row.key, cell_of_row row)
values_read row kind number sub source channel body =
    λ i. entered
    (keyed (below_read 256 row.key.kind kind i) (text_read (Text row.key.sub) row.key.sub sub refl i) (text_read (Text row.key.source) row.key.source source refl i)
    (text_read (Text row.key.channel) row.key.channel channel refl i) (below_read (MAX + 1) row.key.number number i))
    (valued (Some row.value) (text_read (Text row.body) row.body body refl i))

-- what 64 bits hold with a sign
pub half : (z : ℤ) (n : ℕ) → mag z < 2 ^ 63 → z ≡ pos n → n < 2 ^ 63
half z n fits is = subst (λ y. mag y < 2 ^ 63) is fits
