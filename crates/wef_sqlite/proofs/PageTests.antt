-- How a page's statements compare the columns of a row of ours.
use Rattle.std.proofs.Common.{◌≡◌, ◌<◌, ◌+◌, ◌&&◌, ℕ, suc, zero, pos, Bool, true, false, nat_lt, nat_eq, min, Some, List, [], ◌∷◌, refl, sym, ap, ◌∙◌, arith, Ordering, Less, Equal, Greater, nat_cmp}
use Rattle.std.specs.Cmp.{eq_by_cmp_equiv, nat_cmp_total, unsigned_ties}
use Rattle.std.specs.Cmp.Lexicographic.{slice_cmp, pointwise, texts_ties, nat_list_cmp_total}
use Rattle.std.specs.List.{list_all}
use Rattle.std.specs.Ordering.{is_lt, is_ge, ordering_then, ordering_reverse}
use Rattle.std.proofs.lemmas.Bool.Decides.{nat_tests}
use Rattle.sqlite_value.specs.Order.{Row as Columns, value_cmp}
use Rattle.sqlite_value.specs.declared.keys.Collation.TheVariants.{Binary}
use Rattle.sqlite_value.specs.declared.value.Value.{Value}
use Rattle.sqlite_value.specs.declared.value.Value.TheVariants.{Int, Text}
use Rattle.sqlite_value.proofs.OrderLemmas.{value_cmp-Text, then-Equal}
use Rattle.sqlite_sql.specs.Ops.{binary, test, is_true, from_truth}
use Rattle.sqlite_sql.specs.Term.{holds, eval_all}
use Rattle.sqlite_sql.specs.Query.{key_cmp}
use Rattle.sqlite_sql.specs.declared.ops.BinaryOp.TheVariants.{Compare}
use Rattle.sqlite_sql.specs.declared.ops.CompareOp.{CompareOp}
use Rattle.sqlite_sql.specs.declared.ops.CompareOp.TheVariants.{Eq, Gt, Ge}
use Rattle.wef_base.specs.declared.numbers.TheConstants.{MAX}
use Rattle.wef_keeper.specs.Rows as rows
use Rattle.wef_keeper.specs.declared.keys.Key.{Key}
use Rattle.wef_sqlite.proofs.Keys.{SaysKey, pos_cmp}
use Rattle.wef_sqlite.proofs.PageStatements.{wants, order_terms, sort_keys}
use Rattle.wef_sqlite.specs.Contents.{shown}
use Rattle.wef_sqlite.specs.Paging.{is_behind}
use Rattle.wef_sqlite.specs.Statements.{next_bytes, values_behind}
use Rattle.wef_sqlite.specs.declared.read.Section.{Section}
use Rattle.wef_sqlite.specs.declared.read.Section.TheVariants.{Number, Channel, Source, Sub, Kind}

-- what a test is, where neither side is NULL
told : (b : Bool) → is_true (from_truth (Some b)) ≡ b
told true = refl
told false = refl

on_numbers : (op : CompareOp) (v : Value) (m n : ℕ) → v ≡ Int (pos m) → is_true (binary (Compare op Binary) v (Int (pos n))) ≡ test op (nat_cmp m n)
unfolding binary
on_numbers op v m n e = ap (λ w. is_true (binary (Compare op Binary) w (Int (pos n)))) e ∙ told _ ∙ ap (test op) (pos_cmp m n)

on_texts : (op : CompareOp) (v : Value) (s t : List ℕ) → v ≡ Text s → is_true (binary (Compare op Binary) v (Text t)) ≡ test op (slice_cmp nat_cmp s t)
unfolding binary
on_texts op v s t e = ap (λ w. is_true (binary (Compare op Binary) w (Text t))) e ∙ told _ ∙ ap (test op) (value_cmp-Text s t)

same_number : (v : Value) (m n : ℕ) → v ≡ Int (pos m) → is_true (binary (Compare Eq Binary) v (Int (pos n))) ≡ nat_eq n m
same_number v m n e = on_numbers Eq v m n e ∙ (eq_by_cmp_equiv nat_cmp_total).symm m n ∙ sym (unsigned_ties n m)

same_text : (v : Value) (s t : List ℕ) → v ≡ Text s → is_true (binary (Compare Eq Binary) v (Text t)) ≡ pointwise nat_eq t s
same_text v s t e = on_texts Eq v s t e ∙ (eq_by_cmp_equiv nat_list_cmp_total).symm s t ∙ sym (texts_ties t s)

turn : (r a b : Ordering) → is_ge a ≡ is_lt b → is_ge (ordering_then r a) ≡ is_lt (ordering_then (ordering_reverse r) b)
turn Less a b h = refl
turn Equal a b h = h
turn Greater a b h = refl

no_less : (xs : List ℕ) → is_ge (slice_cmp nat_cmp xs []) ≡ true
no_less [] = refl
no_less (x ∷ xs) = refl

-- a text is no less than the next one behind another where it is greater than that
pub from_next : (s t : List ℕ) → is_ge (slice_cmp nat_cmp s (next_bytes t)) ≡ is_lt (slice_cmp nat_cmp t s)
from_next [] [] = refl
from_next [] (y ∷ ys) = refl
from_next (zero ∷ xs) [] = no_less xs
from_next (suc x ∷ xs) [] = let over : nat_cmp (suc x) 0 ≡ Greater = grind (arith, nat_tests) in ap (λ r. is_ge (ordering_then r (slice_cmp nat_cmp xs []))) over
from_next (x ∷ xs) (y ∷ ys) = turn (nat_cmp x y) _ _ (from_next xs ys) ∙ ap (λ r. is_lt (ordering_then r (slice_cmp nat_cmp ys xs))) (sym (nat_cmp_total.antisymm y x))

-- no number that is kept is above the greatest, so a bound above it does no less
number_behind : (v : Value) (m n : ℕ) → v ≡ Int (pos m) → m < MAX + 1 → is_true (binary (Compare Gt Binary) v (Int (pos (min n MAX)))) ≡ nat_lt n m
number_behind v m n e low = on_numbers Gt v m (min n MAX) e ∙ grind (low, arith, nat_tests)

kind_behind : (v : Value) (m n : ℕ) → v ≡ Int (pos m) → is_true (binary (Compare Ge Binary) v (Int (pos (n + 1)))) ≡ nat_lt n m
kind_behind v m n e = on_numbers Ge v m (n + 1) e ∙ grind (arith, nat_tests)

text_behind : (v : Value) (s t : List ℕ) → v ≡ Text s → is_true (binary (Compare Ge Binary) v (Text (next_bytes t))) ≡ is_lt (slice_cmp nat_cmp t s)
text_behind v s t e = on_texts Ge v s (next_bytes t) e ∙ from_next s t

two : (a b : Bool) → (a && (b && true)) ≡ (a && b)
two true true = refl
two true false = refl
two false b = refl

three : (a b c : Bool) → (a && (b && (c && true))) ≡ ((a && b) && c)
three true b c = two b c
three false b c = refl

four : (a b c d : Bool) → (a && (b && (c && (d && true)))) ≡ (((a && b) && c) && d)
four true b c d = three b c d
four false b c d = refl

five : (a b c d e : Bool) → (a && (b && (c && (d && (e && true))))) ≡ ((((a && b) && c) && d) && e)
five true b c d e = four b c d e
five false b c d e = refl

one : (a : Bool) → (a && true) ≡ a
one true = refl
one false = refl

-- a statement asks of a row whether its key is behind the key, in the section
pub passes_is : (section : Section) (after : Key) (room : ℕ) (kept : Columns) (key : Key) → SaysKey (shown kept) key
    → list_all (holds (values_behind section after room ∷ kept ∷ [])) (wants section) ≡ is_behind section after key
passes_is Number after room kept key h =
    let kind = same_number _ key.kind after.kind h.kind in
    let sub = same_text _ key.sub after.sub h.sub in
    let source = same_text _ key.source after.source h.source in
    let channel = same_text _ key.channel after.channel h.channel in
    let number = number_behind _ key.number after.number h.number h.small in
    (λ i. kind i && (sub i && (source i && (channel i && (number i && true))))) ∙ five (nat_eq after.kind key.kind) (pointwise nat_eq after.sub key.sub) (pointwise nat_eq after.source key.source) (pointwise nat_eq after.channel key.channel) (nat_lt after.number key.number)
passes_is Channel after room kept key h =
    let kind = same_number _ key.kind after.kind h.kind in
    let sub = same_text _ key.sub after.sub h.sub in
    let source = same_text _ key.source after.source h.source in
    let channel = text_behind _ key.channel after.channel h.channel in
    (λ i. kind i && (sub i && (source i && (channel i && true)))) ∙ four (nat_eq after.kind key.kind) (pointwise nat_eq after.sub key.sub) (pointwise nat_eq after.source key.source) (is_lt (slice_cmp nat_cmp after.channel key.channel))
passes_is Source after room kept key h =
    let kind = same_number _ key.kind after.kind h.kind in
    let sub = same_text _ key.sub after.sub h.sub in
    let source = text_behind _ key.source after.source h.source in
    (λ i. kind i && (sub i && (source i && true))) ∙ three (nat_eq after.kind key.kind) (pointwise nat_eq after.sub key.sub) (is_lt (slice_cmp nat_cmp after.source key.source))
passes_is Sub after room kept key h =
    let kind = same_number _ key.kind after.kind h.kind in
    let sub = text_behind _ key.sub after.sub h.sub in
    (λ i. kind i && (sub i && true)) ∙ two (nat_eq after.kind key.kind) (is_lt (slice_cmp nat_cmp after.sub key.sub))
passes_is Kind after room kept key h =
    let kind = kind_behind _ key.kind after.kind h.kind in
    (λ i. kind i && true) ∙ one (nat_lt after.kind key.kind)

texts_cmp : (v w : Value) (s t : List ℕ) → v ≡ Text s → w ≡ Text t → value_cmp v w ≡ slice_cmp nat_cmp s t
texts_cmp v w s t e f = (λ i. value_cmp (e i) (f i)) ∙ value_cmp-Text s t

kept_numbers_cmp : (v w : Value) (m n : ℕ) → v ≡ Int (pos m) → w ≡ Int (pos n) → value_cmp v w ≡ nat_cmp m n
kept_numbers_cmp v w m n e f = (λ i. value_cmp (e i) (f i)) ∙ pos_cmp m n

-- ORDER BY is the order of the keys
pub order_is : (params : Columns) (a b : Columns) (e f : Key) → SaysKey (shown a) e → SaysKey (shown b) f
    → key_cmp 0 sort_keys (eval_all order_terms (params ∷ a ∷ [])) (eval_all order_terms (params ∷ b ∷ [])) ≡ rows.key_cmp e f
order_is params a b e f h k =
    let kind = kept_numbers_cmp _ _ e.kind f.kind h.kind k.kind in
    let sub = texts_cmp _ _ e.sub f.sub h.sub k.sub in
    let source = texts_cmp _ _ e.source f.source h.source k.source in
    let channel = texts_cmp _ _ e.channel f.channel h.channel k.channel in
    let number = then-Equal _ ∙ kept_numbers_cmp _ _ e.number f.number h.number k.number in
    λ i. ordering_then (kind i) (ordering_then (sub i) (ordering_then (source i) (ordering_then (channel i) (number i))))
