-- What the columns of a row that reads are, and when they are those of a key.
use Rattle.std.proofs.Common.{◌≡◌, ◌<◌, ◌<ℤ◌, ◌+◌, T, inl, inr, ℕ, pos, negsuc, Bool, true, false, ◌&&◌, cond, nat_lt, List, [], ◌∷◌, Option, Some, None, refl, sym, ap, subst, ◌∙◌, Ordering, Less, Equal, Greater, nat_cmp, is_eq}
use Rattle.std.proofs.lemmas.Bool.{cases_Bool, lt-ltb, ltb-true}
use Rattle.std.proofs.lemmas.Cmp.{ranked}
use Rattle.std.proofs.lemmas.Option.{option_and_then_some}
use Rattle.std.specs.Cmp.{int_cmp_is, eq_by_cmp_equiv}
use Rattle.std.specs.Cmp.Lexicographic.{slice_cmp}
use Rattle.std.specs.Option.{option_map}
use Rattle.std.specs.Str.{is_utf8}
use Rattle.std.specs.List.{list_all}
use Rattle.std.specs.Ordering.{ordering_then, MatchOrdering, eq_by_cmp}
use Rattle.sqlite_sql.specs.Ops.{binary, is_true, from_truth}
use Rattle.sqlite_sql.specs.Term.{holds}
use Rattle.sqlite_sql.specs.declared.ops.BinaryOp.TheVariants.{Compare}
use Rattle.sqlite_sql.specs.declared.ops.CompareOp.TheVariants.{Eq}
use Rattle.sqlite_value.proofs.OrderLemmas.{value_cmp-Int, value_cmp-Text}
use Rattle.sqlite_value.specs.Order.{Row as Columns, column, value_cmp}
use Rattle.sqlite_value.specs.declared.keys.Collation.TheVariants.{Binary}
use Rattle.sqlite_value.specs.declared.value.Value.{Value}
use Rattle.sqlite_value.specs.declared.value.Value.TheVariants.{Null, Int, Real, Text, Blob}
use Rattle.wef_base.specs.declared.numbers.TheConstants.{MAX}
use Rattle.wef_keeper.specs.Rows.{key_cmp, key_cmp_total}
use Rattle.wef_keeper.specs.declared.keys.Cell.{Cell}
use Rattle.wef_keeper.specs.declared.keys.Key.{Key}
use Rattle.wef_sqlite.specs.Columns.{number_below, text_in, kind_in, number_in, key_in, cell_in}
use Rattle.wef_sqlite.specs.Contents.{read_key, read_row, shown}
use Rattle.wef_sqlite.specs.Statements.{key_values}
use Rattle.wef_sqlite.proofs.Texts.{key_given}

some_is : {A : Type 0} {x y : A} → ◌≡◌ {A = Option A} (Some x) (Some y) → x ≡ y
some_is e = cc

number_is : (bound : ℕ) (v : Value) (n : ℕ) → number_below bound v ≡ Some n → (v ≡ Int (pos n)) × (n < bound)
number_is bound (Int (pos m)) n e = elim (cases_Bool (nat_lt m bound)) [
  | inl fits ↦ let same : m ≡ n = some_is (ap (λ b. cond b (Some m) None) (sym fits) ∙ e) in (ap (λ k. Int (pos k)) same, subst (λ k. k < bound) same (ltb-true m bound fits))
  | inr past ↦ absurd (let wrong = ap (λ b. cond b (Some m) None) (sym past) ∙ e in cc)
]
number_is bound Null n e = cc
number_is bound (Int (negsuc m)) n e = cc
number_is bound (Real x) n e = cc
number_is bound (Text t) n e = cc
number_is bound (Blob b) n e = cc

text_is : (v : Value) (t : List ℕ) → text_in v ≡ Some t → v ≡ Text t
text_is (Text bytes) t e = elim (cases_Bool (is_utf8 bytes)) [
  | inl fits ↦ ap Text (some_is (ap (λ b. cond b (Some bytes) None) (sym fits) ∙ e))
  | inr wrong ↦ absurd (let none = ap (λ b. cond b (Some bytes) None) (sym wrong) ∙ e in cc)
]
text_is Null t e = cc
text_is (Int n) t e = cc
text_is (Real x) t e = cc
text_is (Blob b) t e = cc

pub option_map_some : {A B : Type 0} (f : A → B) (o : Option A) (y : B) → option_map f o ≡ Some y → (x : A) × (o ≡ Some x) × (f x ≡ y)
option_map_some f None y e = cc
option_map_some f (Some x) y e = (x, refl, some_is e)

-- the columns of a key
pub record SaysKey (columns : Columns) (key : Key) : Type 0 where
  pub kind : column columns 0 ≡ Int (pos key.kind)
  pub sub : column columns 1 ≡ Text key.sub
  pub source : column columns 2 ≡ Text key.source
  pub channel : column columns 3 ≡ Text key.channel
  pub number : column columns 4 ≡ Int (pos key.number)
  pub small : key.number < MAX + 1

pub key_is : (columns : Columns) (key : Key) → key_in columns ≡ Some key → SaysKey columns key
key_is columns key e =
    option_and_then_some _ (kind_in columns) key e (λ kind k e1.
    option_and_then_some _ (text_in (column columns 1)) key e1 (λ sub s e2.
    option_and_then_some _ (text_in (column columns 2)) key e2 (λ source o e3.
    option_and_then_some _ (text_in (column columns 3)) key e3 (λ channel h e4.
    let last = option_map_some _ (number_in columns) key e4 in
    let number = number_is (MAX + 1) (column columns 4) last.0 last.1 in
    subst (SaysKey columns) last.2 (record {
      kind = (number_is 256 (column columns 0) kind k).0;
      sub = text_is (column columns 1) sub s;
      source = text_is (column columns 2) source o;
      channel = text_is (column columns 3) channel h;
      number = number.0;
      small = number.1;
    })))))

-- a row that reads says its key
pub row_key : (r : Columns) (e : Key × Cell) → read_row r ≡ Some e → read_key r ≡ Some e.0
row_key r e h =
    option_and_then_some _ (read_key r) e h (λ key k more.
    let it = option_map_some _ (cell_in (shown r)) e more in
    k ∙ ap (λ (p : Key × Cell). Some p.0) it.2)

-- numbers in columns are ordered as numbers
pub pos_cmp : (m n : ℕ) → value_cmp (Int (pos m)) (Int (pos n)) ≡ nat_cmp m n
pos_cmp m n = value_cmp-Int (pos m) (pos n) ∙ sym (int_cmp_is (pos m) (pos n) (nat_cmp m n) (go (nat_cmp m n) refl))
  where
    go : (r : Ordering) → r ≡ nat_cmp m n → MatchOrdering r (pos m <ℤ pos n) (pos m ≡ pos n) (pos n <ℤ pos m)
    go Less e = record { lt = subst T (sym (lt-ltb m n (ranked m n Less e))) tt }
    go Equal e = ap pos (ranked m n Equal e)
    go Greater e = record { lt = subst T (sym (lt-ltb n m (ranked m n Greater e))) tt }

back : (b : Bool) → is_true (from_truth (Some b)) ≡ b
back true = refl
back false = refl

int_given : (v : Value) (m n : ℕ) → v ≡ Int (pos m) → is_true (binary (Compare Eq Binary) v (Int (pos n))) ≡ is_eq (nat_cmp m n)
unfolding binary
int_given v m n is = ap (λ a. is_true (binary (Compare Eq Binary) a (Int (pos n)))) is ∙ back (is_eq (value_cmp (Int (pos m)) (Int (pos n)))) ∙ ap is_eq (pos_cmp m n)

text_given : (v : Value) (s t : List ℕ) → v ≡ Text s → is_true (binary (Compare Eq Binary) v (Text t)) ≡ is_eq (slice_cmp nat_cmp s t)
unfolding binary
text_given v s t is = ap (λ a. is_true (binary (Compare Eq Binary) a (Text t))) is ∙ back (is_eq (value_cmp (Text s) (Text t))) ∙ ap is_eq (value_cmp-Text s t)

then_eq : (a b : Ordering) (rest : Bool) → rest ≡ is_eq b → (is_eq a && rest) ≡ is_eq (ordering_then a b)
then_eq Less b rest e = refl
then_eq Equal b rest e = e
then_eq Greater b rest e = refl

and_true : (b : Bool) → (b && true) ≡ b
and_true true = refl
and_true false = refl

-- whether a statement on one key takes a row of the table
abbrev pub has_key : Key → Columns → Bool
has_key key r = list_all (holds (key_values key ∷ r ∷ [])) key_given

-- it does exactly where the row says the key
pub has_is : (key : Key) (r : Columns) (it : Key) → read_key r ≡ Some it → has_key key r ≡ eq_by_cmp key_cmp key it
has_is key r it h =
    let says = key_is (shown r) it h in
    let kind = int_given (column r 1) it.kind key.kind says.kind in
    let sub = text_given (column r 2) it.sub key.sub says.sub in
    let source = text_given (column r 3) it.source key.source says.source in
    let channel = text_given (column r 4) it.channel key.channel says.channel in
    let number = int_given (column r 5) it.number key.number says.number in
    let parts : has_key key r ≡ (is_eq (nat_cmp it.kind key.kind) && (is_eq (slice_cmp nat_cmp it.sub key.sub) && (is_eq (slice_cmp nat_cmp it.source key.source) && (is_eq (slice_cmp nat_cmp it.channel key.channel) && (is_eq (nat_cmp it.number key.number) && true))))) =
    λ i. kind i && (sub i && (source i && (channel i && (number i && true)))) in
    parts
    ∙ then_eq (nat_cmp it.kind key.kind) _ _
    (then_eq (slice_cmp nat_cmp it.sub key.sub) _ _
    (then_eq (slice_cmp nat_cmp it.source key.source) _ _ (then_eq (slice_cmp nat_cmp it.channel key.channel) (nat_cmp it.number key.number) _ (and_true _))))
    ∙ (eq_by_cmp_equiv key_cmp_total).symm it key
