-- Rows that the collector puts are of their form.
use Rattle.std.proofs.Common.{◌≡◌, ℕ, ◌+◌, ◌<◌, ◌≤◌, nat_le, nat_lt, max, Bool, true, false, ◌&&◌, List, [], ◌∷◌, ap, sym, ◌∙◌, subst, arith, if◌then◌else◌}
use Rattle.std.proofs.lemmas.Bool.{and_parts}
use Rattle.std.proofs.lemmas.Bool.Decides.{nat_tests}
use Rattle.std.specs.Fmt.{decimal}
use Rattle.std.specs.List.{AllByRecursion}
use Rattle.std.specs.Prelude.{Option, Some, None, is_some}
use Rattle.wef_base.specs.Names.{channel_name, same, source_name, subscription_name}
use Rattle.wef_base.specs.Numbers.{plain_number}
use Rattle.wef_base.proofs.Decimals.{plain_number-decimal}
use Rattle.wef_base.specs.declared.moments.TheConstants.{LAST_MOMENT}
use Rattle.wef_base.specs.declared.numbers.TheConstants.{MAX}
use Rattle.wef_batch.specs.Reach.{later, span_in}
use Rattle.wef_batch.specs.WellFormed.{follows, is_above, rises}
use Rattle.wef_batch.specs.declared.items.Item.{Item}
use Rattle.wef_batch.specs.declared.items.Item.TheVariants.{Event, Dropped, Loose}
use Rattle.wef_event.specs.Events.{is_event}
use Rattle.wef_documents.specs.Kept.{read_kept}
use Rattle.wef_keeper.specs.declared.keys.Key.{Key}
use Rattle.wef_collector_rows.specs.Bookmarks.{is_one}
use Rattle.wef_collector_rows.specs.Forms.{is_boot_row, is_bookmark_row, is_channel_name, is_formed, is_heard_row, is_held_row, is_loose_row, is_mark_row, is_source_name, is_subscription_name, is_subscription_row, names_channel}
use Rattle.wef_collector_rows.specs.Keys.{bookmark_key, boot_key, heard_key, held_key, loose_key, mark_key, subscription_key}
use Rattle.wef_collector.specs.Keepable.{IsKeepable}
use Rattle.wef_collector.proofs.Hits.{same_self}

-- ---- numbers and their tests

pub le_holds : (n m : ℕ) → nat_le n m ≡ true → n ≤ m
le_holds n m e = grind (arith, nat_tests, e)

le_tested : (n m : ℕ) → n ≤ m → nat_le n m ≡ true
le_tested n m h = grind (arith, nat_tests)

pub lt_holds : (n m : ℕ) → nat_lt n m ≡ true → n < m
lt_holds n m e = grind (arith, nat_tests, e)

pub next_within : (n m : ℕ) → n < m → n + 1 ≤ m
next_within n m h = omega arith

pub clipped : (b first last : ℕ) → b < last → first ≤ last → max first (b + 1) ≤ last
clipped b first last h k = omega arith

-- ---- names

pub is_subscription : (u : List ℕ) → subscription_name u ≡ Some u → is_subscription_name u ≡ true
is_subscription u kept = ap (is_one u) kept ∙ same_self u

pub is_source : (s : List ℕ) → source_name s ≡ Some s → is_source_name s ≡ true
is_source s kept = ap (is_one s) kept ∙ same_self s

is_channel : (c : List ℕ) → channel_name c ≡ Some c → is_channel_name c ≡ true
is_channel c kept = ap (is_one c) kept ∙ same_self c

-- the names of a key's parts
abbrev pub AreNames : List ℕ → List ℕ → List ℕ → Type 0
AreNames u s c = names_channel (bookmark_key u s c) ≡ true

pub are_names : (u s c : List ℕ) → subscription_name u ≡ Some u → source_name s ≡ Some s → channel_name c ≡ Some c → AreNames u s c
are_names u s c sub source channel = λ i. (is_subscription u sub i && is_source s source i) && is_channel c channel i

-- ---- a row of each kind

abbrev pub IsRow : Key → ℕ → List ℕ → Type 0
IsRow key value body = is_formed (record { key = key; value = value; body = body }) ≡ true

-- of a key and a body that are these
pub as_row : (key given : Key) (value : ℕ) (body words : List ℕ) → given ≡ key → words ≡ body → IsRow key value body → IsRow given value words
as_row key given value body words is same row = subst (λ (k : Key). IsRow k value words) (sym is) (subst (IsRow key value) (sym same) row)

pub subscription_row : (u body : List ℕ) (value : ℕ) → value ≤ 1 → is_subscription_name u ≡ true → is_some (read_kept u body) ≡ true → IsRow (subscription_key u) value body
unfolding is_formed is_subscription_row
subscription_row u body value small name reads = λ i. name i && true && true && true && le_tested value 1 small i && reads i

pub bookmark_row : (u s c : List ℕ) (t : ℕ) → AreNames u s c → t ≤ MAX → IsRow (bookmark_key u s c) t []
unfolding is_formed is_bookmark_row
bookmark_row u s c t names within = λ i. names i && true && le_tested t MAX within i && true

pub held_row : (u s c text : List ℕ) (n : ℕ) → AreNames u s c → n ≤ MAX → is_event (record { channel = c; number = n; text = text }) ≡ true → IsRow (held_key u s c n) 0 text
unfolding is_formed is_held_row
held_row u s c text n names within event = λ i. names i && le_tested n MAX within i && true && event i

pub mark_row : (u s c : List ℕ) (first last : ℕ) → AreNames u s c → first ≤ last → last ≤ MAX → IsRow (mark_key u s c first) last []
unfolding is_formed is_mark_row
mark_row u s c first last names order within = λ i. names i && le_tested first last order i && le_tested last MAX within i && true

digits_read : (sum : ℕ) → sum ≤ MAX → is_some (plain_number MAX (decimal sum)) ≡ true
digits_read sum within = ap (λ (read : Option ℕ). is_some read) (plain_number-decimal MAX sum within (omega arith))

pub loose_row : (u s c : List ℕ) (first last sum : ℕ) → AreNames u s c → first ≤ last → last ≤ MAX → sum ≤ MAX → IsRow (loose_key u s c first) last (decimal sum)
unfolding is_formed is_loose_row
loose_row u s c first last sum names order within few =
    λ i. names i && le_tested first last order i && le_tested last MAX within i && digits_read sum few i

pub heard_row : (u s : List ℕ) (now : ℕ) → is_subscription_name u ≡ true → is_source_name s ≡ true → now ≤ LAST_MOMENT → IsRow (heard_key u s) now []
unfolding is_formed is_heard_row
heard_row u s now name source moment = λ i. (name i && source i) && true && true && le_tested now LAST_MOMENT moment i && true

pub boot_row : (n : ℕ) → n ≤ MAX → IsRow boot_key n []
unfolding is_formed is_boot_row
boot_row n within = λ i. true && true && true && true && le_tested n MAX within i && true

-- ---- the items of a channel whose numbers rise

span_ends : (previous : Option ℕ) (t : Bool) (first last : ℕ) → follows previous (if t then Some (first, last) else None) ≡ true → t ≡ true → first ≤ last
span_ends previous true first last e is = le_holds first last (and_parts (is_above previous first) (nat_le first last) e).1
span_ends previous false first last e is = let bad : ⊥ = cc in absurd bad

-- what says that a range's last number is such as a record has
abbrev EndsWithin : (Item → Type 0) → Type 0
EndsWithin P = (channel : List ℕ) (first last : ℕ) → P (Dropped channel first last) → last ≤ MAX

one_keepable : (P : Item → Type 0) (c : List ℕ) (previous : Option ℕ) (item : Item) → EndsWithin P → follows previous (span_in c item) ≡ true → P item → IsKeepable c item
one_keepable P c previous (Event event) ends e holds = tt
one_keepable P c previous (Dropped channel first last) ends e holds = (span_ends previous (same channel c) first last e, ends channel first last holds)
one_keepable P c previous (Loose count) ends e holds = tt

pub all_keepable : (P : Item → Type 0) (c : List ℕ) (previous : Option ℕ) (items : List Item) → EndsWithin P → rises c previous items ≡ true → AllByRecursion P items → AllByRecursion (IsKeepable c) items
all_keepable P c previous [] ends e all = tt
all_keepable P c previous (item ∷ items) ends e all =
    let both = and_parts (follows previous (span_in c item)) (rises c (later previous (span_in c item)) items) e in
    (one_keepable P c previous item ends both.0 all.0, all_keepable P c (later previous (span_in c item)) items ends both.1 all.1)
