-- Why nothing is missing in a world that is safe and settled.
use Rattle.std.proofs.Common.{◌≡◌, ℕ, suc, ◌+◌, ◌-◌, ◌<◌, ◌≤◌, ◌==◌, Bool, true, false, not, ◌&&◌, cond, List, [], ◌∷◌, length, refl, ap, sym, ◌∙◌, subst, Option, Some, None, nat_lt, nat_le, nat_eq, arith, inl, inr}
use Rattle.std.proofs.lemmas.Bool.Decides.{nat_tests}
use Rattle.std.proofs.lemmas.Option.{none-some, slice_get_past}
use Rattle.std.specs.List.{filter_map, cons_option}
use Rattle.std.specs.Option.{option_and_then, option_map}
use Rattle.std.specs.Prelude.{Contains, slice_get}
use Rattle.wef_batch.specs.WellFormed.{is_in}
use Rattle.wef_building.specs.Wanted.{Range, in_ranges, selected_at, selected_text, wanted}
use Rattle.wef_collector_rows.specs.Answers.{channels_read}
use Rattle.wef_collector_rows.specs.Bookmarks.{bookmark_at}
use Rattle.wef_event.specs.Events.{Event}
use Rattle.wef_eventing.specs.declared.subscriptions.Subscription.{Subscription}
use Rattle.wef_keeper.specs.Rows.{Rows}
use Rattle.wef_machine.specs.States.{Slot, State}
use Rattle.wef_pairs.specs.Pairs.{IsPairSafe, about_of, event_with, marks_of, numbers_from, settings_of, wanted_event}
use Rattle.wef_query.specs.declared.QueryList.{QueryList}
use Rattle.wef_safety.specs.Laws.{IsStateSafe, written_by}
use Rattle.wef_settling.specs.Complete.{IsAccountedFor, IsComplete}
use Rattle.wef_settling.specs.Settled.{IsPairSettled, IsSettled}
use Rattle.wef_source_log.specs.Histories.{History, history, text_at}

-- ---- lists

first_of : {X : Type 0} (x : X) (xs : List X) → Contains (x ∷ xs) x
first_of x xs = (0, omega arith, refl)

next_of : {X : Type 0} (x y : X) (xs : List X) → Contains xs y → Contains (x ∷ xs) y
next_of x y xs has = (suc has.0, omega (arith, has.1), has.2)

after_option : {X : Type 0} (o : Option X) (y : X) (xs : List X) → Contains xs y → Contains (cons_option o xs) y
after_option None y xs has = has
after_option (Some x) y xs has = next_of x y xs has

no_number : (first n : ℕ) → first ≤ n → n < first + 0 → ⊥
no_number first n le h = omega arith

is_first : (first n : ℕ) → nat_eq first n ≡ true → n ≡ first
is_first first n e = grind (arith, nat_tests)

is_later : (first n : ℕ) → first ≤ n → nat_eq first n ≡ false → first + 1 ≤ n
is_later first n le e = grind (arith, nat_tests)

within : (first size n : ℕ) → n < first + suc size → n < (first + 1) + size
within first size n h = omega arith

-- what is picked for a number of a list is among what is picked
picks : {X : Type 0} (f : ℕ → Option X) (x : X) (first : ℕ) (texts : History) (n : ℕ) → first ≤ n → n < first + length texts → f n ≡ Some x →
    Contains (filter_map f (numbers_from first texts)) x
picks {X = X} f x first [] n le h is = absurd (no_number first n le h)
picks {X = X} f x first (text ∷ texts) n le h is =
    by_test (nat_eq first n) refl (λ e. picks f x (first + 1) texts n (is_later first n le e) (within first (length texts) n h) is)
  where
    rest : List X
    rest = filter_map f (numbers_from (first + 1) texts)

    by_test : (t : Bool) → nat_eq first n ≡ t → (nat_eq first n ≡ false → Contains rest x) → Contains (cons_option (f first) rest) x
    by_test true e later = subst (λ (o : Option X). Contains (cons_option o rest) x) (sym (ap f (sym (is_first first n e)) ∙ is)) (first_of x rest)
    by_test false e later = after_option (f first) x rest (later e)

-- ---- records

-- a number that has a text is one of a history
record IsNumber (records : History) (n : ℕ) : Type 0 where
  least : 1 ≤ n
  greatest : n ≤ length records

least_of : (n : ℕ) → n == 0 ≡ false → 1 ≤ n
least_of n e = grind (arith, nat_tests)

not_past : (n size : ℕ) → nat_lt (n - 1) size ≡ true → n == 0 ≡ false → n ≤ size
not_past n size e h = grind (arith, nat_tests)

past_end : (n size : ℕ) → nat_lt (n - 1) size ≡ false → size ≤ n - 1
past_end n size e = grind (arith, nat_tests)

number_with : (records : History) (n : ℕ) (text : List ℕ) → text_at records n ≡ Some text → IsNumber records n
number_with records n text is = by_zero (n == 0) refl
  where
    by_end : (t : Bool) → nat_lt (n - 1) (length records) ≡ t → n == 0 ≡ false → slice_get records (n - 1) ≡ Some text → IsNumber records n
    by_end true e zero there = record { least = least_of n zero; greatest = not_past n (length records) e zero }
    by_end false e zero there = absurd (none-some text (sym (slice_get_past records (n - 1) (past_end n (length records) e)) ∙ there))

    by_zero : (t : Bool) → n == 0 ≡ t → IsNumber records n
    by_zero true e = absurd (none-some text (sym (λ i. cond (e i) None (slice_get records (n - 1))) ∙ is))
    by_zero false e = by_end (nat_lt (n - 1) (length records)) refl e (sym (λ i. cond (e i) None (slice_get records (n - 1))) ∙ is)

-- a selected record has a text
selected_number : (query : QueryList) (c : List ℕ) (records : History) (n : ℕ) (text : List ℕ) → selected_at query c records n ≡ Some text → IsNumber records n
selected_number query c records n text is = by_text (text_at records n) refl
  where
    by_text : (o : Option (List ℕ)) → text_at records n ≡ o → IsNumber records n
    by_text None e = absurd (none-some text (sym (λ i. option_and_then (selected_text query c) (e i)) ∙ is))
    by_text (Some found) e = number_with records n found e

-- ---- a pair

is_above : (b n : ℕ) → nat_le n b ≡ false → b < n
is_above b n e = grind (arith, nat_tests)

begins : (n : ℕ) → 1 ≤ n → nat_lt 0 n ≡ true
begins n h = grind (arith, nat_tests)

wanted_is : (query : QueryList) (c : List ℕ) (records : History) (b : ℕ) (ranges : List Range) (n : ℕ) (text : List ℕ) → 1 ≤ n → nat_le n b ≡ true → in_ranges ranges n ≡ false →
    selected_at query c records n ≡ Some text → wanted query c records 0 b ranges n ≡ Some text
wanted_is query c records b ranges n text least below free is =
    (λ i. cond (begins n least i && below i && not (free i)) (selected_at query c records n) None) ∙ is

bounded : (size n : ℕ) → n ≤ size → n < 1 + size
bounded size n h = omega arith

accounted : (rows : Rows) (u s c : List ℕ) (about : Subscription) (slot : Slot) → IsPairSafe rows u s c 0 (settings_of about) (history slot.histories c) slot.capacity →
    IsPairSettled rows u s about slot → is_in (channels_read about) c ≡ true → (n : ℕ) (text : List ℕ) →
    selected_at about.query c (history slot.histories c) n ≡ Some text → IsAccountedFor rows u s c n text
accounted rows u s c about slot safe settled reads n text is = by_bookmark (nat_le n b) refl
  where
    records : History
    records = history slot.histories c

    b : ℕ
    b = bookmark_at rows u s c

    number : IsNumber records n
    number = selected_number about.query c records n text is

    by_mark : (t : Bool) → in_ranges (marks_of rows u s c) n ≡ t → nat_le n b ≡ true → IsAccountedFor rows u s c n text
    by_mark true e below = inr e
    by_mark false e below =
        inl (subst (λ (events : List Event). Contains events (event_with c n text)) (sym safe.held)
        (picks (wanted_event about.query c records 0 b (marks_of rows u s c)) (event_with c n text) 1 records n number.least (bounded (length records) n number.greatest)
        (ap (λ (o : Option (List ℕ)). option_map (event_with c n) o) (wanted_is about.query c records b (marks_of rows u s c) n text number.least below e is))))

    by_bookmark : (t : Bool) → nat_le n b ≡ t → IsAccountedFor rows u s c n text
    by_bookmark true e = by_mark (in_ranges (marks_of rows u s c) n) refl e
    by_bookmark false e = absurd (none-some text (sym (settled c n reads (is_above b n e) number.greatest).unselected ∙ is))

-- ---- a world

pub complete : (state : State) → IsStateSafe state → IsSettled state → IsComplete state
complete state safe settled u s about slot live there serves c n text reads is =
    accounted state.collector.rows u s c about slot
    (safe.pairs u s c about (written_by slot) (ap about_of live) (ap (λ (o : Option Slot). option_map written_by o) there) reads)
    (settled u s about slot live there serves) reads n text is
