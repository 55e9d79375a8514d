-- What is wanted of a history, by number.
use Rattle.std.proofs.Common.{◌≡◌, ℕ, ◌+◌, ◌-◌, ◌<◌, ◌≤◌, ◌==◌, Bool, true, false, not, ◌&&◌, cond, List, [], ◌∷◌, ◌++◌, length, map, refl, ap, sym, ◌∙◌, subst, Option, Some, None, nat_lt, nat_le, arith, length-append, ◌⊎◌, inl, inr}
use Rattle.std.proofs.lemmas.Bool.{and_parts}
use Rattle.std.proofs.lemmas.Bool.Decides.{nat_tests}
use Rattle.std.proofs.lemmas.List.{get_or_append_left}
use Rattle.std.proofs.lemmas.Option.{slice_get_past, slice_get-get_or}
use Rattle.std.specs.Cmp.{nat_cmp_total, tied_itself}
use Rattle.std.specs.FinMap.{find, is_sorted}
use Rattle.std.specs.FinMap.Entries.{below_all}
use Rattle.std.specs.List.{filter_map, cons_option}
use Rattle.std.specs.Option.{option_and_then, option_map}
use Rattle.std.specs.Ordering.{is_eq, nat_cmp}
use Rattle.std.specs.Prelude.{T, slice_get}
use Rattle.wef_event.specs.Events.{Event}
use Rattle.wef_query.specs.declared.QueryList.{QueryList}
use Rattle.wef_building.specs.Wanted.{Range, in_ranges, selected_at, selected_text, wanted}
use Rattle.wef_source_log.specs.Histories.{History, text_at}
use Rattle.wef_pairs.specs.Pairs.{event_with, numbers_from, wanted_event, wanted_events}
use Rattle.wef_pairs.proofs.Numbered.{below, find_above, le_is, lt_is, no_tie_back, same_numbers}

-- ---- lists that pick some of the numbers of a list

abbrev pub numbered_with : {X : Type 0} → (ℕ → Option X) → ℕ → Option (ℕ × X)
numbered_with f n = option_map (λ x. (n, x)) (f n)

abbrev pub picked : {X : Type 0} → (ℕ → Option X) → ℕ → List (List ℕ) → List (ℕ × X)
picked f first texts = filter_map (numbered_with f) (numbers_from first texts)

at_first : (first n : ℕ) → first ≤ n → nat_lt first n ≡ false → n ≡ first
at_first first n le e = grind (arith, nat_tests)

at_zero : (n : ℕ) → nat_lt 0 n ≡ false → n ≡ 0
at_zero n e = grind (arith, nat_tests)

below_length : (n size : ℕ) → n ≤ size → n == 0 ≡ false → n - 1 < size
below_length n size le e = grind (arith, nat_tests)

longer : (n : ℕ) (records more : History) → n < length records → n < length (records ++ more)
longer n records more h = omega (arith, length-append {A = List ℕ})

picked_above : {X : Type 0} (f : ℕ → Option X) (k first : ℕ) (texts : List (List ℕ)) → k < first → below_all nat_cmp k (picked f first texts) ≡ true
picked_above f k first [] h = refl
picked_above f k first (text ∷ texts) h =
    let rest = picked_above f k (first + 1) texts (omega arith) in
    elim (f first) as (λ o. below_all nat_cmp k (cons_option (option_map (λ x. (first, x)) o) (picked f (first + 1) texts)) ≡ true) [
      | None ↦ rest
      | Some x ↦ λ i. below k first h i && rest i
    ]

pub picked_sorted : {X : Type 0} (f : ℕ → Option X) (first : ℕ) (texts : List (List ℕ)) → T (is_sorted nat_cmp (picked f first texts))
picked_sorted f first [] = tt
picked_sorted f first (text ∷ texts) =
    let rest = picked_sorted f (first + 1) texts in
    elim (f first) as (λ o. T (is_sorted nat_cmp (cons_option (option_map (λ x. (first, x)) o) (picked f (first + 1) texts)))) [
      | None ↦ rest
      | Some x ↦ subst (λ (t : Bool). T (t && is_sorted nat_cmp (picked f (first + 1) texts))) (sym (picked_above f first (first + 1) texts (omega arith))) rest
    ]

pub find_picked : {X : Type 0} (f : ℕ → Option X) (first : ℕ) (texts : List (List ℕ)) (n : ℕ) → first ≤ n → (first + length texts ≤ n → f n ≡ None) → find nat_cmp n (picked f first texts) ≡ f n
find_picked f first [] n le past = sym (past (omega arith))
find_picked f first (text ∷ texts) n le past =
    elim (nat_lt first n) as (λ t. nat_lt first n ≡ t → find nat_cmp n (picked f first (text ∷ texts)) ≡ f n) [
      | true ↦ λ is.
          let above : first < n = lt_is first n is in
          let rest = find_picked f (first + 1) texts n (omega arith) (λ h. past (omega arith)) in
          elim (f first) as (λ o. find nat_cmp n (cons_option (option_map (λ x. (first, x)) o) (picked f (first + 1) texts)) ≡ f n) [
            | None ↦ rest
            | Some x ↦ ap (λ (b : Bool). cond b (Some x) (find nat_cmp n (picked f (first + 1) texts))) (no_tie_back first n above) ∙ rest
          ]
      | false ↦ λ is.
          let here : n ≡ first = at_first first n le is in
          let none : find nat_cmp first (picked f (first + 1) texts) ≡ None = find_above first first (picked f (first + 1) texts) (omega arith) (picked_above f first (first + 1) texts (omega arith)) in
          subst (λ (m : ℕ). find nat_cmp m (picked f first (text ∷ texts)) ≡ f m) (sym here)
          (elim (f first) as (λ o. find nat_cmp first (cons_option (option_map (λ x. (first, x)) o) (picked f (first + 1) texts)) ≡ o) [
            | None ↦ none
            | Some x ↦ ap (λ r. cond (is_eq r) (Some x) (find nat_cmp first (picked f (first + 1) texts))) (tied_itself nat_cmp_total first)
          ])
    ] refl

-- ---- what is wanted

no_text : (records : History) (n : ℕ) → (n ≡ 0) ⊎ (length records < n) → text_at records n ≡ None
no_text records n (inl e) = ap (λ (m : ℕ). text_at records m) e
no_text records n (inr h) =
    let past : slice_get records (n - 1) ≡ None = slice_get_past records (n - 1) (omega arith) in
    elim (n == 0) as (λ t. cond t None (slice_get records (n - 1)) ≡ None) [ true ↦ refl | false ↦ past ]

unwanted : (query : QueryList) (c : List ℕ) (records : History) (start t : ℕ) (ranges : List Range) (n : ℕ) → (n ≡ 0) ⊎ (length records < n) → wanted query c records start t ranges n ≡ None
unwanted query c records start t ranges n out =
    ap (λ o. cond (nat_lt start n && nat_le n t && not (in_ranges ranges n)) (option_and_then (selected_text query c) o) None) (no_text records n out)
    ∙ elim (nat_lt start n && nat_le n t && not (in_ranges ranges n)) as (λ b. cond b (option_and_then (selected_text query c) None) None ≡ None) [ true ↦ refl | false ↦ refl ]

-- the texts that are wanted, by number
abbrev pub wanted_texts : QueryList → List ℕ → History → ℕ → ℕ → List Range → List (ℕ × List ℕ)
wanted_texts query c records start t ranges = picked (wanted query c records start t ranges) 1 records

abbrev pub event_of : List ℕ → ℕ × List ℕ → Event
event_of c e = event_with c e.0 e.1

pub find_wanted : (query : QueryList) (c : List ℕ) (records : History) (start t : ℕ) (ranges : List Range) (n : ℕ) → find nat_cmp n (wanted_texts query c records start t ranges) ≡ wanted query c records start t ranges n
find_wanted query c records start t ranges n =
    elim (nat_lt 0 n) as (λ b. nat_lt 0 n ≡ b → find nat_cmp n (wanted_texts query c records start t ranges) ≡ wanted query c records start t ranges n) [
      | true ↦ λ is.
          let above : 0 < n = lt_is 0 n is in
          find_picked (wanted query c records start t ranges) 1 records n (omega arith) (λ h. unwanted query c records start t ranges n (inr (omega arith)))
      | false ↦ λ is.
          let zero_is : n ≡ 0 = at_zero n is in
          find_above n 0 (wanted_texts query c records start t ranges) (omega arith) (picked_above (wanted query c records start t ranges) 0 1 records (omega arith))
          ∙ sym (unwanted query c records start t ranges n (inl zero_is))
    ] refl

events_map : (query : QueryList) (c : List ℕ) (records : History) (start t : ℕ) (ranges : List Range) (first : ℕ) (texts : List (List ℕ)) →
    filter_map (wanted_event query c records start t ranges) (numbers_from first texts) ≡ map (event_of c) (picked (wanted query c records start t ranges) first texts)
events_map query c records start t ranges first [] = refl
events_map query c records start t ranges first (text ∷ texts) =
    elim (wanted query c records start t ranges first) as (λ o. cons_option (option_map (event_with c first) o) (filter_map (wanted_event query c records start t ranges) (numbers_from (first + 1) texts))
    ≡ map (event_of c) (cons_option (option_map (λ x. (first, x)) o) (picked (wanted query c records start t ranges) (first + 1) texts))) [
      | None ↦ events_map query c records start t ranges (first + 1) texts
      | Some x ↦ ap (λ es. event_with c first x ∷ es) (events_map query c records start t ranges (first + 1) texts)
    ]

pub events_texts : (query : QueryList) (c : List ℕ) (records : History) (start t : ℕ) (ranges : List Range) → wanted_events query c records start t ranges ≡ map (event_of c) (wanted_texts query c records start t ranges)
events_texts query c records start t ranges = events_map query c records start t ranges 1 records

-- texts that are the wanted ones, number by number, are the wanted ones
pub texts_are : (query : QueryList) (c : List ℕ) (records : History) (start t : ℕ) (ranges : List Range) (texts : List (ℕ × List ℕ)) → T (is_sorted nat_cmp texts) →
    ((n : ℕ) → find nat_cmp n texts ≡ wanted query c records start t ranges n) → map (event_of c) texts ≡ wanted_events query c records start t ranges
texts_are query c records start t ranges texts sorted same =
    ap (map (event_of c)) (same_numbers texts (wanted_texts query c records start t ranges) sorted (picked_sorted (wanted query c records start t ranges) 1 records)
    (λ n. same n ∙ sym (find_wanted query c records start t ranges n)))
    ∙ sym (events_texts query c records start t ranges)

text_of_event : Event → ℕ × List ℕ
text_of_event event = (event.number, event.text)

texts_back : (c : List ℕ) (texts : List (ℕ × List ℕ)) → map text_of_event (map (event_of c) texts) ≡ texts
unfolding text_of_event
texts_back c [] = refl
texts_back c (e ∷ es) = ap (λ rest. e ∷ rest) (texts_back c es)

-- and back
pub texts_were : (query : QueryList) (c : List ℕ) (records : History) (start t : ℕ) (ranges : List Range) (texts : List (ℕ × List ℕ)) →
    map (event_of c) texts ≡ wanted_events query c records start t ranges → (n : ℕ) → find nat_cmp n texts ≡ wanted query c records start t ranges n
texts_were query c records start t ranges texts same n =
    let lists : texts ≡ wanted_texts query c records start t ranges =
    sym (texts_back c texts) ∙ ap (map text_of_event) (same ∙ events_texts query c records start t ranges) ∙ texts_back c (wanted_texts query c records start t ranges) in
    ap (find nat_cmp n) lists ∙ find_wanted query c records start t ranges n

-- what is wanted of two histories is the same where each number's is
pub events_alike : (query : QueryList) (c : List ℕ) (records records' : History) (start t t' : ℕ) (ranges ranges' : List Range) →
    ((n : ℕ) → wanted query c records start t ranges n ≡ wanted query c records' start t' ranges' n) → wanted_events query c records start t ranges ≡ wanted_events query c records' start t' ranges'
events_alike query c records records' start t t' ranges ranges' same =
    events_texts query c records start t ranges
    ∙ texts_are query c records' start t' ranges' (wanted_texts query c records start t ranges) (picked_sorted (wanted query c records start t ranges) 1 records)
    (λ n. find_wanted query c records start t ranges n ∙ same n)

-- nothing is both above a number and up to it
not_up : (start n : ℕ) → nat_lt start n ≡ true → nat_le n start ≡ false
not_up start n e = grind (arith, nat_tests)

none_between : (start n : ℕ) → (nat_lt start n && nat_le n start) ≡ false
none_between start n = elim (nat_lt start n) as (λ t. nat_lt start n ≡ t → (t && nat_le n start) ≡ false) [
  | true ↦ λ is. not_up start n is
  | false ↦ λ _. refl
] refl

pub nothing_wanted : (query : QueryList) (c : List ℕ) (records : History) (start : ℕ) → wanted_events query c records start start [] ≡ []
nothing_wanted query c records start = sym (texts_are query c records start start [] [] tt (λ n. sym (none n)))
  where
    none : (n : ℕ) → wanted query c records start start [] n ≡ None
    none n = ap (λ (b : Bool). cond (b && true) (selected_at query c records n) None) (none_between start n)

-- ---- longer histories

kept_text : (records more : History) (n : ℕ) → n ≤ length records → text_at (records ++ more) n ≡ text_at records n
kept_text records more n le =
    elim (n == 0) as (λ b. n == 0 ≡ b → cond b None (slice_get (records ++ more) (n - 1)) ≡ cond b None (slice_get records (n - 1))) [
      | true ↦ λ is. refl
      | false ↦ λ is.
          let within : n - 1 < length records = below_length n (length records) le is in
          slice_get-get_or (records ++ more) (n - 1) [] (longer (n - 1) records more within)
          ∙ ap Some (get_or_append_left records more [] (n - 1) within)
          ∙ sym (slice_get-get_or records (n - 1) [] within)
    ] refl

pub wanted_longer : (query : QueryList) (c : List ℕ) (records more : History) (start t : ℕ) (ranges : List Range) → t ≤ length records → (n : ℕ) →
    wanted query c (records ++ more) start t ranges n ≡ wanted query c records start t ranges n
wanted_longer query c records more start t ranges le n =
    elim (nat_lt start n && nat_le n t) as (λ b. (nat_lt start n && nat_le n t) ≡ b →
    cond (b && not (in_ranges ranges n)) (selected_at query c (records ++ more) n) None ≡ cond (b && not (in_ranges ranges n)) (selected_at query c records n) None) [
      | true ↦ λ is.
          let within : n ≤ t = le_is n t (and_parts (nat_lt start n) (nat_le n t) is).1 in
          ap (λ o. cond (not (in_ranges ranges n)) (option_and_then (selected_text query c) o) None) (kept_text records more n (omega arith))
      | false ↦ λ is. refl
    ] refl

pub selected_longer : (query : QueryList) (c : List ℕ) (records more : History) (n : ℕ) → n ≤ length records → selected_at query c (records ++ more) n ≡ selected_at query c records n
selected_longer query c records more n le = ap (option_and_then (selected_text query c)) (kept_text records more n le)
