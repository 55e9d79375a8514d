-- Behind a made schedule each record that was written is held or lies under a mark.
use Rattle.std.proofs.Common.{◌≡◌, ℕ, zero, suc, ◌+◌, ◌<◌, ◌≤◌, Bool, true, false, not, ◌&&◌, ◌||◌, cond, T, List, [], ◌∷◌, ◌++◌, codes, length, map, nat_lt, refl, ap, sym, ◌∙◌, subst, arith}
use Rattle.std.proofs.lemmas.Bool.{and_parts, eqb-true}
use Rattle.std.proofs.lemmas.Bool.Decides.{nat_tests}
use Rattle.std.proofs.lemmas.Option.{none-some, same_Some}
use Rattle.std.specs.Cmp.{nat_eq_equiv}
use Rattle.std.specs.Cmp.Lexicographic.{nat_list_eq_equiv, slice_cmp, texts_ties}
use Rattle.std.specs.FinMap as finite
use Rattle.std.specs.FinMap.{FinMap, find, is_sorted}
use Rattle.std.specs.FinMap.Entries.{below_all}
use Rattle.std.specs.List.{AllByRecursion, flat_map, list_any}
use Rattle.std.specs.Option.{option_and_then, option_map}
use Rattle.std.specs.Ordering.{is_eq, is_lt, nat_cmp}
use Rattle.std.specs.Prelude.{Option, Some, None, is_some, unwrap_or}
use Rattle.std.specs.declared.cmp.Ordering.{Ordering}
use Rattle.std.specs.declared.cmp.Ordering.TheVariants.{Less, Equal, Greater}
use Rattle.wef_base.specs.Names.{same}
use Rattle.wef_base.specs.declared.tree.Charset.TheVariants.{Utf8}
use Rattle.wef_base.specs.declared.tree.Element.{Element}
use Rattle.wef_batch.specs.WellFormed.{is_in}
use Rattle.wef_building.specs.Selecting.{in_tree, is_wanted}
use Rattle.wef_collector.proofs.Hits.{one_name}
use Rattle.wef_collector_rows.specs.Answers.{channels_read}
use Rattle.wef_collector_rows.specs.Held.{held_rows, mark_rows}
use Rattle.wef_collector_rows.specs.Keys.{key}
use Rattle.wef_event.specs.Events.{Event, event_in, event_of, event_or_none, is_event, is_found}
use Rattle.wef_eventing.specs.declared.subscriptions.Subscription.{Subscription}
use Rattle.wef_keeper.specs.Rows.{Rows, is_after}
use Rattle.wef_keeper.specs.Sections.{is_under, rows_under}
use Rattle.wef_keeper.specs.declared.keys.Cell.{Cell}
use Rattle.wef_keeper.specs.declared.keys.Depth.TheVariants.{Channel, Kind}
use Rattle.wef_keeper.specs.declared.keys.Key.{Key}
use Rattle.wef_keeper.specs.declared.kinds.RowKind.TheVariants as kinds
use Rattle.wef_machine.proofs.Declared.{among_declared, calmed_at}
use Rattle.wef_machine.specs.States.{Slot, State, calmed_slot, declared_names, names_of, slot_of, start}
use Rattle.wef_machine.specs.Steps.{AreAdmitted, calm_step, step}
use Rattle.wef_machine.specs.Turns.{settle_step}
use Rattle.wef_made.proofs.Goods.{made_schedules_are_good}
use Rattle.wef_made.specs.Made as made
use Rattle.wef_pairs.proofs.Numbered.{after_number, key_cmp_number}
use Rattle.wef_pairs.specs.Pairs.{IsPairKey, IsUntouched, about_of, settings_of, subscription_at}
use Rattle.wef_promises.proofs.Admitted.{good_lines, leaves_names}
use Rattle.wef_query.proofs.AllSelected.{all_selected}
use Rattle.wef_query.specs.Selected.{is_selected, selects_all}
use Rattle.wef_replay.specs.Alike.{AreAlike}
use Rattle.wef_replay.specs.Good.{Names, is_among, no_names, noted}
use Rattle.wef_replay.specs.declared.lines.Line.{Line}
use Rattle.wef_replay.specs.declared.lines.Line.TheVariants.{Calm, Settle}
use Rattle.wef_safety.proofs.Schedules.{start_is_kept, steps_keep}
use Rattle.wef_safety.specs.Kept.{IsChannelKept, IsHeld, IsPairKept}
use Rattle.wef_settling.proofs.Settled.{settling_is_settled}
use Rattle.wef_settling.specs.Settled.{AreListedDeclared, IsDeclared, IsRoomy, IsSettled, IsUnarmed}
use Rattle.wef_source_log.specs.Histories.{Histories, History, history}
use Rattle.wef_summary.proofs.Behind.{behind_both, first_admitted, more_admitted}
use Rattle.wef_summary.specs.Behind.{behind}
use Rattle.wef_summary.specs.Summary.{counts_at, counts_in, counts_of, dropped, first_key, held, marked_by, sum_of, written}
use Rattle.wef_tree_reading.specs.Documents.{tree_of}
use Rattle.wef_made_laws.proofs.KindRows.{Pair, all_in_pairs, hit_kind, hits, is_in_section}
use Rattle.wef_made_laws.proofs.Lasting.{IsMade, IsMadeLine, IsMadeWorld, both_made, drawn_made, line_names, lines_made, opening_made, the_channels, the_query, the_subscription}
use Rattle.wef_made_laws.proofs.Sums.{sum_alike, sum_append, sum_cons, sum_ones}
use Rattle.wef_made_laws.proofs.Whole.{AreAllWanted, whole}
use Rattle.wef_made_laws.proofs.Written.{are_apart, other_names, same_turned}
use Rattle.wef_made_laws.specs.Laws.{IsWhole, NothingIsMissing, made_world}

abbrev order : List ℕ → List ℕ → Ordering
order = slice_cmp nat_cmp

abbrev the_sources : List (List ℕ)
the_sources = codes "s3" ∷ codes "s2" ∷ codes "s1" ∷ codes "s0" ∷ []

abbrev the_name : List ℕ
the_name = made.subscription_name

-- each source with each channel
abbrev the_pairs : List Pair
the_pairs =
    (codes "s0", codes "application") ∷ (codes "s0", codes "system") ∷ (codes "s1", codes "application") ∷ (codes "s1", codes "system") ∷ (codes "s2", codes "application")
    ∷ (codes "s2", codes "system") ∷ (codes "s3", codes "application") ∷ (codes "s3", codes "system") ∷ []

-- ---- names in maps

not_tied : (r : Ordering) → T (is_lt r) → is_eq r ≡ false
not_tied Less h = refl
not_tied Equal h = absurd h
not_tied Greater h = absurd h

first_of : (a b : Bool) → T (a && b) → T a
first_of true b h = tt
first_of false b h = absurd h

second_of : (a b : Bool) → T (a && b) → T b
second_of true b h = h
second_of false b h = absurd h

module _ {X : Type 0} where
  below_misses : (s : List ℕ) (es : List (List ℕ × X)) → T (below_all order s es) → is_among (map (λ (e : List ℕ × X). e.0) es) s ≡ false
  below_misses s [] h = refl
  below_misses s (e ∷ es) h =
      let first = texts_ties s e.0 ∙ not_tied (order s e.0) (first_of (is_lt (order s e.0)) (below_all order s es) h) in
      let rest = below_misses s es (second_of (is_lt (order s e.0)) (below_all order s es) h) in
      λ i. first i || rest i

  sorted_apart : (es : List (List ℕ × X)) → T (is_sorted order es) → are_apart (map (λ (e : List ℕ × X). e.0) es) ≡ true
  sorted_apart [] h = refl
  sorted_apart (e ∷ es) h =
      let first = below_misses e.0 es (first_of (below_all order e.0 es) (is_sorted order es) h) in
      let rest = sorted_apart es (second_of (below_all order e.0 es) (is_sorted order es) h) in
      λ i. not (first i) && rest i

  found_keys : (es : List (List ℕ × X)) (s : List ℕ) → is_among (map (λ (e : List ℕ × X). e.0) es) s ≡ false → find order s es ≡ None
  found_keys [] s other = refl
  found_keys (e ∷ es) s other = by (found_keys es s) (same s e.0) refl other
    where
      by : (is_among (map (λ (e : List ℕ × X). e.0) es) s ≡ false → find order s es ≡ None) → (t : Bool) → same s e.0 ≡ t → (t || is_among (map (λ (e : List ℕ × X). e.0) es) s) ≡ false →
          find order s (e ∷ es) ≡ None
      by rest true is other = cc
      by rest false is other = ap (λ (t : Bool). cond t (Some e.1) (find order s es)) (sym (texts_ties s e.0) ∙ is) ∙ rest other

  missing_key : (m : FinMap order X) (s : List ℕ) → is_among (map (λ (e : List ℕ × X). e.0) (finite.entries m)) s ≡ false → finite.get m s ≡ None
  missing_key m s other = finite.get-entries m s ∙ found_keys (finite.entries m) s other

  apart_keys : (m : FinMap order X) → are_apart (map (λ (e : List ℕ × X). e.0) (finite.entries m)) ≡ true
  apart_keys m = sorted_apart (finite.entries m) (finite.entries_sorted m)

-- ---- one of four, one of two

one_of_four : (P : List ℕ → Type 0) → P (codes "s3") → P (codes "s2") → P (codes "s1") → P (codes "s0") → (s : List ℕ) → is_among the_sources s ≡ true → P s
one_of_four P third second first zeroth s among = by (same s (codes "s3")) refl (same s (codes "s2")) refl (same s (codes "s1")) refl (same s (codes "s0")) refl among
  where
    at : (x : List ℕ) → same s x ≡ true → P x → P s
    at x e p = subst P (sym (one_name s x e)) p

    by : (a : Bool) → same s (codes "s3") ≡ a → (b : Bool) → same s (codes "s2") ≡ b → (c : Bool) → same s (codes "s1") ≡ c → (d : Bool) → same s (codes "s0") ≡ d →
        (a || (b || (c || (d || false)))) ≡ true → P s
    by true ea b eb c ec d ed among = at (codes "s3") ea third
    by false ea true eb c ec d ed among = at (codes "s2") eb second
    by false ea false eb true ec d ed among = at (codes "s1") ec first
    by false ea false eb false ec true ed among = at (codes "s0") ed zeroth
    by false ea false eb false ec false ed among = cc

one_of_two : (P : List ℕ → Type 0) → P (codes "application") → P (codes "system") → (c : List ℕ) → is_among the_channels c ≡ true → P c
one_of_two P first second c among = by (same c (codes "application")) refl (same c (codes "system")) refl among
  where
    at : (x : List ℕ) → same c x ≡ true → P x → P c
    at x e p = subst P (sym (one_name c x e)) p

    by : (a : Bool) → same c (codes "application") ≡ a → (b : Bool) → same c (codes "system") ≡ b → (a || (b || false)) ≡ true → P c
    by true ea b eb among = at (codes "application") ea first
    by false ea true eb among = at (codes "system") eb second
    by false ea false eb among = cc

-- a channel is one of the subscription's
turned : (c : List ℕ) → is_among the_channels c ≡ is_in (channels_read the_subscription) c
turned c = λ i. same_turned c (codes "application") i || (same_turned c (codes "system") i || false)

-- ---- what a source wrote

abbrev count_of : Histories → List ℕ → ℕ
count_of histories c = length (history histories c)

sum_map : {X : Type 0} (f : X → ℕ) (xs : List X) → sum_of (λ n. n) (map f xs) ≡ sum_of f xs
sum_map f [] = refl
sum_map f (x ∷ xs) =
    let rest = sum_map f xs in
    let one = sum_cons (λ (n : ℕ). n) (f x) (map f xs) in
    let other = sum_cons f x xs in
    omega arith

sum_flat : (f : List ℕ → List ℕ) (xs : List (List ℕ)) → sum_of (λ n. n) (flat_map f xs) ≡ sum_of (λ x. sum_of (λ n. n) (f x)) xs
sum_flat f [] = refl
sum_flat f (x ∷ xs) =
    let rest = sum_flat f xs in
    let one = sum_append (λ (n : ℕ). n) (f x) (flat_map f xs) in
    let other = sum_cons (λ x. sum_of (λ n. n) (f x)) x xs in
    omega arith

counts : (histories : Histories) → ((c : List ℕ) → is_among the_channels c ≡ false → history histories c ≡ []) →
    sum_of (λ n. n) (counts_in histories) ≡ count_of histories (codes "application") + (count_of histories (codes "system") + 0)
counts histories there =
    sum_map (λ c. length (history histories c)) (map (λ (entry : List ℕ × History). entry.0) (finite.entries histories))
    ∙ other_names (count_of histories) (map (λ (entry : List ℕ × History). entry.0) (finite.entries histories)) the_channels (apart_keys histories) refl
    (λ c other. ap (λ (o : Option History). length (unwrap_or o [])) (missing_key histories c other))
    (λ c other. ap (λ (records : History). length records) (there c other))

-- ---- the world that a made schedule leaves

-- the world in which it settles
abbrev settling_world : ℕ → ℕ → State
settling_world seed size = calm_step (behind (behind start made.opening) (flat_map made.lines_of (made.draws seed size)))

made_world_is : (seed size : ℕ) → made_world seed size ≡ settle_step (settling_world seed size)
made_world_is seed size =
    let drawn = flat_map made.lines_of (made.draws seed size) in
    behind_both start made.opening (drawn ++ made.closing) ∙ behind_both (behind start made.opening) drawn made.closing

abbrev all_noted : List Line → Names → Names
all_noted [] names = names
all_noted (line ∷ lines) names = all_noted lines (noted line names)

names_behind : (lines : List Line) (state : State) (names : Names) → AreAlike (names_of state) names → AreAlike (names_of (behind state lines)) (all_noted lines names)
names_behind [] state names alike = alike
names_behind (line ∷ lines) state names alike = names_behind lines (step line state) (noted line names) (leaves_names line state names alike)

made_names : (lines : List Line) (names : Names) → AllByRecursion IsMadeLine lines → all_noted lines names ≡ names
made_names [] names all = refl
made_names (line ∷ lines) names all = ap (all_noted lines) (line_names line names all.0) ∙ made_names lines names all.1

held_behind : (lines : List Line) (state : State) → IsHeld state → AreAdmitted state lines → IsHeld (behind state lines)
held_behind [] state held admitted = held
held_behind (line ∷ lines) state held admitted = held_behind lines (step line state) (steps_keep state line held admitted.0) admitted.1

-- the names that the opening gives
abbrev given : Names
given = record { declared = codes "s3" ∷ codes "s2" ∷ codes "s1" ∷ codes "s0" ∷ []; foreign = [] }

start_alike : AreAlike (names_of start) no_names
start_alike = record { declared = λ s. among_declared finite.empty s ∙ ap is_some (finite.get-empty order s); foreign = λ s. refl }

-- What is so of it once it is settled.
record IsAtEnd (state : State) : Type 0 where
  held : IsHeld state
  made_so : IsMade state
  settled : IsSettled state
  names : AreAlike (names_of state) given

unarmed : (state : State) → IsUnarmed (calm_step state)
unarmed state = record { collector = refl; sources = λ s slot there. by slot (slot_of state s) (sym (calmed_at state.sources s) ∙ there) }
  where
    by : (slot : Slot) (found : Option Slot) → option_map calmed_slot found ≡ Some slot → slot.place.armed ≡ None
    by slot None e = absurd (none-some slot e)
    by slot (Some old) e = ap (λ (x : Slot). x.place.armed) (sym (same_Some (calmed_slot old) slot e))

listed : (state : State) → IsMade state → AreListedDeclared state
listed state is u about known = subst (λ (x : Subscription). AllByRecursion (IsDeclared state) x.sources) own tt
  where
    own : the_subscription ≡ about
    own = same_Some the_subscription about (sym (ap about_of is.live) ∙ ap (subscription_at state.collector.rows) (sym (is.alone u about known)) ∙ known)

at_end : (seed size : ℕ) → IsRoomy (made_world seed size) → IsAtEnd (settle_step (settling_world seed size))
at_end seed size roomy = record {
  held = final.held;
  made_so = final.made_so;
  settled = settling_is_settled before middle.held (listed before middle.made_so) (unarmed (behind opened drawn)) (subst IsRoomy (made_world_is seed size) roomy);
  names =
      subst (λ (state : State). AreAlike (names_of state) given) (behind_both opened drawn made.closing)
      (subst (AreAlike (names_of (behind opened (drawn ++ made.closing)))) (made_names (drawn ++ made.closing) given all) (names_behind (drawn ++ made.closing) opened given named));
}
  where
    drawn : List Line
    drawn = flat_map made.lines_of (made.draws seed size)

    opened : State
    opened = behind start made.opening

    before : State
    before = settling_world seed size

    named : AreAlike (names_of opened) given
    named = names_behind made.opening start no_names start_alike

    all : AllByRecursion IsMadeLine (drawn ++ made.closing)
    all = both_made drawn made.closing (drawn_made (made.draws seed size)) (tt, (tt, tt))

    admitted : AreAdmitted start (made.schedule seed size)
    admitted = good_lines (made.schedule seed size) (made_schedules_are_good seed size)

    later : AreAdmitted opened (drawn ++ made.closing)
    later = more_admitted start made.opening (drawn ++ made.closing) admitted

    begun : IsMadeWorld opened
    begun = record { held = held_behind made.opening start start_is_kept (first_admitted start made.opening (drawn ++ made.closing) admitted); made_so = opening_made }

    closing : AreAdmitted (behind opened drawn) made.closing
    closing = more_admitted opened drawn made.closing later

    middle : IsMadeWorld before
    middle = lines_made (Calm ∷ []) (behind opened drawn) (tt, tt) (closing.0, tt) (lines_made drawn opened (drawn_made (made.draws seed size)) (first_admitted opened drawn made.closing later) begun)

    final : IsMadeWorld (settle_step before)
    final = lines_made (Settle ∷ []) before (tt, tt) (closing.1.0, tt) middle

-- ---- keys of rows

any_in : (P : Pair → Bool) (p : Pair) (front back : List Pair) → P p ≡ true → list_any P (front ++ p ∷ back) ≡ true
any_in P p [] back is = ap (λ (t : Bool). t || list_any P back) is
any_in P p (r ∷ front) back is = by (P r) (any_in P p front back is)
  where
    by : (t : Bool) → list_any P (front ++ p ∷ back) ≡ true → (t || list_any P (front ++ p ∷ back)) ≡ true
    by true rest = refl
    by false rest = rest

begins : (n : ℕ) → 0 < n → nat_lt 0 n ≡ true
begins n h = grind (arith, nat_tests, h)

hits_there : (kind n : ℕ) (s c : List ℕ) → 0 < n → hits kind the_name (s, c) (key kind the_name s c n) ≡ true
hits_there kind n s c more =
    let after : is_after (key kind the_name s c 0) (key kind the_name s c n) ≡ true = ap is_lt (key_cmp_number kind the_name s c 0 n) ∙ after_number 0 n ∙ begins n more in
    λ i. after i && (nat_eq_equiv.refl kind i && nat_list_eq_equiv.refl the_name i && nat_list_eq_equiv.refl s i && nat_list_eq_equiv.refl c i)

any_there : (kind n : ℕ) → 0 < n → (s c : List ℕ) → is_among the_sources s ≡ true → is_among the_channels c ≡ true → list_any (λ p. hits kind the_name p (key kind the_name s c n)) the_pairs ≡ true
any_there kind n more s c among two =
    one_of_four (λ s. list_any (λ p. hits kind the_name p (key kind the_name s c n)) the_pairs ≡ true)
    (one_of_two (λ c. list_any (λ p. hits kind the_name p (key kind the_name (codes "s3") c n)) the_pairs ≡ true)
    (any_in (λ p. hits kind the_name p (key kind the_name (codes "s3") (codes "application") n)) (codes "s3", codes "application") ((codes "s0", codes "application") ∷ (codes "s0", codes "system") ∷ (codes "s1", codes "application") ∷ (codes "s1", codes "system") ∷ (codes "s2", codes "application") ∷ (codes "s2", codes "system") ∷ []) ((codes "s3", codes "system") ∷ []) (hits_there kind n (codes "s3") (codes "application") more))
    (any_in (λ p. hits kind the_name p (key kind the_name (codes "s3") (codes "system") n)) (codes "s3", codes "system") ((codes "s0", codes "application") ∷ (codes "s0", codes "system") ∷ (codes "s1", codes "application") ∷ (codes "s1", codes "system") ∷ (codes "s2", codes "application") ∷ (codes "s2", codes "system") ∷ (codes "s3", codes "application") ∷ []) ([]) (hits_there kind n (codes "s3") (codes "system") more)) c two)
    (one_of_two (λ c. list_any (λ p. hits kind the_name p (key kind the_name (codes "s2") c n)) the_pairs ≡ true)
    (any_in (λ p. hits kind the_name p (key kind the_name (codes "s2") (codes "application") n)) (codes "s2", codes "application") ((codes "s0", codes "application") ∷ (codes "s0", codes "system") ∷ (codes "s1", codes "application") ∷ (codes "s1", codes "system") ∷ []) ((codes "s2", codes "system") ∷ (codes "s3", codes "application") ∷ (codes "s3", codes "system") ∷ []) (hits_there kind n (codes "s2") (codes "application") more))
    (any_in (λ p. hits kind the_name p (key kind the_name (codes "s2") (codes "system") n)) (codes "s2", codes "system") ((codes "s0", codes "application") ∷ (codes "s0", codes "system") ∷ (codes "s1", codes "application") ∷ (codes "s1", codes "system") ∷ (codes "s2", codes "application") ∷ []) ((codes "s3", codes "application") ∷ (codes "s3", codes "system") ∷ []) (hits_there kind n (codes "s2") (codes "system") more)) c two)
    (one_of_two (λ c. list_any (λ p. hits kind the_name p (key kind the_name (codes "s1") c n)) the_pairs ≡ true)
    (any_in (λ p. hits kind the_name p (key kind the_name (codes "s1") (codes "application") n)) (codes "s1", codes "application") ((codes "s0", codes "application") ∷ (codes "s0", codes "system") ∷ []) ((codes "s1", codes "system") ∷ (codes "s2", codes "application") ∷ (codes "s2", codes "system") ∷ (codes "s3", codes "application") ∷ (codes "s3", codes "system") ∷ []) (hits_there kind n (codes "s1") (codes "application") more))
    (any_in (λ p. hits kind the_name p (key kind the_name (codes "s1") (codes "system") n)) (codes "s1", codes "system") ((codes "s0", codes "application") ∷ (codes "s0", codes "system") ∷ (codes "s1", codes "application") ∷ []) ((codes "s2", codes "application") ∷ (codes "s2", codes "system") ∷ (codes "s3", codes "application") ∷ (codes "s3", codes "system") ∷ []) (hits_there kind n (codes "s1") (codes "system") more)) c two)
    (one_of_two (λ c. list_any (λ p. hits kind the_name p (key kind the_name (codes "s0") c n)) the_pairs ≡ true)
    (any_in (λ p. hits kind the_name p (key kind the_name (codes "s0") (codes "application") n)) (codes "s0", codes "application") ([]) ((codes "s0", codes "system") ∷ (codes "s1", codes "application") ∷ (codes "s1", codes "system") ∷ (codes "s2", codes "application") ∷ (codes "s2", codes "system") ∷ (codes "s3", codes "application") ∷ (codes "s3", codes "system") ∷ []) (hits_there kind n (codes "s0") (codes "application") more))
    (any_in (λ p. hits kind the_name p (key kind the_name (codes "s0") (codes "system") n)) (codes "s0", codes "system") ((codes "s0", codes "application") ∷ []) ((codes "s1", codes "application") ∷ (codes "s1", codes "system") ∷ (codes "s2", codes "application") ∷ (codes "s2", codes "system") ∷ (codes "s3", codes "application") ∷ (codes "s3", codes "system") ∷ []) (hits_there kind n (codes "s0") (codes "system") more)) c two) s among

-- ---- what is wanted

all_of_application : selects_all the_query.items (codes "application") ≡ true
unfolding selects_all
all_of_application = refl

all_of_system : selects_all the_query.items (codes "system") ≡ true
unfolding selects_all
all_of_system = refl

tree_wanted : (c text : List ℕ) (event : Event) → selects_all the_query.items c ≡ true → (o : Option Element) → tree_of Utf8 text ≡ o
    → is_found event (option_and_then (λ root. event_or_none (event_of true root)) o) ≡ true → is_wanted the_query c text ≡ true
unfolding is_wanted
tree_wanted c text event all None tree found = cc
tree_wanted c text event all (Some root) tree found = ap (in_tree (is_selected the_query.items c)) tree ∙ all_selected the_query.items c all root

event_wanted : (c : List ℕ) (n : ℕ) (text : List ℕ) → selects_all the_query.items c ≡ true → is_event (record { channel = c; number = n; text = text }) ≡ true → is_wanted the_query c text ≡ true
unfolding is_event event_in
event_wanted c n text all is = tree_wanted c text (record { channel = c; number = n; text = text }) all (tree_of Utf8 text) refl is

-- ---- what stands at the end

module _ (state : State) (is : IsAtEnd state) where
  abbrev rows : Rows
  rows = state.collector.rows

  own_foreign : (s : List ℕ) → is_among state.foreign s ≡ false
  own_foreign s = is.names.foreign s

  declared : (s : List ℕ) → is_some (slot_of state s) ≡ is_among the_sources s
  declared s = sym (among_declared state.sources s) ∙ is.names.declared s

  live_about : subscription_at rows the_name ≡ Some the_subscription
  live_about = ap about_of is.made_so.live

  own_about : (about : Subscription) (u : List ℕ) → subscription_at rows u ≡ Some about → the_subscription ≡ about
  own_about about u known = same_Some the_subscription about (sym live_about ∙ ap (subscription_at rows) (sym (is.made_so.alone u about known)) ∙ known)

  -- A row of a pair is that of the subscription, of a source and of one of its channels.
  record IsKnown (q : Key) : Type 0 where
    sub : the_name ≡ q.sub
    source : is_among the_sources q.source ≡ true
    channel : is_among the_channels q.channel ≡ true
    no_event : finite.get rows (key 3 q.sub q.source q.channel 0) ≡ None
    no_mark : finite.get rows (key 4 q.sub q.source q.channel 0) ≡ None

  known : (q : Key) (cell : Cell) → finite.get rows q ≡ Some cell → 2 ≤ q.kind → q.kind ≤ 5 → IsKnown q
  known q cell there least greatest = by (subscription_at rows q.sub) refl (slot_of state q.source) refl (is.held.kept.pairs q.sub q.source q.channel (own_foreign q.source))
    where
      pair : IsPairKey q.sub q.source q.channel q
      pair = record { least = least; greatest = greatest; sub = refl; source = refl; channel = refl }

      touched : IsUntouched rows q.sub q.source q.channel → ⊥
      touched none = none-some cell (sym (none q pair) ∙ there)

      by_channel : (about : Subscription) (slot : Slot) (t : Bool) → is_in (channels_read about) q.channel ≡ t → subscription_at rows q.sub ≡ Some about → slot_of state q.source ≡ Some slot →
          IsChannelKept rows q.sub q.source q.channel about slot t → IsKnown q
      by_channel about slot false reads e f kept = absurd (touched kept)
      by_channel about slot true reads e f kept = record {
        sub = sym (is.made_so.alone q.sub about e);
        source = sym (declared q.source) ∙ ap is_some f;
        channel = turned q.channel ∙ subst (λ (x : Subscription). is_in (channels_read x) q.channel ≡ true) (sym (own_about about q.sub e)) reads;
        no_event = kept.no_first_event;
        no_mark = kept.no_first_mark;
      }

      by : (o : Option Subscription) → subscription_at rows q.sub ≡ o → (p : Option Slot) → slot_of state q.source ≡ p → IsPairKept rows q.sub q.source q.channel o p → IsKnown q
      by None e p f kept = absurd (touched kept)
      by (Some about) e None f kept = absurd (touched kept)
      by (Some about) e (Some slot) f kept = by_channel about slot (is_in (channels_read about) q.channel) refl e f kept

  own_key : (kind : ℕ) (q : Key) → kind ≡ q.kind → the_name ≡ q.sub → key kind the_name q.source q.channel q.number ≡ q
  own_key kind q kinds subs = λ i. record { kind = kinds i; sub = subs i; source = q.source; channel = q.channel; number = q.number }

  first_key_is : (kind : ℕ) (q : Key) → kind ≡ q.kind → q.number ≡ 0 → q ≡ key kind q.sub q.source q.channel 0
  first_key_is kind q kinds zero_is = λ i. record { kind = sym kinds i; sub = q.sub; source = q.source; channel = q.channel; number = zero_is i }

  numbered : (kind : ℕ) (q : Key) (cell : Cell) → kind ≡ q.kind → finite.get rows q ≡ Some cell → finite.get rows (key kind q.sub q.source q.channel 0) ≡ None → 0 < q.number
  numbered kind q cell kinds there none = by q.number refl
    where
      by : (n : ℕ) → q.number ≡ n → 0 < n
      by zero e = absurd (none-some cell (sym (ap (finite.get rows) (first_key_is kind q kinds e) ∙ none) ∙ there))
      by (suc n) e = omega arith

  -- no other row of events or marks stands
  no_other : (kind : ℕ) (first : Key) → first ≡ key kind [] [] [] 0 → 2 ≤ kind → kind ≤ 5 → ((q : Key) → IsKnown q → finite.get rows (key kind q.sub q.source q.channel 0) ≡ None) →
      (q : Key) → (is_in_section Kind first q && not (list_any (λ (p : Pair). hits kind the_name p q) the_pairs)) ≡ true → finite.get rows q ≡ None
  no_other kind first from least greatest none q e = by (finite.get rows q) refl
    where
      parts : (is_in_section Kind first q ≡ true) × (not (list_any (λ (p : Pair). hits kind the_name p q) the_pairs) ≡ true)
      parts = and_parts (is_in_section Kind first q) (not (list_any (λ (p : Pair). hits kind the_name p q) the_pairs)) e

      kinds : kind ≡ q.kind
      kinds = eqb-true kind q.kind (subst (λ (x : Key). is_under Kind x q ≡ true) from (and_parts (is_after first q) (is_under Kind first q) parts.0).1)

      both : list_any (λ (p : Pair). hits kind the_name p q) the_pairs ≡ true → not (list_any (λ (p : Pair). hits kind the_name p q) the_pairs) ≡ true → ⊥
      both is never = let wrong = sym (ap not is) ∙ never in cc

      by : (o : Option Cell) → finite.get rows q ≡ o → o ≡ None
      by None there = refl
      by (Some cell) there =
          let it = known q cell there (omega (arith, kinds)) (omega (arith, kinds)) in
          let any = subst (λ (x : Key). list_any (λ (p : Pair). hits kind the_name p x) the_pairs ≡ true) (own_key kind q kinds it.sub) (any_there kind q.number (numbered kind q cell kinds there (none q it)) q.source q.channel it.source it.channel) in
          absurd (both any parts.1)

  -- ---- pairs

  wanted : (s c : List ℕ) (slot : Slot) → slot_of state s ≡ Some slot → is_among the_channels c ≡ true → AreAllWanted the_query c (history slot.histories c)
  wanted s c slot there two n text at =
      event_wanted c n text (one_of_two (λ c. selects_all the_query.items c ≡ true) all_of_application all_of_system c two) ((is.held.kept.sources s slot there).events c n text at)

  pair_whole : (s c : List ℕ) (slot : Slot) → slot_of state s ≡ Some slot → is_among the_channels c ≡ true →
      length (held_rows rows the_name s c 0) + sum_of marked_by (mark_rows rows the_name s c) ≡ length (history slot.histories c)
  pair_whole s c slot there two =
      whole rows the_name s c (settings_of the_subscription) (history slot.histories c) slot.capacity
      (subst (λ (t : Bool). IsChannelKept rows the_name s c the_subscription slot t) (sym (turned c) ∙ two)
      (subst (λ (o : Option Slot). IsPairKept rows the_name s c (Some the_subscription) o) there
      (subst (λ (o : Option Subscription). IsPairKept rows the_name s c o (slot_of state s)) live_about (is.held.kept.pairs the_name s c (own_foreign s)))))
      (wanted s c slot there two) (λ n. is.settled the_name s the_subscription slot is.made_so.live there refl c n (sym (turned c) ∙ two))

  -- what is held and marked of a source
  abbrev kept_of : List ℕ → ℕ
  kept_of s =
      (length (held_rows rows the_name s (codes "application") 0) + sum_of marked_by (mark_rows rows the_name s (codes "application")))
      + (length (held_rows rows the_name s (codes "system") 0) + sum_of marked_by (mark_rows rows the_name s (codes "system")))

  abbrev written_of : List ℕ → ℕ
  written_of s = sum_of (λ n. n) (counts_at state.sources s)

  source_whole : (s : List ℕ) → is_among the_sources s ≡ true → written_of s ≡ kept_of s
  source_whole s among = by (slot_of state s) refl (declared s ∙ among)
    where
      by : (o : Option Slot) → slot_of state s ≡ o → is_some o ≡ true → sum_of (λ n. n) (counts_of o) ≡ kept_of s
      by None there has = cc
      by (Some slot) there has =
          let all = counts slot.histories (is.made_so.wrote s slot there) in
          let first = pair_whole s (codes "application") slot there refl in
          let second = pair_whole s (codes "system") slot there refl in
          omega arith

  -- ---- all of it

  all_written : written state.sources ≡ sum_of written_of the_sources
  all_written =
      sum_flat (counts_at state.sources) (declared_names state)
      ∙ other_names written_of (declared_names state) the_sources (apart_keys state.sources) refl
      (λ s other. ap (λ (o : Option Slot). sum_of (λ n. n) (counts_of o)) (missing_key state.sources s other))
      (λ s other. none s (slot_of state s) refl (declared s ∙ other))
    where
      none : (s : List ℕ) (o : Option Slot) → slot_of state s ≡ o → is_some o ≡ false → sum_of (λ n. n) (counts_of o) ≡ 0
      none s None there has = refl
      none s (Some slot) there has = cc

  of_kind : (kind : ℕ) (first : Key) → first ≡ key kind [] [] [] 0 → (p : Pair) (q : Key) → is_after (key kind [] [] [] 0) (key kind the_name q.source q.channel q.number) ≡ true → hits kind the_name p q ≡ true → is_in_section Kind first q ≡ true
  of_kind kind first from p q after hit =
      let it = hit_kind kind the_name p q hit in
      subst (λ (x : Key). is_in_section Kind x q ≡ true) (sym from)
      (subst (λ (x : Key). is_in_section Kind (key kind [] [] [] 0) x ≡ true) (own_key kind q it.0 it.1) (λ i. after i && nat_eq_equiv.refl kind i))

  held_there : held rows ≡ sum_of (λ (p : Pair). length (held_rows rows the_name p.0 p.1 0)) the_pairs
  held_there =
      sum_ones (rows_under Kind (first_key kinds.Held) rows)
      ∙ all_in_pairs 3 the_name (λ _. 1) Kind (first_key kinds.Held) the_pairs rows refl (λ p q hit. of_kind 3 (first_key kinds.Held) refl p q refl hit)
      (no_other 3 (first_key kinds.Held) refl (omega arith) (omega arith) (λ q it. it.no_event))
      ∙ sum_alike (λ p. sum_of (λ _. 1) (rows_under Channel (key 3 the_name p.0 p.1 0) rows)) (λ (p : Pair). length (held_rows rows the_name p.0 p.1 0)) the_pairs (each the_pairs)
    where
      each : (ps : List Pair) → AllByRecursion (λ (p : Pair). sum_of (λ _. 1) (rows_under Channel (key 3 the_name p.0 p.1 0) rows) ≡ length (held_rows rows the_name p.0 p.1 0)) ps
      each [] = tt
      each (p ∷ ps) = (sym (sum_ones (held_rows rows the_name p.0 p.1 0)), each ps)

  dropped_there : dropped rows ≡ sum_of (λ (p : Pair). sum_of marked_by (mark_rows rows the_name p.0 p.1)) the_pairs
  dropped_there =
      all_in_pairs 4 the_name marked_by Kind (first_key kinds.Mark) the_pairs rows refl (λ p q hit. of_kind 4 (first_key kinds.Mark) refl p q refl hit)
      (no_other 4 (first_key kinds.Mark) refl (omega arith) (omega arith) (λ q it. it.no_mark))

  four_sources : (f : List ℕ → ℕ) → sum_of f the_sources ≡ f (codes "s3") + (f (codes "s2") + (f (codes "s1") + (f (codes "s0") + 0)))
  four_sources f = refl

  eight_pairs : (f : List ℕ → List ℕ → ℕ) → sum_of (λ (p : Pair). f p.0 p.1) the_pairs
      ≡ f (codes "s0") (codes "application") + (f (codes "s0") (codes "system") + (f (codes "s1") (codes "application") + (f (codes "s1") (codes "system") + (f (codes "s2") (codes "application") + (f (codes "s2") (codes "system") + (f (codes "s3") (codes "application") + (f (codes "s3") (codes "system") + 0)))))))
  eight_pairs f = refl

  is_whole : IsWhole state
  is_whole =
      let all = all_written in
      let four = four_sources written_of in
      let third = source_whole (codes "s3") refl in
      let second = source_whole (codes "s2") refl in
      let first = source_whole (codes "s1") refl in
      let zeroth = source_whole (codes "s0") refl in
      let events = held_there in
      let eight = eight_pairs (λ s c. length (held_rows rows the_name s c 0)) in
      let marks = dropped_there in
      let more = eight_pairs (λ s c. sum_of marked_by (mark_rows rows the_name s c)) in
      omega arith

pub nothing_is_missing : NothingIsMissing
nothing_is_missing seed size roomy = subst IsWhole (sym (made_world_is seed size)) (is_whole (settle_step (settling_world seed size)) (at_end seed size roomy))
