-- Events written one after the other.
use Rattle.std.proofs.Common.{◌≡◌, ℕ, ◌+◌, ◌≤◌, true, List, [], ◌∷◌, ◌++◌, length, take, refl, ap, sym, subst, ◌∙◌, arith, append_assoc, append-nil, length-append, inl, inr, true≢false}
use Rattle.std.proofs.lemmas.Option.{none-some}
use Rattle.std.specs.List.{cons_option}
use Rattle.std.specs.Prelude.{cond, Option, Some, None, IfSome, is_some, Result, Ok, Err}
use Rattle.std.specs.Io.KnownBytes.{Appends}
use Rattle.wef_base.specs.Counts.{Rose}
use Rattle.wef_event.specs.Events.{Event}
use Rattle.wef_keeper.specs.Keeping.{Store}
use Rattle.wef_lines.specs.Documents.{new_event_in}
use Rattle.wef_commands.specs.Endings.{Told}
use Rattle.wef_commands.specs.Writing.{EndsAt, IsUntold, TellsLine, TurnsLine, WritesEvent, Wrote, WroteEvents, bad_from, events_of, written_line, written_text}
use Rattle.wef_commands.specs.declared.ending.Ending.{Ending}
use Rattle.wef_commands.specs.declared.ending.Ending.TheVariants as ends
use Rattle.wef_commands.proofs.Written.{both, nothing}

-- Of events so many were written and told, and these are left.
pub record IsWrittenTo (events left : List Event) (count : ℕ) (taken taken' : Option (List ℕ)) (before now : Store) : Type 0 where
  pub front : List Event
  pub numbers : List ℕ
  pub whole : front ++ left ≡ events
  pub wrote : Wrote front numbers before now
  pub told : Appends taken taken' (written_text front numbers)
  pub counted : count ≡ length front

pub none_yet : (events : List Event) (taken : Option (List ℕ)) (before : Store) → IsWrittenTo events events 0 taken taken before before
none_yet events taken before = record { front = []; numbers = []; whole = refl; wrote = refl; told = nothing taken; counted = refl }

wrote_more : (events : List Event) (numbers : List ℕ) (event : Event) (n : ℕ) (before mid now : Store)
    → Wrote events numbers before mid → WritesEvent event (Ok n) mid now → Wrote (events ++ event ∷ []) (numbers ++ n ∷ []) before now
wrote_more [] [] event n before mid now same write = (now, subst (λ (s : Store). WritesEvent event (Ok n) s now) same write, refl)
wrote_more [] (m ∷ numbers) event n before mid now wrote write = absurd wrote
wrote_more (e ∷ events) [] event n before mid now wrote write = absurd wrote
wrote_more (e ∷ events) (m ∷ numbers) event n before mid now (next, first, wrote) write = (next, first, wrote_more events numbers event n next mid now wrote write)

text_more : (events : List Event) (numbers : List ℕ) (event : Event) (n : ℕ) (before mid : Store) → Wrote events numbers before mid
    → written_text (events ++ event ∷ []) (numbers ++ n ∷ []) ≡ written_text events numbers ++ written_line event.channel n
text_more [] [] event n before mid wrote = append-nil (written_line event.channel n)
text_more [] (m ∷ numbers) event n before mid wrote = absurd wrote
text_more (e ∷ events) [] event n before mid wrote = absurd wrote
text_more (e ∷ events) (m ∷ numbers) event n before mid (next, first, wrote) =
    ap (λ text. written_line e.channel m ++ text) (text_more events numbers event n next mid wrote)
    ∙ sym (append_assoc (written_line e.channel m) (written_text events numbers) (written_line event.channel n))

-- one event more
pub one_more : (events left : List Event) (event : Event) (count n : ℕ) (a b c : Option (List ℕ)) (before mid now : Store)
    → IsWrittenTo events (event ∷ left) count a b before mid → WritesEvent event (Ok n) mid now → Appends b c (written_line event.channel n)
    → IsWrittenTo events left (count + 1) a c before now
one_more events left event count n a b c before mid now so_far write tells = record {
  front = so_far.front ++ event ∷ [];
  numbers = so_far.numbers ++ n ∷ [];
  whole = append_assoc so_far.front (event ∷ []) left ∙ so_far.whole;
  wrote = wrote_more so_far.front so_far.numbers event n before mid now so_far.wrote write;
  told =
      subst (Appends a c) (sym (text_more so_far.front so_far.numbers event n before mid so_far.wrote))
      (both a b c (written_text so_far.front so_far.numbers) (written_line event.channel n) so_far.told tells);
  counted = ap (λ k. k + 1) so_far.counted ∙ sym (length-append so_far.front (event ∷ []));
}

pub rose_later : (a b c : ℕ) → a ≤ b → Rose b c → Rose a c
rose_later a b c below rose = grind (arith)

untold_behind : (ending : Ending) (a b c : Option (List ℕ)) (f g h : ℕ) (text line : List ℕ) → f ≤ g → Appends a b text
    → IsUntold ending (record { before = b; after = c; faults_before = g; faults_after = h }) [] line
    → IsUntold ending (record { before = a; after = c; faults_before = f; faults_after = h }) text line
untold_behind ends.OutputFailed a b c f g h text line below told (rose, (m, part)) = (rose_later f g h below rose, (m, both a b c text (take m line) told part))
untold_behind ends.NoMemory a b c f g h text line below told part = subst (Appends a c) (append-nil text) (both a b c text [] told part)
untold_behind _ a b c f g h text line below told part = absurd part

ends_behind : (k : ℕ) (event : Event) (ending : Ending) (a b c : Option (List ℕ)) (f g h : ℕ) (text : List ℕ) (before now : Store) → f ≤ g → Appends a b text
    → EndsAt k event [] ending (record { before = b; after = c; faults_before = g; faults_after = h }) before now
    → EndsAt k event text ending (record { before = a; after = c; faults_before = f; faults_after = h }) before now
ends_behind k event ending a b c f g h text before now below told (inl (is, nothing_more, same)) =
    inl (is, subst (Appends a c) (append-nil text) (both a b c text [] told nothing_more), same)
ends_behind k event ending a b c f g h text before now below told (inr (inl (fault, write, is, nothing_more))) =
    inr (inl (fault, write, is, subst (Appends a c) (append-nil text) (both a b c text [] told nothing_more)))
ends_behind k event ending a b c f g h text before now below told (inr (inr (n, write, untold))) =
    inr (inr (n, write, untold_behind ending a b c f g h text (written_line event.channel n) below told untold))

-- it ends at an event
pub stopped : (events left : List Event) (event : Event) (count : ℕ) (ending : Ending) (a b c : Option (List ℕ)) (f g h : ℕ) (before mid now : Store)
    → IsWrittenTo events (event ∷ left) count a b before mid → f ≤ g
    → EndsAt (count + 1) event [] ending (record { before = b; after = c; faults_before = g; faults_after = h }) mid now
    → WroteEvents events ending (record { before = a; after = c; faults_before = f; faults_after = h }) before now
stopped events left event count ending a b c f g h before mid now so_far below stops = record {
  front = so_far.front;
  numbers = so_far.numbers;
  behind = event ∷ left;
  whole = so_far.whole;
  mid = mid;
  wrote = so_far.wrote;
  stops =
      subst (λ k. EndsAt k event (written_text so_far.front so_far.numbers) ending (record { before = a; after = c; faults_before = f; faults_after = h }) mid now)
      (ap (λ k. k + 1) so_far.counted)
      (ends_behind (count + 1) event ending a b c f g h (written_text so_far.front so_far.numbers) mid now below so_far.told stops);
}

-- no event is left
pub all_written : (events : List Event) (count : ℕ) (a b : Option (List ℕ)) (f g : ℕ) (before now : Store)
    → IsWrittenTo events [] count a b before now → WroteEvents events ends.Done (record { before = a; after = b; faults_before = f; faults_after = g }) before now
all_written events count a b f g before now so_far = record {
  front = so_far.front;
  numbers = so_far.numbers;
  behind = [];
  whole = so_far.whole;
  mid = now;
  wrote = so_far.wrote;
  stops = (refl, so_far.told, refl);
}

-- ---- line by line

-- the first of good lines says an event
says_one : (k : ℕ) (line : List ℕ) (lines : List (List ℕ)) → bad_from k (line ∷ lines) ≡ None → is_some (new_event_in line) ≡ true
says_one k line lines good = by (new_event_in line) good
  where
    by : (o : Option Event) → cond (is_some o) (bad_from (k + 1) lines) (Some k) ≡ None → is_some o ≡ true
    by None h = absurd (none-some k (sym h))
    by (Some event) h = refl

-- and so do those behind it
pub good_behind : (k : ℕ) (all : List (List ℕ)) (line : List ℕ) (lines : List (List ℕ)) → all ≡ line ∷ lines → bad_from k all ≡ None → bad_from (k + 1) lines ≡ None
good_behind k all line lines first good = by (new_event_in line) (subst (λ (ls : List (List ℕ)). bad_from k ls ≡ None) first good)
  where
    by : (o : Option Event) → cond (is_some o) (bad_from (k + 1) lines) (Some k) ≡ None → bad_from (k + 1) lines ≡ None
    by None h = absurd (none-some k (sym h))
    by (Some event) h = h

-- what is said of the event of a line
pub of_line : (found : Option Event) (event : Event) (P : Event → Type 0) → Some event ≡ found → P event → IfSome found P
of_line found event P is holds = subst (λ (o : Option Event). IfSome o P) is holds

-- an event that is written is told, or it ends there
pub turned : (k : ℕ) (event : Event) (n : ℕ) (result : Result (Unit {0}) Ending) (out : Told) (before now : Store)
    → WritesEvent event (Ok n) before now → TellsLine result out (written_line event.channel n) → TurnsLine k event result out before now
turned k event n (Ok done) out before now write told = (n, write, told)
turned k event n (Err ending) out before now write untold = inr (inr (n, write, untold))

-- there is no memory to read a line again
pub not_read_again : (found : Option Event) (k : ℕ) (taken : Option (List ℕ)) (f : ℕ) (now : Store)
    → IfSome found (λ event. TurnsLine k event (Err ends.NoMemory) (record { before = taken; after = taken; faults_before = f; faults_after = f }) now now)
not_read_again None k taken f now = tt
not_read_again (Some event) k taken f now = inl (refl, nothing taken, refl)

-- what is known before the first of the lines that are left, by that line and those behind it
at_line : (events : List Event) (all : List (List ℕ)) (line : List ℕ) (lines : List (List ℕ)) (count : ℕ) (a b : Option (List ℕ)) (before mid : Store) → all ≡ line ∷ lines
    → bad_from (count + 1) all ≡ None → IsWrittenTo events (events_of all) count a b before mid
    → (is_some (new_event_in line) ≡ true) × IsWrittenTo events (events_of (line ∷ lines)) count a b before mid
at_line events all line lines count a b before mid first good so_far = (
  says_one (count + 1) line lines (subst (λ (ls : List (List ℕ)). bad_from (count + 1) ls ≡ None) first good),
  subst (λ (ls : List (List ℕ)). IsWrittenTo events (events_of ls) count a b before mid) first so_far,
)

-- the event of a line is written and told
pub line_done : (events : List Event) (all : List (List ℕ)) (line : List ℕ) (lines : List (List ℕ)) (count : ℕ) (done : Unit {0}) (a b c : Option (List ℕ)) (g h : ℕ) (before mid now : Store)
    → all ≡ line ∷ lines → bad_from (count + 1) all ≡ None → IsWrittenTo events (events_of all) count a b before mid
    → IfSome (new_event_in line) (λ event. TurnsLine (count + 1) event (Ok done) (record { before = b; after = c; faults_before = g; faults_after = h }) mid now)
    → IsWrittenTo events (events_of lines) (count + 1) a c before now
line_done events all line lines count done a b c g h before mid now first good so_far turn =
    let known = at_line events all line lines count a b before mid first good so_far in
    by (new_event_in line) known.0 known.1 turn
  where
    by : (o : Option Event) → is_some o ≡ true → IsWrittenTo events (cons_option o (events_of lines)) count a b before mid
        → IfSome o (λ event. TurnsLine (count + 1) event (Ok done) (record { before = b; after = c; faults_before = g; faults_after = h }) mid now)
        → IsWrittenTo events (events_of lines) (count + 1) a c before now
    by None is so_far turn = absurd (true≢false (sym is))
    by (Some event) is so_far (n, write, told) = one_more events (events_of lines) event count n a b c before mid now so_far write told

-- it ends at a line
pub line_stops : (events : List Event) (all : List (List ℕ)) (line : List ℕ) (lines : List (List ℕ)) (count : ℕ) (ending : Ending) (a b c : Option (List ℕ)) (f g h : ℕ) (before mid now : Store)
    → all ≡ line ∷ lines → bad_from (count + 1) all ≡ None → IsWrittenTo events (events_of all) count a b before mid → f ≤ g
    → IfSome (new_event_in line) (λ event. TurnsLine (count + 1) event (Err ending) (record { before = b; after = c; faults_before = g; faults_after = h }) mid now)
    → WroteEvents events ending (record { before = a; after = c; faults_before = f; faults_after = h }) before now
line_stops events all line lines count ending a b c f g h before mid now first good so_far below turn =
    let known = at_line events all line lines count a b before mid first good so_far in
    by (new_event_in line) known.0 known.1 turn
  where
    by : (o : Option Event) → is_some o ≡ true → IsWrittenTo events (cons_option o (events_of lines)) count a b before mid
        → IfSome o (λ event. TurnsLine (count + 1) event (Err ending) (record { before = b; after = c; faults_before = g; faults_after = h }) mid now)
        → WroteEvents events ending (record { before = a; after = c; faults_before = f; faults_after = h }) before now
    by None is so_far turn = absurd (true≢false (sym is))
    by (Some event) is so_far stops = stopped events (events_of lines) event count ending a b c f g h before mid now so_far below stops
