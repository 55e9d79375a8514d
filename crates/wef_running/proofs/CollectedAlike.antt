-- Runs of `collect` under two clocks go alike: over the connections, one after the other, from rows that are alike.
use Rattle.std.proofs.Common.{◌≡◌, inl, inr, ℕ, ◌+◌, ◌<◌, ◌≤◌, Bool, true, false, List, [], ◌∷◌, ◌++◌, drop, length, ap, sym, refl, subst, ◌∙◌, append_assoc, append-nil, arith, nat_lt, if◌then◌else◌}
use Rattle.std.proofs.lemmas.Bool.Decides.{nat_tests}
use Rattle.std.proofs.lemmas.List.{length-map}
use Rattle.std.specs.Io.KnownBytes.{Appends}
use Rattle.std.specs.List.{AllByRecursion}
use Rattle.std.specs.Option.{option_map}
use Rattle.std.specs.Prelude.{Option, Some, None, Ok, is_some, min, unwrap_or}
use Rattle.wef_base.specs.Counts.{Rose}
use Rattle.wef_collector.specs.Boots.{boot_of, memory_begun}
use Rattle.wef_collector.specs.Calls.{boot_effect}
use Rattle.wef_collector.specs.Memories.{start_of}
use Rattle.wef_collector.specs.Taken.{put}
use Rattle.wef_collector.specs.declared.memories.Memory.{Memory}
use Rattle.wef_collector_rows.specs.Faults.{collector_store}
use Rattle.wef_collector_rows.specs.Forms.{AreFormed}
use Rattle.wef_collector_rows.specs.Keys.{boot_key}
use Rattle.wef_collector_rows.specs.declared.faults.CollectorFault.{CollectorFault}
use Rattle.wef_collector_rows.specs.declared.faults.CollectorFault.TheVariants.{NoMemory, NoSubscription, Exists, Ended, NotWellFormed, NotAsked, TooMany, Failed, Full}
use Rattle.wef_collector_serving.proofs.AlikeConnections.{clocks_decide_nothing_else, turns_raise}
use Rattle.wef_collector_serving.proofs.AlikeRows.{alike_applied, unheard_same}
use Rattle.wef_collector_serving.specs.Answers.{KnownCollector}
use Rattle.wef_collector_serving.specs.ByRows.{AnswersBy, Kept, LeavesBy, kept_of}
use Rattle.wef_collector_serving.specs.Clocks.{AreAlike, Outcome}
use Rattle.wef_commands.proofs.ByRows.{from_one, started_so}
use Rattle.wef_commands.specs.Calling.{Starts}
use Rattle.wef_commands.specs.Laws.{started}
use Rattle.wef_commands.specs.Refusals.{store_ending}
use Rattle.wef_commands.specs.declared.ending.Ending.TheVariants as ends
use Rattle.wef_connections.specs.Opening.{first_of, next_connection, sent_in_each, with_address, with_last}
use Rattle.wef_http_heads.specs.declared.targets.Side.TheVariants.{Collector}
use Rattle.wef_keeper.proofs.Going.{calm_rows}
use Rattle.wef_keeper.specs.Calls.{Did}
use Rattle.wef_keeper.specs.Keeping.{Store}
use Rattle.wef_keeper.specs.Rows.{Rows, applied}
use Rattle.wef_keeper.specs.declared.keys.Cell.{Cell}
use Rattle.wef_ports.specs.Telling as ports
use Rattle.wef_serving.specs.Serving.{AnswersAt, IsBroken, LeavesAt, Serves}
use Rattle.wef_serving.specs.Turns.{OnSent}
use Rattle.wef_serving.specs.declared.ends.ConnectionEnd.{ConnectionEnd}
use Rattle.wef_serving.specs.declared.ends.ConnectionEnd.TheVariants as over
use Rattle.wef_running.proofs.ByRows.{all_back, good_start}
use Rattle.wef_running.specs.ByRows.{AreServedBy, IsServedBy, begun}
use Rattle.wef_running.specs.ByRows.{none_by, one_by}
use Rattle.wef_running.specs.Clocks.{AreOutcomesOf, AreSameOutcomes, CollectsAlike, IsDoneWell, Run, TellsBytes, ends_of, sent_in}
use Rattle.wef_running.specs.Collecting.{AreServed, AreTold, CollectEnds, IsTellable, ListeningEnds, lines_from, listening_line}
use Rattle.wef_running.specs.Collecting.{none_served, one_served}

-- ---- connections that didn't fail

abbrev IsUnfailed : ConnectionEnd → Type 0
IsUnfailed e = e ≡ over.PortFailed → ⊥

first_rose : (a b c : ℕ) → b ≤ c → Rose a b → Rose a c
first_rose a b c next rose = omega arith

next_rose : (a b c : ℕ) → a ≤ b → Rose b c → Rose a c
next_rose a b c first rose = omega arith

front_later : {clock : Option ℕ} {f : ports.Told} {s : KnownCollector} {es : List ConnectionEnd} {g : ports.Told} {t : KnownCollector} → AreServed clock f s es g t → f.faults ≤ g.faults
front_later (none_served f s) = omega arith
front_later (one_served f g h s t u e es is more) = let here = is.later in let there = front_later more in omega (arith, here, there)

none_failed : {clock : Option ℕ} {f : ports.Told} {s : KnownCollector} {es : List ConnectionEnd} {g : ports.Told} {t : KnownCollector} → AreServed clock f s es g t → (Rose f.faults g.faults → ⊥) → AllByRecursion IsUnfailed es
none_failed (none_served f s) whole = tt
none_failed (one_served f g h s t u e es is more) whole =
    (λ failed. whole (first_rose f.faults g.faults h.faults (front_later more) (is.fault failed)), none_failed more (λ rose. whole (next_rose f.faults g.faults h.faults is.later rose)))

unbroken : (e : ConnectionEnd) → IsTellable e → IsUnfailed e → IsBroken e → ⊥
unbroken over.End tellable well broken = broken
unbroken over.Closed tellable well broken = broken
unbroken (over.Refused status) tellable well broken = broken
unbroken over.Cut tellable well broken = broken
unbroken over.PortFailed tellable well broken = well refl
unbroken over.NoMemory tellable well broken = tellable refl

-- ---- a connection whose bytes are told

emptied : (sent : Option (List ℕ)) → is_some sent ≡ true → option_map {U = List ℕ} (λ (_ : List ℕ). []) sent ≡ Some []
emptied None is = cc
emptied (Some bytes) is = refl

appended : (now : Option (List ℕ)) (new : List ℕ) → Appends (Some []) now new → now ≡ Some new
appended None new is = absurd is
appended (Some bytes) new is = ap Some is

module _ (clock : Option ℕ) (final : Rows) (waiting earlier : List (List ℕ)) (f g : ports.Told) (k l : Kept) (e : ConnectionEnd) (tells : TellsBytes waiting earlier f) (is : IsServedBy final clock f k g l e) where
  abbrev ServesSo : List ℕ → List ℕ → Type 0
  ServesSo bytes new = Serves Collector (AnswersAt clock (AnswersBy final)) (LeavesAt clock LeavesBy) bytes k new l e

  told_served : OnSent (Some (first_of waiting)) (Some []) g.sent ServesSo
  told_served =
      let coming : (next_connection f).coming ≡ Some (first_of waiting) = ap (option_map first_of) tells.coming in
      subst (λ (sent : Option (List ℕ)). OnSent (Some (first_of waiting)) sent g.sent ServesSo) (emptied f.sent tells.sending)
      (subst (λ (bytes : Option (List ℕ)). OnSent bytes (next_connection f).sent g.sent ServesSo) coming is.ends)

  tells_then : TellsBytes (drop 1 waiting) (earlier ++ told_served.0 ∷ []) g
  tells_then =
      let sent : g.sent ≡ Some told_served.0 = appended g.sent told_served.0 told_served.1 in
      record {
        coming = ap (λ (around : ports.Around). around.waiting) is.around ∙ ap (option_map (drop 1)) tells.coming;
        sent = (λ i. if (is.around i).began then with_last (is.around i).earlier g.sent else (is.around i).earlier) ∙ (λ i. with_last (tells.sent i) (sent i));
        sending = ap (λ (bytes : Option (List ℕ)). is_some bytes) sent;
      }

-- ---- connections, one after the other

-- how a chain of connections begins, by how many it has
abbrev Begins : Rows → Option ℕ → ports.Told → Kept → List ConnectionEnd → ports.Told → Kept → Type 0
Begins final clock f k [] g l = (g ≡ f) × (l ≡ k)
Begins final clock f k (e ∷ es) g l = (h : ports.Told) × (m : Kept) × IsServedBy final clock f k h m e × AreServedBy final clock h m es g l

begins : {final : Rows} {clock : Option ℕ} {f : ports.Told} {k : Kept} {es : List ConnectionEnd} {g : ports.Told} {l : Kept} → AreServedBy final clock f k es g l → Begins final clock f k es g l
begins (none_by f k) = (refl, refl)
begins (one_by f g h k l m e es is more) = (g, l, is, more)

kept_raises : {final : Rows} {clock : Option ℕ} {f : ports.Told} {k : Kept} {es : List ConnectionEnd} {g : ports.Told} {l : Kept} → AreServedBy final clock f k es g l → k.errors ≤ l.errors
kept_raises (none_by f k) = omega arith
kept_raises {final = final} {clock = clock} (one_by f g h k l m e es is more) =
    let here = turns_raise Collector clock final is.answered in let there = kept_raises more in omega (arith, here, there)

between : (first mid last : ℕ) → first ≤ mid → mid ≤ last → last ≡ first → mid ≡ first
between first mid last up on same = omega arith

behind_it : (first mid last : ℕ) → first ≤ mid → mid ≤ last → last ≡ first → last ≡ mid
behind_it first mid last up on same = omega arith

-- A chain of connections over rows, that didn't fail, and in which no answer says that the store failed.
record IsChain (clock : Option ℕ) (final : Rows) (waiting earlier : List (List ℕ)) (f : ports.Told) (k : Kept) (es : List ConnectionEnd) (g : ports.Told) (l : Kept) : Type 0 where
  served : AreServedBy final clock f k es g l
  tells : TellsBytes waiting earlier f
  tellable : AllByRecursion IsTellable es
  unfailed : AllByRecursion IsUnfailed es
  calm : l.errors ≡ k.errors

-- Outcomes that end so, of connections in which this was sent.
record AreThose (earlier : List (List ℕ)) (es : List ConnectionEnd) (g : ports.Told) (outcomes : List Outcome) : Type 0 where
  ended : ends_of outcomes ≡ es
  sent : sent_in_each g ≡ Some (earlier ++ sent_in outcomes)

record ChainsAlike (waiting earlier before : List (List ℕ)) (es ds : List ConnectionEnd) (g g' : ports.Told) (l m : Kept) : Type 0 where
  ones : List Outcome
  others : List Outcome
  those : AreThose earlier es g ones
  those_too : AreThose before ds g' others
  same : AreSameOutcomes waiting ones others
  rows : AreAlike l.rows m.rows

none_sent : (waiting earlier : List (List ℕ)) (f g : ports.Told) → g ≡ f → TellsBytes waiting earlier f → AreThose earlier [] g []
none_sent waiting earlier f g same tells = record { ended = refl; sent = ap sent_in_each same ∙ tells.sent ∙ ap Some (sym (append-nil earlier)) }

one_sent : (earlier : List (List ℕ)) (sent : List ℕ) (e : ConnectionEnd) (es : List ConnectionEnd) (g : ports.Told) (outcomes : List Outcome) → AreThose (earlier ++ sent ∷ []) es g outcomes
    → AreThose earlier (e ∷ es) g (record { sent = sent; end = e } ∷ outcomes)
one_sent earlier sent e es g outcomes those =
    record { ended = ap (λ (ds : List ConnectionEnd). e ∷ ds) those.ended; sent = those.sent ∙ ap Some (append_assoc earlier (sent ∷ []) (sent_in outcomes)) }

-- what is left of a chain behind its first connection
module _ (clock : Option ℕ) (final : Rows) (waiting earlier : List (List ℕ)) (f h g : ports.Told) (k m l : Kept) (e : ConnectionEnd) (es : List ConnectionEnd) (chain : IsChain clock final waiting earlier f k (e ∷ es) g l)
    (is : IsServedBy final clock f k h m e) (more : AreServedBy final clock h m es g l) where
  abbrev sent_first : List ℕ
  sent_first = (told_served clock final waiting earlier f h k m e chain.tells is).0

  calm_first : m.errors ≡ k.errors
  calm_first = between k.errors m.errors l.errors (turns_raise Collector clock final is.answered) (kept_raises more) chain.calm

  chain_left : IsChain clock final (drop 1 waiting) (earlier ++ sent_first ∷ []) h m es g l
  chain_left = record {
    served = more;
    tells = tells_then clock final waiting earlier f h k m e chain.tells is;
    tellable = chain.tellable.1;
    unfailed = chain.unfailed.1;
    calm = behind_it k.errors m.errors l.errors (turns_raise Collector clock final is.answered) (kept_raises more) chain.calm;
  }

module _ (clock other : Option ℕ) (final last : Rows) where
  -- two chains, by their first connections and by what is left of them
  chained : (e : ConnectionEnd) (es : List ConnectionEnd) (d : ConnectionEnd) (ds : List ConnectionEnd) (waiting earlier before : List (List ℕ)) (f h g f' h' g' : ports.Told) (k mid l n mid' m : Kept)
      (first : IsChain clock final waiting earlier f k (e ∷ es) g l) (second : IsChain other last waiting before f' n (d ∷ ds) g' m)
      (is : IsServedBy final clock f k h mid e) (more : AreServedBy final clock h mid es g l) (is' : IsServedBy last other f' n h' mid' d) (more' : AreServedBy last other h' mid' ds g' m)
      → AreAlike k.rows n.rows → k.memory ≡ n.memory
      → (AreAlike mid.rows mid'.rows → mid.memory ≡ mid'.memory
      → ChainsAlike (drop 1 waiting) (earlier ++ sent_first clock final waiting earlier f h g k mid l e es first is more ∷ []) (before ++ sent_first other last waiting before f' h' g' n mid' m d ds second is' more' ∷ []) es ds g g' l m)
      → ChainsAlike waiting earlier before (e ∷ es) (d ∷ ds) g g' l m
  chained e es d ds waiting earlier before f h g f' h' g' k mid l n mid' m first second is more is' more' alike drawn goes_on =
      let one = told_served clock final waiting earlier f h k mid e first.tells is in
      let two = told_served other last waiting before f' h' n mid' d second.tells is' in
      let here = clocks_decide_nothing_else Collector (first_of waiting) clock other final last k mid n mid' (record { sent = one.0; end = e }) (record { sent = two.0; end = d })
      (record { serves = one.2; whole = unbroken e first.tellable.0 first.unfailed.0; calm = calm_first clock final waiting earlier f h g k mid l e es first is more })
      (record { serves = two.2; whole = unbroken d second.tellable.0 second.unfailed.0; calm = calm_first other last waiting before f' h' g' n mid' m d ds second is' more' })
      alike drawn in
      let then_on = goes_on here.rows here.memory in
      record {
        ones = record { sent = one.0; end = e } ∷ then_on.ones;
        others = record { sent = two.0; end = d } ∷ then_on.others;
        those = one_sent earlier one.0 e es g then_on.ones then_on.those;
        those_too = one_sent before two.0 d ds g' then_on.others then_on.those_too;
        same = (here.outcome, then_on.same);
        rows = then_on.rows;
      }

  chains_alike : (es ds : List ConnectionEnd) (waiting earlier before : List (List ℕ)) (f g f' g' : ports.Told) (k l n m : Kept) → length es ≡ length ds → IsChain clock final waiting earlier f k es g l → IsChain other last waiting before f' n ds g' m
      → AreAlike k.rows n.rows → k.memory ≡ n.memory → ChainsAlike waiting earlier before es ds g g' l m
  chains_alike [] [] waiting earlier before f g f' g' k l n m long first second alike drawn =
      let one = begins first.served in
      let two = begins second.served in
      record {
        ones = [];
        others = [];
        those = none_sent waiting earlier f g one.0 first.tells;
        those_too = none_sent waiting before f' g' two.0 second.tells;
        same = tt;
        rows = subst (λ (x : Kept). AreAlike x.rows m.rows) (sym one.1) (subst (λ (x : Kept). AreAlike k.rows x.rows) (sym two.1) alike);
      }
  chains_alike [] (d ∷ ds) waiting earlier before f g f' g' k l n m long first second alike drawn = absurd (omega (arith, long))
  chains_alike (e ∷ es) [] waiting earlier before f g f' g' k l n m long first second alike drawn = absurd (omega (arith, long))
  chains_alike (e ∷ es) (d ∷ ds) waiting earlier before f g f' g' k l n m long first second alike drawn =
      let start = begins first.served in
      let start_too = begins second.served in
      chained e es d ds waiting earlier before f start.0 g f' start_too.0 g' k start.1 l n start_too.1 m first second start.2 start.3 start_too.2 start_too.3 alike drawn
      (chains_alike es ds (drop 1 waiting) (earlier ++ sent_first clock final waiting earlier f start.0 g k start.1 l e es first start.2 start.3 ∷ []) (before ++ sent_first other last waiting before f' start_too.0 g' n start_too.1 m d ds second start_too.2 start_too.3 ∷ [])
      start.0 g start_too.0 g' start.1 l start_too.1 m (omega (arith, long))
      (chain_left clock final waiting earlier f start.0 g k start.1 l e es first start.2 start.3) (chain_left other last waiting before f' start_too.0 g' n start_too.1 m d ds second start_too.2 start_too.3))

-- ---- runs

-- A run that was done well, as a chain of connections from the started collector on.
record IsRunOver (address : List ℕ) (count : ℕ) (waiting earlier : List (List ℕ)) (run : Run) : Type 0 where
  es : List ConnectionEnd
  long : length es ≡ count
  lines : Appends run.out.before run.out.after (listening_line address ++ lines_from 1 es)
  kept : Kept
  kept_rows : kept.rows ≡ run.last
  chain : IsChain run.clock run.last waiting earlier (with_address address run.front) (begun run.found) es run.front_then kept

below_is : (m n : ℕ) → nat_lt m n ≡ true → m < n
below_is m n e = grind (arith, nat_tests)

not_below : (m n : ℕ) → nat_lt m n ≡ false → n ≤ m
not_below m n e = grind (arith, nat_tests)

-- a count that didn't rise
unrisen : (before now : ℕ) → (Rose before now → ⊥) → (now ≤ before) × (now < 18446744073709551615)
unrisen before now calm = by (nat_lt (min before 18446744073709551614) now) refl
  where
    by : (t : Bool) → nat_lt (min before 18446744073709551614) now ≡ t → (now ≤ before) × (now < 18446744073709551615)
    by true is = absurd (calm (below_is (min before 18446744073709551614) now is))
    by false is = let most : now ≤ min before 18446744073709551614 = not_below (min before 18446744073709551614) now is in (omega (arith, most), omega (arith, most))

never_done : (fault : CollectorFault) → ends.Done ≡ store_ending fault → ⊥
never_done NoMemory is = cc
never_done NoSubscription is = cc
never_done Exists is = cc
never_done Ended is = cc
never_done NotWellFormed is = cc
never_done NotAsked is = cc
never_done TooMany is = cc
never_done Failed is = cc
never_done Full is = cc

module _ (address : List ℕ) (count : ℕ) (waiting earlier : List (List ℕ)) (run : Run) (well : IsDoneWell address count waiting earlier run) where
  run_served : (mid : Store) (memory memory_now : Memory) → Starts (Ok memory) run.store mid → (es : List ConnectionEnd) → length es ≡ count
      → AreTold (AreServed run.clock) (listening_line address) run.out (with_address address run.front) (record { store = mid; memory = memory }) es run.front_then (record { store = run.store_then; memory = memory_now })
      → IsRunOver address count waiting earlier run
  run_served mid memory memory_now start es long are =
      let back = all_back run.last run.clock are.served start.0.ready.0 run.last well.behind (λ u s c. omega arith) in
      let told : mid.rows ≡ Some back.first = calm_rows mid.rows mid.images back.first start.2.both (start.2.only start.0.ready.1) back.found in
      let rows : back.first ≡ started run.found = started_so run.store mid memory run.found back.first start well.stand told in
      let did = from_one run.store mid run.found back.first (Did collector_store AreFormed boot_effect memory_begun (Ok memory) run.store mid) well.stand told start.0.did in
      let kept : kept_of back.first (record { store = mid; memory = memory }) 0 ≡ begun run.found = λ i. record { rows = rows i; memory = did.answer.1 i; errors = 0 } in
      let stayed = unrisen run.store.faults run.store_then.faults well.calm in
      let later : run.store.faults ≤ mid.faults = start.0.faults in
      let since : mid.faults + back.errors ≤ run.store_then.faults = back.counts.counted (good_start run.store mid memory run.found start well.stand well.formed) stayed.1 in
      let most : run.store_then.faults ≤ run.store.faults = stayed.0 in
      let none : back.errors + 0 ≡ 0 = omega (arith, later, since, most) in
      record {
        es = es;
        long = long;
        lines = are.lines;
        kept = kept_of run.last (record { store = run.store_then; memory = memory_now }) (back.errors + 0);
        kept_rows = refl;
        chain = record {
          served = subst (λ (k : Kept). AreServedBy run.last run.clock (with_address address run.front) k es run.front_then (kept_of run.last (record { store = run.store_then; memory = memory_now }) (back.errors + 0))) kept (back.served 0);
          tells = record { coming = well.tells.coming; sent = well.tells.sent; sending = well.tells.sending };
          tellable = are.tellable;
          unfailed = none_failed are.served well.whole;
          calm = none;
        };
      }

  run_listens : (mid : Store) (memory memory_now : Memory) → Starts (Ok memory) run.store mid
      → ListeningEnds run.clock address count ends.Done run.out run.front (record { store = mid; memory = memory }) run.front_then (record { store = run.store_then; memory = memory_now }) → IsRunOver address count waiting earlier run
  run_listens mid memory memory_now start (inl (is, refused, unwritten, same)) = let bad : ends.Done ≡ ends.ListeningFailed = is in cc
  run_listens mid memory memory_now start (inr (inl (is, failed, part, front, same))) = let bad : ends.Done ≡ ends.OutputFailed = is in cc
  run_listens mid memory memory_now start (inr (inr (es, long, are))) = run_served mid memory memory_now start es long are

  run_over : CollectEnds address count ends.Done run.out run.clock run.front run.front_then run.store run.store_then → IsRunOver address count waiting earlier run
  run_over (inl ((is, unwritten, same), front)) = let bad : ends.Done ≡ ends.NoMemory = is in cc
  run_over (inr (inl (fault, start, is, unwritten, same))) = absurd (never_done fault is)
  run_over (inr (inr (mid, memory, memory_now, start, listens))) = run_listens mid memory memory_now start listens

-- rows that are alike are so once the collector was started over them
same_boot : (rows other : Rows) → AreAlike rows other → boot_of rows ≡ boot_of other
same_boot rows other alike = ap (λ (found : Option Cell). unwrap_or (option_map (λ (cell : Cell). cell.value) found) 0) (unheard_same rows other alike boot_key refl)

alike_started : (rows other : Rows) → AreAlike rows other → AreAlike (started rows) (started other)
alike_started rows other alike =
    subst (λ (boot : ℕ). AreAlike (started rows) (applied (put boot_key (boot + 1) [] ∷ []) other)) (same_boot rows other alike) (alike_applied (put boot_key (boot_of rows + 1) [] ∷ []) rows other alike)

outcomes_of : (address : List ℕ) (count : ℕ) (waiting earlier : List (List ℕ)) (run : Run) (it : IsRunOver address count waiting earlier run) (outcomes : List Outcome) → AreThose earlier it.es run.front_then outcomes
    → AreOutcomesOf address count earlier run outcomes
outcomes_of address count waiting earlier run it outcomes those = record {
  all = sym (length-map outcomes (λ (o : Outcome). o.end)) ∙ ap length those.ended ∙ it.long;
  sent = those.sent;
  lines = subst (λ (es : List ConnectionEnd). Appends run.out.before run.out.after (listening_line address ++ lines_from 1 es)) (sym those.ended) it.lines;
}

pub collects_alike : CollectsAlike
collects_alike address count waiting earlier before one other well well_too alike =
    let first = run_over address count waiting earlier one well well.done in
    let second = run_over address count waiting before other well_too well_too.done in
    let both = chains_alike one.clock other.clock one.last other.last first.es second.es waiting earlier before (with_address address one.front) one.front_then (with_address address other.front) other.front_then
    (begun one.found) first.kept (begun other.found) second.kept (first.long ∙ sym second.long) first.chain second.chain (alike_started one.found other.found alike)
    (ap (λ (boot : ℕ). start_of (boot + 1)) (same_boot one.found other.found alike)) in
    record {
      ones = both.ones;
      others = both.others;
      outcomes = outcomes_of address count waiting earlier one first both.ones both.those;
      outcomes_too = outcomes_of address count waiting before other second both.others both.those_too;
      same = both.same;
      rows = subst (λ (rows : Rows). AreAlike rows other.last) first.kept_rows (subst (λ (rows : Rows). AreAlike first.kept.rows rows) second.kept_rows both.rows);
    }
