-- `collect` over rows: from any of those that an opening may find behind it, back to those that stood before.
use Rattle.std.proofs.Common.{◌≡◌, inl, inr, ℕ, ◌+◌, ◌≤◌, true, List, [], ◌∷◌, ◌++◌, ap, sym, refl, subst, arith}
use Rattle.std.specs.List.{AllByRecursion}
use Rattle.std.specs.Prelude.{Option, Some, None, IfSome, Ok, Err}
use Rattle.wef_collector.specs.Boots.{memory_begun}
use Rattle.wef_collector.specs.Calls.{boot_effect}
use Rattle.wef_collector.specs.Laws.{BookmarksRise}
use Rattle.wef_collector.specs.declared.memories.Memory.{Memory}
use Rattle.wef_collector_rows.specs.Faults.{collector_store}
use Rattle.wef_collector_rows.specs.Forms.{AreFormed}
use Rattle.wef_collector_rows.specs.declared.faults.CollectorFault.{CollectorFault}
use Rattle.wef_collector_serving.proofs.OverRows.{both_counted, both_rise, connections_go_by_rows, from_none, nothing_counted, requests_go_by_rows, turns_later, turns_open}
use Rattle.wef_collector_serving.specs.Answers.{Answers, KnownCollector, Leaves}
use Rattle.wef_collector_serving.specs.ByRows.{AnswersBy, AreGood, Kept, LeavesBy, kept_of}
use Rattle.wef_collector_serving.specs.Laws.{AreCounted}
use Rattle.wef_commands.proofs.ByRows.{could_start, from_one, image_of, started_so}
use Rattle.wef_commands.specs.Calling.{Starts}
use Rattle.wef_commands.specs.Endings.{IsUnwritten, Told}
use Rattle.wef_commands.specs.Laws.{Stand, started}
use Rattle.wef_commands.specs.Refusals.{store_ending}
use Rattle.wef_commands.specs.declared.ending.Ending.{Ending}
use Rattle.wef_commands.specs.declared.ending.Ending.TheVariants as ends
use Rattle.wef_connections.specs.Opening.{next_connection, with_address}
use Rattle.wef_http.specs.declared.messages.HttpRequest.{HttpRequest}
use Rattle.wef_http_heads.specs.declared.answers.Answer.{Answer}
use Rattle.wef_http_heads.specs.declared.targets.Side.{Side}
use Rattle.wef_http_heads.specs.declared.targets.Side.TheVariants.{Collector}
use Rattle.wef_keeper.proofs.Going.{calm_rows, goes_over, which_found}
use Rattle.wef_keeper.specs.Calls.{Did, GoesOver}
use Rattle.wef_keeper.specs.Keeping.{IsOneOf, MayFind, Store, WhereTold}
use Rattle.wef_keeper.specs.Rows.{Rows}
use Rattle.wef_ports.specs.Telling as ports
use Rattle.wef_serving.specs.Serving.{AnswersAt, LeavesAt, Responds, RespondsInTurn, Serves}
use Rattle.wef_serving.specs.Serving.{finishes, cuts, refuses, closes, goes_on, breaks, refuses_part, answers_part, leaves, to_none, to_one_more}
use Rattle.wef_serving.specs.Turns.{OnSent}
use Rattle.wef_serving.specs.declared.ends.ConnectionEnd.{ConnectionEnd}
use Rattle.wef_running.specs.ByRows.{AreServedBy, CollectsByRows, IsNotStarted, IsServedBy, IsStarted, begun}
use Rattle.wef_running.specs.ByRows.{none_by, one_by}
use Rattle.wef_running.specs.Collecting.{AreServed, IsServed, IsTheLast, ListeningEnds, ListeningEndsBy, ServingEnds, ServingEndsBy, TellingEnds, TellingEndsBy, listening_line}
use Rattle.wef_running.specs.Collecting.{none_served, one_served}

-- ---- the requests of a connection, without its bytes

module _ {S : Type 0} (side : Side) (A : S → HttpRequest → Answer → S → Type 0) (L : S → HttpRequest → S → Type 0) where
  in_front : {s t u : S} → Responds A L s t → RespondsInTurn A L t u → RespondsInTurn A L s u
  in_front first (to_none t) = to_one_more _ _ t (to_none _) first
  in_front first (to_one_more t u v before last) = to_one_more _ u v (in_front first before) last

  turns_of : {bytes : List ℕ} {s : S} {sent : List ℕ} {t : S} {e : ConnectionEnd} → Serves side A L bytes s sent t e → RespondsInTurn A L s t
  turns_of (finishes bytes s is) = to_none s
  turns_of (cuts bytes s is) = to_none s
  turns_of (refuses bytes s e status is told) = to_none s
  turns_of (closes bytes rest s t request answer is answers keep) = in_front (request, inr (answer, answers)) (to_none t)
  turns_of (goes_on bytes rest more s t u request answer e is answers keep served) = in_front (request, inr (answer, answers)) (turns_of served)
  turns_of (breaks bytes s e is) = to_none s
  turns_of (refuses_part bytes s e status n is told) = to_none s
  turns_of (answers_part bytes rest s t request answer n is answers) = in_front (request, inr (answer, answers)) (to_none t)
  turns_of (leaves bytes rest s t request is left) = in_front (request, left) (to_none t)

-- ---- connections

-- Connections over rows, back from those that are found behind them.
record IsServedBack (final : Rows) (clock : Option ℕ) (f : ports.Told) (s : KnownCollector) (g : ports.Told) (t : KnownCollector) (e : ConnectionEnd) (last : Rows) : Type 0 where
  first : Rows
  found : MayFind s.store first
  errors : ℕ
  served : (before : ℕ) → IsServedBy final clock f (kept_of first s before) g (kept_of last t (errors + before)) e
  counts : AreCounted s t errors
  rises : BookmarksRise first last

pub record AreServedBack (final : Rows) (clock : Option ℕ) (f : ports.Told) (s : KnownCollector) (es : List ConnectionEnd) (g : ports.Told) (t : KnownCollector) (last : Rows) : Type 0 where
  pub first : Rows
  pub found : MayFind s.store first
  pub errors : ℕ
  pub served : (before : ℕ) → AreServedBy final clock f (kept_of first s before) es g (kept_of last t (errors + before))
  pub counts : AreCounted s t errors
  pub rises : BookmarksRise first last

module _ (final : Rows) (clock : Option ℕ) where
  one_back : (f : ports.Told) (s : KnownCollector) (g : ports.Told) (t : KnownCollector) (e : ConnectionEnd) (last : Rows) → IsServed clock f s g t e → s.store.opened ≡ true → MayFind t.store last → BookmarksRise last final
      → IsServedBack final clock f s g t e last
  one_back f s g t e last is opened found rises = by (next_connection f).coming refl is.ends
    where
      by : (coming : Option (List ℕ)) → (next_connection f).coming ≡ coming
          → OnSent coming (next_connection f).sent g.sent (λ bytes new. Serves Collector (AnswersAt clock Answers) (LeavesAt clock Leaves) bytes s new t e) → IsServedBack final clock f s g t e last
      by None told ends =
          let back = requests_go_by_rows clock s t final last is.answered opened found rises in
          record {
            first = back.first;
            found = back.found;
            errors = back.errors;
            served = λ before. record {
              ends = subst (λ (coming : Option (List ℕ)). OnSent coming (next_connection f).sent g.sent
                  (λ bytes new. Serves Collector (AnswersAt clock (AnswersBy final)) (LeavesAt clock LeavesBy) bytes (kept_of back.first s before) new (kept_of last t (back.errors + before)) e)) (sym told) tt;
              answered = back.answers before;
              around = is.around;
            };
            counts = back.counts;
            rises = back.rises;
          }
      by (Some bytes) told (new, appended, serves) =
          let back = connections_go_by_rows Collector clock bytes s new t e final last serves opened found rises in
          record {
            first = back.first;
            found = back.found;
            errors = back.errors;
            served = λ before. record {
              ends = subst (λ (coming : Option (List ℕ)). OnSent coming (next_connection f).sent g.sent
                  (λ bytes new. Serves Collector (AnswersAt clock (AnswersBy final)) (LeavesAt clock LeavesBy) bytes (kept_of back.first s before) new (kept_of last t (back.errors + before)) e)) (sym told)
                  (new, appended, back.serves before);
              answered = turns_of Collector (AnswersAt clock (AnswersBy final)) (LeavesAt clock LeavesBy) (back.serves before);
              around = is.around;
            };
            counts = back.counts;
            rises = back.rises;
          }

  -- a connection leaves the store opened, and no lower count of its faults
  one_opened : (f : ports.Told) (s : KnownCollector) (g : ports.Told) (t : KnownCollector) (e : ConnectionEnd) → IsServed clock f s g t e → s.store.opened ≡ true → t.store.opened ≡ true
  one_opened f s g t e is opened = turns_open clock is.answered opened

  one_later : (f : ports.Told) (s : KnownCollector) (g : ports.Told) (t : KnownCollector) (e : ConnectionEnd) → IsServed clock f s g t e → s.store.faults ≤ t.store.faults
  one_later f s g t e is = turns_later clock is.answered

  all_later : {f : ports.Told} {s : KnownCollector} {es : List ConnectionEnd} {g : ports.Told} {t : KnownCollector} → AreServed clock f s es g t → s.store.faults ≤ t.store.faults
  all_later (none_served f s) = omega arith
  all_later (one_served f g h s t u e es is more) = let here = one_later f s g t e is in let there = all_later more in omega (arith, here, there)

  pub all_back : {f : ports.Told} {s : KnownCollector} {es : List ConnectionEnd} {g : ports.Told} {t : KnownCollector} → AreServed clock f s es g t → s.store.opened ≡ true → (last : Rows) → MayFind t.store last → BookmarksRise last final
      → AreServedBack final clock f s es g t last
  all_back (none_served f s) opened last found rises =
      record { first = last; found = found; errors = 0; served = λ before. subst (λ (n : ℕ). AreServedBy final clock f (kept_of last s before) [] f (kept_of last s n)) (from_none before) (none_by f (kept_of last s before)); counts = nothing_counted clock s opened; rises = λ u s c. omega arith }
  all_back (one_served f g h s t u e es is more) opened last found rises =
      let then_on = all_back more (one_opened f s g t e is opened) last found rises in
      let here = one_back f s g t e then_on.first is opened then_on.found (both_rise then_on.first last final then_on.rises rises) in
      record {
        first = here.first;
        found = here.found;
        errors = then_on.errors + here.errors;
        served = λ before.
            let same : then_on.errors + (here.errors + before) ≡ (then_on.errors + here.errors) + before = omega arith in
            subst (λ (n : ℕ). AreServedBy final clock f (kept_of here.first s before) (e ∷ es) h (kept_of last u n)) same
            (one_by f g h (kept_of here.first s before) (kept_of then_on.first t (here.errors + before)) (kept_of last u (then_on.errors + (here.errors + before))) e es (here.served before) (then_on.served (here.errors + before)));
        counts = both_counted clock s t u here.errors then_on.errors (all_later more) here.counts then_on.counts;
        rises = both_rise here.first then_on.first last here.rises then_on.rises;
      }

-- ---- how it ends

-- What ends it, over rows, back from those that are found behind it.
record EndsBack (EndsBy : Kept → Kept → Type 0) (s t : KnownCollector) (last : Rows) : Type 0 where
  first : Rows
  found : MayFind s.store first
  errors : ℕ
  ends : EndsBy (kept_of first s 0) (kept_of last t errors)
  counts : AreCounted s t errors

module _ (clock : Option ℕ) (last : Rows) where
  rises_itself : BookmarksRise last last
  rises_itself = λ u s c. omega arith

  plain : (f : ports.Told) (s : KnownCollector) (es : List ConnectionEnd) (g : ports.Told) (t : KnownCollector) (back : AreServedBack last clock f s es g t last)
      → AreServedBy last clock f (kept_of back.first s 0) es g (kept_of last t back.errors)
  plain f s es g t back =
      let same : back.errors + 0 ≡ back.errors = omega arith in
      subst (λ (n : ℕ). AreServedBy last clock f (kept_of back.first s 0) es g (kept_of last t n)) same (back.served 0)

  last_back : (told : List ℕ) (out : Told) (f g : ports.Told) (s t : KnownCollector) (count bytes : ℕ) → IsTheLast (AreServed clock) told out f s g t count bytes → s.store.opened ≡ true → MayFind t.store last
      → EndsBack (λ k l. IsTheLast (AreServedBy last clock) told out f k g l count bytes) s t last
  last_back told out f g s t count bytes is opened found =
      let back = all_back last clock is.served opened last found rises_itself in
      record {
        first = back.first;
        found = back.found;
        errors = back.errors;
        ends = record { told_whole = is.told_whole; last = is.last; within = is.within; served = plain f s (is.told_whole ++ is.last ∷ []) g t back; lines = is.lines };
        counts = back.counts;
      }

  serving_back : (told : List ℕ) (count : ℕ) (ending : Ending) (out : Told) (f g : ports.Told) (s t : KnownCollector) → ServingEnds clock told count ending out f s g t → s.store.opened ≡ true → MayFind t.store last
      → EndsBack (λ k l. ServingEndsBy (AreServedBy last clock) told count ending out f k g l) s t last
  serving_back told count ends.Done out f g s t (es, long, are) opened found =
      let back = all_back last clock are.served opened last found rises_itself in
      record {
        first = back.first;
        found = back.found;
        errors = back.errors;
        ends = (es, long, record { served = plain f s es g t back; tellable = are.tellable; lines = are.lines });
        counts = back.counts;
      }
  serving_back told count ends.ListeningFailed out f g s t (es, below, h, are, refused, rose, refusals) opened found =
      let back = all_back last clock are.served opened last found rises_itself in
      record {
        first = back.first;
        found = back.found;
        errors = back.errors;
        ends = (es, below, h, record { served = plain f s es h t back; tellable = are.tellable; lines = are.lines }, refused, rose, refusals);
        counts = back.counts;
      }
  serving_back told count ends.NoMemory out f g s t is opened found = last_back told out f g s t count 0 is opened found
  serving_back told count ends.OutputFailed out f g s t (failed, bytes, is) opened found =
      let back = last_back told out f g s t count bytes is opened found in
      record { first = back.first; found = back.found; errors = back.errors; ends = (failed, bytes, back.ends); counts = back.counts }
  serving_back told count _ out f g s t never opened found = absurd never

  -- nothing was served
  unserved : (EndsBy : Kept → Kept → Type 0) (s t : KnownCollector) → t ≡ s → s.store.opened ≡ true → MayFind t.store last → ((k l : Kept) → l ≡ k → EndsBy k l) → EndsBack EndsBy s t last
  unserved EndsBy s t same opened found gives = record {
    first = last;
    found = subst (λ (c : KnownCollector). MayFind c.store last) same found;
    errors = 0;
    ends = gives (kept_of last s 0) (kept_of last t 0) (ap (λ (c : KnownCollector). kept_of last c 0) same);
    counts = subst (λ (c : KnownCollector). AreCounted s c 0) (sym same) (nothing_counted clock s opened);
  }

  telling_back : (told : List ℕ) (count : ℕ) (ending : Ending) (out : Told) (f g : ports.Told) (s t : KnownCollector) → TellingEnds clock told count ending out f s g t → s.store.opened ≡ true → MayFind t.store last
      → EndsBack (λ k l. TellingEndsBy (AreServedBy last clock) told count ending out f k g l) s t last
  telling_back told count ending out f g s t (inl (is, failed, part, front, same)) opened found =
      unserved (λ k l. TellingEndsBy (AreServedBy last clock) told count ending out f k g l) s t same opened found (λ k l kept. inl (is, failed, part, front, kept))
  telling_back told count ending out f g s t (inr serving) opened found =
      let back = serving_back told count ending out f g s t serving opened found in
      record { first = back.first; found = back.found; errors = back.errors; ends = inr back.ends; counts = back.counts }

  listening_back : (address : List ℕ) (count : ℕ) (ending : Ending) (out : Told) (f g : ports.Told) (s t : KnownCollector) → ListeningEnds clock address count ending out f s g t → s.store.opened ≡ true → MayFind t.store last
      → EndsBack (λ k l. ListeningEndsBy (AreServedBy last clock) address count ending out f k g l) s t last
  listening_back address count ending out f g s t (inl (is, refused, unwritten, same)) opened found =
      unserved (λ k l. ListeningEndsBy (AreServedBy last clock) address count ending out f k g l) s t same opened found (λ k l kept. inl (is, refused, unwritten, kept))
  listening_back address count ending out f g s t (inr telling) opened found =
      let back = telling_back (listening_line address) count ending out (with_address address f) g s t telling opened found in
      record { first = back.first; found = back.found; errors = back.errors; ends = inr back.ends; counts = back.counts }

-- ---- the run

-- rows that stand, told as those that were found
pub only_found : (before : Store) (found rows : Rows) → Stand before found → IfSome before.images (λ old. IsOneOf old rows) → rows ≡ found
only_found before found rows stand one = subst (λ (o : Option (List Rows)). IfSome o (λ old. IsOneOf old rows)) (image_of before found stand) one

-- a store that is as it was
pub still_found : (before now : Store) (last : Rows) → now ≡ before → MayFind now last → IfSome before.images (λ old. IsOneOf old last)
still_found before now last same may = by before.images (subst (λ (store : Store). MayFind store last) same may)
  where
    by : (o : Option (List Rows)) → WhereTold o (λ images. IsOneOf images last) → IfSome o (λ old. IsOneOf old last)
    by None may = absurd may
    by (Some images) may = may

not_started : (ending : Ending) (out : Told) (f g : ports.Told) (before now : Store) (fault : CollectorFault) → Starts (Err fault) before now → ending ≡ store_ending fault → IsUnwritten out → g ≡ f
    → (found last : Rows) → Stand before found → MayFind now last → IsNotStarted ending out f g found last
not_started ending out f g before now fault start is unwritten same found last stand may =
    let back = which_found (λ rows. GoesOver collector_store boot_effect memory_begun (Err fault) rows last) before.images
    (goes_over collector_store AreFormed boot_effect memory_begun before now last (Err fault) start.0 start.2 may) in
    (unwritten, same, inr (fault, is, start.1, subst (λ (rows : Rows). GoesOver collector_store boot_effect memory_begun (Err fault) rows last) (only_found before found back.0 stand back.1) back.2))

-- rows of their form are so behind a start
pub good_start : (before mid : Store) (memory : Memory) (found : Rows) → Starts (Ok memory) before mid → Stand before found → AreFormed found → AreGood mid
good_start before mid memory found start stand formed =
    let stays = subst (λ (o : Option (List Rows)). IfSome o (λ old. AllByRecursion AreFormed old → IfSome mid.images (AllByRecursion AreFormed))) (image_of before found stand) start.0.formed in
    stays (formed, tt)

was_started : (address : List ℕ) (count : ℕ) (ending : Ending) (out : Told) (clock : Option ℕ) (f g : ports.Told) (before mid now : Store) (memory memory_now : Memory) → Starts (Ok memory) before mid
    → ListeningEnds clock address count ending out f (record { store = mid; memory = memory }) g (record { store = now; memory = memory_now })
    → (found last : Rows) → Stand before found → MayFind now last → IsStarted address count ending out clock f g before now found last
was_started address count ending out clock f g before mid now memory memory_now start listens found last stand may =
    let back = listening_back clock last address count ending out f g (record { store = mid; memory = memory }) (record { store = now; memory = memory_now }) listens start.0.ready.0 may in
    let told : mid.rows ≡ Some back.first = calm_rows mid.rows mid.images back.first start.2.both (start.2.only start.0.ready.1) back.found in
    let rows : back.first ≡ started found = started_so before mid memory found back.first start stand told in
    let did = from_one before mid found back.first (Did collector_store AreFormed boot_effect memory_begun (Ok memory) before mid) stand told start.0.did in
    let kept : kept_of back.first (record { store = mid; memory = memory }) 0 ≡ begun found = λ i. record { rows = rows i; memory = did.answer.1 i; errors = 0 } in
    record {
      memory = memory_now;
      errors = back.errors;
      starts = could_start before mid memory found back.first start stand told;
      listens = subst (λ (k : Kept). ListeningEndsBy (AreServedBy last clock) address count ending out f k g (record { rows = last; memory = memory_now; errors = back.errors })) kept back.ends;
      counted = λ formed below.
          let later : before.faults ≤ mid.faults = start.0.faults in
          let since : mid.faults + back.errors ≤ now.faults = back.counts.counted (good_start before mid memory found start stand formed) below in
          omega (arith, later, since);
    }

pub collects_by_rows : CollectsByRows
collects_by_rows address count ending out clock f g before now (inl ((is, unwritten, same), front)) = λ found last stand may.
    inl (unwritten, front, inl (is, only_found before found last stand (still_found before now last same may)))
collects_by_rows address count ending out clock f g before now (inr (inl (fault, start, is, unwritten, same))) = λ found last stand may.
    inl (not_started ending out f g before now fault start is unwritten same found last stand may)
collects_by_rows address count ending out clock f g before now (inr (inr (mid, memory, memory_now, start, listens))) = λ found last stand may.
    inr (was_started address count ending out clock f g before mid now memory memory_now start listens found last stand may)
