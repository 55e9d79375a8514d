-- Connections that are served one after the other, put one behind the other, with their lines.
use Rattle.std.proofs.Common.{◌≡◌, ℕ, suc, ◌+◌, ◌<◌, ◌≤◌, List, [], ◌∷◌, ◌++◌, length, take, refl, ap, sym, ◌∙◌, subst, append_assoc, append-nil, arith}
use Rattle.std.proofs.KnownBytes.{Appends-kept, Appends-nil, Appends-trans}
use Rattle.std.specs.List.{AllByRecursion}
use Rattle.std.specs.Prelude.{Option}
use Rattle.std.specs.declared.result.Result.TheVariants.{Ok, Err}
use Rattle.std.specs.Io.KnownBytes.{Appends}
use Rattle.wef_base.specs.Counts.{Rose}
use Rattle.wef_collector_serving.specs.Answers.{KnownCollector}
use Rattle.wef_connections.specs.Opening.{Rises}
use Rattle.wef_ports.specs.Telling as ports
use Rattle.wef_serving.specs.declared.ends.ConnectionEnd.{ConnectionEnd}
use Rattle.wef_serving.specs.declared.ends.ConnectionEnd.TheVariants as over
use Rattle.wef_commands.specs.Endings.{Told}
use Rattle.wef_commands.specs.declared.ending.Ending.{Ending}
use Rattle.wef_commands.specs.declared.ending.Ending.TheVariants as ends
use Rattle.wef_running.specs.Collecting.{AreServed, IsServed, IsTellable, IsTheLast, RoseBy, ServingEnds, TurnEnds, connection_line, failed_among, lines_from}
use Rattle.wef_running.specs.Collecting.{none_served, one_served}

-- ---- counts

pub rose_by_none : (a : ℕ) → RoseBy 0 a a
rose_by_none a = omega arith

pub rose_by_later : (n a b c : ℕ) → a ≤ b → RoseBy n b c → RoseBy n a c
rose_by_later n a b c first next = omega arith

pub rose_by_one : (n a b c : ℕ) → Rose a b → RoseBy n b c → RoseBy (suc n) a c
rose_by_one n a b c first next = omega arith

pub rose_by_last : (n a b c : ℕ) → RoseBy n a b → Rises b c → RoseBy (suc n) a c
rose_by_last n a b c first next = omega arith

-- what is known of one connection's end, for the count of those that failed
counted : (clock : Option ℕ) (f g : ports.Told) (s t : KnownCollector) (e : ConnectionEnd) (es : List ConnectionEnd) (c : ℕ)
    → IsServed clock f s g t e → RoseBy (failed_among es) g.faults c → RoseBy (failed_among (e ∷ es)) f.faults c
counted clock f g s t over.End es c is rose = rose_by_later (failed_among es) f.faults g.faults c is.later rose
counted clock f g s t over.Closed es c is rose = rose_by_later (failed_among es) f.faults g.faults c is.later rose
counted clock f g s t (over.Refused status) es c is rose = rose_by_later (failed_among es) f.faults g.faults c is.later rose
counted clock f g s t over.Cut es c is rose = rose_by_later (failed_among es) f.faults g.faults c is.later rose
counted clock f g s t over.PortFailed es c is rose = rose_by_one (failed_among es) f.faults g.faults c (is.fault refl) rose
counted clock f g s t over.NoMemory es c is rose = rose_by_later (failed_among es) f.faults g.faults c is.later rose

module _ (clock : Option ℕ) where
  all_counted : {f g : ports.Told} {s t : KnownCollector} {es : List ConnectionEnd} → AreServed clock f s es g t → RoseBy (failed_among es) f.faults g.faults
  all_counted (none_served f s) = rose_by_none f.faults
  all_counted (one_served f g h s t u e es is are) = counted clock f g s t e es h.faults is (all_counted are)

  -- no connection that is served counts as a refusal
  same_refusals : {f g : ports.Told} {s t : KnownCollector} {es : List ConnectionEnd} → AreServed clock f s es g t → g.around.refusals ≡ f.around.refusals
  same_refusals (none_served f s) = refl
  same_refusals (one_served f g h s t u e es is are) = same_refusals are ∙ ap (λ (a : ports.Around). a.refusals) is.around

  one_more : {f g : ports.Told} {s t : KnownCollector} {es : List ConnectionEnd} (h : ports.Told) (u : KnownCollector) (e : ConnectionEnd)
      → AreServed clock f s es g t → IsServed clock g t h u e → AreServed clock f s (es ++ e ∷ []) h u
  one_more h u e (none_served f s) is = one_served f h h s u u e [] is (none_served h u)
  one_more h u e (one_served f g k s t v d es first are) is = one_served f g h s t u d (es ++ e ∷ []) first (one_more h u e are is)

-- ---- lines

length_more : (es : List ConnectionEnd) (e : ConnectionEnd) → length (es ++ e ∷ []) ≡ length es + 1
length_more [] e = refl
length_more (d ∷ es) e = let more = length_more es e in omega (arith, more)

shifted : (n m : ℕ) → suc n + m ≡ n + suc m
shifted n m = omega arith

-- a line behind those of the connections before
lines_more : (n : ℕ) (es : List ConnectionEnd) (e : ConnectionEnd) → lines_from n (es ++ e ∷ []) ≡ lines_from n es ++ connection_line (n + length es) e
lines_more n [] e = append-nil (connection_line n e) ∙ ap (λ (k : ℕ). connection_line k e) (omega arith)
lines_more n (d ∷ es) e =
    ap (λ (text : List ℕ). connection_line n d ++ text) (lines_more (suc n) es e)
    ∙ sym (append_assoc (connection_line n d) (lines_from (suc n) es) (connection_line (suc n + length es) e))
    ∙ ap (λ (k : ℕ). (connection_line n d ++ lines_from (suc n) es) ++ connection_line k e) (shifted n (length es))

tellable_more : (es : List ConnectionEnd) (e : ConnectionEnd) → AllByRecursion IsTellable es → IsTellable e → AllByRecursion IsTellable (es ++ e ∷ [])
tellable_more [] e all this = (this, tt)
tellable_more (d ∷ es) e (first, all) this = (first, tellable_more es e all this)

-- ---- turns

-- an output before and behind, and its counts
abbrev pub object : Option (List ℕ) → Option (List ℕ) → ℕ → ℕ → Told
object a b m k = record { before = a; after = b; faults_before = m; faults_after = k }

-- so many connections were served and told
abbrev pub SoFar : Option ℕ → Option (List ℕ) → Option (List ℕ) → ports.Told → KnownCollector → ℕ → ports.Told → KnownCollector → Type 0
SoFar clock a b f s n g t = (es : List ConnectionEnd) × (length es ≡ n) × AreServed clock f s es g t × AllByRecursion IsTellable es × Appends a b (lines_from 1 es)

pub none_yet : (clock : Option ℕ) (a : Option (List ℕ)) (f : ports.Told) (s : KnownCollector) → SoFar clock a a f s 0 f s
none_yet clock a f s = ([], refl, none_served f s, tt, Appends-nil a)

pub one_further : (clock now_clock : Option ℕ) (a b c : Option (List ℕ)) (m k n : ℕ) (f g h : ports.Told) (s t u : KnownCollector) → now_clock ≡ clock
    → SoFar clock a b f s n g t → TurnEnds now_clock (n + 1) (Ok tt) (object b c m k) g t h u → SoFar clock a c f s (n + 1) h u
one_further clock now_clock a b c m k n f g h s t u same (es, long, served, tellable, lines) (e, is, (line, told)) =
    let is_now : IsServed clock g t h u e = subst (λ (told : Option ℕ). IsServed told g t h u e) same is in
    let number : n + 1 ≡ 1 + length es = omega (arith, long) in (
      es ++ e ∷ [],
      length_more es e ∙ ap (λ (l : ℕ). l + 1) long,
      one_more clock h u e served is_now,
      tellable_more es e tellable told,
      subst (Appends a c) (sym (lines_more 1 es e ∙ ap (λ (l : ℕ). lines_from 1 es ++ connection_line l e) (sym number)))
          (Appends-trans a b c (lines_from 1 es) (connection_line (n + 1) e) lines line),
    )

-- a further connection was served, and told in part
last_of : (clock now_clock : Option ℕ) (a b c : Option (List ℕ)) (m k bytes count n : ℕ) (f g h : ports.Told) (s t u : KnownCollector) → now_clock ≡ clock
    → SoFar clock a b f s n g t → n < count → (e : ConnectionEnd) → IsServed now_clock g t h u e → Appends b c (take bytes (connection_line (n + 1) e))
    → IsTheLast (AreServed clock) [] (object a c m k) f s h u count bytes
last_of clock now_clock a b c m k bytes count n f g h s t u same (es, long, served, tellable, lines) below e is line =
    let number : n + 1 ≡ suc (length es) = omega (arith, long) in
    record {
      told_whole = es;
      last = e;
      within = omega (arith, long, below);
      served = one_more clock h u e served (subst (λ (told : Option ℕ). IsServed told g t h u e) same is);
      lines = Appends-trans a b c (lines_from 1 es) (take bytes (connection_line (suc (length es)) e)) lines
          (subst (λ (l : ℕ). Appends b c (take bytes (connection_line l e))) number line);
    }

failed_since : (m k l : ℕ) → m ≤ k → Rose k l → Rose m l
failed_since m k l later rose = omega arith

rises_since : (m k l : ℕ) → k ≡ m → Rises k l → Rises m l
rises_since m k l same rises = subst (λ (j : ℕ). Rises j l) same rises

-- how the turn of a connection ends all
pub turn_ends : (clock now_clock : Option ℕ) (a b c : Option (List ℕ)) (m k l count n : ℕ) (f g h : ports.Told) (s t u : KnownCollector) (ending : Ending) → now_clock ≡ clock → m ≤ k
    → SoFar clock a b f s n g t → n < count → TurnEnds now_clock (n + 1) (Err ending) (object b c k l) g t h u → ServingEnds clock [] count ending (object a c m l) f s h u
turn_ends clock now_clock a b c m k l count n f g h s t u ends.ListeningFailed same later (es, long, served, tellable, lines) below (refused, is, unwritten) = (
  es,
  omega (arith, long, below),
  g,
  record { served = subst (λ (v : KnownCollector). AreServed clock f s es g v) (sym is) served; tellable = tellable; lines = Appends-kept a b c (lines_from 1 es) lines unwritten },
  refused,
  rose_by_last (failed_among es) f.faults g.faults h.faults (all_counted clock served) refused.1,
  rises_since f.around.refusals g.around.refusals h.around.refusals (same_refusals clock served) refused.2,
)
turn_ends clock now_clock a b c m k l count n f g h s t u ends.NoMemory same later so_far below (e, is, (unwritten, told)) =
    last_of clock now_clock a b c m l 0 count n f g h s t u same so_far below e is unwritten
turn_ends clock now_clock a b c m k l count n f g h s t u ends.OutputFailed same later so_far below (e, is, ((failed, part), told)) =
    (failed_since m k l later failed, part.0, last_of clock now_clock a b c m l part.0 count n f g h s t u same so_far below e is part.1)
turn_ends clock now_clock a b c m k l count n f g h s t u _ same later so_far below (e, is, (never, told)) = absurd never

-- ---- behind what is told first

behind : (a b c : Option (List ℕ)) (told text : List ℕ) → Appends a b told → Appends b c text → Appends a c (told ++ text)
behind a b c told text first next = Appends-trans a b c told text first next

last_behind : (clock : Option ℕ) (told : List ℕ) (a b c : Option (List ℕ)) (m k l count bytes : ℕ) (f g : ports.Told) (s t : KnownCollector) → Appends a b told
    → IsTheLast (AreServed clock) [] (object b c k l) f s g t count bytes → IsTheLast (AreServed clock) told (object a c m l) f s g t count bytes
last_behind clock told a b c m k l count bytes f g s t first last = record {
  told_whole = last.told_whole;
  last = last.last;
  within = last.within;
  served = last.served;
  lines = behind a b c told (lines_from 1 last.told_whole ++ take bytes (connection_line (suc (length last.told_whole)) last.last)) first last.lines;
}

pub served_behind : (clock : Option ℕ) (told : List ℕ) (a b c : Option (List ℕ)) (m k l count : ℕ) (f g : ports.Told) (s t : KnownCollector) (ending : Ending) → m ≤ k → Appends a b told
    → ServingEnds clock [] count ending (object b c k l) f s g t → ServingEnds clock told count ending (object a c m l) f s g t
served_behind clock told a b c m k l count f g s t ends.Done later first (es, long, are) =
    (es, long, record { served = are.served; tellable = are.tellable; lines = behind a b c told (lines_from 1 es) first are.lines })
served_behind clock told a b c m k l count f g s t ends.ListeningFailed later first (es, below, h, are, refused, rose, rises) =
    (es, below, h, record { served = are.served; tellable = are.tellable; lines = behind a b c told (lines_from 1 es) first are.lines }, refused, rose, rises)
served_behind clock told a b c m k l count f g s t ends.NoMemory later first last = last_behind clock told a b c m k l count 0 f g s t first last
served_behind clock told a b c m k l count f g s t ends.OutputFailed later first (failed, bytes, last) =
    (failed_since m k l later failed, bytes, last_behind clock told a b c m k l count bytes f g s t first last)
served_behind clock told a b c m k l count f g s t _ later first never = absurd never
