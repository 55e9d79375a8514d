-- Messages sent one after the other.
use Rattle.std.proofs.Common.{◌≡◌, ℕ, ◌+◌, ◌≤◌, ◌<◌, ◌==◌, ◌-◌, Bool, true, false, cond, List, [], ◌∷◌, ◌++◌, length, take, refl, ap, sym, subst, ◌∙◌, append_assoc, append-nil, arith, inl, inr}
use Rattle.std.proofs.lemmas.Bool.Decides.{nat_tests}
use Rattle.std.specs.List.{flat_map}
use Rattle.std.specs.Prelude.{Option, Some, None, Ok, slice_get}
use Rattle.std.specs.Io.KnownBytes.{Appends}
use Rattle.wef_forwarding.specs.declared.forwarding.Exchange.{Exchange}
use Rattle.wef_forwarding.specs.declared.forwarding.Exchange.TheVariants.{Nothing, Acked, Heard, Refused, Lost}
use Rattle.wef_commands.specs.Endings.{Told}
use Rattle.wef_commands.specs.Writing.{IsUntold}
use Rattle.wef_commands.specs.declared.ending.Ending.{Ending}
use Rattle.wef_commands.specs.declared.ending.Ending.TheVariants as ends
use Rattle.wef_commands.proofs.LinesWritten.{rose_later}
use Rattle.wef_commands.proofs.Written.{both, nothing}
use Rattle.wef_running.specs.Forwarding.{AreSent, EndsAt, EndsBefore, EndsDone, IsSent, Plan, Running, SendsAll, behind, behind_all, done_line, line_of, next}

-- ---- what was sent so far

-- Some messages were sent and told, and this is left.
pub record IsSentTo (clock : Option ℕ) (plan left : Plan) (taken taken' : Option (List ℕ)) (before now : Running) : Type 0 where
  pub sent : List (List ℕ × Exchange)
  pub are_sent : AreSent clock plan sent before now
  pub behind_them : behind_all sent plan ≡ left
  pub told : Appends taken taken' (flat_map line_of sent)

pub none_sent : (clock : Option ℕ) (plan : Plan) (taken : Option (List ℕ)) (before : Running) → IsSentTo clock plan plan taken taken before before
none_sent clock plan taken before = record { sent = []; are_sent = refl; behind_them = refl; told = nothing taken }

sent_more : (clock : Option ℕ) (plan : Plan) (xs : List (List ℕ × Exchange)) (u : List ℕ) (e : Exchange) (before mid now : Running)
    → AreSent clock plan xs before mid → next (behind_all xs plan) ≡ Some u → IsSent clock u (Ok e) mid now → AreSent clock plan (xs ++ (u, e) ∷ []) before now
sent_more clock plan [] u e before mid now same is sends = (is, (now, subst (λ (s : Running). IsSent clock u (Ok e) s now) same sends, refl))
sent_more clock plan (x ∷ xs) u e before mid now all is sends =
    (all.0, (all.1.0, all.1.1, sent_more clock (behind x.1 plan) xs u e all.1.0 mid now all.1.2 is sends))

behind_more : (plan : Plan) (xs : List (List ℕ × Exchange)) (x : List ℕ × Exchange) → behind_all (xs ++ x ∷ []) plan ≡ behind x.1 (behind_all xs plan)
behind_more plan [] x = refl
behind_more plan (y ∷ ys) x = behind_more (behind y.1 plan) ys x

text_more : (xs : List (List ℕ × Exchange)) (x : List ℕ × Exchange) → flat_map line_of (xs ++ x ∷ []) ≡ flat_map line_of xs ++ line_of x
text_more [] x = append-nil (line_of x)
text_more (y ∷ ys) x = ap (λ (text : List ℕ). line_of y ++ text) (text_more ys x) ∙ sym (append_assoc (line_of y) (flat_map line_of ys) (line_of x))

-- one message more
pub one_sent : (clock : Option ℕ) (plan left : Plan) (u : List ℕ) (e : Exchange) (a b c : Option (List ℕ)) (before mid now : Running)
    → IsSentTo clock plan left a b before mid → next left ≡ Some u → IsSent clock u (Ok e) mid now → Appends b c (line_of (u, e)) → IsSentTo clock plan (behind e left) a c before now
one_sent clock plan left u e a b c before mid now so_far is sends tells = record {
  sent = so_far.sent ++ (u, e) ∷ [];
  are_sent = sent_more clock plan so_far.sent u e before mid now so_far.are_sent (ap next so_far.behind_them ∙ is) sends;
  behind_them = behind_more plan so_far.sent (u, e) ∙ ap (behind e) so_far.behind_them;
  told = subst (Appends a c) (sym (text_more so_far.sent (u, e))) (both a b c (flat_map line_of so_far.sent) (line_of (u, e)) so_far.told tells);
}

-- ---- behind a text that was written

module _ (a b c : Option (List ℕ)) (f g h : ℕ) (front : List ℕ) (below : f ≤ g) (told : Appends a b front) where
  abbrev whole : Told
  whole = record { before = a; after = c; faults_before = f; faults_after = h }

  abbrev later : Told
  later = record { before = b; after = c; faults_before = g; faults_after = h }

  more : (text line : List ℕ) → Appends b c (text ++ line) → Appends a c ((front ++ text) ++ line)
  more text line tells = subst (Appends a c) (sym (append_assoc front text line)) (both a b c front (text ++ line) told tells)

  untold_from : (ending : Ending) (text line : List ℕ) → IsUntold ending later text line → IsUntold ending whole (front ++ text) line
  untold_from ends.OutputFailed text line (rose, (m, part)) = (rose_later f g h below rose, (m, more text (take m line) part))
  untold_from ends.NoMemory text line part = both a b c front text told part
  untold_from _ text line part = absurd part

  done_from : (ending : Ending) (text : List ℕ) → EndsDone text ending later → EndsDone (front ++ text) ending whole
  done_from ends.Done text tells = more text done_line tells
  done_from ends.OutputFailed text untold = untold_from ends.OutputFailed text done_line untold
  done_from ends.NoMemory text untold = untold_from ends.NoMemory text done_line untold
  done_from _ text untold = absurd untold

  at_from : (clock : Option ℕ) (u : List ℕ) (ending : Ending) (text : List ℕ) (before now : Running) → EndsAt clock u text ending later before now → EndsAt clock u (front ++ text) ending whole before now
  at_from clock u ending text before now (inl (fault, sends, is, tells)) = inl (fault, sends, is, both a b c front text told tells)
  at_from clock u ending text before now (inr (e, sends, untold)) = inr (e, sends, untold_from ending text (line_of (u, e)) untold)

  before_from : (clock : Option ℕ) (o : Option (List ℕ)) (ending : Ending) (text : List ℕ) (before now : Running)
      → EndsBefore clock o text ending later before now → EndsBefore clock o (front ++ text) ending whole before now
  before_from clock None ending text before now stops = (done_from ending text stops.0, stops.1)
  before_from clock (Some u) ending text before now stops = at_from clock u ending text before now stops

  -- all that is sent behind a text
  pub all_from : (clock : Option ℕ) (plan : Plan) (ending : Ending) (before now : Running) → SendsAll clock plan [] ending later before now → SendsAll clock plan front ending whole before now
  all_from clock plan ending before now all = record {
    sent = all.sent;
    mid = all.mid;
    are_sent = all.are_sent;
    stops = before_from clock (next (behind_all all.sent plan)) ending (flat_map line_of all.sent) all.mid now all.stops;
  }

-- it ends behind what was sent
pub stopped : (clock : Option ℕ) (plan left : Plan) (o : Option (List ℕ)) (ending : Ending) (a b c : Option (List ℕ)) (f g h : ℕ) (before mid now : Running)
    → IsSentTo clock plan left a b before mid → f ≤ g → next left ≡ o
    → EndsBefore clock o [] ending (record { before = b; after = c; faults_before = g; faults_after = h }) mid now
    → SendsAll clock plan [] ending (record { before = a; after = c; faults_before = f; faults_after = h }) before now
stopped clock plan left o ending a b c f g h before mid now so_far below is stops =
    let out : Told = record { before = a; after = c; faults_before = f; faults_after = h } in
    let text = flat_map line_of so_far.sent in
    record {
      sent = so_far.sent;
      mid = mid;
      are_sent = so_far.are_sent;
      stops =
          subst (λ (u : Option (List ℕ)). EndsBefore clock u text ending out mid now) (sym (ap next so_far.behind_them ∙ is))
          (subst (λ (t : List ℕ). EndsBefore clock o t ending out mid now) (append-nil text) (before_from a b c f g h text below so_far.told clock o ending [] mid now stops));
    }

-- ---- the line that tells that it is done

pub told_done : (out : Told) → Appends out.before out.after done_line → EndsDone [] ends.Done out
told_done out tells = tells

pub untold_done : (ending : Ending) (out : Told) → IsUntold ending out [] done_line → EndsDone [] ending out
untold_done ends.OutputFailed out untold = untold
untold_done ends.NoMemory out untold = untold
untold_done _ out untold = absurd untold

-- ---- how often

-- what is left to do gets less
pub gets_less : (e : Exchange) (names : List (List ℕ)) (left : ℕ) (u : List ℕ) → next (record { names = names; left = left }) ≡ Some u
    → length (behind e (record { names = names; left = left })).names + (behind e (record { names = names; left = left })).left < length names + left
gets_less e names left u is = by (left == 0) refl is
  where
    by : (t : Bool) → (left == 0) ≡ t → cond t None (slice_get names 0) ≡ Some u
        → length (behind e (record { names = names; left = left })).names + (behind e (record { names = names; left = left })).left < length names + left
    by true zero is = cc
    by false some is = some_left names e is
      where
        some_left : (ns : List (List ℕ)) (x : Exchange) → slice_get ns 0 ≡ Some u
            → length (behind x (record { names = ns; left = left })).names + (behind x (record { names = ns; left = left })).left < length ns + left
        some_left [] x is = cc
        some_left (n ∷ ns) Nothing is = omega arith
        some_left (n ∷ ns) (Acked count) is = grind (arith, nat_tests, some)
        some_left (n ∷ ns) Heard is = grind (arith, nat_tests, some)
        some_left (n ∷ ns) Refused is = grind (arith, nat_tests, some)
        some_left (n ∷ ns) Lost is = grind (arith, nat_tests, some)
