-- Requests sent one after the other.
use Rattle.std.proofs.Common.{◌≡◌, ◌⊎◌, inl, inr, ℕ, ◌+◌, ◌-◌, ◌<◌, ◌≤◌, List, [], ◌∷◌, ◌++◌, length, refl, ap, sym, subst, ◌∙◌, append_assoc, append-nil, arith}
use Rattle.std.proofs.KnownBytes.{Appends-kept}
use Rattle.std.specs.Io.KnownBytes.{Appends, Keeps}
use Rattle.std.specs.List.{flat_map}
use Rattle.std.specs.Prelude.{Option, Some, None, Result, Ok, Err}
use Rattle.wef_commands.proofs.Written.{both, nothing}
use Rattle.wef_commands.specs.Endings.{Told}
use Rattle.wef_commands.specs.declared.ending.Ending.{Ending}
use Rattle.wef_requesting.specs.declared.requesting.Sent.{Sent}
use Rattle.wef_subscribing.proofs.Behind.{done_from, stops_from}
use Rattle.wef_subscribing.specs.Requesting.{AreRequestedBy, EndsAtBy, RequestsAllBy, Requesting, StopsBy, TellsDone, request_line}

-- that it is done is told behind nothing else
pub done_behind : (a b c : Option (List ℕ)) (f g h : ℕ) (ending : Ending) → f ≤ g → Keeps a b → TellsDone ending (record { before = b; after = c; faults_before = g; faults_after = h })
    → TellsDone ending (record { before = a; after = c; faults_before = f; faults_after = h })
done_behind a b c f g h ending below kept done = done_from a b c f g h [] below (Appends-kept a a b [] (nothing a) kept) ending [] done

module _ {S : Type 0} (Requested : Requesting S) where
  -- Some requests were sent and told, and so many may still be.
  pub record IsRequestedTo (count left : ℕ) (taken taken' : Option (List ℕ)) (before now : S) : Type 0 where
    pub sent : List Sent
    pub are_sent : AreRequestedBy Requested sent before now
    pub counted : length sent + left ≡ count
    pub told : Appends taken taken' (flat_map request_line sent)

  pub none_sent : (count : ℕ) (taken : Option (List ℕ)) (before : S) → IsRequestedTo count count taken taken before before
  none_sent count taken before = record { sent = []; are_sent = refl; counted = omega arith; told = nothing taken }

  sent_more : (xs : List Sent) (x : Sent) (before mid now : S) → AreRequestedBy Requested xs before mid → Requested (Ok (Some x)) mid now → AreRequestedBy Requested (xs ++ x ∷ []) before now
  sent_more [] x before mid now same requested = (now, subst (λ (s : S). Requested (Ok (Some x)) s now) same requested, refl)
  sent_more (y ∷ ys) x before mid now all requested = (all.0, all.1, sent_more ys x all.0 mid now all.2 requested)

  length_more : (xs : List Sent) (x : Sent) → length (xs ++ x ∷ []) ≡ length xs + 1
  length_more [] x = refl
  length_more (y ∷ ys) x = let more = length_more ys x in omega (arith, more)

  text_more : (xs : List Sent) (x : Sent) → flat_map request_line (xs ++ x ∷ []) ≡ flat_map request_line xs ++ request_line x
  text_more [] x = append-nil (request_line x)
  text_more (y ∷ ys) x = ap (λ (text : List ℕ). request_line y ++ text) (text_more ys x) ∙ sym (append_assoc (request_line y) (flat_map request_line ys) (request_line x))

  -- one request more
  pub one_sent : (count left less : ℕ) (x : Sent) (a b c : Option (List ℕ)) (before mid now : S) → IsRequestedTo count left a b before mid → less + 1 ≡ left
      → Requested (Ok (Some x)) mid now → Appends b c (request_line x) → IsRequestedTo count less a c before now
  one_sent count left less x a b c before mid now so_far one requested tells = record {
    sent = so_far.sent ++ x ∷ [];
    are_sent = sent_more so_far.sent x before mid now so_far.are_sent requested;
    counted = let long = length_more so_far.sent x in let all = so_far.counted in omega (arith, long, all, one);
    told = subst (Appends a c) (sym (text_more so_far.sent x)) (both a b c (flat_map request_line so_far.sent) (request_line x) so_far.told tells);
  }

  within : (n left count : ℕ) → n + left ≡ count → n ≤ count
  within n left count is = omega (arith, is)

  rest : (n left count : ℕ) → n + left ≡ count → left ≡ count - n
  rest n left count is = omega (arith, is)

  -- it ends behind what was sent
  pub stopped : (count left : ℕ) (ending : Ending) (a b c : Option (List ℕ)) (f g h : ℕ) (before mid now : S) → IsRequestedTo count left a b before mid → f ≤ g
      → StopsBy Requested left [] ending (record { before = b; after = c; faults_before = g; faults_after = h }) mid now
      → RequestsAllBy Requested count ending (record { before = a; after = c; faults_before = f; faults_after = h }) before now
  stopped count left ending a b c f g h before mid now so_far below stops =
      let out : Told = record { before = a; after = c; faults_before = f; faults_after = h } in
      let text = flat_map request_line so_far.sent in
      record {
        sent = so_far.sent;
        mid = mid;
        are_sent = so_far.are_sent;
        within = within (length so_far.sent) left count so_far.counted;
        stops =
            subst (λ (n : ℕ). StopsBy Requested n text ending out mid now) (rest (length so_far.sent) left count so_far.counted)
            (subst (λ (t : List ℕ). StopsBy Requested left t ending out mid now) (append-nil text) (stops_from a b c f g h text below so_far.told Requested left ending [] mid now stops));
      }

  -- none may be sent any more
  pub all_sent : (out : Told) (ending : Ending) (now : S) → TellsDone ending out → StopsBy Requested 0 [] ending out now now
  all_sent out ending now done = inl (inl (refl, refl), done)

  -- none is due
  pub none_due : (left : ℕ) (out : Told) (ending : Ending) (before now : S) → 0 < left → Requested (Ok None) before now → TellsDone ending out → StopsBy Requested left [] ending out before now
  none_due left out ending before now some requested done = inl (inr (some, requested), done)
