-- The first session that passes a test, by its place.
use Rattle.std.proofs.Common.{◌≡◌, ℕ, suc, ◌+◌, ◌<◌, cond, Bool, true, false, List, [], ◌∷◌, length, get_or, set, refl, ap, sym, subst, ◌∙◌, Some, None, arith}
use Rattle.std.specs.Prelude.{is_some}
use Rattle.std.specs.List.{position, position_from, remove}
use Rattle.std.proofs.lemmas.Iterator.Adapters.{position_from-zero}
use Rattle.wef_source.specs.Sessions.{first_where, with_changed, without}
use Rattle.wef_building.specs.declared.sessions.Session.{Session}

-- the first that passes stands at a place
record Placed (test : Session → Bool) (ss : List Session) (k : ℕ) : Type 0 where
  within : k < length ss
  passes : (d : Session) → test (get_or ss k d) ≡ true
  first : (d : Session) → first_where test ss ≡ Some (get_or ss k d)
  changed : (change : Session → Session) (d : Session) → with_changed test change ss ≡ set ss k (change (get_or ss k d))
  others : without test ss ≡ remove ss k

here : (test : Session → Bool) (s : Session) (ss : List Session) → test s ≡ true → Placed test (s ∷ ss) 0
here test s ss e = record {
  within = omega arith;
  passes = λ d. e;
  first = λ d. rw e refl;
  changed = λ change d. rw e refl;
  others = rw e refl;
}

further : (test : Session → Bool) (s : Session) (ss : List Session) (k : ℕ) → test s ≡ false → Placed test ss k → Placed test (s ∷ ss) (suc k)
further test s ss k e placed = record {
  within = omega (arith, placed.within);
  passes = placed.passes;
  first = λ d. rw e (placed.first d);
  changed = λ change d. rw e (ap (λ rest. s ∷ rest) (placed.changed change d));
  others = rw e (ap (λ rest. s ∷ rest) placed.others);
}

placed_from : (test : Session → Bool) (ss : List Session) (n i : ℕ) → position_from test n ss ≡ Some i → (k : ℕ) × (i ≡ n + k) × Placed test ss k
placed_from test [] n i e = cc
placed_from test (s ∷ ss) n i e = by (placed_from test ss (n + 1) i) (test s) refl e
  where
    by : (position_from test (n + 1) ss ≡ Some i → (k : ℕ) × (i ≡ n + 1 + k) × Placed test ss k) → (b : Bool) → test s ≡ b → cond b (Some n) (position_from test (n + 1) ss) ≡ Some i → (k : ℕ) × (i ≡ n + k) × Placed test (s ∷ ss) k
    by behind true is found = let same : n ≡ i = cc in (0, omega arith, here test s ss is)
    by behind false is found =
        let rest = behind found in
        (suc rest.0, omega (arith, rest.1), further test s ss rest.0 is rest.2)

placed : (test : Session → Bool) (ss : List Session) (k : ℕ) → position test ss ≡ Some k → Placed test ss k
placed test ss k e =
    let found = placed_from test ss 0 k (sym (position_from-zero test ss) ∙ e) in
    let same : found.0 ≡ k = omega (arith, found.1) in
    subst (Placed test ss) same found.2

-- none passes
record Nowhere (test : Session → Bool) (ss : List Session) : Type 0 where
  first : first_where test ss ≡ None
  changed : (change : Session → Session) → with_changed test change ss ≡ ss
  others : without test ss ≡ ss

nowhere_from : (test : Session → Bool) (ss : List Session) (n : ℕ) → position_from test n ss ≡ None → Nowhere test ss
nowhere_from test [] n e = record { first = refl; changed = λ change. refl; others = refl }
nowhere_from test (s ∷ ss) n e = by (nowhere_from test ss (n + 1)) (test s) refl e
  where
    by : (position_from test (n + 1) ss ≡ None → Nowhere test ss) → (b : Bool) → test s ≡ b → cond b (Some n) (position_from test (n + 1) ss) ≡ None → Nowhere test (s ∷ ss)
    by behind true is none = cc
    by behind false is none =
        let rest = behind none in
        record {
          first = rw is rest.first;
          changed = λ change. rw is (ap (λ more. s ∷ more) (rest.changed change));
          others = rw is (ap (λ more. s ∷ more) rest.others);
        }

nowhere : (test : Session → Bool) (ss : List Session) → position test ss ≡ None → Nowhere test ss
nowhere test ss e = nowhere_from test ss 0 (sym (position_from-zero test ss) ∙ e)

pub first_at : (test : Session → Bool) (ss : List Session) (k : ℕ) (s : Session) → position test ss ≡ Some k → s ≡ get_or ss k s → first_where test ss ≡ Some s
first_at test ss k s e read = (placed test ss k e).first s ∙ ap Some (sym read)

pub changed_at : (test : Session → Bool) (change : Session → Session) (ss : List Session) (k : ℕ) (s t : Session) → position test ss ≡ Some k
    → s ≡ get_or ss k s → t ≡ change s → set ss k t ≡ with_changed test change ss
changed_at test change ss k s t e read made =
    ap (set ss k) (made ∙ ap change read) ∙ sym ((placed test ss k e).changed change s)

pub without_at : (test : Session → Bool) (ss : List Session) (k : ℕ) → position test ss ≡ Some k → remove ss k ≡ without test ss
without_at test ss k e = sym (placed test ss k e).others

pub is_there : (test : Session → Bool) (ss : List Session) (k : ℕ) (s : Session) → position test ss ≡ Some k → is_some (first_where test ss) ≡ true
is_there test ss k s e = ap is_some ((placed test ss k e).first s)

pub first_nowhere : (test : Session → Bool) (ss : List Session) → position test ss ≡ None → first_where test ss ≡ None
first_nowhere test ss e = (nowhere test ss e).first

pub changed_nowhere : (test : Session → Bool) (change : Session → Session) (ss : List Session) → position test ss ≡ None → with_changed test change ss ≡ ss
changed_nowhere test change ss e = (nowhere test ss e).changed change

pub without_nowhere : (test : Session → Bool) (ss : List Session) → position test ss ≡ None → without test ss ≡ ss
without_nowhere test ss e = (nowhere test ss e).others

pub within_at : (test : Session → Bool) (ss : List Session) (k : ℕ) → position test ss ≡ Some k → k < length ss
within_at test ss k e = (placed test ss k e).within

pub passes_at : (test : Session → Bool) (ss : List Session) (k : ℕ) (s : Session) → position test ss ≡ Some k → s ≡ get_or ss k s → test s ≡ true
passes_at test ss k s e read = subst (λ x. test x ≡ true) (sym read) ((placed test ss k e).passes s)

-- two readings of the place are one session
pub same_session : (test : Session → Bool) (ss : List Session) (k : ℕ) (s t : Session) → position test ss ≡ Some k → s ≡ get_or ss k s → t ≡ get_or ss k t → s ≡ t
same_session test ss k s t e read again =
    let first = first_at test ss k s e read in
    let second = first_at test ss k t e again in
    cc
