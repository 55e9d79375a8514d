-- Sessions of which the first that passes a test is changed, by its place.
use Rattle.std.proofs.Common.{◌≡◌, ℕ, Bool, true, false, List, set, get_or, ap, sym, subst, Some, None}
use Rattle.std.specs.Prelude.{is_some}
use Rattle.std.specs.List.{position}
use Rattle.wef_query.specs.Order.{IsInOrder}
use Rattle.wef_source.specs.Serving.{AreKept, CanBeServed}
use Rattle.wef_source.specs.Sessions.{first_where, names_of, with_changed}
use Rattle.wef_building.specs.declared.sessions.Session.{Session}
use Rattle.wef_source.proofs.Served.{changed_served}
use Rattle.wef_source.proofs.InOrder.{changed_in_order}
use Rattle.wef_source.proofs.Places.{changed_at, changed_nowhere, first_nowhere, is_there, within_at}

-- what a change leaves, where there is one that passes
pub record IsChanged (test : Session → Bool) (change : Session → Session) (ss after : List Session) : Type 0 where
  pub there : true ≡ is_some (first_where test ss)
  pub changed : after ≡ with_changed test change ss
  pub kept : AreKept after

-- and where there is none
pub record IsAbsent (test : Session → Bool) (change : Session → Session) (ss : List Session) : Type 0 where
  pub there : false ≡ is_some (first_where test ss)
  pub changed : ss ≡ with_changed test change ss

pub changed_there : (test : Session → Bool) (change : Session → Session) → ((s : Session) → CanBeServed s → CanBeServed (change s)) → ((s : Session) → (change s).name ≡ s.name)
    → (ss : List Session) (k : ℕ) (s t : Session) → position test ss ≡ Some k → AreKept ss → s ≡ get_or ss k s → t ≡ change s → IsChanged test change ss (set ss k t)
changed_there test change covers names ss k s t at kept read made =
    let is = changed_at test change ss k s t at read made in
    record {
      there = sym (is_there test ss k s at);
      changed = is;
      kept = record {
        served = changed_served change covers ss k s t kept.served (within_at test ss k at) read made;
        in_order = subst (λ (after : List Session). IsInOrder (names_of after)) (sym is) (changed_in_order test change names ss kept.in_order);
      };
    }

pub changed_absent : (test : Session → Bool) (change : Session → Session) (ss : List Session) → position test ss ≡ None → IsAbsent test change ss
changed_absent test change ss none = record {
  there = sym (ap is_some (first_nowhere test ss none));
  changed = sym (changed_nowhere test change ss none);
}
