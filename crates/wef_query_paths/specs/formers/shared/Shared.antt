-- How a shared value is stored, so that a type may lead back to itself through one: a condition in brackets that holds
-- conditions. It has the shape of the value itself, and its one field, a counted pointer, holds it by value.
use mathlib.Core.Path.{refl}
use mathlib.Core.Former.{Former, this, const, pair, via}
use base.Stored.{gnil}
use base.Fml.{ftrue}
use denote.RattleType.{RattleType}
use denote.Memory.{part_of}
use denote.RawPtr.{Ptr}
use denote.Sharing.{nothing}
use denote.HoleLaws.{Alike}
use denote.HolePlaces.{Recodes, struct_places, laid, one_value}
use denote.Hole.Fix.{over}
use denote.Param.Weighed.{Weighed}
use denote.Model.Placed.{view_places}
use Rattle.std.specs.declared.rc.Rc.{Rc}
use Rattle.std.specs.contracts.rc.Rc as counted
use Rattle.std.specs.declared.alloc.Global.{Global}
use Rattle.std.specs.contracts.alloc.Global as global
use Rattle.std.specs.contracts.impls.GlobalAllocator.TheImpl.{ghosts}
use Rattle.wef_query_paths.specs.declared.shared.Shared.TheInside.{Inside}
use Rattle.wef_query_paths.specs.declared.shared.Shared.TheView.{view, invariant}
use Rattle.wef_query_paths.specs.contracts.shared.Shared as outside
use Rattle.wef_query_paths.specs.contracts.shared.Shared.TheInside as inside

abbrev pub the_former : Former {0} → Former {0}
the_former item = item

abbrev pub the_weighed : {item : Former {0}} → Weighed item → Weighed (the_former item)
the_weighed weight = weight

-- the one field: where the counts are, and the value
abbrev fields : Former {0}
fields = via (pair (const Ptr) this) Inside (λ X s. (s.value.ptr, s.value.value)) (λ X v. record { value = record { ptr = v.0; value = v.1 } }) (λ X s. refl) (λ X v. refl)

abbrev holding : {X Y : Type 0} → Rc X Global → Y → Rc Y Global
holding rc y = record { ptr = rc.ptr; value = y }

abbrev counted_row : RattleType → RattleType
counted_row R = counted.the_row R global.the_row ghosts

module _ (R S : RattleType) (h : R.Denot → S.Denot) where
  counted_places : Alike R S h → Alike (counted_row R) (counted_row S) (λ rc. holding rc (h rc.value))
  unfolding part_of
  counted_places alike = record {
    mir_same = λ i. (counted_row (one_value R (alike.mir_same i) (λ _. ftrue) (λ _ _. nothing) gnil)).mir;
    own_same = λ rc i. (counted_row (one_value R (alike.mir_same i) (alike.own_same rc.value i) (alike.shr_same rc.value i) gnil)).own_val (holding rc tt);
    shr_same = λ rc i. (counted_row (one_value R (alike.mir_same i) (alike.own_same rc.value i) (alike.shr_same rc.value i) gnil)).shr_at (holding rc tt);
  }

  pub the_places : Alike R S h → Alike (outside.the_row R) (outside.the_row S) ((the_former this).map R.Denot S.Denot h)
  the_places alike =
      view_places fields this view (λ X Y k u. refl) (λ X u. refl) R.Denot S.Denot h (outside.the_row R).coded (outside.the_row S).coded
      (invariant R.Denot) (invariant S.Denot) (λ u p q. refl) (λ u p q. refl) (λ u e. tt) (λ u e. tt)
      (over (inside.the_row R)) (over (inside.the_row S))
      (struct_places (inside.the_type R) (inside.the_type S) ((λ rc. holding rc (h rc.value)), tt) _ (λ d. refl) refl (laid _ _ _ (counted_places alike), tt))

  pub the_codes_placed : Recodes R S h → Recodes (outside.the_row R) (outside.the_row S) ((the_former this).map R.Denot S.Denot h)
  the_codes_placed same x = same x
