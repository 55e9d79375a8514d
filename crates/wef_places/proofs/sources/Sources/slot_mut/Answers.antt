use Rattle.std.proofs.Common.{ap, subst, sym, ◌∙◌}
use Rattle.std.specs.FinMap.{from_entries, get, insert}
use Rattle.std.specs.Option.{IsSome}
use Rattle.wef_machine.proofs.NameMaps.{get_given, one_given}
use Rattle.wef_places.proofs.Lent.{lent_alike}
use Rattle.wef_places.proofs.sources.Sources.slot_mut.Goals as goal

pub returns : goal.returns
returns c =
    let slots = c.self.inside.slots in
    let lent = c.get_mut.follows in
    let name = c.args.name.now in (
      lent_alike c.get_mut.result (λ w. from_entries (lent.lender w).entries) (insert c.args.self.now name) (from_entries lent.lender-at-none.entries) c.args.self.now
          (λ some w. one_given slots.entries (lent.lender w).entries name w ((lent.holds w).3 (subst IsSome c.get_mut.ensures.value some)).0 ∙ ap (λ m. insert m name w) c.self.view_is)
          (ap (λ m. from_entries m.entries) lent.holds-at-none ∙ c.self.view_is),
      record { writes_back = tt; slot = c.get_mut.ensures.value ∙ sym (get_given slots.entries name) ∙ ap (λ m. get m name) c.self.view_is },
    )
