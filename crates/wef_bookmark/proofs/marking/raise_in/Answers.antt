use Rattle.std.proofs.Common.{subst, sym, ap, ◌∙◌, arith, refl, Some, None, IsSome}
use Rattle.std.specs.FinMap as map
use Rattle.wef_bookmark.specs.Order.{raised}
use Rattle.wef_xml.proofs.Maps.{given_at}
use Rattle.wef_bookmark.proofs.Maps.{raised_given}
use Rattle.wef_bookmark.proofs.marking.raise_in.Goals as goal

pub returns-in-Some-clause-ok : goal.returns-in-Some-clause-ok
returns-in-Some-clause-ok c =
    let wrote = c.get_mut.follows.holds c.max.result in
    let there = subst IsSome c.in-Some.ensures.value refl in
    raised_given _ _ _ _ _ (Some c.in-Some.number.now) c.in-Some.ensures.value c.max.ensures (wrote.3 there).0

pub returns-clause-ok : goal.returns-clause-ok
returns-clause-ok c =
    let key = c.in_ok-clone.field-0 in
    let kept = c.get_mut.follows.lender-at-none in
    let same = c.get_mut.follows.holds-at-none in
    let absent = c.in_default.ensures.value ∙ ap (given_at c.args.numbers.now.entries) (sym c.in_ok-clone.ensures) ∙ ap (λ m. given_at m.entries key) (sym same) in
    let put = raised_given kept.entries c.insert.new.self.entries key c.args.to c.args.to None absent (omega arith) c.in_ok-insert.ensures.updates.0 in
    put ∙ ap (λ m. raised (map.from_entries m.entries) key c.args.to) same ∙ ap (λ s. raised (map.from_entries c.args.numbers.now.entries) s c.args.to) c.in_ok-clone.ensures
