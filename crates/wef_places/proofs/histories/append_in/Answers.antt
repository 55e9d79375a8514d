use Rattle.std.proofs.Common.{[], ◌∷◌, ◌++◌, List, ℕ, subst, sym, ap, ◌∙◌, refl, Some, None, IsSome}
use Rattle.std.specs.FinMap as map
use Rattle.wef_source_log.specs.Histories.{extended}
use Rattle.wef_machine.proofs.NameMaps.{extended_given, given_at}
use Rattle.wef_places.proofs.histories.append_in.Goals as goal

pub returns-in-Some-clause-ok : goal.returns-in-Some-clause-ok
returns-in-Some-clause-ok c =
    let before = c.in-Some.texts.now in
    let wrote = c.get_mut.follows.holds c.push.new.self in
    let there = subst IsSome c.in-Some.ensures.value refl in
    let longer = c.in_ok-push.ensures.ok ∙ ap (λ (t : List ℕ). before ++ t ∷ []) c.in_ok-clone.ensures in
    extended_given _ _ _ c.args.text.now _ (Some before) c.in-Some.ensures.value longer (wrote.3 there).0

pub returns-clause-ok : goal.returns-clause-ok
returns-clause-ok c =
    let key = c.in_ok-clone-2.field-0 in
    let kept = c.get_mut.follows.lender-at-none in
    let same = c.get_mut.follows.holds-at-none in
    let absent = c.in_default.ensures.value ∙ ap (given_at c.args.records.now.entries) (sym c.in_ok-clone-2.ensures) ∙ ap (λ m. given_at m.entries key) (sym same) in
    let put = extended_given kept.entries c.insert.new.self.entries key c.args.text.now c.in_ok-one_record.field-0 None absent c.in_ok-one_record.ensures c.in_ok-insert.ensures.updates.0 in
    put ∙ ap (λ m. extended (map.from_entries m.entries) key c.args.text.now) same ∙ ap (λ s. extended (map.from_entries c.args.records.now.entries) s c.args.text.now) c.in_ok-clone-2.ensures
