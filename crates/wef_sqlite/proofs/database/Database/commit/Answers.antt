-- What is told is what the commit made of it, or what it may have made.
use Rattle.std.proofs.Common.{◌≡◌, ◌∙◌, false, Option, OnErr, OnOk, ap, is_err, subst, subst₂, sym}
use Rattle.wef_keeper.specs.Keeping.{Follows}
use Rattle.wef_keeper.specs.Rows.{applied}
use Rattle.wef_sqlite.proofs.DatabaseLemmas.{done_follows, failed_follows, told_committed}
use Rattle.wef_sqlite.proofs.database.Database.commit.Goals as goal
use Rattle.wef_sqlite.specs.Telling.{AreTold, Known, Told, held_in, told_at}

-- it began without doubt
certain : (g : _) (c : goal.After-self-1 g) → c.self.inside.in_doubt ≡ false
certain g c = ap (λ (k : Known _). k.doubt) c.self.view_is ∙ c.requires

-- so what was told then was so
began : (g : _) (c : goal.After-self-1 g) → AreTold g.S.Store (held_in c.self.inside.place) (told_at g.S.Store c.self.inside.place c.self.inside.seen false) false
began g c = subst (λ d. AreTold g.S.Store (held_in c.self.inside.place) (told_at g.S.Store c.self.inside.place c.self.inside.seen d) d) (certain g c) c.self.invariant

-- what holds of what is told without doubt before it, and by its answer behind it, holds of what is told before and behind it
ended : (g : _) (c : goal.After-self-1 g) (Holds : Option Told → Option Told → Type 0)
    → Holds (told_at g.S.Store c.self.inside.place c.self.inside.seen false) (told_at g.S.Store c.commit-done.new.self c.commit-done.new.seen (is_err c.commit-done.result))
    → Holds c.args.self.now.told (told_at g.S.Store c.commit-done.new.self c.commit-done.new.seen c.is_err-self-inside.result)
ended g c Holds holds =
    let before : told_at g.S.Store c.self.inside.place c.self.inside.seen false ≡ c.args.self.now.told = ap (λ d. told_at g.S.Store c.self.inside.place c.self.inside.seen d) (sym (certain g c)) ∙ ap (λ (k : Known _). k.told) c.self.view_is in
    subst₂ Holds before (ap (λ d. told_at g.S.Store c.commit-done.new.self c.commit-done.new.seen d) (sym c.is_err-self-inside.ensures.value)) holds

pub invariant_of-self : goal.invariant_of-self
invariant_of-self g c =
    subst (λ d. AreTold g.S.Store (held_in c.commit-done.new.self) (told_at g.S.Store c.commit-done.new.self c.commit-done.new.seen d) d) (sym c.is_err-self-inside.ensures.value)
    (told_committed g.S.Store g.met.S.Store.settled c.args.changes.now c.commit-done.result c.self.inside.seen c.commit-done.new.seen c.self.inside.place c.commit-done.new.self c.commit-done.ensures.commits (began g c))

pub returns-clause-done : goal.returns-clause-done
returns-clause-done g c =
    ended g c (λ told tells. OnOk c.commit-done.result (Follows told tells (λ (before now : Told). now.rows ≡ applied c.args.changes.now before.rows)))
    (done_follows g.S.Store g.met.S.Store.settled c.args.changes.now c.commit-done.result c.self.inside.seen c.commit-done.new.seen c.self.inside.place c.commit-done.new.self c.commit-done.ensures.commits (began g c))

pub returns-clause-failed : goal.returns-clause-failed
returns-clause-failed g c =
    ended g c (λ told tells. OnErr c.commit-done.result (Follows told tells (λ (before now : Told). (now.rows ≡ before.rows) × (now.changed ≡ applied c.args.changes.now before.rows))))
    (failed_follows g.S.Store g.met.S.Store.settled c.args.changes.now c.commit-done.result c.self.inside.seen c.commit-done.new.seen c.self.inside.place c.commit-done.new.self c.commit-done.ensures.commits (began g c))
