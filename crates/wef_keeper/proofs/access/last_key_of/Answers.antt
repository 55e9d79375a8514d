use Rattle.std.proofs.Common.{◌∙◌, sym, ap}
use Rattle.wef_keeper.specs.Sections.{last_key}
use Rattle.wef_keeper.proofs.ByPages.{last_key-push}
use Rattle.wef_keeper.proofs.access.last_key_of.Goals as goal

pub returns-in_ok-clone-in-Some : goal.returns-in_ok-clone-in-Some
returns-in_ok-clone-in-Some c =
    let splits = c.in-Some.ensures.cases.0 in
    c.in_ok-clone-in-Some.ensures ∙ sym (last_key-push c.args.after c.in-Some.field-0-1.now c.in-Some.row.now) ∙ ap (last_key c.args.after) (sym splits)
