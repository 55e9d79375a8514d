use Rattle.std.proofs.Common.{◌≡◌, ◌++◌, ◌∙◌, sym, ap, subst, take, List}
use Rattle.std.proofs.lemmas.Option.{IfSome_then}
use Rattle.std.specs.List.{AllByRecursion}
use Rattle.wef_keeper.specs.Access.{front_rows, IsBehind}
use Rattle.wef_keeper.specs.Rows.{rows_after}
use Rattle.wef_keeper.specs.Sections.{last_key, rows_under}
use Rattle.wef_keeper.specs.declared.keys.Row.{Row}
use Rattle.wef_keeper.proofs.Pages.{page_front, front_behind, rest_is}
use Rattle.wef_keeper.proofs.Told.{told_now}
use Rattle.wef_keeper.proofs.access.section_page.Goals as goal

pub returns-clause-page : goal.returns-clause-page
returns-clause-page g c =
    let depth = c.args.depth in
    let after = c.args.after.now in
    let max = c.args.max in
    let before = g.K.Keeper.store c.args.keeper.now in
    let now = g.K.Keeper.store c.page.new.self in
    let page = c.in_ok-page.page in
    IfSome_then now.rows (told_now before now (λ rows _. page ≡ take max (rows_after after rows)) c.requires.ready.0 c.in_ok-page.ensures.stays.0 c.in_ok-page.ensures.page)
    (λ rows is. c.in_ok-front.ensures ∙ ap (front_rows depth after) is ∙ page_front depth after max rows)

pub returns-clause-rest : goal.returns-clause-rest
returns-clause-rest g c =
    let depth = c.args.depth in
    let after = c.args.after.now in
    let now = g.K.Keeper.store c.page.new.self in
    IfSome_then now.rows (returns-clause-page g c)
    (λ rows is. rest_is depth after c.args.max rows ∙ ap (λ page. page ++ rows_under depth (last_key after page) rows) (sym is))

pub returns-clause-behind : goal.returns-clause-behind
returns-clause-behind g c =
    let depth = c.args.depth in
    let after = c.args.after.now in
    subst (λ (page : List Row). AllByRecursion (IsBehind depth after) page) (sym c.in_ok-front.ensures) (front_behind depth after c.in_ok-page.page c.in_ok-page.ensures.behind)
