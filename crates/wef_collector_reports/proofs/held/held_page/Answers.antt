use Rattle.std.proofs.Common.{◌≡◌, ◌∙◌, ◌++◌, List, map, sym, take}
use Rattle.std.proofs.lemmas.Result.{IfOk-weaker}
use Rattle.wef_event.specs.Events.{Event}
use Rattle.wef_keeper.specs.Access.{fails}
use Rattle.wef_keeper.specs.Sections.{last_key, rows_under}
use Rattle.wef_keeper.specs.declared.keys.Depth.TheVariants.{Channel}
use Rattle.wef_keeper.proofs.ReadsOf.{may_be_ill}
use Rattle.wef_collector_rows.specs.Forms.{AreFormed, is_formed}
use Rattle.wef_keeper.proofs.Told.{told_ok}
use Rattle.wef_collector_rows.specs.Held.{held_after, held_rows, last_number, own_event}
use Rattle.wef_keeper.proofs.Forming.{no_page}
use Rattle.wef_collector_reports.proofs.HeldPages.{held_as_formed, held_rises, is_page, is_rest, is_rest_of_rows, own_events, page_judged}
use Rattle.wef_collector_reports.proofs.held.held_page.Goals as goal

pub returns-clause-reads : goal.returns-clause-reads
returns-clause-reads g c =
    let start = c.in_ok-start.start in
    let page = c.in_ok-page.page in
    let behind = c.in_ok-page.ensures.behind in
    let as_formed = held_as_formed c.args.sub.now c.args.source.now c.args.channel.now c.args.after start page c.in_ok-start.ensures behind in
    let now = g.K.Keeper.store c.section_page.new.keeper in
    let items = c.as_slice.ensures in
    may_be_ill AreFormed (fails c.events_of.result) (g.K.Keeper.store c.args.keeper.now) now c.in_ok-page.ensures.reads
    (λ failed. no_page is_formed now.rows c.args.max Channel start page (sym as_formed ∙ rw items at (c.events_of.ensures.failed failed)) c.in_ok-page.ensures.page)

pub returns-clause-page : goal.returns-clause-page
returns-clause-page g c =
    let start = c.in_ok-start.start in
    let page = c.in_ok-page.page in
    let now = g.K.Keeper.store c.section_page.new.keeper in
    let own = own_events c.args.sub.now c.args.source.now c.args.channel.now c.args.after start page c.in_ok-start.ensures c.in_ok-page.ensures.behind in
    told_ok c.events_of.result now.rows (λ events. events ≡ map own_event page) (λ rows. page ≡ take c.args.max (rows_under Channel start rows)) (λ rows. page ≡ take c.args.max (rows_under Channel start rows))
    (λ rows (events : List Event). events ≡ take c.args.max (held_after rows c.args.sub.now c.args.source.now c.args.channel.now c.args.after))
    (rw c.as_slice.ensures at c.events_of.ensures.value) c.in_ok-page.ensures.page c.in_ok-page.ensures.page
    (λ rows events are is _. are ∙ own ∙ is_page c.args.max rows c.args.sub.now c.args.source.now c.args.channel.now c.args.after start page c.in_ok-start.ensures is)

pub returns-clause-rest : goal.returns-clause-rest
returns-clause-rest g c =
    let start = c.in_ok-start.start in
    let page = c.in_ok-page.page in
    let now = g.K.Keeper.store c.section_page.new.keeper in
    let own = own_events c.args.sub.now c.args.source.now c.args.channel.now c.args.after start page c.in_ok-start.ensures c.in_ok-page.ensures.behind in
    told_ok c.events_of.result now.rows (λ events. events ≡ map own_event page) (λ rows. page ≡ take c.args.max (rows_under Channel start rows)) (λ rows. rows_under Channel start rows ≡ page ++ rows_under Channel (last_key start page) rows)
    (λ rows (events : List Event). held_after rows c.args.sub.now c.args.source.now c.args.channel.now c.args.after ≡ events ++ held_after rows c.args.sub.now c.args.source.now c.args.channel.now (last_number c.args.after events))
    (rw c.as_slice.ensures at c.events_of.ensures.value) c.in_ok-page.ensures.page c.in_ok-page.ensures.rest
    (λ rows events are is splits. rw (are ∙ own) (is_rest c.args.max rows c.args.sub.now c.args.source.now c.args.channel.now c.args.after start page c.in_ok-start.ensures is splits))

pub returns-clause-judged : goal.returns-clause-judged
returns-clause-judged g c =
    let held = rw c.as_slice.ensures at c.events_of.ensures.formed in
    page_judged c.events_of.result (g.K.Keeper.store c.section_page.new.keeper).rows c.args.max c.args.sub.now c.args.source.now c.args.channel.now c.args.after c.in_ok-start.start c.in_ok-page.page
    c.in_ok-start.ensures c.in_ok-page.ensures.behind held c.in_ok-page.ensures.page

pub returns-clause-rest_of_rows : goal.returns-clause-rest_of_rows
returns-clause-rest_of_rows g c =
    let start = c.in_ok-start.start in
    let page = c.in_ok-page.page in
    let now = g.K.Keeper.store c.section_page.new.keeper in
    let own = own_events c.args.sub.now c.args.source.now c.args.channel.now c.args.after start page c.in_ok-start.ensures c.in_ok-page.ensures.behind in
    told_ok c.events_of.result now.rows (λ events. events ≡ map own_event page) (λ rows. page ≡ take c.args.max (rows_under Channel start rows)) (λ rows. rows_under Channel start rows ≡ page ++ rows_under Channel (last_key start page) rows)
    (λ rows (events : List Event). held_rows rows c.args.sub.now c.args.source.now c.args.channel.now c.args.after
    ≡ take c.args.max (held_rows rows c.args.sub.now c.args.source.now c.args.channel.now c.args.after) ++ held_rows rows c.args.sub.now c.args.source.now c.args.channel.now (last_number c.args.after events))
    (rw c.as_slice.ensures at c.events_of.ensures.value) c.in_ok-page.ensures.page c.in_ok-page.ensures.rest
    (λ rows events are is splits. rw (are ∙ own) (is_rest_of_rows c.args.max rows c.args.sub.now c.args.source.now c.args.channel.now c.args.after start page c.in_ok-start.ensures is splits))

pub returns-clause-rises : goal.returns-clause-rises
returns-clause-rises g c =
    IfOk-weaker c.events_of.result _ _
    (λ events are. held_rises c.args.sub.now c.args.source.now c.args.channel.now c.args.after c.in_ok-start.start c.in_ok-page.page events c.in_ok-start.ensures c.in_ok-page.ensures.behind are)
    (rw c.as_slice.ensures at c.events_of.ensures.value)
