use Rattle.std.proofs.Common.{◌≡◌, ◌<◌, ◌++◌, rules, true, false, take, map, ap, sym, ◌∙◌, subst, List, Option, IfSome}
use Rattle.std.specs.List.{AllByRecursion, list_all}
use Rattle.wef_event.specs.Events.{Event}
use Rattle.wef_keeper.specs.declared.keys.Row.{Row}
use Rattle.wef_keeper.proofs.ReadsOf.{ill_formed}
use Rattle.wef_source_log.specs.Forms.{AreFormed, is_record}
use Rattle.wef_source_log.specs.LogWindow.{event_of_row, last_number, records_after}
use Rattle.wef_source_log.proofs.Contents.{records_above}
use Rattle.wef_source_log.proofs.Forming.{no_record, page_judged}
use Rattle.wef_source_log.proofs.Pages.{is_told_page, is_told_rest, own_events}
use Rattle.wef_source_log.proofs.reading.page_of.Goals as goal

-- the events are those of the channel's rows
events_are : (g : _) (c : goal.After-drop-rows-inside-in-Some g) → c.in-Some.events ≡ map (event_of_row c.args.channel.now) c.in_ok-rows.rows
events_are g c =
    subst (λ (found : Option (List Event)). IfSome found (λ events. events ≡ map (λ (row : Row). event_of_row row.key.channel row) c.as_slice.result.now)) c.in-Some.is c.in_ok-events.ensures.value
    ∙ ap (map (λ (row : Row). event_of_row row.key.channel row)) c.as_slice.ensures
    ∙ own_events c.args.channel.now c.args.after _ c.in_ok-rows.rows c.in_ok-start.ensures c.in_ok-rows.ensures.behind

pub returns-in-Some-clause-page : goal.returns-in-Some-clause-page
returns-in-Some-clause-page g c =
    let told = (g.K.Keeper.store c.section_page.new.keeper).rows in
    let channel = c.args.channel.now in
    subst (λ (events : List Event). IfSome told (λ rows. events ≡ take c.args.max (records_after rows channel c.args.after))) (sym (events_are g c))
    (is_told_page c.args.max told channel c.args.after _ c.in_ok-rows.rows c.in_ok-start.ensures c.in_ok-rows.ensures.page)

pub returns-in-Some-clause-rest : goal.returns-in-Some-clause-rest
returns-in-Some-clause-rest g c =
    let told = (g.K.Keeper.store c.section_page.new.keeper).rows in
    let channel = c.args.channel.now in
    let splits = is_told_rest c.args.max told channel c.args.after _ c.in_ok-rows.rows c.in_ok-start.ensures c.in_ok-rows.ensures.page c.in_ok-rows.ensures.rest in
    subst (λ (events : List Event). IfSome told (λ rows. records_after rows channel c.args.after ≡ events ++ records_after rows channel (last_number c.args.after events))) (sym (events_are g c)) splits

pub returns-in-Some-clause-above : goal.returns-in-Some-clause-above
returns-in-Some-clause-above g c =
    subst (AllByRecursion (λ (event : Event). c.args.after < event.number)) (sym (events_are g c))
    (records_above c.args.channel.now c.args.after _ c.in_ok-rows.rows c.in_ok-start.ensures c.in_ok-rows.ensures.behind)

pub returns-in-Some-clause-judged : goal.returns-in-Some-clause-judged
returns-in-Some-clause-judged g c =
    let all : list_all is_record c.in_ok-rows.rows ≡ true = search rules in
    page_judged (g.K.Keeper.store c.section_page.new.keeper).rows c.args.max c.args.channel.now c.args.after _ c.in_ok-rows.rows c.in_ok-start.ensures c.in_ok-rows.ensures.behind all c.in_ok-rows.ensures.page

pub returns-clause-reads : goal.returns-clause-reads
returns-clause-reads g c =
    let ill : list_all is_record c.in_ok-rows.rows ≡ false = search rules in
    let store = g.K.Keeper.store c.section_page.new.keeper in
    ill_formed AreFormed (g.K.Keeper.store c.args.keeper.now) store c.in_ok-rows.ensures.reads.0
    (no_record store.rows c.args.max c.args.channel.now c.args.after _ c.in_ok-rows.rows c.in_ok-start.ensures c.in_ok-rows.ensures.behind ill c.in_ok-rows.ensures.page)
