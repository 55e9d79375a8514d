use Rattle.std.proofs.Common.{◌<◌, ◌∙◌, ◌++◌, ℕ, [], ◌∷◌, List, length, ap, sym, append_assoc, arith}
use Rattle.std.specs.List.{flat_map}
use Rattle.std.specs.Prelude.{codes}
use Rattle.wef_event.specs.Events.{Event}
use Rattle.wef_keeper.specs.Rows.{Rows}
use Rattle.wef_collector_rows.specs.Held.{held_after}
use Rattle.wef_keeper.proofs.ByPages.{last_page}
use Rattle.wef_lines.specs.Printed.{event_line, events_text}
use Rattle.wef_printing.proofs.printing.held_text.Goals as goal

pub returns-then-is_last-clause-text : goal.returns-then-is_last-clause-text
unfolding events_text
returns-then-is_last-clause-text c =
    let page = c.in_ok-page.page in
    let size = c.len.ensures in
    let test = c.if-is_last.true in
    let short : length page < 256 = omega arith in
    let whole = last_page 256 _ page _ c.in_ok-page.ensures.page c.in_ok-page.ensures.rest short in
    let told = rw c.as_slice-in-loop-text.ensures at c.in_ok-push_events.ensures in
    let stays = c.held_page.ensures.looks.opened.0.0.0 in
    let read = λ (rows : Rows). held_after rows c.args.sub.now c.args.source.now c.args.channel.now in
    let all = told ∙ ap (λ (events : List Event). c.loop-text.text ++ flat_map event_line events) (sym whole)
    ∙ ap (λ (rows : Rows). c.loop-text.text ++ flat_map event_line (read rows c.loop-text.after)) stays ∙ c.loop-text.invariant.done
    ∙ ap (λ (rows : Rows). flat_map event_line (read rows 0)) c.loop-text.invariant.rows in
    let events = read c.args.collector.now.keeper.rows 0 in
    c.in_ok-push_str.ensures.ok ∙ ap (λ (text : List ℕ). text ++ (codes "end" ++ 10 ∷ [])) all ∙ sym (append_assoc (flat_map event_line events) (codes "end") (10 ∷ []))
