use Rattle.std.proofs.Common.{◌≡◌, ◌∙◌, ap, subst, sym, None}
use Rattle.std.specs.FinMap as map
use Rattle.std.specs.Option.{option_to_list}
use Rattle.wef_keeper.specs.Rows.{Rows}
use Rattle.wef_building.specs.Building.{built, candidates_in, reaches, room_of, session_channels, with_reaches}
use Rattle.wef_building.specs.Drafting.{empty_draft, with_items}
use Rattle.wef_building.specs.Judged.{JudgesBatch, JudgesChannels}
use Rattle.wef_building.specs.Reading.{ReadsAbove}
use Rattle.wef_building.specs.declared.drafting.Draft.{Draft}
use Rattle.wef_building.proofs.Drafts.{built_by}
use Rattle.wef_building.proofs.Judging.{batch_judged}
use Rattle.wef_building.proofs.Told.{both_told}
use Rattle.wef_building.proofs.building.built_from.Goals as goal

pub returns-clause-above : goal.returns-clause-above
returns-clause-above g c =
    let positions = c.args.session.now.positions in
    subst (ReadsAbove positions (session_channels c.args.session.now)) (λ i. (sym c.batch_of.ensures i).to) (subst (λ cs. ReadsAbove positions cs c.in_ok-to.to) c.requires.channels c.in_ok-to.ensures.above)

pub returns-clause-ok : goal.returns-clause-ok
returns-clause-ok g c =
    let session = c.args.session.now in
    let channels = c.args.channels.now in
    let draft = c.filled.new.draft in
    let to = c.in_ok-to.to in
    let start = empty_draft session.max_items (room_of session.max_bytes) in
    let begins : c.new-draft.result ≡ start = c.new-draft.ensures.value ∙ ap (empty_draft session.max_items) c.room_of.ensures in
    both_told
    (λ (rows : Rows). draft ≡ with_items c.new-draft.result (candidates_in rows session channels))
    (λ (rows : Rows). to ≡ with_reaches session.positions map.empty (reaches rows channels (option_to_list draft.left)))
    (λ (rows : Rows). c.batch_of.result ≡ built rows session)
    (g.K.Keeper.store c.filled.new.log.keeper).rows
    (λ rows taken read.
    c.batch_of.ensures
    ∙ built_by rows session draft to
    (taken ∙ ap (λ (d : Draft). with_items d (candidates_in rows session channels)) begins ∙ ap (λ cs. with_items start (candidates_in rows session cs)) c.requires.channels)
    (read ∙ ap (λ cs. with_reaches session.positions map.empty (reaches rows cs (option_to_list draft.left))) c.requires.channels))
    c.in_ok-to.ensures.draft c.in_ok-to.ensures.to

pub returns-clause-judged : goal.returns-clause-judged
returns-clause-judged g c =
    let session = c.args.session.now in
    let channels = c.args.channels.now in
    let draft = c.filled.new.draft in
    let start = empty_draft session.max_items (room_of session.max_bytes) in
    let begins : c.new-draft.result ≡ start = c.new-draft.ensures.value ∙ ap (empty_draft session.max_items) c.room_of.ensures in
    both_told
    (λ (rows : Rows). draft ≡ with_items c.new-draft.result (candidates_in rows session channels))
    (λ (rows : Rows). JudgesChannels rows session.positions channels c.new-draft.result.left draft.left)
    (λ (rows : Rows). JudgesBatch rows session)
    (g.K.Keeper.store c.filled.new.log.keeper).rows
    (λ rows taken judged.
    batch_judged rows session draft
    (taken ∙ ap (λ (d : Draft). with_items d (candidates_in rows session channels)) begins ∙ ap (λ cs. with_items start (candidates_in rows session cs)) c.requires.channels)
    (subst (λ cs. JudgesChannels rows session.positions cs None draft.left) c.requires.channels
    (subst (λ (d : Draft). JudgesChannels rows session.positions channels d.left draft.left) begins judged)))
    c.in_ok-to.ensures.draft c.in_ok-to.ensures.judged
