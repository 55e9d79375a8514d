use Rattle.std.proofs.Common.{Bool, false, List, ℕ, ap, subst, ◌∙◌}
use Rattle.std.specs.Prelude.{Option, Some, None}
use Rattle.wef_deliveries.specs.Outcomes.{request_of}
use Rattle.wef_deliveries.specs.declared.taken.Taken.{Taken}
use Rattle.wef_front_source.specs.HeardReplies.{Offered, Told, offers_told, told}
use Rattle.wef_machine.specs.Deliveries.{end_at}
use Rattle.wef_machine.specs.Leasing.{with_sent}
use Rattle.wef_machine.specs.Sources.{at_source}
use Rattle.wef_machine.specs.States.{Collector, Slots, State, next_number, with_collector}
use Rattle.wef_machine.specs.declared.messages.Message.TheVariants as sent
use Rattle.wef_places.specs.Slots.{after_told, moves_at, told_moves, told_word}
use Rattle.wef_requests.specs.Requests.{Requested}
use Rattle.wef_world.proofs.AtCollector.{asked_state, beat_state, events_state, note_state, response_state}
use Rattle.wef_world.proofs.Delivered.{delivers, delivers_as, delivers_reply, delivers_reply_as, is_at}
use Rattle.wef_world.proofs.Kept.{ask_can_be_answered, beat_leads, delivery_leads, note_leads, request_can_be_answered}
use Rattle.wef_world.proofs.Moved.{offers_move, response_moves}
use Rattle.wef_world.proofs.Used.{given_state, request_state}
use Rattle.wef_world.proofs.ends.Ends.bring.Goals as goal
use Rattle.wef_messages.specs.Messages.{IsOf, message_of}
use Rattle.wef_world.specs.Delivered.{delivered_by, heard_of, taken_of}
use Rattle.wef_world.specs.contracts.ends.Ends.{the_view}
use Rattle.wef_world.specs.declared.deliveries.Delivered.{Delivered}

-- what becomes of the bytes of an answer that tell a source this
abbrev came : State → List ℕ → Option Told → Option Offered → Delivered
came before s reply offered = delivered_by (next_number before) (moves_at before.sources s (told_moves reply offered before.moment)) (heard_of before s (told_word reply offered before.moment))

pub take_delivery-requires-clause-leads : goal.take_delivery-requires-clause-leads
take_delivery-requires-clause-leads g c =
    let source = c.parts.result.0.now in
    let found = is_at (the_view c.self.inside) c.args.number c.as_slice.ensures c.in-Some.ensures (c.parts.ensures.message ∙ ap (message_of source) c.in-Delivery.is) in
    delivery_leads (the_view c.self.inside) c.args.self.now c.args.number source c.in-Delivery.delivery found c.self.view_is c.requires.kept

pub take_ask-requires-clause-own : goal.take_ask-requires-clause-own
take_ask-requires-clause-own g c = subst (IsOf c.parts.result.0.now) c.in-Ask.is c.parts.ensures.own

pub take_ask-requires-clause-offered : goal.take_ask-requires-clause-offered
take_ask-requires-clause-offered g c =
    let source = c.parts.result.0.now in
    let found = is_at (the_view c.self.inside) c.args.number c.as_slice.ensures c.in-Some.ensures (c.parts.ensures.message ∙ ap (message_of source) c.in-Ask.is) in
    ask_can_be_answered (the_view c.self.inside) c.args.self.now c.args.number source c.in-Ask.wish.id found c.self.view_is c.requires.kept

pub returns-in_ok-send_answer-in-Ask-clause-state : goal.returns-in_ok-send_answer-in-Ask-clause-state
returns-in_ok-send_answer-in-Ask-clause-state g c =
    let before : State = the_view c.self.inside in
    let source = c.parts.result.0.now in
    let found = is_at (the_view c.self.inside) c.args.number c.as_slice.ensures c.in-Some.ensures (c.parts.ensures.message ∙ ap (message_of source) c.in-Ask.is) in
    c.in_ok-send_answer-in-Ask.ensures.state
    ∙ (λ i. with_sent (with_collector before (c.in_ok-taken-in-Ask.ensures.collector i)) (c.in_ok-taken-in-Ask.ensures.taken i).answer)
    ∙ asked_state before source c.in-Ask.wish.id ∙ delivers before c.args.self.now c.args.number (sent.Ask source c.in-Ask.wish.id) found c.self.view_is

pub returns-in_ok-send_answer-in-Ask-clause-delivered : goal.returns-in_ok-send_answer-in-Ask-clause-delivered
returns-in_ok-send_answer-in-Ask-clause-delivered g c =
    let before : State = the_view c.self.inside in
    let source = c.parts.result.0.now in
    let found = is_at (the_view c.self.inside) c.args.number c.as_slice.ensures c.in-Some.ensures (c.parts.ensures.message ∙ ap (message_of source) c.in-Ask.is) in
    ap Some c.in_ok-send_answer-in-Ask.ensures.delivered ∙ ap (λ (taken : Taken). Some (delivered_by (next_number before) false taken)) c.in_ok-taken-in-Ask.ensures.taken
    ∙ delivers_as before c.args.self.now c.args.number (sent.Ask source c.in-Ask.wish.id) found c.self.view_is

pub returns-in_ok-told-in-Offers-clause-state : goal.returns-in_ok-told-in-Offers-clause-state
returns-in_ok-told-in-Offers-clause-state g c =
    let before : State = the_view c.self.inside in
    let source = c.parts.result.0.now in
    let offered = c.in-Offers.offers in
    let found = is_at (the_view c.self.inside) c.args.number c.as_slice.ensures c.in-Some.ensures (c.parts.ensures.message ∙ ap (message_of source) c.in-Offers.is) in
    ap (λ (sources : Slots). record before { sources = sources }) c.in_ok-told-in-Offers.ensures.sources
    ∙ given_state before source (after_told (told c.bytes-body.result.now) (offers_told before.moment c.bytes-body.result.now) before.moment)
    ∙ (λ i. at_source before source (end_at source (after_told (c.bytes-body.ensures.told i) (c.bytes-body.ensures.offers before.moment i) before.moment)))
    ∙ delivers before c.args.self.now c.args.number (sent.Offers source offered.id offered.relates offered.offers) found c.self.view_is

pub returns-in_ok-told-in-Offers-clause-delivered : goal.returns-in_ok-told-in-Offers-clause-delivered
returns-in_ok-told-in-Offers-clause-delivered g c =
    let before : State = the_view c.self.inside in
    let source = c.parts.result.0.now in
    let offered = c.in-Offers.offers in
    let found = is_at (the_view c.self.inside) c.args.number c.as_slice.ensures c.in-Some.ensures (c.parts.ensures.message ∙ ap (message_of source) c.in-Offers.is) in
    let bytes = c.bytes-body in
    ap Some c.unanswered.ensures ∙ (λ i. Some (record { word = c.in_ok-told-in-Offers.ensures.word i; answer = None; moves = c.in_ok-told-in-Offers.ensures.moves i }))
    ∙ (λ i. Some (came before source (bytes.ensures.told i) (bytes.ensures.offers before.moment i)))
    ∙ ap (λ (moves : Bool). Some (delivered_by (next_number before) moves (heard_of before source (told_word None (Some (offered.relates, offered.offers)) before.moment))))
    (offers_move before source offered.relates offered.offers before.moment)
    ∙ delivers_as before c.args.self.now c.args.number (sent.Offers source offered.id offered.relates offered.offers) found c.self.view_is

pub returns-in_ok-send_answer-in-Delivery-clause-state : goal.returns-in_ok-send_answer-in-Delivery-clause-state
returns-in_ok-send_answer-in-Delivery-clause-state g c =
    let before : State = the_view c.self.inside in
    let source = c.parts.result.0.now in
    let found = is_at (the_view c.self.inside) c.args.number c.as_slice.ensures c.in-Some.ensures (c.parts.ensures.message ∙ ap (message_of source) c.in-Delivery.is) in
    c.in_ok-send_answer-in-Delivery.ensures.state
    ∙ (λ i. with_sent (with_collector before (c.in_ok-taken-in-Delivery.ensures.collector i)) (c.in_ok-taken-in-Delivery.ensures.taken i).answer)
    ∙ events_state before source c.in-Delivery.delivery ∙ delivers before c.args.self.now c.args.number (sent.Events source c.in-Delivery.delivery) found c.self.view_is

pub returns-in_ok-send_answer-in-Delivery-clause-delivered : goal.returns-in_ok-send_answer-in-Delivery-clause-delivered
returns-in_ok-send_answer-in-Delivery-clause-delivered g c =
    let before : State = the_view c.self.inside in
    let source = c.parts.result.0.now in
    let found = is_at (the_view c.self.inside) c.args.number c.as_slice.ensures c.in-Some.ensures (c.parts.ensures.message ∙ ap (message_of source) c.in-Delivery.is) in
    ap Some c.in_ok-send_answer-in-Delivery.ensures.delivered ∙ ap (λ (taken : Taken). Some (delivered_by (next_number before) false taken)) c.in_ok-taken-in-Delivery.ensures.taken
    ∙ delivers_as before c.args.self.now c.args.number (sent.Events source c.in-Delivery.delivery) found c.self.view_is

pub take_beat-requires-clause-leads : goal.take_beat-requires-clause-leads
take_beat-requires-clause-leads g c =
    let source = c.parts.result.0.now in
    let found = is_at (the_view c.self.inside) c.args.number c.as_slice.ensures c.in-Some.ensures (c.parts.ensures.message ∙ ap (message_of source) c.in-Beat.is) in
    beat_leads (the_view c.self.inside) c.args.self.now c.args.number source c.in-Beat.beat found c.self.view_is c.requires.kept

pub returns-in_ok-send_answer-in-Beat-clause-state : goal.returns-in_ok-send_answer-in-Beat-clause-state
returns-in_ok-send_answer-in-Beat-clause-state g c =
    let before : State = the_view c.self.inside in
    let source = c.parts.result.0.now in
    let found = is_at (the_view c.self.inside) c.args.number c.as_slice.ensures c.in-Some.ensures (c.parts.ensures.message ∙ ap (message_of source) c.in-Beat.is) in
    c.in_ok-send_answer-in-Beat.ensures.state
    ∙ (λ i. with_sent (with_collector before (c.in_ok-taken-in-Beat.ensures.collector i)) (c.in_ok-taken-in-Beat.ensures.taken i).answer)
    ∙ beat_state before source c.in-Beat.beat ∙ delivers before c.args.self.now c.args.number (sent.Beat source c.in-Beat.beat) found c.self.view_is

pub returns-in_ok-send_answer-in-Beat-clause-delivered : goal.returns-in_ok-send_answer-in-Beat-clause-delivered
returns-in_ok-send_answer-in-Beat-clause-delivered g c =
    let before : State = the_view c.self.inside in
    let source = c.parts.result.0.now in
    let found = is_at (the_view c.self.inside) c.args.number c.as_slice.ensures c.in-Some.ensures (c.parts.ensures.message ∙ ap (message_of source) c.in-Beat.is) in
    ap Some c.in_ok-send_answer-in-Beat.ensures.delivered ∙ ap (λ (taken : Taken). Some (delivered_by (next_number before) false taken)) c.in_ok-taken-in-Beat.ensures.taken
    ∙ delivers_as before c.args.self.now c.args.number (sent.Beat source c.in-Beat.beat) found c.self.view_is

pub returns-in_ok-told-in-Reply-clause-state : goal.returns-in_ok-told-in-Reply-clause-state
returns-in_ok-told-in-Reply-clause-state g c =
    let before : State = the_view c.self.inside in
    let source = c.parts.result.0.now in
    let said = c.in-Reply.reply in
    let found = is_at (the_view c.self.inside) c.args.number c.as_slice.ensures c.in-Some.ensures (c.parts.ensures.message ∙ ap (message_of source) c.in-Reply.is) in
    ap (λ (sources : Slots). record before { sources = sources }) c.in_ok-told-in-Reply.ensures.sources
    ∙ given_state before source (after_told (told c.bytes-body-in-Reply.result.now) (offers_told before.moment c.bytes-body-in-Reply.result.now) before.moment)
    ∙ ap (λ (t : Option Told). at_source before source (end_at source (after_told t (offers_told before.moment c.bytes-body-in-Reply.result.now) before.moment))) c.bytes-body-in-Reply.ensures.told
    ∙ delivers_reply before c.args.self.now c.args.number source said.id said.relates said.reply found c.self.view_is

pub returns-in_ok-told-in-Reply-clause-delivered : goal.returns-in_ok-told-in-Reply-clause-delivered
returns-in_ok-told-in-Reply-clause-delivered g c =
    let before : State = the_view c.self.inside in
    let source = c.parts.result.0.now in
    let said = c.in-Reply.reply in
    let body = c.bytes-body-in-Reply.result.now in
    let found = is_at (the_view c.self.inside) c.args.number c.as_slice.ensures c.in-Some.ensures (c.parts.ensures.message ∙ ap (message_of source) c.in-Reply.is) in
    ap Some c.unanswered-in-Reply.ensures ∙ (λ i. Some (record { word = c.in_ok-told-in-Reply.ensures.word i; answer = None; moves = c.in_ok-told-in-Reply.ensures.moves i }))
    ∙ ap (λ (t : Option Told). Some (came before source t (offers_told before.moment body))) c.bytes-body-in-Reply.ensures.told
    ∙ delivers_reply_as before c.args.self.now c.args.number source said.id said.relates said.reply found c.self.view_is

pub give_request-requires-clause-spelt : goal.give_request-requires-clause-spelt
give_request-requires-clause-spelt g c =
    let source = c.parts.result.0.now in
    let found = is_at (the_view c.self.inside) c.args.number c.as_slice.ensures c.in-Some.ensures (c.parts.ensures.message ∙ ap (message_of source) c.in-Request.is) in
    request_can_be_answered (the_view c.self.inside) c.args.self.now c.args.number source c.in-Request.request found c.self.view_is c.requires.kept

pub returns-in_ok-send_answer-in-Request-clause-state : goal.returns-in_ok-send_answer-in-Request-clause-state
returns-in_ok-send_answer-in-Request-clause-state g c =
    let before : State = the_view c.self.inside in
    let source = c.parts.result.0.now in
    let asked = c.in-Request.request in
    let found = is_at (the_view c.self.inside) c.args.number c.as_slice.ensures c.in-Some.ensures (c.parts.ensures.message ∙ ap (message_of source) c.in-Request.is) in
    c.in_ok-send_answer-in-Request.ensures.state
    ∙ (λ i. with_sent (record before { sources = c.in_ok-taken-in-Request.ensures.sources i }) (c.in_ok-taken-in-Request.ensures.taken i).answer)
    ∙ request_state before source asked
    ∙ delivers before c.args.self.now c.args.number (sent.Request source asked.id asked.identifier asked.body) found c.self.view_is

pub returns-in_ok-send_answer-in-Request-clause-delivered : goal.returns-in_ok-send_answer-in-Request-clause-delivered
returns-in_ok-send_answer-in-Request-clause-delivered g c =
    let before : State = the_view c.self.inside in
    let source = c.parts.result.0.now in
    let asked = c.in-Request.request in
    let found = is_at (the_view c.self.inside) c.args.number c.as_slice.ensures c.in-Some.ensures (c.parts.ensures.message ∙ ap (message_of source) c.in-Request.is) in
    let own = subst (IsOf source) c.in-Request.is c.parts.ensures.own in
    let comes : Requested → Option Delivered = λ r. Some (delivered_by (next_number before) false (request_of before.sources source r before.moment)) in
    ap Some c.in_ok-send_answer-in-Request.ensures.delivered ∙ ap (λ (taken : Taken). Some (delivered_by (next_number before) false taken)) c.in_ok-taken-in-Request.ensures.taken
    ∙ ap (λ (to : List ℕ). comes (record asked { to = to })) own
    ∙ delivers_as before c.args.self.now c.args.number (sent.Request source asked.id asked.identifier asked.body) found c.self.view_is

pub returns-in_ok-told-in-Response-clause-state : goal.returns-in_ok-told-in-Response-clause-state
returns-in_ok-told-in-Response-clause-state g c =
    let before : State = the_view c.self.inside in
    let source = c.parts.result.0.now in
    let said = c.in-Response.response in
    let found = is_at (the_view c.self.inside) c.args.number c.as_slice.ensures c.in-Some.ensures (c.parts.ensures.message ∙ ap (message_of source) c.in-Response.is) in
    ap (λ (collector : Collector). with_collector before collector) c.in_ok-told-in-Response.ensures.collector ∙ response_state before said.relates said.answer
    ∙ delivers before c.args.self.now c.args.number (sent.Response source said.id said.relates said.answer) found c.self.view_is

pub returns-in_ok-told-in-Response-clause-delivered : goal.returns-in_ok-told-in-Response-clause-delivered
returns-in_ok-told-in-Response-clause-delivered g c =
    let before : State = the_view c.self.inside in
    let source = c.parts.result.0.now in
    let said = c.in-Response.response in
    let found = is_at (the_view c.self.inside) c.args.number c.as_slice.ensures c.in-Some.ensures (c.parts.ensures.message ∙ ap (message_of source) c.in-Response.is) in
    ap Some c.unanswered-in-Response.ensures ∙ (λ i. Some (record { word = c.in_ok-told-in-Response.ensures.word i; answer = None; moves = c.in_ok-told-in-Response.ensures.moves i }))
    ∙ ap (λ (moves : Bool). Some (delivered_by (next_number before) moves (taken_of before (sent.Response source said.id said.relates said.answer)))) (response_moves before said.relates said.answer)
    ∙ delivers_as before c.args.self.now c.args.number (sent.Response source said.id said.relates said.answer) found c.self.view_is

pub take_note-requires-clause-leads : goal.take_note-requires-clause-leads
take_note-requires-clause-leads g c =
    let source = c.parts.result.0.now in
    let found = is_at (the_view c.self.inside) c.args.number c.as_slice.ensures c.in-Some.ensures (c.parts.ensures.message ∙ ap (message_of source) c.in-Ended.is) in
    note_leads (the_view c.self.inside) c.args.self.now c.args.number source c.in-Ended.note found c.self.view_is c.requires.kept

pub returns-in_ok-send_answer-in-Ended-clause-state : goal.returns-in_ok-send_answer-in-Ended-clause-state
returns-in_ok-send_answer-in-Ended-clause-state g c =
    let before : State = the_view c.self.inside in
    let source = c.parts.result.0.now in
    let found = is_at (the_view c.self.inside) c.args.number c.as_slice.ensures c.in-Some.ensures (c.parts.ensures.message ∙ ap (message_of source) c.in-Ended.is) in
    c.in_ok-send_answer-in-Ended.ensures.state
    ∙ (λ i. with_sent (with_collector before (c.in_ok-taken-in-Ended.ensures.collector i)) (c.in_ok-taken-in-Ended.ensures.taken i).answer)
    ∙ note_state before source c.in-Ended.note ∙ delivers before c.args.self.now c.args.number (sent.Ended source c.in-Ended.note) found c.self.view_is

pub returns-in_ok-send_answer-in-Ended-clause-delivered : goal.returns-in_ok-send_answer-in-Ended-clause-delivered
returns-in_ok-send_answer-in-Ended-clause-delivered g c =
    let before : State = the_view c.self.inside in
    let source = c.parts.result.0.now in
    let found = is_at (the_view c.self.inside) c.args.number c.as_slice.ensures c.in-Some.ensures (c.parts.ensures.message ∙ ap (message_of source) c.in-Ended.is) in
    ap Some c.in_ok-send_answer-in-Ended.ensures.delivered ∙ ap (λ (taken : Taken). Some (delivered_by (next_number before) false taken)) c.in_ok-taken-in-Ended.ensures.taken
    ∙ delivers_as before c.args.self.now c.args.number (sent.Ended source c.in-Ended.note) found c.self.view_is
