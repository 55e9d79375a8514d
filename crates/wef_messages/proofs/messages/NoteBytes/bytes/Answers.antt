use Rattle.std.proofs.Common.{◌∙◌, ap, subst}
use Rattle.wef_envelope.specs.Laws.{IsSpelt}
use Rattle.wef_front_source.specs.Sending.{end_bytes}
use Rattle.wef_messages.proofs.Said.{kept_note, kept_note_can_be_sent, kept_note_spelt}
use Rattle.wef_source.specs.Serving.{NoteCanBeSent}
use Rattle.wef_source.specs.declared.messages.EndNote.{EndNote}
use Rattle.wef_messages.proofs.messages.NoteBytes.bytes.Goals as goal

pub returns-clause-value : goal.returns-clause-value
returns-clause-value c = kept_note c.self.inside.address c.self.inside.bytes c.self.invariant ∙ ap end_bytes c.self.view_is

pub returns-clause-sent : goal.returns-clause-sent
returns-clause-sent c = subst NoteCanBeSent c.self.view_is (kept_note_can_be_sent c.self.inside.address c.self.inside.bytes c.self.invariant)

pub returns-clause-spelt : goal.returns-clause-spelt
returns-clause-spelt c = subst (λ (n : EndNote). IsSpelt n.id) c.self.view_is (kept_note_spelt c.self.inside.address c.self.inside.bytes c.self.invariant)
