use Rattle.std.proofs.Common.{◌∙◌, ap}
use Rattle.wef_source.specs.declared.messages.EndNote.{EndNote}
use Rattle.wef_messages.proofs.Said.{kept_end_to}
use Rattle.wef_messages.proofs.messages.NoteBytes.address.Goals as goal

pub returns : goal.returns
returns c = kept_end_to c.self.inside.address c.self.inside.bytes c.self.invariant ∙ ap (λ (n : EndNote). n.end_to) c.self.view_is
