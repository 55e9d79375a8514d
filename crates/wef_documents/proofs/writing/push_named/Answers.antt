use Rattle.std.proofs.Common.{refl}
use Rattle.wef_documents.proofs.writing.push_named.Goals as goal

pub returns : goal.returns
returns c = rw (c.in_ok-push.ensures.ok, c.in_ok-holder.ensures, c.in_ok-elements.ensures) refl
