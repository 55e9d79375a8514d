-- What is read of a tree that says no envelope is its fault.
use Rattle.std.proofs.Common.{◌≡◌, subst}
use Rattle.std.specs.Prelude.{Result, Err}
use Rattle.wef_envelope.specs.Envelopes.{Says}
use Rattle.wef_envelope.specs.declared.envelopes.Envelope.{Envelope}
use Rattle.wef_envelope.specs.declared.envelopes.EnvelopeFault.{EnvelopeFault}
use Rattle.wef_envelope.specs.declared.envelopes.EnvelopeFault.TheVariants.{NoMemory, NotSoap, MustUnderstand, HeaderRequired, RepeatedHeader}
use Rattle.wef_replies.specs.Refusals.{IsOfTree}

said_so : (fault : EnvelopeFault) (given : Result Envelope EnvelopeFault) → IsOfTree fault → Says (Err fault) given → given ≡ Err fault
said_so NoMemory given of says = absurd of
said_so NotSoap given of says = says
said_so (MustUnderstand name) given of says = says
said_so (HeaderRequired name) given of says = says
said_so (RepeatedHeader name) given of says = says

pub said_is : (read given : Result Envelope EnvelopeFault) (fault : EnvelopeFault) → read ≡ Err fault → IsOfTree fault → Says read given → given ≡ Err fault
said_is read given fault is of says = said_so fault given of (subst (λ r. Says r given) is says)
