-- How a message is refused that can't be read.
use Rattle.std.specs.Prelude.{◌≡◌, ℕ, Bool, ◌&&◌, not, is_some, List, Option, Some, None, Result}
use Rattle.std.specs.declared.result.Result.TheVariants.{Ok, Err}
use Rattle.wef_base.specs.Names.{same}
use Rattle.wef_base.specs.declared.tree.Charset.{Charset}
use Rattle.wef_base.specs.declared.tree.Element.{Element}
use Rattle.wef_envelope.specs.declared.actions.TheConstants.{ENUMERATE}
use Rattle.wef_envelope.specs.declared.envelopes.Envelope.{Envelope}
use Rattle.wef_envelope.specs.declared.envelopes.EnvelopeFault.{EnvelopeFault}
use Rattle.wef_envelope.specs.declared.envelopes.EnvelopeFault.TheVariants as envelope
use Rattle.wef_ids.specs.declared.FaultName.{FaultName}
use Rattle.wef_ids.specs.declared.FaultName.TheVariants as the
use Rattle.wef_tree_reading.specs.Spelling.{ReadsTree}
use Rattle.wef_xml.specs.declared.faults.TreeFault.{TreeFault}
use Rattle.wef_xml.specs.declared.faults.TreeFault.TheVariants as tree

-- what is answered where a tree says no envelope; want of memory isn't among what a tree says
abbrev pub envelope_refused : EnvelopeFault → FaultName
envelope_refused envelope.NoMemory = the.InvalidMessage
envelope_refused envelope.NotSoap = the.InvalidMessage
envelope_refused (envelope.MustUnderstand name) = the.MustUnderstand
envelope_refused (envelope.HeaderRequired name) = the.MessageInformationHeaderRequired
envelope_refused (envelope.RepeatedHeader name) = the.InvalidMessage

-- a fault that a tree has, and no want of memory
abbrev pub IsOfTree : EnvelopeFault → Type 0
IsOfTree envelope.NoMemory = ⊥
IsOfTree _ = Unit {0}

-- whether an envelope asks for the subscriptions of a source, and doesn't name it
abbrev pub is_nameless : Envelope → Bool
is_nameless e = same e.action ENUMERATE.now && not (is_some e.machine)

-- what is answered where a document is no tree, by the first piece that isn't good; want of memory isn't answered
abbrev pub tree_refused : TreeFault → Option FaultName
tree_refused tree.NoMemory = None
tree_refused (tree.BadCharset at) = Some the.EncodingLimit
tree_refused (tree.TooDeep at) = Some the.EncodingLimit
tree_refused (tree.BadXml at) = Some the.InvalidMessage
tree_refused (tree.Refused at) = Some the.InvalidMessage

-- what is heard of a document that is no tree
abbrev pub HearsRefused : {H : Type 0} → (FaultName → H) → Option FaultName → H → Type 0
HearsRefused unheard None heard = ⊥
HearsRefused unheard (Some name) heard = heard ≡ unheard name

-- What is heard of a document, by what reading it gave: what its tree says to this end, or why it is refused.
abbrev pub HearsRead : {H : Type 0} → (Element → H) → (FaultName → H) → Result Element TreeFault → H → Type 0
HearsRead heard_in unheard (Ok root) heard = heard ≡ heard_in root
HearsRead heard_in unheard (Err fault) heard = HearsRefused unheard (tree_refused fault) heard

-- What is heard of bytes in a charset, as the one tree that they spell, or as the fault of the first piece that isn't good.
abbrev pub HearsBytes : {H : Type 0} → (Element → H) → (FaultName → H) → Charset → List ℕ → H → Type 0
HearsBytes heard_in unheard charset bytes heard = (read : Result Element TreeFault) × ReadsTree charset bytes read × HearsRead heard_in unheard read heard
