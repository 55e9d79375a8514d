-- The trees of replies are good.
use Rattle.std.proofs.Common.{◌≡◌, ℕ, true, List, [], ◌∷◌, refl}
use Rattle.std.specs.Prelude.{Option, Some, None, IfSome}
use Rattle.wef_base.specs.declared.tree.Element.{Element}
use Rattle.wef_elements.specs.Good.{AreGoodElements}
use Rattle.wef_envelope.specs.Faults.{action_by, action_of, fault_of, fault_tree, is_known, standard_of}
use Rattle.wef_envelope.specs.Written.{written}
use Rattle.wef_envelope.specs.declared.actions.TheConstants.{ADDRESSING_FAULT, ANONYMOUS, ENUMERATION_FAULT, EVENTING_FAULT, MANAGEMENT_FAULT}
use Rattle.wef_envelope.specs.declared.faults.Standard.{Standard}
use Rattle.wef_envelope.specs.declared.faults.Standard.TheVariants as the
use Rattle.wef_envelope.proofs.FaultsAreGood.{faults_are_good}
use Rattle.wef_envelope.proofs.WrittenIsGood.{written_is_good}
use Rattle.wef_ids.specs.declared.FaultName.{FaultName}
use Rattle.wef_ids.specs.declared.MessageId.{MessageId}
use Rattle.wef_xml.specs.Good.{IsGoodTree, IsXmlText}
use Rattle.wef_xml.proofs.Ascii.{plain_text}
use Rattle.wef_replies.specs.Replies.{envelope_with, fault_envelope}

-- ---- texts

action_good : (standard : Option Standard) → IsXmlText (action_by standard)
action_good (Some the.Soap) = plain_text ADDRESSING_FAULT.now refl
action_good (Some the.Addressing) = plain_text ADDRESSING_FAULT.now refl
action_good (Some the.Eventing) = plain_text EVENTING_FAULT.now refl
action_good (Some the.Management) = plain_text MANAGEMENT_FAULT.now refl
action_good (Some the.Enumeration) = plain_text ENUMERATION_FAULT.now refl
action_good None = plain_text MANAGEMENT_FAULT.now refl

-- ---- envelopes

pub reply_good : (action : List ℕ) (body : List Element) (id : MessageId) (relates : Option MessageId) → IsXmlText action → AreGoodElements body 62 → IsXmlText id.text
    → IfSome relates (λ (x : MessageId). IsXmlText x.text) → IsGoodTree (written (envelope_with action body id relates))
reply_good action body id relates named good spelt related =
    written_is_good (envelope_with action body id relates) 60 (record {
      to = plain_text ANONYMOUS.now refl;
      resource = tt;
      reply_to = tt;
      action = named;
      id = spelt;
      relates = related;
      machine = tt;
      max_size = tt;
      identifier = tt;
      bookmark = tt;
      body = good;
    })

pub fault_reply_good : (name : FaultName) (id : MessageId) (relates : Option MessageId) → is_known name ≡ true → IsXmlText id.text → IfSome relates (λ (x : MessageId). IsXmlText x.text)
    → IsGoodTree (written (fault_envelope name id relates))
fault_reply_good name id relates known spelt related =
    reply_good (action_of name) (fault_tree (fault_of name) ∷ []) id relates (action_good (standard_of name)) (faults_are_good name 58 known, tt) spelt related
