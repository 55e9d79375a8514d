-- Replies, as they are written.
use Rattle.std.specs.Prelude.{ℕ, false, List, [], ◌∷◌, Option, Some, None}
use Rattle.wef_base.specs.declared.tree.Charset.{Charset}
use Rattle.wef_base.specs.declared.tree.Element.{Element}
use Rattle.wef_envelope.specs.Faults.{action_of, fault_of, fault_tree}
use Rattle.wef_envelope.specs.Written.{written}
use Rattle.wef_envelope.specs.declared.actions.TheConstants.{ANONYMOUS}
use Rattle.wef_envelope.specs.declared.envelopes.Envelope.{Envelope}
use Rattle.wef_http_heads.specs.declared.answers.Answer.{Answer}
use Rattle.wef_ids.specs.declared.FaultName.{FaultName}
use Rattle.wef_ids.specs.declared.MessageId.{MessageId}
use Rattle.wef_xml.specs.Canonical.{canonical, encoded}

-- an envelope that answers another: it goes to whoever asked
abbrev pub envelope_with : List ℕ → List Element → MessageId → Option MessageId → Envelope
envelope_with action body id relates = record {
  to = Some ANONYMOUS.now;
  resource = None;
  reply_to = None;
  action = action;
  id = id;
  relates = relates;
  machine = None;
  max_size = None;
  identifier = None;
  bookmark = None;
  ack_wanted = false;
  body = body;
}

abbrev pub fault_envelope : FaultName → MessageId → Option MessageId → Envelope
fault_envelope name id relates = envelope_with (action_of name) (fault_tree (fault_of name) ∷ []) id relates

-- an answer that has an envelope
abbrev pub answer_with : ℕ → Charset → Envelope → Answer
answer_with status charset e = record { status = status; body = encoded charset (canonical (written e)) }
