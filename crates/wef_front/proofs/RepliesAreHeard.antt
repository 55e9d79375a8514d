-- A source hears what the collector says to it.
use Rattle.std.proofs.Common.{◌≡◌, ℕ, true, false, cond, List, [], ◌∷◌, refl, ap, ◌∙◌}
use Rattle.std.specs.Prelude.{Option, Some, None, Ok}
use Rattle.std.specs.Option.{option_and_then, option_map, option_or}
use Rattle.std.proofs.Math.Utf8.{encode}
use Rattle.std.specs.Str.{chars}
use Rattle.wef_base.specs.Names.{same}
use Rattle.wef_base.specs.declared.tree.Charset.TheVariants.{Utf8}
use Rattle.wef_base.specs.declared.tree.Element.{Element}
use Rattle.wef_envelope.specs.Envelopes.{id_in, said}
use Rattle.wef_envelope.specs.Faults.{action_by, action_of, fault_of, fault_tree, is_known, standard_of}
use Rattle.wef_envelope.specs.Laws.{IsPlain, IsSpelt, IsTrimmed}
use Rattle.wef_envelope.specs.Written.{written}
use Rattle.wef_envelope.specs.declared.actions.TheConstants.{ACK, ANONYMOUS}
use Rattle.wef_envelope.specs.declared.faults.Fault.{Fault}
use Rattle.wef_envelope.specs.declared.faults.Standard.{Standard}
use Rattle.wef_envelope.specs.declared.faults.Standard.TheVariants as the
use Rattle.wef_envelope.proofs.FaultsAreRead.{faults_are_read}
use Rattle.wef_envelope.proofs.WrittenIsRead.{written_id_is_found, written_is_read}
use Rattle.wef_ids.specs.IdTexts.{id_of, id_of_value}
use Rattle.wef_ids.specs.Ids.{next_id}
use Rattle.wef_ids.specs.declared.FaultName.{FaultName}
use Rattle.wef_ids.specs.declared.MessageId.{MessageId}
use Rattle.wef_ids.specs.declared.ids.Ids.{Ids}
use Rattle.wef_source.specs.declared.messages.Reply as source
use Rattle.wef_source.specs.declared.messages.Reply.TheVariants as replies
use Rattle.wef_tree.proofs.BoundPrefixes.{same_self}
use Rattle.wef_tree.proofs.SpellsAgain.{spells_again}
use Rattle.wef_tree_reading.specs.Documents.{tree_of}
use Rattle.wef_tree_reading.proofs.Functions.{is_given}
use Rattle.wef_xml.specs.Canonical.{canonical, encoded}
use Rattle.wef_xml.specs.Good.{IsGoodTree, IsXmlText}
use Rattle.wef_front_source.specs.HeardReplies.{id_told, told, told_by, told_in}
use Rattle.wef_front.specs.Laws.{RepliesAreRead}
use Rattle.wef_front.specs.Replies.{IsKnownReply, reply_bytes}
use Rattle.wef_front_collector.specs.Replies.{ack_envelope, answer_of}
use Rattle.wef_replies.specs.Faults.{fault_among}
use Rattle.wef_replies.specs.Replies.{envelope_with, fault_envelope}
use Rattle.wef_front_collector.specs.declared.saying.Said.TheVariants.{Ack, Fault as FaultSaid}
use Rattle.wef_ids.proofs.PlainIds.{id_text_good, id_text_trimmed}
use Rattle.wef_front_collector.proofs.AcksAreGood.{ack_reply_good}
use Rattle.wef_replies.proofs.RepliesAreGood.{fault_reply_good}

-- ---- envelopes

-- no space is trimmed off the action of a fault, and none has that of an acknowledgement
abbrev pub IsFaultAction : List ℕ → Type 0
IsFaultAction action = IsTrimmed action × (same action ACK.now ≡ false)

pub fault_action : (standard : Option Standard) → IsFaultAction (action_by standard)
unfolding chars encode
fault_action (Some the.Soap) = (refl, refl)
fault_action (Some the.Addressing) = (refl, refl)
fault_action (Some the.Eventing) = (refl, refl)
fault_action (Some the.Management) = (refl, refl)
fault_action (Some the.Enumeration) = (refl, refl)
fault_action None = (refl, refl)

ack_trimmed : IsTrimmed ACK.now
unfolding chars encode
ack_trimmed = refl

pub anonymous_trimmed : IsTrimmed ANONYMOUS.now
unfolding chars encode
anonymous_trimmed = refl

-- an envelope that answers another is one that reads back
pub reply_plain : (action : List ℕ) (body : List Element) (id relates : MessageId) → IsTrimmed action → IsSpelt id → IsSpelt relates → IsPlain (envelope_with action body id (Some relates))
reply_plain action body id relates named spelt related =
    record { to = anonymous_trimmed; resource = tt; reply_to = tt; action = named; id = spelt; relates = related; machine = tt; max_size = tt; identifier = tt; bookmark = tt }

-- what is written for it says it, with the id of the text
pub reply_said : (action : List ℕ) (body : List Element) (text : List ℕ) (relates : MessageId) → IsTrimmed action → IsTrimmed text → IsSpelt relates
    → said (written (envelope_with action body (id_of text) (Some relates))) ≡ Ok (envelope_with action body (id_of text) (Some relates))
reply_said action body text relates named spelt related =
    written_is_read (envelope_with action body (id_of text) (Some relates)) (reply_plain action body (id_of text) relates named (record { trimmed = spelt; value = refl }) related)

-- the bytes of a good tree give it
pub tree_again : (root : Element) → IsGoodTree root → tree_of Utf8 (encoded Utf8 (canonical root)) ≡ Some root
tree_again root good = is_given Utf8 (encoded Utf8 (canonical root)) root (spells_again Utf8 root good)

-- so they tell what the tree does
pub tree_told : (root : Element) → IsGoodTree root → told (encoded Utf8 (canonical root)) ≡ told_by (said root)
tree_told root good = ap (option_and_then (λ (r : Element). told_by (said r))) (tree_again root good)

-- and say the id that the tree does
pub tree_id : (root : Element) → IsGoodTree root → id_told (encoded Utf8 (canonical root)) ≡ id_in root
tree_id root good = ap (option_and_then id_in) (tree_again root good)

-- ---- replies

ack_told : (id relates : MessageId) → IsTrimmed id.text → IsXmlText id.text → IsSpelt relates → IsXmlText relates.text
    → told (encoded Utf8 (canonical (written (ack_envelope id (Some relates))))) ≡ Some (relates, replies.Ack)
unfolding written
ack_told id relates trimmed allowed spelt related =
    tree_told (written (ack_envelope id (Some relates))) (ack_reply_good id (Some relates) allowed related)
    ∙ ap told_by (reply_said ACK.now [] id.text relates ack_trimmed trimmed spelt)
    ∙ ap (λ b. told_in (Some relates) (cond b (Some replies.Ack) None)) (same_self ACK.now)

fault_told : (name : FaultName) (id relates : MessageId) → is_known name ≡ true → IsTrimmed id.text → IsXmlText id.text → IsSpelt relates → IsXmlText relates.text
    → told (encoded Utf8 (canonical (written (fault_envelope name id (Some relates))))) ≡ Some (relates, replies.Fault name)
unfolding written
fault_told name id relates known trimmed allowed spelt related =
    let body : List Element = fault_tree (fault_of name) ∷ [] in
    tree_told (written (fault_envelope name id (Some relates))) (fault_reply_good name id (Some relates) known allowed related)
    ∙ ap told_by (reply_said (action_of name) body id.text relates (fault_action (standard_of name)).0 trimmed spelt)
    ∙ ap (λ b. told_in (Some relates) (cond b (Some replies.Ack) (option_map replies.Fault (fault_among body)))) (fault_action (standard_of name)).1
    ∙ ap (λ (o : Option Fault). told_in (Some relates) (option_map replies.Fault (option_or (option_map (λ (f : Fault). f.name) o) None))) (faults_are_read name known)

pub acks_are_heard : (ids : Ids) (relates : MessageId) → IsSpelt relates → IsXmlText relates.text
    → told (answer_of ids Utf8 (Some relates) Ack).body ≡ Some (relates, replies.Ack)
acks_are_heard ids relates spelt related = ack_told (id_of_value (next_id ids)) relates (id_text_trimmed (next_id ids)) (id_text_good (next_id ids)) spelt related

pub faults_are_heard : (name : FaultName) (ids : Ids) (relates : MessageId) → is_known name ≡ true → IsSpelt relates → IsXmlText relates.text
    → told (answer_of ids Utf8 (Some relates) (FaultSaid name)).body ≡ Some (relates, replies.Fault name)
faults_are_heard name ids relates known spelt related =
    fault_told name (id_of_value (next_id ids)) relates known (id_text_trimmed (next_id ids)) (id_text_good (next_id ids)) spelt related

-- ---- the bytes of replies

reply_told :
    (id relates : MessageId) (answer : source.Reply) → IsSpelt id → IsXmlText id.text → IsSpelt relates → IsXmlText relates.text → IsKnownReply answer
    → told (reply_bytes id relates answer) ≡ Some (relates, answer)
reply_told id relates replies.Ack own allowed spelt related known = ack_told id relates own.trimmed allowed spelt related
reply_told id relates (replies.Fault name) own allowed spelt related known = fault_told name id relates known own.trimmed allowed spelt related

reply_id :
    (id relates : MessageId) (answer : source.Reply) → IsSpelt id → IsXmlText id.text → IsSpelt relates → IsXmlText relates.text → IsKnownReply answer
    → id_told (reply_bytes id relates answer) ≡ Some id
reply_id id relates replies.Ack own allowed spelt related known =
    tree_id (written (ack_envelope id (Some relates))) (ack_reply_good id (Some relates) allowed related)
    ∙ written_id_is_found (ack_envelope id (Some relates)) (reply_plain ACK.now [] id relates ack_trimmed own spelt)
reply_id id relates (replies.Fault name) own allowed spelt related known =
    tree_id (written (fault_envelope name id (Some relates))) (fault_reply_good name id (Some relates) known allowed related)
    ∙ written_id_is_found (fault_envelope name id (Some relates))
    (reply_plain (action_of name) (fault_tree (fault_of name) ∷ []) id relates (fault_action (standard_of name)).0 own spelt)

pub replies_are_read : RepliesAreRead
replies_are_read = record { told = reply_told; id = reply_id }
