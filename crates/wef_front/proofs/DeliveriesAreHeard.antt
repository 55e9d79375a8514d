-- What a source sends, the collector hears.
use Rattle.std.proofs.Common.{◌≡◌, ℕ, true, false, Bool, ◌&&◌, cond, List, [], ◌∷◌, refl, ap, sym, ◌∙◌}
use Rattle.std.specs.Prelude.{Option, Some, None, Result, Ok, IfSome}
use Rattle.std.specs.Option.{option_and_then}
use Rattle.std.specs.Result.{result_ok}
use Rattle.std.specs.FinMap as map
use Rattle.std.proofs.Math.Utf8.{encode}
use Rattle.std.specs.Str.{chars}
use Rattle.wef_base.specs.Names.{same, source_name, subscription_name}
use Rattle.wef_base.specs.declared.tree.Charset.TheVariants.{Utf8}
use Rattle.wef_base.specs.declared.tree.Element.{Element}
use Rattle.wef_batch.proofs.WrittenGood as batch
use Rattle.wef_batch.proofs.WrittenRead as again
use Rattle.wef_bookmark.specs.Nodes as nodes
use Rattle.wef_bookmark.specs.Order.{Marks}
use Rattle.wef_elements.specs.Children.{as_nodes}
use Rattle.wef_elements.specs.Spaces.{management}
use Rattle.wef_elements.specs.Texts.{only_text}
use Rattle.wef_envelope.specs.Envelopes.{id_in, said}
use Rattle.wef_envelope.specs.Headers.{header_of, name_of, space_of}
use Rattle.wef_envelope.specs.Laws.{IsPlain, IsTrimmed}
use Rattle.wef_envelope.specs.Spaces.{management as managed}
use Rattle.wef_envelope.specs.Written.{written}
use Rattle.wef_envelope.specs.declared.actions.TheConstants.{ENUMERATE, EVENTS}
use Rattle.wef_envelope.specs.declared.envelopes.Envelope.{Envelope}
use Rattle.wef_envelope.specs.declared.envelopes.EnvelopeFault.{EnvelopeFault}
use Rattle.wef_envelope.specs.declared.headers.Header.TheVariants as the
use Rattle.wef_envelope.proofs.Places.{named_is}
use Rattle.wef_envelope.proofs.WrittenIsRead.{written_id_is_found, written_is_read}
use Rattle.wef_source.specs.declared.messages.Delivery as source
use Rattle.wef_tree.proofs.BoundPrefixes.{same_self}
use Rattle.wef_tree.proofs.SpellsAgain.{spells_again}
use Rattle.wef_xml.specs.Good.{IsGoodTree}
use Rattle.wef_front_source.proofs.DeliveriesAreGood.{can_be_written, written_good}
use Rattle.wef_front.proofs.RepliesAreHeard.{anonymous_trimmed, tree_again}
use Rattle.wef_front_collector.specs.Heard.{Hears, asked_by, asked_of, batch_in, delivery_asked, events_asked}
use Rattle.wef_front_source.specs.Sending.{CanBeSent, IsPlainText, delivery_bytes, delivery_envelope}
use Rattle.wef_front.specs.Sent.{DeliveriesAreRead, delivery_by, delivery_said}
use Rattle.wef_front_collector.specs.declared.hearing.Asked.TheVariants.{Refused, Take}
use Rattle.wef_http_heads.specs.declared.targets.Target.TheVariants.{Delivery}
use Rattle.wef_ids.specs.declared.FaultName.TheVariants as fault

-- ---- the envelope

-- the header of a bookmark is one
entries_are : (entries : List (List ℕ × ℕ)) → header_of (nodes.header_of entries) ≡ Some the.Bookmark
unfolding space_of name_of management managed
entries_are [] = named_is the.Bookmark (only_text nodes.earliest) refl
entries_are (e ∷ es) = named_is the.Bookmark (as_nodes (nodes.list_element (e ∷ es) ∷ [])) refl

bookmark_is : (b : Marks) → header_of (nodes.bookmark_element b) ≡ Some the.Bookmark
bookmark_is b = entries_are (map.entries b)

events_trimmed : IsTrimmed EVENTS.now
unfolding chars encode
events_trimmed = refl

pub first_part : (o : Option (List ℕ)) → IfSome o IsPlainText → IfSome o IsTrimmed
first_part None plain = tt
first_part (Some t) plain = plain.0

plain_delivery : (d : source.Delivery) → CanBeSent d → IsPlain (delivery_envelope d)
plain_delivery d sent = record {
  to = sent.notify_to.0;
  resource = tt;
  reply_to = anonymous_trimmed;
  action = events_trimmed;
  id = sent.spelt;
  relates = tt;
  machine = tt;
  max_size = tt;
  identifier = first_part d.identifier sent.identifier;
  bookmark = bookmark_is d.batch.to;
}

delivery_good : (d : source.Delivery) → CanBeSent d → IsGoodTree (written (delivery_envelope d))
delivery_good d sent = written_good d (can_be_written d sent) sent.kept sent.entries sent.names

-- ---- what it asks

-- the action isn't that of an Enumerate
no_enumerate : same EVENTS.now ENUMERATE.now ≡ false
no_enumerate = refl

-- its batch is read again
batch_again : (d : source.Delivery) → CanBeSent d → batch_in (delivery_envelope d) ≡ Ok d.batch
batch_again d sent = again.written_is_read d.batch sent.plain sent.entries

asked_is : (d : source.Delivery) (sub source u s : List ℕ) → CanBeSent d → subscription_name sub ≡ Some u → source_name source ≡ Some s
    → asked_by (Delivery sub source) (delivery_envelope d) ≡ Take u s d.batch
asked_is d sub source u s sent named from =
    let e : Envelope = delivery_envelope d in
    ap (λ (b : Bool). cond b (Refused fault.MessageInformationHeaderRequired) (delivery_asked sub source e)) no_enumerate'
    ∙ ap (λ (b : Bool). cond b (events_asked (subscription_name sub) (source_name source) (batch_in e)) (Refused fault.ActionNotSupported)) (same_self EVENTS.now)
    ∙ (λ i. events_asked (named i) (from i) (batch_again d sent i))
  where
    no_enumerate' : (same EVENTS.now ENUMERATE.now && true) ≡ false
    no_enumerate' = refl

pub deliveries_are_heard : (d : source.Delivery) (sub source u s : List ℕ) → CanBeSent d → subscription_name sub ≡ Some u → source_name source ≡ Some s
    → Hears (Delivery sub source) Utf8 (delivery_bytes d) (record { relates = Some d.id; asked = Take u s d.batch })
deliveries_are_heard d sub source u s sent named from =
    let e : Envelope = delivery_envelope d in
    let plain = plain_delivery d sent in
    let id : id_in (written e) ≡ Some d.id = written_id_is_found e plain in
    let asked : asked_of (Delivery sub source) (said (written e)) ≡ Take u s d.batch =
    ap (asked_of (Delivery sub source)) (written_is_read e plain) ∙ asked_is d sub source u s sent named from in
    let heard : record { relates = id_in (written e); asked = asked_of (Delivery sub source) (said (written e)) } ≡ record { relates = Some d.id; asked = Take u s d.batch } =
    λ i. record { relates = id i; asked = asked i } in
    (Ok (written e), spells_again Utf8 (written e) (delivery_good d sent), sym heard)

-- ---- what it is

-- the delivery of the envelope is itself
said_again : (d : source.Delivery) → CanBeSent d → delivery_said d.notify_to (delivery_envelope d) ≡ Some d
said_again d sent =
    let e : Envelope = delivery_envelope d in
    ap (λ (b : Bool). cond b (delivery_by d.notify_to e (batch_in e)) None) (same_self EVENTS.now) ∙ ap (delivery_by d.notify_to e) (batch_again d sent)

pub deliveries_are_read : DeliveriesAreRead
deliveries_are_read d sent =
    ap (λ (o : Option Element). option_and_then (delivery_said d.notify_to) (option_and_then (λ (r : Element). result_ok (said r)) o))
    (tree_again (written (delivery_envelope d)) (delivery_good d sent))
    ∙ ap (λ (r : Result Envelope EnvelopeFault). option_and_then (delivery_said d.notify_to) (result_ok r)) (written_is_read (delivery_envelope d) (plain_delivery d sent))
    ∙ said_again d sent
