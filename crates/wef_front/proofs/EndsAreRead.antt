-- What a source sends of the end of a session, a collector reads as it was meant.
use Rattle.std.proofs.Common.{◌≡◌, ℕ, ◌+◌, ◌≤◌, ◌^◌, List, [], ◌∷◌, ◌++◌, length, refl, ap, sym, subst, ◌∙◌, arith, length-append}
use Rattle.std.specs.Prelude.{Option, Some, None, Result}
use Rattle.std.specs.List.{AllByRecursion}
use Rattle.std.specs.Option.{option_and_then}
use Rattle.std.specs.Result.{result_ok}
use Rattle.std.specs.Str.{chars}
use Rattle.std.proofs.Math.Utf8.{encode}
use Rattle.wef_base.specs.declared.tree.Element.{Element}
use Rattle.wef_bodies.proofs.BodiesAgain.{body_again}
use Rattle.wef_bodies.specs.Spaces.{subscription_end}
use Rattle.wef_bodies.specs.declared.bodies.Body.TheVariants.{Ended}
use Rattle.wef_building.specs.declared.sessions.Lease.{Lease}
use Rattle.wef_building.specs.declared.sessions.Session.{Session}
use Rattle.wef_envelope.specs.Envelopes.{said}
use Rattle.wef_envelope.specs.Laws.{IsPlain, IsSpelt, IsTrimmed}
use Rattle.wef_envelope.specs.Written.{written}
use Rattle.wef_envelope.specs.declared.actions.TheConstants.{SUBSCRIPTION_END}
use Rattle.wef_envelope.specs.declared.envelopes.Envelope.{Envelope}
use Rattle.wef_envelope.specs.declared.envelopes.EnvelopeFault.{EnvelopeFault}
use Rattle.wef_envelope.proofs.WrittenIsRead.{written_is_read}
use Rattle.wef_replies.proofs.IdTexts.{id_spelt}
use Rattle.wef_source.specs.Answers.{Shuts}
use Rattle.wef_source.specs.Machine.{End, end_notes, most_drawn, next_id, note_of, note_to, notes_of}
use Rattle.wef_source.specs.Serving.{NoteCanBeSent}
use Rattle.wef_source.specs.declared.messages.EndNote.{EndNote}
use Rattle.wef_front.proofs.RepliesAreHeard.{anonymous_trimmed, tree_again}
use Rattle.wef_front.specs.Ends.{EndsAreRead, IsReadAgain, note_by, note_said}
use Rattle.wef_front_source.proofs.EndsAreGood.{address_text, end_good}
use Rattle.wef_front_source.specs.Sending.{end_envelope}

-- ---- one note

end_trimmed : IsTrimmed SUBSCRIPTION_END.now
unfolding chars encode
end_trimmed = refl

pub plain_end : (note : EndNote) → NoteCanBeSent note → IsSpelt note.id → IsPlain (end_envelope note)
plain_end note can spelt = record {
  to = (address_text note.end_to can.end_to).0;
  resource = tt;
  reply_to = anonymous_trimmed;
  action = end_trimmed;
  id = spelt;
  relates = tt;
  machine = tt;
  max_size = tt;
  identifier = tt;
  bookmark = tt;
}

action_is : SUBSCRIPTION_END.now ≡ subscription_end
unfolding subscription_end
action_is = refl

said_again : (now : ℕ) (note : EndNote) → NoteCanBeSent note → note_said now (end_envelope note) ≡ Some note
said_again now note can =
    ap (note_by (Some note.end_to) note.id) (body_again now (Ended note.identifier note.status) (end_envelope note) can.trimmed action_is refl)

note_again : (now : ℕ) (note : EndNote) → NoteCanBeSent note → IsSpelt note.id → IsReadAgain now note
note_again now note can spelt =
    ap (λ (o : Option Element). option_and_then (note_said now) (option_and_then (λ (r : Element). result_ok (said r)) o))
    (tree_again (written (end_envelope note)) (end_good note can))
    ∙ ap (λ (r : Result Envelope EnvelopeFault). option_and_then (note_said now) (result_ok r)) (written_is_read (end_envelope note) (plain_end note can spelt))
    ∙ said_again now note can

-- ---- all notes of a source

abbrev HasSpeltId : EndNote → Type 0
HasSpeltId note = IsSpelt note.id

both_spelt : (xs ys : List EndNote) → AllByRecursion HasSpeltId xs → AllByRecursion HasSpeltId ys → AllByRecursion HasSpeltId (xs ++ ys)
both_spelt [] ys p q = q
both_spelt (x ∷ xs) ys p q = (p.0, both_spelt xs ys p.1 q)

to_spelt : (id : ℕ) (identifier : List ℕ) (end_to : Option (List ℕ)) → id + length (note_to id identifier end_to) ≤ 2 ^ 128 → AllByRecursion HasSpeltId (note_to id identifier end_to)
to_spelt id identifier None most = tt
to_spelt id identifier (Some a) most = (id_spelt id (omega (arith, most)), tt)

of_spelt : (id : ℕ) (lease : Option Lease) → id + length (note_of id lease) ≤ 2 ^ 128 → AllByRecursion HasSpeltId (note_of id lease)
of_spelt id None most = tt
of_spelt id (Some lease) most = to_spelt id lease.identifier lease.end_to most

pub notes_spelt : (id : ℕ) (ss : List Session) → id + length (notes_of id ss) ≤ 2 ^ 128 → AllByRecursion HasSpeltId (notes_of id ss)
notes_spelt id [] most = tt
notes_spelt id (s ∷ ss) most =
    let one = note_of id s.lease in
    let more = notes_of (id + length one) ss in
    let both : length (one ++ more) ≡ length one + length more = length-append one more in
    both_spelt one more (of_spelt id s.lease (omega (arith, most, both))) (notes_spelt (id + length one) ss (omega (arith, most, both)))

again_each : (now : ℕ) (notes : List EndNote) → AllByRecursion NoteCanBeSent notes → AllByRecursion HasSpeltId notes → AllByRecursion (IsReadAgain now) notes
again_each now [] can spelt = tt
again_each now (note ∷ notes) can spelt = (note_again now note can.0 spelt.0, again_each now notes can.1 spelt.1)

shut_again :
    (now : ℕ) (end end' : End) (notes : List EndNote) → end.boot ≤ 18446744073709551615 → Shuts end end' notes → AllByRecursion NoteCanBeSent notes →
    AllByRecursion (IsReadAgain now) notes
shut_again now end end' notes boot shuts can =
    let most : end.drawn + length (end_notes end) ≤ most_drawn = subst (λ (list : List EndNote). end.drawn + length list ≤ most_drawn) shuts.1 shuts.0 in
    let within : next_id end + length (end_notes end) ≤ 2 ^ 128 = omega (arith, boot, most) in
    again_each now notes can (subst (AllByRecursion HasSpeltId) (sym shuts.1) (notes_spelt (next_id end) end.sessions within))

pub ends_are_read : EndsAreRead
ends_are_read = record { note = note_again; shut = shut_again }
