-- The events that lines say.
use Rattle.std.proofs.Common.{◌≡◌, ℕ, Bool, true, false, List, refl, sym, subst, true≢false}
use Rattle.std.proofs.lemmas.Str.{IsUtf8-append, IsUtf8-from_is_utf8}
use Rattle.std.specs.Prelude.{Option, Some, None, Err}
use Rattle.std.specs.Str.{IsUtf8, chars, is_utf8}
use lib.Utf8.{encode}
use Rattle.wef_base.specs.declared.tree.Charset.TheVariants.{Utf8}
use Rattle.wef_event.proofs.PlainUtf8.{stripped}
use Rattle.wef_event.specs.Reading.{ReadsEvent}
use Rattle.wef_event.specs.declared.records.EventFault.{EventFault}
use Rattle.wef_event.specs.declared.records.EventFault.TheVariants as faults
use Rattle.wef_tree_reading.specs.Documents.{tree_of}
use Rattle.wef_xml.specs.Decoding.{utf8_mark, without_front, without_mark}
use Rattle.wef_xml.specs.Fronts.{strip}
use Rattle.wef_lines.specs.Documents.{new_event_in}
use Rattle.wef_lines.proofs.SaidEvents.{bad, said}
use Rattle.wef_commands.specs.Writing.{is_wanting}

mark_is_utf8 : is_utf8 utf8_mark ≡ true
unfolding is_utf8 chars encode
mark_is_utf8 = refl

-- a text is UTF-8 where it is so behind its mark
with_mark : (text : List ℕ) → IsUtf8 (without_mark Utf8 text) → IsUtf8 text
with_mark text good = by (strip utf8_mark text) refl good
  where
    by : (o : Option (List ℕ)) → strip utf8_mark text ≡ o → IsUtf8 (without_front text o) → IsUtf8 text
    by None e h = h
    by (Some rest) e h = subst IsUtf8 (sym (stripped utf8_mark text rest e)) (IsUtf8-append utf8_mark rest (IsUtf8-from_is_utf8 utf8_mark mark_is_utf8) h)

-- what isn't UTF-8 says no event
pub not_utf8 : (text : List ℕ) → (IsUtf8 text → ⊥) → new_event_in text ≡ None
unfolding new_event_in tree_of
not_utf8 text other = by (is_utf8 (without_mark Utf8 text)) refl
  where
    by : (b : Bool) → is_utf8 (without_mark Utf8 text) ≡ b → new_event_in text ≡ None
    by true e = absurd (other (with_mark text (IsUtf8-from_is_utf8 (without_mark Utf8 text) e)))
    by false e = rw e refl

-- a text that is refused, and not for want of memory, says no event
pub none_said : (text : List ℕ) (fault : EventFault) → ReadsEvent false text (Err fault) → is_wanting fault ≡ false → new_event_in text ≡ None
none_said text faults.NoMemory reads other = absurd (true≢false other)
none_said text (faults.BadEvent at) reads other = bad text at reads
none_said text faults.NoChannel reads other = said text (Err faults.NoChannel) reads
none_said text faults.NoRecordId reads other = said text (Err faults.NoRecordId) reads
none_said text faults.TooLong reads other = said text (Err faults.TooLong) reads
