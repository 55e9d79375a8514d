-- The tree of a plain event is a good one.
use Rattle.std.proofs.Common.{◌≡◌, ℕ, suc, true, List, [], ◌∷◌, codes, refl}
use Rattle.std.specs.Prelude.{Some}
use Rattle.std.specs.Fmt.{decimal}
use Rattle.std.specs.Str.{is_utf8}
use Rattle.std.proofs.lemmas.Str.{IsUtf8-from_is_utf8}
use Rattle.wef_base.specs.Characters.{is_xml_text}
use Rattle.wef_base.specs.Names.{channel_name}
use Rattle.wef_xml.specs.Good.{IsGoodElement, IsGoodTree, IsLocalName, IsXmlText}
use Rattle.wef_xml.proofs.Ascii.{plain_name, plain_text}
use Rattle.wef_elements.proofs.DecimalDigits.{number_text}
use Rattle.wef_elements.proofs.GoodTexts.{name_text, xml_text}
use Rattle.wef_elements.proofs.GoodTrees.{holder_good, leaf_good}
use Rattle.wef_event.specs.PlainEvent.{event_space, plain_tree}
use Rattle.wef_event.proofs.PlainFields.{event_data, leaf, system}

space_good : IsXmlText event_space
unfolding event_space
space_good = plain_text event_space refl

-- a field of a plain event
field_good : (name text : List ℕ) (room : ℕ) → IsLocalName name → IsXmlText text → IsGoodElement (leaf name text) (suc room)
field_good name text room named allowed = leaf_good event_space name text room space_good named allowed

system_good : (channel : List ℕ) (number id level room : ℕ) → IsXmlText channel → IsGoodElement (system channel number id level) (suc (suc room))
system_good channel number id level room allowed =
    holder_good event_space (codes "System")
    (leaf (codes "EventID") (decimal id) ∷ leaf (codes "Level") (decimal level) ∷ leaf (codes "EventRecordID") (decimal number) ∷ leaf (codes "Channel") channel ∷ [])
    (suc room) space_good (plain_name (codes "System") refl) (
      field_good (codes "EventID") (decimal id) room (plain_name (codes "EventID") refl) (number_text id),
      (
        field_good (codes "Level") (decimal level) room (plain_name (codes "Level") refl) (number_text level),
        (
          field_good (codes "EventRecordID") (decimal number) room (plain_name (codes "EventRecordID") refl) (number_text number),
          (field_good (codes "Channel") channel room (plain_name (codes "Channel") refl) allowed, tt),
        ),
      ),
    )

data_good : (word : List ℕ) (room : ℕ) → IsXmlText word → IsGoodElement (event_data word) (suc (suc room))
data_good word room allowed =
    holder_good event_space (codes "EventData") (leaf (codes "Data") word ∷ []) (suc room) space_good (plain_name (codes "EventData") refl)
    (field_good (codes "Data") word room (plain_name (codes "Data") refl) allowed, tt)

-- the tree of a plain event
pub plain_good : (channel word : List ℕ) (number id level : ℕ) → channel_name channel ≡ Some channel → is_utf8 channel ≡ true → is_utf8 word ≡ true → is_xml_text word ≡ true
    → IsGoodTree (plain_tree channel number id level word)
plain_good channel word number id level named utf8 word_utf8 allowed =
    holder_good event_space (codes "Event") (system channel number id level ∷ event_data word ∷ []) 63 space_good (plain_name (codes "Event") refl) (
      system_good channel number id level 61 (name_text channel (IsUtf8-from_is_utf8 channel utf8) named),
      (data_good word 61 (xml_text word (IsUtf8-from_is_utf8 word word_utf8) allowed), tt),
    )
