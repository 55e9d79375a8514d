-- The element of a fault is good.
use Rattle.std.proofs.Common.{◌≡◌, ℕ, suc, Bool, true, false, if◌then◌else◌, List, [], ◌∷◌, refl}
use Rattle.std.specs.Prelude.{codes}
use Rattle.wef_base.specs.declared.tree.Element.{Element}
use Rattle.wef_elements.specs.Good.{AreGoodElements}
use Rattle.wef_elements.proofs.GoodTrees.{holder_good, leaf_good, said_good}
use Rattle.wef_ids.specs.Faults.{fault_text}
use Rattle.wef_ids.specs.declared.FaultName.{FaultName}
use Rattle.wef_xml.specs.Good.{IsGoodAttribute, IsGoodElement, IsXmlText}
use Rattle.wef_xml.proofs.Ascii.{is_plain_text, plain_name, plain_text}
use Rattle.wef_xml.specs.Spaces.{xml_space}
use Rattle.wef_envelope.specs.Faults.{code_of, code_text, fault_of, fault_tree, has_subcode, is_known, language, prefix_by, prefixed, reason_text, subcode_of, value}
use Rattle.wef_envelope.specs.Spaces.{soap}
use Rattle.wef_envelope.specs.Written.{part}
use Rattle.wef_envelope.specs.declared.faults.FaultCode.{FaultCode}
use Rattle.wef_envelope.specs.declared.faults.FaultCode.TheVariants as of
use Rattle.wef_envelope.proofs.Tables.{each_known}
use Rattle.wef_envelope.proofs.WrittenIsGood.{soap_good}

-- ---- texts

language_good : IsGoodAttribute language
unfolding language xml_space
language_good = record { name = plain_name (codes "lang") refl; space = plain_text xml_space refl; value = plain_text (codes "en-US") refl; no_declaration = refl }

codes_good : (code : FaultCode) → IsXmlText (code_text code)
unfolding code_text
codes_good of.Sender = plain_text (codes "s:Sender") refl
codes_good of.Receiver = plain_text (codes "s:Receiver") refl
codes_good of.MustUnderstand = plain_text (codes "s:MustUnderstand") refl

names_good : (name : FaultName) → is_known name ≡ true → IsXmlText (fault_text name)
unfolding fault_text
names_good name known = plain_text (fault_text name) (each_known (λ x. is_plain_text (fault_text x)) refl name known)

prefixed_good : (name : FaultName) → is_known name ≡ true → IsXmlText (prefixed name)
unfolding fault_text prefix_by
prefixed_good name known = plain_text (prefixed name) (each_known (λ x. is_plain_text (prefixed x)) refl name known)

-- ---- parts

valued_good : (text : List ℕ) (room : ℕ) → IsXmlText text → IsGoodElement (value text) (suc room)
valued_good text room is = leaf_good soap (codes "Value") text room soap_good (plain_name (codes "Value") refl) is

subcodes_good : (name : FaultName) (room : ℕ) → is_known name ≡ true → AreGoodElements (subcode_of name) (suc (suc room))
subcodes_good name room known = by (has_subcode name)
  where
    by : (b : Bool) → AreGoodElements (if b then part (codes "Subcode") (value (prefixed name) ∷ []) ∷ [] else []) (suc (suc room))
    by true =
        (holder_good soap (codes "Subcode") (value (prefixed name) ∷ []) (suc room) soap_good (plain_name (codes "Subcode") refl) (valued_good (prefixed name) room (prefixed_good name known), tt), tt)
    by false = tt

reasons_good : (name : FaultName) (room : ℕ) → IsXmlText (fault_text name) → IsGoodElement (reason_text name) (suc room)
reasons_good name room is =
    said_good soap (codes "Text") (language ∷ []) (fault_text name) room
    (record { named = plain_name (codes "Text") refl; in_space = soap_good; attributed = (language_good, tt); different = refl }) is

-- the element of a fault of the table
pub faults_are_good : (name : FaultName) (room : ℕ) → is_known name ≡ true → IsGoodElement (fault_tree (fault_of name)) (suc (suc (suc (suc room))))
unfolding fault_tree
faults_are_good name room known =
    let code : Element = part (codes "Code") (value (code_text (code_of name)) ∷ subcode_of name) in
    let reason : Element = part (codes "Reason") (reason_text name ∷ []) in
    holder_good soap (codes "Fault") (code ∷ reason ∷ []) (suc (suc (suc room))) soap_good (plain_name (codes "Fault") refl) (
      holder_good soap (codes "Code") (value (code_text (code_of name)) ∷ subcode_of name) (suc (suc room)) soap_good (plain_name (codes "Code") refl)
          (valued_good (code_text (code_of name)) (suc room) (codes_good (code_of name)), subcodes_good name room known),
      (holder_good soap (codes "Reason") (reason_text name ∷ []) (suc (suc room)) soap_good (plain_name (codes "Reason") refl) (reasons_good name (suc room) (names_good name known), tt), tt),
    )
