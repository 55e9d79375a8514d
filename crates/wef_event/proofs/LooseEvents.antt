-- A loose text of a tree says the event that the one text of the tree says.
use Rattle.std.proofs.Common.{◌≡◌, ℕ, Bool, List, sym, ◌∙◌, subst, ◌⊎◌, inl, inr}
use Rattle.std.specs.Prelude.{Result}
use Rattle.std.specs.declared.result.Result.TheVariants.{Ok, Err}
use Rattle.wef_base.specs.declared.tree.Charset.TheVariants.{Utf8}
use Rattle.wef_base.specs.declared.tree.Element.{Element}
use Rattle.wef_tree_reading.specs.Spelling.{Spells}
use Rattle.wef_tree_reading.proofs.Readings.{has_no_fault, has_one_root}
use Rattle.wef_tree.proofs.EncodedAgain.{written8}
use Rattle.wef_tree.proofs.LooseTexts.{loose_spells}
use Rattle.wef_tree.proofs.SpellsAgain.{spells_again}
use Rattle.wef_event.specs.Events.{Event}
use Rattle.wef_event.specs.Loose.{IsLooseTextOf}
use Rattle.wef_event.specs.Reading.{IsFaulty, ReadsEvent, Says}
use Rattle.wef_event.specs.declared.records.EventFault.{EventFault}
use Rattle.wef_event.specs.declared.records.EventFault.TheVariants.{NoMemory, BadEvent, NoChannel, NoRecordId, TooLong}

text_spells : (text whole : List ℕ) (is : IsLooseTextOf text whole) → Spells Utf8 text is.root
text_spells text whole is =
    subst (λ (bytes : List ℕ). Spells Utf8 bytes is.root) (written8 is.loose ∙ sym is.text_is) (loose_spells Utf8 is.root is.loose is.good is.is_loose)

whole_spells : (text whole : List ℕ) (is : IsLooseTextOf text whole) → Spells Utf8 whole is.root
whole_spells text whole is = subst (λ (bytes : List ℕ). Spells Utf8 bytes is.root) (sym is.whole_is) (spells_again Utf8 is.root is.good)

says_too : (needed : Bool) (text whole : List ℕ) (answer : Result Event EventFault) → IsLooseTextOf text whole → Says needed whole answer → Says needed text answer
says_too needed text whole answer is says =
    let one : is.root ≡ says.0 = has_one_root Utf8 whole is.root says.0 (whole_spells text whole is) says.1 in
    (says.0, subst (λ (root : Element). Spells Utf8 text root) one (text_spells text whole is), says.2)

bad_too : (needed : Bool) (text whole : List ℕ) (at : ℕ) → IsLooseTextOf text whole → IsFaulty whole at ⊎ Says needed whole (Err (BadEvent at)) → IsFaulty text at ⊎ Says needed text (Err (BadEvent at))
bad_too needed text whole at is (inl fault) = absurd (has_no_fault Utf8 whole is.root fault.0 at (whole_spells text whole is) fault.1)
bad_too needed text whole at is (inr says) = inr (says_too needed text whole (Err (BadEvent at)) is says)

pub loose_reads : (needed : Bool) (text whole : List ℕ) (result : Result Event EventFault) → IsLooseTextOf text whole → ReadsEvent needed whole result → ReadsEvent needed text result
loose_reads needed text whole (Ok event) is reads = says_too needed text whole (Ok event) is reads
loose_reads needed text whole (Err NoMemory) is reads = tt
loose_reads needed text whole (Err (BadEvent at)) is reads = bad_too needed text whole at is reads
loose_reads needed text whole (Err NoChannel) is reads = says_too needed text whole (Err NoChannel) is reads
loose_reads needed text whole (Err NoRecordId) is reads = says_too needed text whole (Err NoRecordId) is reads
loose_reads needed text whole (Err TooLong) is reads = says_too needed text whole (Err TooLong) is reads
