-- An id that an end draws is that of its text.
use Rattle.std.proofs.Common.{◌≡◌, ℕ, ◌<◌, ◌^◌, ap, subst}
use Rattle.std.specs.Prelude.{Option, IfSome}
use Rattle.wef_envelope.specs.Laws.{IsSpelt}
use Rattle.wef_ids.proofs.PlainIds.{id_text_trimmed, id_text_valued}
use Rattle.wef_ids.specs.IdTexts.{id_of_value}
use Rattle.wef_ids.specs.declared.MessageId.{MessageId}

pub id_spelt : (value : ℕ) → value < 2 ^ 128 → IsSpelt (id_of_value value)
id_spelt value small = record { trimmed = id_text_trimmed value; value = id_text_valued value small }

-- the same of an id that was drawn
pub drawn_spelt : (id : MessageId) (value : ℕ) → IfSome id.value (λ (v : ℕ). v < 2 ^ 128) → id ≡ id_of_value value → IsSpelt (id_of_value value)
drawn_spelt id value small is = id_spelt value (subst (λ (o : Option ℕ). IfSome o (λ (v : ℕ). v < 2 ^ 128)) (ap (λ (m : MessageId). m.value) is) small)
