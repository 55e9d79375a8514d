-- The event of a word of XML Chars.
use Rattle.std.proofs.Common.{◌≡◌, Bool, true, false, cond, refl, ap, ◌∙◌}
use Rattle.std.specs.Prelude.{Some, None, is_some}
use Rattle.std.proofs.Math.Bool.{Bool-set}
use Rattle.wef_base.specs.Characters.{is_xml_text}
use Rattle.wef_base.specs.declared.numbers.TheConstants.{MAX}
use Rattle.wef_event.specs.Unnumbered.{plain_numbered}
use Rattle.wef_event.specs.declared.unnumbered.PlainEvent.{PlainEvent}
use Rattle.wef_replay.specs.Grammar.{event_if_xml, fitting_event, if_fits}

-- a word of XML Chars makes this event, where it fits
event_of : (event : PlainEvent) → fitting_event event.channel event.id event.level event.word ≡ if_fits event
event_of event = by (is_xml_text event.word) refl event.characters
  where
    by : (is : Bool) (e : is_xml_text event.word ≡ is) → is ≡ true → event_if_xml event.channel event.id event.level event.word is e ≡ if_fits event
    by true e good = ap (λ (characters : is_xml_text event.word ≡ true). if_fits (record event { characters = characters })) (Bool-set _ _ e event.characters)
    by false e no_way = cc

-- an event that fits is made of its parts
pub event_is_made : (event : PlainEvent) → is_some (plain_numbered event MAX) ≡ true → fitting_event event.channel event.id event.level event.word ≡ Some event
event_is_made event fits = event_of event ∙ ap (λ (b : Bool). cond b (Some event) None) fits
