-- A plain event is the event of its tree, and is read again.
use Rattle.std.proofs.Common.{◌≡◌, ℕ, ◌≤◌, Bool, true, false, cond, List, length, IsUtf8, ap, sym, ◌∙◌, arith, nat_lt}
use Rattle.std.specs.Prelude.{Some, None}
use Rattle.std.proofs.lemmas.Bool.Decides.{nat_tests}
use Rattle.std.proofs.lemmas.Str.{is_utf8-from_IsUtf8}
use Rattle.wef_base.specs.Characters.{is_xml_text}
use Rattle.wef_base.specs.Names.{channel_name}
use Rattle.wef_base.specs.declared.numbers.TheConstants.{MAX}
use Rattle.wef_event.specs.Events.{IsEventOf, event_limit, unless_long}
use Rattle.wef_event.specs.PlainEvent.{PlainEventsAreOfTrees, PlainEventsAreRead, plain_text, plain_tree}
use Rattle.wef_event.proofs.Made.{is_read}
use Rattle.wef_event.proofs.PlainFields.{none_is_zero, short_is, tree_says}
use Rattle.wef_event.proofs.PlainGood.{plain_good}
use Rattle.wef_event.proofs.PlainTexts.{plain_text_is}

pub plain_of_tree : PlainEventsAreOfTrees
plain_of_tree channel word number id level event named utf8 word_utf8 allowed h e = record {
  good = plain_good channel word number id level named utf8 word_utf8 allowed;
  event_is =
      tree_says false channel number id level word named h (none_is_zero number) ∙ ap (λ text. unless_long channel number text) (plain_text_is channel number id level word)
      ∙ (short_is channel number id level word event e).0;
}

some_number : (n : ℕ) → 1 ≤ n → true ≡ nat_lt 0 n
some_number n h = grind (arith, nat_tests)

pub plain_is_read : PlainEventsAreRead
plain_is_read channel word number id level event named utf8 word_utf8 allowed some h e =
    sym
    (some_number number some ∙ ap (nat_lt 0) (short_is channel number id level word event e).1
    ∙ is_read event (plain_tree channel number id level word) (plain_of_tree channel word number id level event named utf8 word_utf8 allowed h e))

-- the same of its parts
pub is_event_of :
    (channel word : List ℕ) (number id level : ℕ) → channel_name channel ≡ Some channel → IsUtf8 channel → IsUtf8 word → is_xml_text word ≡ true → number ≤ MAX →
    length (plain_text channel number id level word) ≤ event_limit →
    IsEventOf (record { channel = channel; number = number; text = plain_text channel number id level word }) (plain_tree channel number id level word)
is_event_of channel word number id level named utf8 word_utf8 allowed h short =
    plain_of_tree channel word number id level _ named (is_utf8-from_IsUtf8 channel utf8) (is_utf8-from_IsUtf8 word word_utf8) allowed h
    (ap (λ (b : Bool). cond b None (Some (record { channel = channel; number = number; text = plain_text channel number id level word }))) (is_short short))
  where
    is_short : length (plain_text channel number id level word) ≤ event_limit → nat_lt event_limit (length (plain_text channel number id level word)) ≡ false
    is_short h = grind (arith, nat_tests, h)
