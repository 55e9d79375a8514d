use Rattle.std.proofs.Common.{◌≡◌, ◌<◌, length, sym, ◌∙◌, arith}
use Rattle.wef_event.specs.Characters.{escaped}
use Rattle.wef_event.proofs.Sizes.{fits_by_length, past_from_none, past_is_unfit, plain_length, within_is}
use Rattle.wef_event.proofs.unnumbered.PlainEvent.fits.Goals as goal

pub returns-in_default : goal.returns-in_default
returns-in_default c =
    let event = c.args.self.now in
    let size = plain_length event.channel c.args.number event.id event.level event.word in
    let none = rw c.as_text.ensures.value at (sym c.escaped_length.ensures ∙ c.in_default.is) in
    let past : 1048576 < length (escaped event.channel) = past_from_none 1048576 (length (escaped event.channel)) none in
    sym (past_is_unfit event c.args.number _ size (omega arith))

pub returns-in_default-escaped_length : goal.returns-in_default-escaped_length
returns-in_default-escaped_length c =
    let event = c.args.self.now in
    let size = plain_length event.channel c.args.number event.id event.level event.word in
    let past : 1048576 < length (escaped event.word) = past_from_none 1048576 (length (escaped event.word)) (sym c.escaped_length-2.ensures ∙ c.in_default-escaped_length.is) in
    sym (past_is_unfit event c.args.number _ size (omega arith))

pub returns : goal.returns
returns c =
    let event = c.args.self.now in
    let size = plain_length event.channel c.args.number event.id event.level event.word in
    let some = rw c.as_text.ensures.value at (sym c.escaped_length.ensures ∙ c.in-Some.is) in
    let channel : c.in-Some.channel ≡ length (escaped event.channel) = within_is 1048576 (length (escaped event.channel)) _ some in
    let word : c.in-Some-escaped_length.word ≡ length (escaped event.word) = within_is 1048576 (length (escaped event.word)) _ (sym c.escaped_length-2.ensures ∙ c.in-Some-escaped_length.is) in
    let id = rw c.from.ensures at c.decimal_length-id.ensures.value in
    let level = rw c.from-2.ensures at c.decimal_length-level.ensures.value in
    sym (fits_by_length event c.args.number _ (omega arith))
