use Rattle.wef_event.proofs.PlainUtf8.{is_decoded}
use Rattle.wef_event.proofs.reading.read_tree_event.Goals as goal

pub returns-in-Err-BadCharset : goal.returns-in-Err-BadCharset
returns-in-Err-BadCharset c =
    absurd (is_decoded c.as_bytes.result.now c.in-Err-BadCharset.at c.as_bytes.ensures.utf8 (rw c.in-Err-BadCharset.field-0-is at c.in-Err-BadCharset.ensures.read))
