use Rattle.std.proofs.Common.{◌≡◌, drop}
use Rattle.std.specs.List.{fold}
use Rattle.wef_query_values.proofs.feeding.feed_bytes.Given as goal

abbrev pub invariant-loop-byte : goal.invariant-loop-byte
invariant-loop-byte g l = fold g.F.Feed.step l.reader (drop l.byte-index l.bytes) ≡ fold g.F.Feed.step l.initial.reader l.bytes
