use Rattle.std.proofs.Common.{◌≡◌, ◌++◌, drop, map}
use Rattle.httparse.specs.Spans.{header_bytes}
use Rattle.wef_http_heads.specs.Fields.{values_of}
use Rattle.wef_http_heads.proofs.fields.values_of.Given as goal

abbrev pub invariant-loop-span : goal.invariant-loop-span
invariant-loop-span l =
    l.values ++ values_of l.name (map (header_bytes l.bytes) (drop l.span-index l.spans)) ≡ values_of l.name (map (header_bytes l.bytes) l.spans)
