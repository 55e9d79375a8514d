use Rattle.std.proofs.Common.{◌<◌, ℕ, List, length, get_or, arith, subst}
use Rattle.std.proofs.lemmas.Str.{IsCharBoundary-after_ascii}
use Rattle.wef_canonical.proofs.cuts.first_of_ascii.Goals as goal

pub range_from-requires : goal.range_from-requires
range_from-requires c =
    let some : 0 < length c.args.text.now = omega (arith, c.in-len1-up.len_at_least, c.as_bytes.ensures.len) in
    let small : get_or c.args.text.now 0 0 < 128 = subst (λ (bytes : List ℕ). get_or bytes 0 0 < 128) c.as_bytes.ensures.value c.if-first-lt128.true in
    λ _. IsCharBoundary-after_ascii c.args.text.now 0 c.utf8.text some small
