use Rattle.std.proofs.Common.{rules, ◌≡◌, ℕ, ◌<◌, true, List, [], ◌∷◌, ◌++◌, drop, length, get_or, suc, sym, ap, ◌∙◌, append_assoc, add-one, arith}
use Rattle.std.proofs.Math.Seq.{drop-cons}
use Rattle.wef_http_heads.specs.Media.{separates}
use Rattle.wef_http_heads.proofs.Parts.{ends_here}
use Rattle.wef_http_heads.proofs.media.parts_of.Goals as goal

pub loop-byte-preserved : goal.loop-byte-preserved
loop-byte-preserved c =
    let at = c.loop-byte.byte-index in
    let value = c.args.value.now in
    let inside : at < length value = omega arith in
    let first = drop-cons value at 0 inside in
    let byte = get_or value at 0 in
    let cut : separates c.loop-byte.quoting byte ≡ true = search rules in
    let so_far = rw first at c.loop-byte.invariant in
    let part : c.replace.result ≡ c.loop-byte.part = search rules in
    let anew : c.replace.new.dest ≡ [] = search rules in
    let pushed : c.push-in-loop-byte.new.self ≡ c.loop-byte.parts ++ c.loop-byte.part ∷ [] = search rules in
    rw (add-one, pushed, anew, append_assoc)
    (ap (λ (ps : List (List ℕ)). c.loop-byte.parts ++ ps) (sym (ends_here c.loop-byte.quoting c.loop-byte.part byte (drop (suc at) value) cut)) ∙ so_far)
