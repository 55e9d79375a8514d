use Rattle.std.proofs.Common.{rules, ◌≡◌, ℕ, ◌<◌, ◌==◌, true, List, [], ◌∷◌, ◌++◌, drop, length, get_or, suc, sym, ap, ◌∙◌, append_assoc, add-one, arith}
use Rattle.std.proofs.Math.Seq.{drop-cons}
use Rattle.std.proofs.lemmas.Bool.Decides.{nat_tests}
use Rattle.wef_base.proofs.Cuts.{ends_here}
use Rattle.wef_base.proofs.words.split.Goals as goal

pub loop-byte-preserved : goal.loop-byte-preserved
loop-byte-preserved c =
    let text = c.args.text.now in
    let at = c.loop-byte.byte-index in
    let inside : at < length text = omega arith in
    let first = drop-cons text at 0 inside in
    let byte = get_or text at 0 in
    let same = c.if-byte-separator.false in
    let cut : byte == c.args.separator ≡ true = grind (arith, nat_tests, same) in
    let so_far = rw first at c.loop-byte.invariant in
    let piece : c.replace.result ≡ c.loop-byte.piece = search rules in
    let anew : c.replace.new.dest ≡ [] = search rules in
    let pushed : c.push-in-loop-byte.new.self ≡ c.loop-byte.pieces ++ c.loop-byte.piece ∷ [] = search rules in
    rw (add-one, pushed, anew, append_assoc)
    (ap (λ (ps : List (List ℕ)). c.loop-byte.pieces ++ ps) (sym (ends_here c.args.separator c.loop-byte.piece byte (drop (suc at) text) cut)) ∙ so_far)
