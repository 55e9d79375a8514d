use Rattle.std.proofs.Common.{◌≡◌, ◌∷◌, ap, ◌∙◌}
use Rattle.wef_base.specs.Words.{parts}
use Rattle.wef_replay.specs.Parts.{parts_behind}
use Rattle.wef_replay.proofs.CutWords.{four_pieces}
use Rattle.wef_replay.proofs.pieces.pieces_of.Goals as goal

pub returns : goal.returns
returns c =
    let kind = c.cut.result.0.now in
    let second = c.cut-2.result.0.now in
    let third = c.cut-3.result.0.now in
    let text = c.in-Some-rest-2.rest.now in
    let behind_third : parts 58 c.in-Some-rest.rest.now ≡ third ∷ parts 58 text = c.cut-3.ensures ∙ ap (λ rest. third ∷ parts_behind 58 rest) c.in-Some-rest-2.is in
    let behind_second : parts 58 c.in-Some.rest.now ≡ second ∷ third ∷ parts 58 text =
    c.cut-2.ensures ∙ ap (λ rest. second ∷ parts_behind 58 rest) c.in-Some-rest.is ∙ ap (λ ps. second ∷ ps) behind_third in
    four_pieces c.args.word.now kind second third text (c.cut.ensures ∙ ap (λ rest. kind ∷ parts_behind 58 rest) c.in-Some.is ∙ ap (λ ps. kind ∷ ps) behind_second)
