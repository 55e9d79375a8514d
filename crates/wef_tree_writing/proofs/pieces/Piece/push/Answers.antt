use Rattle.std.proofs.Common.{◌∷◌, [], ◌++◌, ◌∙◌, ap, string_bytes}
use Rattle.std.proofs.lemmas.Str.{IsUtf8-string_bytes}
use Rattle.wef_tree_writing.proofs.Pushed.{one_pushed}
use Rattle.wef_tree_writing.proofs.pieces.Piece.push.Goals as goal

pub returns : goal.returns
returns c =
    one_pushed (string_bytes c.self.inside.text) _ c.args.character (IsUtf8-string_bytes c.self.inside.text) c.ranges.character.0 c.in_ok-push.ensures.bytes
    ∙ ap (λ cs. cs ++ c.args.character ∷ []) c.self.view_is
