use Rattle.std.proofs.Common.{◌++◌, ◌∙◌, ap, string_bytes}
use Rattle.std.specs.Str.{chars}
use Rattle.std.proofs.lemmas.Str.{IsUtf8-string_bytes}
use Rattle.wef_tree_writing.proofs.Pushed.{all_pushed}
use Rattle.wef_tree_writing.proofs.pieces.Piece.push_str.Goals as goal

pub returns : goal.returns
returns c =
    all_pushed (string_bytes c.self.inside.text) _ c.args.more.now (IsUtf8-string_bytes c.self.inside.text) c.in_ok-push_str.ensures.bytes
    ∙ ap (λ cs. cs ++ chars c.args.more.now) c.self.view_is
