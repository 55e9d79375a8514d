use Rattle.std.proofs.Common.{◌∙◌, Some, encode_utf8_all}
use Rattle.wef_tree_pieces.proofs.Runs.{plain_is}
use Rattle.wef_tree_pieces.proofs.names.plain_name_at.Goals as goal

pub returns : goal.returns
returns c =
    (λ i. Some (encode_utf8_all (c.split_at.ensures.front i), c.split_at.ensures.back i))
    ∙ plain_is _ _ c.plain_name_length-length.ensures.value c.if-length-eq0.false
