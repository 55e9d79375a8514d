use Rattle.std.proofs.Common.{sym, ◌∙◌, subst}
use Rattle.std.specs.Str.{IsUtf8}
use Rattle.wef_documents.proofs.PlainUtf8.{tree_is_utf8}
use Rattle.wef_documents.proofs.writing.text_of.Goals as goal

pub unreachable-requires : goal.unreachable-requires
unreachable-requires c =
    c.in_default-from_utf8.ensures.cases.0 (subst IsUtf8 (sym (c.as_slice.ensures ∙ c.in-Ok.ensures.value)) (tree_is_utf8 c.args.root.now c.requires))
