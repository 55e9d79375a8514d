use Rattle.wef_tree_pieces.proofs.Runs.{section_further}
use Rattle.wef_tree_pieces.proofs.sections.split_section.Goals as goal

pub loop-character-preserved : goal.loop-character-preserved
loop-character-preserved c =
    section_further _ _ _ _ _ c.in-Some.ensures.cases.0 c.in_default-behind_section.ensures c.if-not-is_xml_char.ensures c.loop-character.invariant
