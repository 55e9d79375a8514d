use Rattle.std.proofs.Common.{sym, ◌∙◌}
use Rattle.wef_tree_pieces.proofs.Spelt.{spelt_further, spelt_off, spelt_out}
use Rattle.wef_tree_pieces.proofs.names.spells.Goals as goal

pub loop-character-preserved : goal.loop-character-preserved
loop-character-preserved c =
    spelt_further _ _ _ _ _ c.in-Some.character c.in-Some.ensures.steps.0 c.in-Some-behind_character.ensures c.loop-character.invariant

pub returns-in-None-behind_character : goal.returns-in-None-behind_character
returns-in-None-behind_character c =
    sym (spelt_off _ _ _ c.in-Some.character c.in-Some.ensures.steps.0 c.in-None-behind_character.ensures) ∙ c.loop-character.invariant.compared

pub returns : goal.returns
returns c = c.is_empty.ensures ∙ sym (spelt_out _ _ c.in-None.ensures.steps.0.0) ∙ c.loop-character.invariant.compared
