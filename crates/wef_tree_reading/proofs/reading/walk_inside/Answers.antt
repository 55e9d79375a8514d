use Rattle.wef_tree_reading.proofs.Runs.{letters_walk}
use Rattle.wef_tree_reading.proofs.reading.walk_inside.Goals as goal

pub returns-in-Ok-clause-walks : goal.returns-in-Ok-clause-walks
returns-in-Ok-clause-walks c =
    letters_walk _ _ _ _ _ _ c.letters_length-length.ensures.value c.if-length-eq0.false c.requires.inside
    c.split_at.ensures.front c.split_at.ensures.back c.in-Ok.ensures
