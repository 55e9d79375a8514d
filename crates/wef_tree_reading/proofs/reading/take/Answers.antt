use Rattle.wef_tree_reading.proofs.KnownPieces.{known_taken}
use Rattle.wef_tree_reading.proofs.reading.take.Goals as goal

pub returns-clause-knows : goal.returns-clause-knows
returns-clause-knows c =
    known_taken c.args.known.now c.add_piece.new.self c.args.builder.now c.take_piece.new.self c.args.piece c.take_piece.result c.requires c.in_ok-add_piece.ensures.grows c.in_ok-add_piece.ensures.knows
    c.take_piece.ensures
