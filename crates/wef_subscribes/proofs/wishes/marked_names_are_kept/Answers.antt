use Rattle.std.proofs.Common.{subst}
use Rattle.std.specs.List.{AllByRecursion}
use Rattle.wef_subscribes.specs.Laws.{IsTextEntry}
use Rattle.wef_subscribes.proofs.KeptNames.{found_texts}
use Rattle.wef_subscribes.proofs.wishes.marked_names_are_kept.Goals as goal

pub returns-clause-names : goal.returns-clause-names
returns-clause-names c = found_texts c.args.bookmark.now (subst (AllByRecursion IsTextEntry) c.numbers.ensures.entries c.entries_are_texts.ensures)
