-- XML allows the texts of queries whose channels are names as they are kept.
use Rattle.std.proofs.Common.{List, [], ◌∷◌}
use Rattle.std.specs.List.{AllByRecursion}
use Rattle.std.proofs.lemmas.Str.{is_utf8-from_IsUtf8}
use Rattle.wef_eventing.specs.Kept.{HasKeptName}
use Rattle.wef_eventing.specs.Sending.{AreXmlQueries}
use Rattle.wef_query.specs.Items.{QueryItem}
use Rattle.wef_query.specs.Laws.{HasXmlTexts}

pub queries_are_xml : (items : List QueryItem) → AllByRecursion HasKeptName items → AreXmlQueries items → AllByRecursion HasXmlTexts items
queries_are_xml [] kept texts = tt
queries_are_xml (item ∷ items) kept texts = (record { utf8 = is_utf8-from_IsUtf8 item.channel kept.0.utf8; channel = kept.0.reads_back; text = texts.0 }, queries_are_xml items kept.1 texts.1)
