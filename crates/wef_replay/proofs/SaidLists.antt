-- The list of queries that a text says is one that can be written and read again.
use Rattle.std.proofs.Common.{◌≡◌, ℕ, true, ◌&&◌, List, [], ◌∷◌, refl, ap, sym, ◌∙◌, subst}
use Rattle.std.proofs.lemmas.Str.{chars-encodes, is_utf8-from_IsUtf8}
use Rattle.std.specs.Cmp.Lexicographic.{bytes_decides}
use Rattle.std.specs.List.{AllByRecursion, list_all}
use Rattle.std.specs.Option.{option_and_then}
use Rattle.std.specs.Prelude.{Option, Some, None, Result, IfOk}
use Rattle.std.specs.Str.{chars, is_utf8}
use Rattle.std.specs.declared.result.Result.TheVariants.{Ok, Err}
use Rattle.wef_base.specs.Characters.{is_xml_char, is_xml_text}
use Rattle.wef_base.specs.Names.{channel_name, trimmed}
use Rattle.wef_base.specs.declared.tree.Charset.TheVariants.{Utf8}
use Rattle.wef_base.specs.declared.tree.Element.{Element}
use Rattle.wef_documents.proofs.QueriesSaid.{query_said}
use Rattle.wef_documents.proofs.ReadQueries.{AreRead, IsRead, query_read}
use Rattle.wef_documents.proofs.TrimmedTexts.{xml_scalars}
use Rattle.wef_eventing.specs.Kept.{HasKeptName}
use Rattle.wef_query.specs.Items.{QueryItem}
use Rattle.wef_query.specs.Reading.{query_in}
use Rattle.wef_query.specs.declared.QueryList.{QueryList}
use Rattle.wef_query.specs.declared.reading.QueryFault.{QueryFault}
use Rattle.wef_tree_reading.proofs.Functions.{is_spelt_by}
use Rattle.wef_tree_reading.proofs.GoodTrees.{spells_good}
use Rattle.wef_tree_reading.specs.Documents.{tree_of}
use Rattle.wef_xml.specs.Good.{IsGoodTree, IsXmlText}
use Rattle.wef_lines.specs.Documents.{list_in, list_or_none}
use Rattle.wef_replay.specs.Good.{are_queries, is_query}
use Rattle.wef_replay.proofs.Gifts.{AllOf}
use Rattle.wef_replay.proofs.GoodNames.{kept_is_one}

-- a text of characters that XML allows, as a test
text_is : (text : List ℕ) → IsXmlText text → (is_utf8 text && is_xml_text text) ≡ true
text_is text allowed =
    let cs = allowed.characters in
    let scalars = xml_scalars cs allowed.allowed in
    let utf8 = is_utf8-from_IsUtf8 text (cs, (scalars, sym allowed.spelt)) in
    let xml : is_xml_text text ≡ true = ap (list_all is_xml_char) (ap chars allowed.spelt ∙ chars-encodes cs scalars) ∙ allowed.allowed in
    λ i. utf8 i && xml i

query_is : (item : QueryItem) → HasKeptName item → IsRead item → is_query item ≡ true
query_is item kept read =
    let channel = kept_is_one item.channel (channel_name item.channel) (is_utf8-from_IsUtf8 item.channel kept.utf8) kept.reads_back in
    let text = text_is item.text read.allowed in
    let trim = (bytes_decides (trimmed item.text) item.text).1 read.text in
    λ i. channel i && (text i && (trim i && read.path i))

queries_are : (items : List QueryItem) → AllByRecursion HasKeptName items → AllByRecursion IsRead items → list_all is_query items ≡ true
queries_are [] kept read = refl
queries_are (item ∷ items) kept read = let first = query_is item kept.0 read.0 in let rest = queries_are items kept.1 read.1 in λ i. first i && rest i

said_by_root : (root : Element) (list : QueryList) → IsGoodTree root → query_in root ≡ Ok list → are_queries list.items ≡ true
said_by_root root list good says =
    let read : AreRead list.items = query_read root 64 list good says in
    let kept = subst (λ (r : Result QueryList QueryFault). IfOk r (λ found. AllByRecursion HasKeptName found.items)) says (query_said root (64, good)) in
    let each = queries_are list.items kept read.each in
    λ i. read.grouped i && each i

pub good-list_in : (text : List ℕ) → AllOf (λ (list : QueryList). are_queries list.items ≡ true) (list_in text)
unfolding list_in
good-list_in text = by (tree_of Utf8 text) refl
  where
    by_list : (root : Element) → IsGoodTree root → (r : Result QueryList QueryFault) → query_in root ≡ r → AllOf (λ (list : QueryList). are_queries list.items ≡ true) (list_or_none r)
    by_list root good (Ok list) says = said_by_root root list good says
    by_list root good (Err fault) says = tt

    by : (o : Option Element) → tree_of Utf8 text ≡ o → AllOf (λ (list : QueryList). are_queries list.items ≡ true) (option_and_then (λ root. list_or_none (query_in root)) o)
    by None tree = tt
    by (Some root) tree = by_list root (spells_good Utf8 text root (is_spelt_by Utf8 text root tree)) (query_in root) refl
