-- The lists of queries that are read can be written and read again.
use Rattle.std.proofs.Common.{◌≡◌, ℕ, zero, suc, ◌+◌, ◌==◌, Bool, true, false, ◌&&◌, ◌||◌, cond, List, [], ◌∷◌, ◌++◌, refl, ap, sym, ◌∙◌, subst, append_assoc, append-nil, length, arith}
use Rattle.std.specs.Prelude.{Option, Some, None, Ok, Err, Result, is_some}
use Rattle.std.specs.List.{AllByRecursion, flat_map}
use Rattle.std.proofs.lemmas.Bool.{and_from}
use Rattle.std.proofs.lemmas.Bool.Decides.{nat_tests}
use Rattle.std.proofs.lemmas.List.Folds.{list_all-append}
use Rattle.std.proofs.lemmas.Str.{encodes-append}
use Rattle.wef_base.specs.Characters.{is_xml_char}
use Rattle.wef_base.specs.Names.{trimmed}
use Rattle.wef_base.specs.declared.tree.Element.{Element}
use Rattle.wef_base.specs.declared.tree.Node.{Node, Chars, Element', Node-F}
use Rattle.wef_base.specs.declared.tree.Node.TheVariants.{outs-Chars, outs-Element'}
use Rattle.wef_elements.specs.Children.{elements_in}
use Rattle.wef_elements.specs.Good.{AreGoodElements}
use Rattle.wef_elements.proofs.GoodTexts.{empty_text}
use Rattle.wef_elements.proofs.InnerTrees.{inner_good}
use Rattle.wef_eventing.specs.Kept.{HasKeptName}
use Rattle.wef_eventing.specs.Sending.{AreXmlQueries}
use Rattle.wef_query.specs.Laws.{IsWritable, ReadsBack, are_grouped, groups_rise}
use Rattle.wef_query_paths.proofs.Readers.{if_read, read_is_path}
use Rattle.wef_query_paths.specs.Paths.{path_of}
use Rattle.wef_query_paths.specs.Stops.{path_or_fault}
use Rattle.wef_query_paths.specs.declared.faults.PathFault.{PathFault}
use Rattle.wef_query.specs.Reading.{channel_by, channel_of, characters_of, is_query, is_query_list, is_select, is_suppress, item_of, items_from, items_in, path_said, queries_from, query_in, some_items, text_of, then_on, with_channel, with_path, with_query}
use Rattle.wef_query.specs.Items.{QueryItem}
use Rattle.wef_query.specs.declared.QueryList.{QueryList}
use Rattle.wef_query_paths.specs.declared.path.Path.{Path}
use Rattle.wef_query.specs.declared.reading.QueryFault.{QueryFault}
use Rattle.wef_query.specs.declared.reading.QueryFault.TheVariants.{BadQuery}
use Rattle.wef_xml.specs.Good.{AreGoodNodes, IsGoodElement, IsGoodNode, IsXmlText}
use Rattle.wef_documents.proofs.TrimmedTexts.{IsTrim, trim_allowed, trim_stays, trimmed_is}

-- ---- texts

together : (one other : List ℕ) → IsXmlText one → IsXmlText other → IsXmlText (one ++ other)
together one other first second = record {
  characters = first.characters ++ second.characters;
  spelt = (λ i. first.spelt i ++ second.spelt i) ∙ sym (encodes-append first.characters second.characters);
  allowed = list_all-append is_xml_char first.characters second.characters ∙ and_from _ _ first.allowed second.allowed;
}

-- the characters that a good node is
node_text : (n : Node) (room : ℕ) → IsGoodNode n room → IsXmlText (characters_of n)
node_text (Chars text) room good =
    subst IsXmlText (sym (ap (λ o. elim o [ Node-F.Element e ↦ [] | Node-F.Chars text ↦ text ]) (outs-Chars text))) good.allowed
node_text (Element' space name attributes shape row) room good =
    subst IsXmlText (sym (ap (λ o. elim o [ Node-F.Element e ↦ [] | Node-F.Chars text ↦ text ]) (outs-Element' space name attributes shape row))) empty_text

nodes_text : (ns : List Node) (room : ℕ) → AreGoodNodes ns room → IsXmlText (flat_map characters_of ns)
nodes_text [] room good = empty_text
nodes_text (n ∷ ns) room good = together (characters_of n) (flat_map characters_of ns) (node_text n room good.0) (nodes_text ns room good.1)

text_is : (e : Element) (room : ℕ) → IsGoodElement e room → IsTrim (text_of e)
text_is e zero good = absurd good
text_is e (suc room) good = trimmed_is (flat_map characters_of e.children) (nodes_text e.children room good.2)

-- ---- an item

-- what is known of an item that is read
pub record IsRead (item : QueryItem) : Type 0 where
  pub text : trimmed item.text ≡ item.text
  pub path : is_some (path_of item.text) ≡ true
  pub allowed : IsXmlText item.text

record IsOf (group : ℕ) (item : QueryItem) : Type 0 where
  same : item.group ≡ group
  is : IsRead item

one_item : (a b : QueryItem) → ◌≡◌ {A = Result QueryItem QueryFault} (Ok a) (Ok b) → a ≡ b
one_item a b e = cc

item_read : (before group : ℕ) (around : Option (List ℕ)) (e : Element) (room : ℕ) (item : QueryItem) → IsGoodElement e room → item_of before group around e ≡ Ok item → IsOf group item
item_read before group around e room item good is = by_name (is_select e || is_suppress e) (channel_by (path_said e.attributes) around) is
  where
    text : List ℕ
    text = text_of e

    made : (channel : List ℕ) (path : Path) → path_of text ≡ Some path
        → ◌≡◌ {A = Result QueryItem QueryFault} (Ok (record { group = group; suppress = is_suppress e; channel = channel; text = text })) (Ok item) → IsOf group item
    made channel path found said =
        let trim = text_is e room good in
        subst (IsOf group) (one_item _ item said) (record { same = refl; is = record { text = trim_stays text trim; path = ap is_some found; allowed = trim_allowed text trim } })

    by_path : (channel : List ℕ) (read : Result Path PathFault) → path_or_fault text ≡ read → with_path before group (is_suppress e) channel text read ≡ Ok item → IsOf group item
    by_path channel (Err fault) found said = let bad : ⊥ = cc in absurd bad
    by_path channel (Ok path) found said = made channel path (sym (read_is_path text) ∙ ap if_read found) said

    by_name : (b : Bool) (o : Option (List ℕ)) → cond b (with_channel before group (is_suppress e) o text) (Err (BadQuery before 0)) ≡ Ok item → IsOf group item
    by_name false o said = let bad : ⊥ = cc in absurd bad
    by_name true None said = let bad : ⊥ = cc in absurd bad
    by_name true (Some channel) said = by_path channel (path_or_fault text) refl said

-- ---- the items of a Query

record Step (group : ℕ) (around : Option (List ℕ)) (done : List QueryItem) (e : Element) (es : List Element) (items : List QueryItem) : Type 0 where
  item : QueryItem
  read : item_of (length done) group around e ≡ Ok item
  rest : items_from group around (done ++ item ∷ []) es ≡ Ok items

step : (group : ℕ) (around : Option (List ℕ)) (done : List QueryItem) (e : Element) (es : List Element) (items : List QueryItem)
    → items_from group around done (e ∷ es) ≡ Ok items → Step group around done e es items
step group around done e es items is = by (item_of (length done) group around e) refl is
  where
    by : (r : Result QueryItem QueryFault) → item_of (length done) group around e ≡ r
        → then_on (then_on r (λ item. Ok (done ++ item ∷ []))) (λ more. items_from group around more es) ≡ Ok items → Step group around done e es items
    by (Err fault) found said = let bad : ⊥ = cc in absurd bad
    by (Ok item) found said = record { item = item; read = found; rest = said }

-- what stands behind the items that were there
record Added (group : ℕ) (done items : List QueryItem) : Type 0 where
  new : List QueryItem
  parts : items ≡ done ++ new
  each : AllByRecursion (IsOf group) new

one_list : (a b : List QueryItem) → ◌≡◌ {A = Result (List QueryItem) QueryFault} (Ok a) (Ok b) → a ≡ b
one_list a b e = cc

-- an item, and what stands behind it
added_one : (group : ℕ) (done : List QueryItem) (item : QueryItem) (items : List QueryItem) → IsOf group item → Added group (done ++ item ∷ []) items → Added group done items
added_one group done item items of more = record { new = item ∷ more.new; parts = more.parts ∙ append_assoc done (item ∷ []) more.new; each = (of, more.each) }

items_added : (group : ℕ) (around : Option (List ℕ)) (done : List QueryItem) (es : List Element) (room : ℕ) (items : List QueryItem) → AreGoodElements es room
    → items_from group around done es ≡ Ok items → Added group done items
items_added group around done [] room items good is = record { new = []; parts = sym (one_list done items is) ∙ sym (append-nil done); each = tt }
items_added group around done (e ∷ es) room items good is =
    let s = step group around done e es items is in
    added_one group done s.item items (item_read (length done) group around e room s.item good.0 s.read)
    (items_added group around (done ++ s.item ∷ []) es room items good.1 s.rest)

-- a Query has one item or more
record Some_added (group : ℕ) (done items : List QueryItem) : Type 0 where
  first : QueryItem
  new : List QueryItem
  parts : items ≡ done ++ first ∷ new
  of : IsOf group first
  each : AllByRecursion (IsOf group) new

some_added : (group : ℕ) (around : Option (List ℕ)) (done : List QueryItem) (es : List Element) (room : ℕ) (items : List QueryItem) → AreGoodElements es room
    → some_items group around done es ≡ Ok items → Some_added group done items
some_added group around done [] room items good is = let bad : ⊥ = cc in absurd bad
some_added group around done (e ∷ es) room items good is =
    let s = step group around done e es items is in
    let more = items_added group around (done ++ s.item ∷ []) es room items good.1 s.rest in
    record {
      first = s.item;
      new = more.new;
      parts = more.parts ∙ append_assoc done (s.item ∷ []) more.new;
      of = item_read (length done) group around e room s.item good.0 s.read;
      each = more.each;
    }

query_added : (group : ℕ) (done : List QueryItem) (e : Element) (room : ℕ) (items : List QueryItem) → IsGoodElement e room → with_query group done e ≡ Ok items → Some_added group done items
query_added group done e zero items good is = absurd good
query_added group done e (suc room) items good is = by (is_query e) is
  where
    by : (b : Bool) → cond b (some_items group (channel_of e) done (elements_in e.children)) (Err (BadQuery (length done) 0)) ≡ Ok items → Some_added group done items
    by false said = let bad : ⊥ = cc in absurd bad
    by true said = some_added group (channel_of e) done (elements_in e.children) room items (inner_good e.children room good.2) said

-- ---- groups

-- items whose groups count from one
Rises : ℕ → List QueryItem → Type 0
Rises group [] = Unit {0}
Rises group (item ∷ items) = (item.group ≡ group) × (groups_rise group items ≡ true)

same_test : (g : ℕ) → (g == g || g == g + 1) ≡ true
same_test g = grind (arith, nat_tests)

next_test : (g : ℕ) → (g + 1 == g || g + 1 == g + 1) ≡ true
next_test g = grind (arith, nat_tests)

-- those of a group, and behind them those of the next
rise_on : (group : ℕ) (xs ys : List QueryItem) → AllByRecursion (IsOf group) xs → Rises (group + 1) ys → groups_rise group (xs ++ ys) ≡ true
unfolding Rises
rise_on group [] [] of rises = refl
rise_on group [] (y ∷ ys) of rises =
    subst (λ (n : ℕ). ((n == group || n == group + 1) && groups_rise n ys) ≡ true) (sym rises.0) (and_from _ _ (next_test group) rises.1)
rise_on group (x ∷ xs) ys of rises =
    subst (λ (n : ℕ). ((n == group || n == group + 1) && groups_rise n (xs ++ ys)) ≡ true) (sym of.0.same) (and_from _ _ (same_test group) (rise_on group xs ys of.1 rises))

record Tail (group : ℕ) (done items : List QueryItem) : Type 0 where
  tail : List QueryItem
  parts : items ≡ done ++ tail
  rises : Rises group tail
  each : AllByRecursion IsRead tail

record Some_tail (group : ℕ) (done items : List QueryItem) : Type 0 where
  first : QueryItem
  more : List QueryItem
  parts : items ≡ done ++ first ∷ more
  same : first.group ≡ group
  rises : groups_rise group more ≡ true
  each : AllByRecursion IsRead (first ∷ more)

each_of : (group : ℕ) (xs ys : List QueryItem) → AllByRecursion (IsOf group) xs → AllByRecursion IsRead ys → AllByRecursion IsRead (xs ++ ys)
each_of group [] ys of each = each
each_of group (x ∷ xs) ys of each = (of.0.is, each_of group xs ys of.1 each)

-- the items of a Query, and what stands behind them
joined : (group : ℕ) (done more items : List QueryItem) → Some_added group done more → Tail (group + 1) more items → Some_tail group done items
joined group done more items query rest = record {
  first = query.first;
  more = query.new ++ rest.tail;
  parts = rest.parts ∙ ap (λ xs. xs ++ rest.tail) query.parts ∙ append_assoc done (query.first ∷ query.new) rest.tail;
  same = query.of.same;
  rises = rise_on group query.new rest.tail query.each rest.rises;
  each = (query.of.is, each_of group query.new rest.tail query.each rest.each);
}

as_tail : (group : ℕ) (done items : List QueryItem) → Some_tail group done items → Tail group done items
unfolding Rises
as_tail group done items some = record { tail = some.first ∷ some.more; parts = some.parts; rises = (some.same, some.rises); each = some.each }

record Turn (group : ℕ) (done : List QueryItem) (e : Element) (es : List Element) (items : List QueryItem) : Type 0 where
  more : List QueryItem
  read : with_query group done e ≡ Ok more
  rest : queries_from (group + 1) more es ≡ Ok items

turn : (group : ℕ) (done : List QueryItem) (e : Element) (es : List Element) (items : List QueryItem) → queries_from group done (e ∷ es) ≡ Ok items → Turn group done e es items
turn group done e es items is = by (with_query group done e) refl is
  where
    by : (r : Result (List QueryItem) QueryFault) → with_query group done e ≡ r → then_on r (λ more. queries_from (group + 1) more es) ≡ Ok items → Turn group done e es items
    by (Err fault) found said = let bad : ⊥ = cc in absurd bad
    by (Ok more) found said = record { more = more; read = found; rest = said }

queries_tail : (group : ℕ) (done : List QueryItem) (es : List Element) (room : ℕ) (items : List QueryItem) → AreGoodElements es room
    → queries_from group done es ≡ Ok items → Tail group done items
unfolding Rises
queries_tail group done [] room items good is = record { tail = []; parts = sym (one_list done items is) ∙ sym (append-nil done); rises = tt; each = tt }
queries_tail group done (e ∷ es) room items good is =
    let t = turn group done e es items is in
    as_tail group done items (joined group done t.more items (query_added group done e room t.more good.0 t.read) (queries_tail (group + 1) t.more es room items good.1 t.rest))

-- ---- lists

pub record AreRead (items : List QueryItem) : Type 0 where
  pub grouped : are_grouped items ≡ true
  pub each : AllByRecursion IsRead items

items_read : (es : List Element) (room : ℕ) (items : List QueryItem) → AreGoodElements es room → items_in es ≡ Ok items → AreRead items
items_read [] room items good is = let bad : ⊥ = cc in absurd bad
items_read (e ∷ es) room items good is =
    let t = turn 0 [] e es items is in
    let some = joined 0 [] t.more items (query_added 0 [] e room t.more good.0 t.read) (queries_tail 1 t.more es room items good.1 t.rest) in
    subst AreRead (sym some.parts) (record {
      grouped = subst (λ (n : ℕ). (n == 0 && groups_rise 0 some.more) ≡ true) (sym some.same) (and_from _ _ refl some.rises);
      each = some.each;
    })

-- the list that a good element says
pub query_read : (e : Element) (room : ℕ) (list : QueryList) → IsGoodElement e room → query_in e ≡ Ok list → AreRead list.items
unfolding query_in
query_read e zero list good is = absurd good
query_read e (suc room) list good is = by (is_query_list e) (items_in (elements_in e.children)) refl is
  where
    one : (a b : QueryList) → ◌≡◌ {A = Result QueryList QueryFault} (Ok a) (Ok b) → a ≡ b
    one a b e = cc

    by : (b : Bool) (r : Result (List QueryItem) QueryFault) → items_in (elements_in e.children) ≡ r
        → cond b (then_on r (λ items. Ok (record { items = items }))) (Err (BadQuery 0 0)) ≡ Ok list → AreRead list.items
    by false r found said = let bad : ⊥ = cc in absurd bad
    by true (Err fault) found said = let bad : ⊥ = cc in absurd bad
    by true (Ok items) found said =
        subst (λ (l : QueryList). AreRead l.items) (one (record { items = items }) list said) (items_read (elements_in e.children) room items (inner_good e.children room good.2) found)

-- ---- written again

each_back : (items : List QueryItem) → AllByRecursion HasKeptName items → AllByRecursion IsRead items → AllByRecursion ReadsBack items
each_back [] kept each = tt
each_back (item ∷ items) kept each = (record { channel = kept.0.reads_back; text = each.0.text; path = each.0.path }, each_back items kept.1 each.1)

pub writable : (items : List QueryItem) → AllByRecursion HasKeptName items → AreRead items → IsWritable items
writable items kept are = record { grouped = are.grouped; each = each_back items kept are.each }

pub xml_queries : (items : List QueryItem) → AllByRecursion IsRead items → AreXmlQueries items
xml_queries [] each = tt
xml_queries (item ∷ items) each = (each.0.allowed, xml_queries items each.1)
