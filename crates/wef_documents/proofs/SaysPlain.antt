-- What a subscription document says can be written again, whatever its bytes. Its names are such as their readers give, since
-- the texts of a good tree are UTF-8.
use Rattle.std.proofs.Common.{◌≡◌, ℕ, Bool, true, false, cond, List, [], ◌∷◌, refl, subst}
use Rattle.std.specs.Prelude.{Option, Some, None, Result, Ok, Err, IfOk, IfSome, codes, slice_get}
use Rattle.std.specs.List.{AllByRecursion, find}
use Rattle.std.specs.Option.{option_and_then}
use Rattle.wef_base.specs.Names.{subscription_name}
use Rattle.wef_base.specs.declared.names.Letters.TheVariants.{Kept}
use Rattle.wef_base.specs.declared.tree.Charset.{Charset}
use Rattle.wef_base.specs.declared.tree.Charset.TheVariants.{Utf8}
use Rattle.wef_base.specs.declared.tree.Element.{Element}
use Rattle.wef_elements.specs.Children.{elements_in, is_called}
use Rattle.wef_elements.specs.Texts.{said_in, text_inside}
use Rattle.wef_elements.proofs.GoodTextsInside.{text_inside_good}
use Rattle.wef_eventing.specs.Kept.{HasKeptName}
use Rattle.wef_eventing.specs.declared.subscriptions.Subscription.{Subscription}
use Rattle.wef_query.specs.Reading.{query_in}
use Rattle.wef_query.specs.declared.QueryList.{QueryList}
use Rattle.wef_query.specs.declared.reading.QueryFault.{QueryFault}
use Rattle.wef_tree_reading.specs.Documents.{tree_of}
use Rattle.wef_tree_reading.proofs.Functions.{is_spelt_by}
use Rattle.wef_tree_reading.proofs.GoodTrees.{spells_good}
use Rattle.wef_xml.specs.Good.{IsGoodTree, greatest_depth}
use Rattle.wef_documents.specs.Bytes.{charset_of, document_in, subscription_or_none}
use Rattle.wef_documents.specs.Laws.{HasKeptNames, HasXmlTexts, IsPlain}
use Rattle.wef_documents.specs.Reading.{bad_query, queries_at, queries_by, queries_in, queries_of, queries_said, subscription_in, subscription_of, unless_refused}
use Rattle.wef_documents.specs.Sources.{sources_of}
use Rattle.wef_documents.specs.Steps.{and_then, must, needed}
use Rattle.wef_documents.specs.Values.{child, is_enabled, is_pushed, kind_in, limits_in, name_in, space, version_in}
use Rattle.wef_documents.specs.declared.faults.DocumentFault.{DocumentFault}
use Rattle.wef_documents.specs.declared.faults.DocumentFault.TheVariants.{BadDocument}
use Rattle.wef_documents.specs.declared.faults.Part.TheVariants as the
use Rattle.wef_documents.proofs.FirstFound.{either_is}
use Rattle.wef_documents.proofs.NamesSaid.{IsReadName, subscription_is_read}
use Rattle.wef_documents.proofs.QueriesSaid.{AreGood, IsGood, elements_good, query_said}
use Rattle.wef_documents.proofs.ReadPlain.{IsSound, read_sound}

-- ---- steps

-- what is read goes on
goes_on : {A B : Type 0} (P : A → Type 0) (Q : B → Type 0) (r : Result A DocumentFault) (more : A → Result B DocumentFault) → IfOk r P → ((a : A) → P a → IfOk (more a) Q) → IfOk (and_then r more) Q
goes_on P Q (Ok a) more said step = step a said
goes_on P Q (Err fault) more said step = tt

-- what a part has that must be there
needed_so : {A : Type 0} (P : A → Type 0) (fault : DocumentFault) (o : Option A) → IfSome o P → IfOk (needed fault o) P
needed_so P fault (Some a) is = is
needed_so P fault None is = tt

-- what is read goes on behind a step of which nothing is asked
passes : {A B : Type 0} (Q : B → Type 0) (r : Result A DocumentFault) (more : A → Result B DocumentFault) → ((a : A) → IfOk (more a) Q) → IfOk (and_then r more) Q
passes Q (Ok a) more step = step a
passes Q (Err fault) more step = tt

-- ---- the name

first_good : (test : Element → Bool) (es : List Element) → AreGood es → IfSome (find test es) IsGood
first_good test [] good = tt
first_good test (e ∷ es) good = either_is IsGood (test e) e (find test es) good.0 (first_good test es good.1)

child_good : (name : List ℕ) (e : Element) → IsGood e → IfSome (child name e) IsGood
child_good name e good = first_good (is_called space name) (elements_in e.children) (elements_good e good)

-- a subscription's name as its reader gives it
abbrev IsReadSubscription : List ℕ → Type 0
IsReadSubscription = IsReadName Kept 128

name_by : (o : Option Element) → IfSome o IsGood → IfSome (option_and_then (λ e. subscription_name (text_inside e)) o) IsReadSubscription
name_by None good = tt
name_by (Some e) good = subscription_is_read (text_inside e) (text_inside_good e good.0 good.1)

name_said : (root : Element) → IsGood root → IfOk (name_in root) IsReadSubscription
name_said root good =
    let o = child (codes "SubscriptionId") root in
    needed_so IsReadSubscription (BadDocument the.SubscriptionId) (option_and_then (λ e. subscription_name (text_inside e)) o)
    (name_by o (child_good (codes "SubscriptionId") root good))

-- ---- queries

-- queries whose channels are such as their reader gives
abbrev AreKept : QueryList → Type 0
AreKept list = AllByRecursion HasKeptName list.items

unless_so : (r : Result QueryList QueryFault) → IfOk r AreKept → IfOk (unless_refused r) AreKept
unless_so (Ok queries) kept = kept
unless_so (Err fault) kept = tt

list_said : (e : Element) → IsGood e → IfOk (queries_said e) AreKept
list_said e good = unless_so (query_in e) (query_said e good)

-- the root of a document is good
root_good : (charset : Charset) (bytes : List ℕ) → IfSome (tree_of charset bytes) IsGoodTree
root_good charset bytes = by (tree_of charset bytes) refl
  where
    by : (o : Option Element) → tree_of charset bytes ≡ o → IfSome o IsGoodTree
    by None e = tt
    by (Some root) e = spells_good charset bytes root (is_spelt_by charset bytes root e)

root_said : (root : Option Element) → IfSome root IsGoodTree → IfOk (queries_at root) AreKept
root_said None good = tt
root_said (Some root) good = list_said root (greatest_depth, good)

first_said : (es : List Element) (text : List ℕ) → AreGood es → IfOk (queries_by (slice_get es 0) text) AreKept
first_said [] text good = root_said (tree_of Utf8 text) (root_good Utf8 text)
first_said (e ∷ es) text good = list_said e good.0

element_said : (o : Option Element) → IfSome o IsGood → IfOk (and_then (needed bad_query o) (λ e. queries_of e)) AreKept
element_said None good = tt
element_said (Some e) good = first_said (elements_in e.children) (said_in e) (elements_good e good)

all_said : (root : Element) → IsGood root → IfOk (queries_in root) AreKept
all_said root good = element_said (child (codes "Query") root) (child_good (codes "Query") root good)

-- ---- a subscription

names_of : (root : Element) → IsGood root → IfOk (subscription_of root) HasKeptNames
unfolding subscription_name
names_of root good =
    goes_on IsReadSubscription HasKeptNames (name_in root) _ (name_said root good) (λ name named.
    passes HasKeptNames (kind_in root) _ (λ kind.
    passes HasKeptNames (must (BadDocument the.Enabled) (is_enabled root)) _ (λ enabled.
    passes HasKeptNames (must (BadDocument the.Delivery) (is_pushed root)) _ (λ pushed.
    passes HasKeptNames (limits_in root) _ (λ limits.
    goes_on AreKept HasKeptNames (queries_in root) _ (all_said root good) (λ queries kept.
    passes HasKeptNames (sources_of kind root) _ (λ sources.
    passes HasKeptNames (version_in root) _ (λ version.
    record { utf8 = named.utf8; name = named.reads_back; query = kept }))))))))

-- the names that a good root says are such as their readers give
pub names_said : (root : Element) → IsGoodTree root → IfOk (subscription_in root) HasKeptNames
unfolding subscription_in
names_said root good = by (is_called space (codes "Subscription") root) (names_of root (greatest_depth, good))
  where
    by : (b : Bool) → IfOk (subscription_of root) HasKeptNames → IfOk (cond b (subscription_of root) (Err (BadDocument the.Subscription))) HasKeptNames
    by true is = is
    by false is = tt

-- what is said, by its names and by the rest
record IsAll (s : Subscription) : Type 0 where
  kept : HasKeptNames s
  sound : IsSound s

some_of : (root : Element) → IsGoodTree root → IfSome (subscription_or_none (subscription_in root)) IsAll
some_of root good = by (subscription_in root) refl (names_said root good)
  where
    by : (r : Result Subscription DocumentFault) → subscription_in root ≡ r → IfOk r HasKeptNames → IfSome (subscription_or_none r) IsAll
    by (Ok s) is kept = record { kept = kept; sound = read_sound root s good is kept }
    by (Err fault) is kept = tt

of_root : (o : Option Element) → IfSome o IsGoodTree → IfSome (option_and_then (λ root. subscription_or_none (subscription_in root)) o) IsAll
of_root None good = tt
of_root (Some root) good = some_of root good

all_of_it : (bytes : List ℕ) (s : Subscription) → document_in bytes ≡ Some s → IsAll s
unfolding document_in
all_of_it bytes s is = subst (λ o. IfSome o IsAll) is (of_root (tree_of (charset_of bytes) bytes) (root_good (charset_of bytes) bytes))

-- ---- what a document says, whatever its bytes

-- its names are as their types keep them
pub document_keeps : (bytes : List ℕ) (s : Subscription) → document_in bytes ≡ Some s → HasKeptNames s
document_keeps bytes s is = (all_of_it bytes s is).kept

-- it can be written, and is read again then
pub document_plain : (bytes : List ℕ) (s : Subscription) → document_in bytes ≡ Some s → IsPlain s
document_plain bytes s is = (all_of_it bytes s is).sound.plain

pub document_texts : (bytes : List ℕ) (s : Subscription) → document_in bytes ≡ Some s → HasXmlTexts s
document_texts bytes s is = (all_of_it bytes s is).sound.texts
