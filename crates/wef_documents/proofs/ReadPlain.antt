-- A subscription that is read from a good tree can be written and read again.
use Rattle.std.proofs.Common.{◌≡◌, ℕ, zero, suc, ◌≤◌, ◌<◌, nat_le, Bool, true, false, ◌&&◌, cond, List, [], ◌∷◌, length, refl, sym, subst, arith}
use Rattle.std.specs.Prelude.{Option, Some, None, Ok, Err, Result, IfSome, codes, find, slice_get}
use Rattle.std.specs.List.{AllByRecursion}
use Rattle.std.specs.Option.{option_and_then}
use Rattle.std.proofs.lemmas.Bool.{and_parts}
use Rattle.std.proofs.lemmas.Bool.Decides.{nat_tests}
use Rattle.wef_base.specs.Names.{trimmed}
use Rattle.wef_base.specs.declared.names.ValueFault.{ValueFault}
use Rattle.wef_base.specs.declared.names.ValueFault.TheVariants as value
use Rattle.wef_base.specs.declared.numbers.TheConstants.{MAX}
use Rattle.wef_base.specs.declared.tree.Charset.TheVariants.{Utf8}
use Rattle.wef_base.specs.declared.tree.Element.{Element}
use Rattle.wef_elements.specs.Children.{elements_in, is_called}
use Rattle.wef_elements.specs.Good.{AreGoodElements}
use Rattle.wef_elements.specs.Texts.{said_in}
use Rattle.wef_elements.specs.Values.{number_said}
use Rattle.wef_elements.proofs.InnerTrees.{inner_good}
use Rattle.wef_eventing.specs.declared.subscriptions.SourceAt.{SourceAt}
use Rattle.wef_eventing.specs.declared.subscriptions.SubKind.{SubKind}
use Rattle.wef_eventing.specs.declared.subscriptions.SubKind.TheVariants.{BySource, ByCollector}
use Rattle.wef_eventing.specs.declared.subscriptions.Subscription.{Subscription}
use Rattle.wef_query.specs.Reading.{query_in}
use Rattle.wef_query.specs.declared.QueryList.{QueryList}
use Rattle.wef_query.specs.declared.reading.QueryFault.{QueryFault}
use Rattle.wef_times.specs.Durations.{duration_in, milliseconds_in, within_limit}
use Rattle.wef_times.specs.declared.durations.TheConstants.{LIMIT}
use Rattle.wef_tree_reading.specs.Documents.{tree_of}
use Rattle.wef_tree_reading.proofs.Functions.{is_spelt_by}
use Rattle.wef_tree_reading.proofs.Walks.{good_read}
use Rattle.wef_xml.specs.Good.{IsGoodElement, IsGoodTree}
use Rattle.wef_documents.specs.Laws.{ArePlainSources, HasKeptNames, HasXmlAddress, HasXmlTexts, IsPlain, IsPlainSource, IsWithin}
use Rattle.wef_documents.specs.Reading.{bad_query, queries_at, queries_by, queries_in, queries_of, queries_said, subscription_in, subscription_of, unless_refused}
use Rattle.wef_documents.specs.Sources.{nodes_of, some_source, sources_from, sources_of}
use Rattle.wef_documents.specs.Steps.{and_then, must, needed}
use Rattle.wef_documents.specs.Values.{between, bytes_in, child, expires_by, expires_in, expires_said, heartbeat_in, is_enabled, is_pushed, items_in, kind_in, limits_in, name_in, number_in, space, usual_expiry, version_in}
use Rattle.wef_documents.specs.declared.faults.DocumentFault.{DocumentFault}
use Rattle.wef_documents.specs.declared.faults.DocumentFault.TheVariants.{BadDocument}
use Rattle.wef_documents.specs.declared.faults.Part.{Part}
use Rattle.wef_documents.specs.declared.faults.Part.TheVariants as the
use Rattle.wef_documents.specs.declared.limits.Limits.{Limits}
use Rattle.wef_documents.proofs.FirstFound.{either_is}
use Rattle.wef_documents.proofs.ReadQueries as queries
use Rattle.wef_documents.proofs.ReadSources as sources

-- ---- steps

-- what a step gave, and how it went on
record Went {A B : Type 0} (r : Result A DocumentFault) (more : A → Result B DocumentFault) (b : B) : Type 0 where
  given : A
  read : r ≡ Ok given
  rest : more given ≡ Ok b

went : {A B : Type 0} (r : Result A DocumentFault) (more : A → Result B DocumentFault) (b : B) → and_then r more ≡ Ok b → Went r more b
went (Ok a) more b is = record { given = a; read = refl; rest = is }
went (Err fault) more b is = let bad : ⊥ = cc in absurd bad

one : {A : Type 0} (a b : A) → ◌≡◌ {A = Result A DocumentFault} (Ok a) (Ok b) → a ≡ b
one a b e = cc

-- ---- numbers

le_holds : (m n : ℕ) → nat_le m n ≡ true → m ≤ n
le_holds m n e = grind (arith, nat_tests, e)

pub number_within : (part : Part) (usual least greatest : ℕ) (text : Option (List ℕ)) (n : ℕ) → IsWithin least greatest usual
    → number_in part usual least greatest text ≡ Ok n → IsWithin least greatest n
number_within part usual least greatest None n within is = subst (IsWithin least greatest) (one usual n is) within
number_within part usual least greatest (Some text) n within is = by (number_said text) is
  where
    by_test : (m : ℕ) (b : Bool) → (nat_le least m && nat_le m greatest) ≡ b → needed (BadDocument part) (cond b (Some m) None) ≡ Ok n → IsWithin least greatest n
    by_test m false test said = let bad : ⊥ = cc in absurd bad
    by_test m true test said =
        let parts = and_parts (nat_le least m) (nat_le m greatest) test in
        subst (IsWithin least greatest) (one m n said) (le_holds least m parts.0, le_holds m greatest parts.1)

    by : (o : Option ℕ) → needed (BadDocument part) (option_and_then (between least greatest) o) ≡ Ok n → IsWithin least greatest n
    by None said = let bad : ⊥ = cc in absurd bad
    by (Some m) said = by_test m (nat_le least m && nat_le m greatest) refl said

-- ---- the expiry

duration_within : (text : List ℕ) (ms : ℕ) → duration_in text ≡ Ok ms → ms ≤ LIMIT
unfolding duration_in
duration_within text ms is = by (milliseconds_in (trimmed text)) is
  where
    same : (a b : ℕ) → ◌≡◌ {A = Result ℕ ValueFault} (Ok a) (Ok b) → a ≡ b
    same a b e = cc

    by_test : (m : ℕ) (b : Bool) → nat_le m LIMIT ≡ b → ◌≡◌ {A = Result ℕ ValueFault} (cond b (Ok m) (Err value.TooLarge)) (Ok ms) → ms ≤ LIMIT
    by_test m false test said = let bad : ⊥ = cc in absurd bad
    by_test m true test said = subst (λ (n : ℕ). n ≤ LIMIT) (same m ms said) (le_holds m LIMIT test)

    by : (o : Option ℕ) → within_limit o ≡ Ok ms → ms ≤ LIMIT
    by None said = let bad : ⊥ = cc in absurd bad
    by (Some m) said = by_test m (nat_le m LIMIT) refl said

usual_within : IsWithin 1 LIMIT usual_expiry
usual_within = (omega arith, omega arith)

positive : (ms : ℕ) → 1 ≤ suc ms
positive ms = omega arith

expires_within : (text : Option (List ℕ)) (n : ℕ) → expires_said text ≡ Ok n → IsWithin 1 LIMIT n
expires_within None n is = subst (IsWithin 1 LIMIT) (one usual_expiry n is) usual_within
expires_within (Some text) n is = by (duration_in text) refl is
  where
    usual : expires_said None ≡ Ok n → IsWithin 1 LIMIT n
    usual said = subst (IsWithin 1 LIMIT) (one usual_expiry n said) usual_within

    by : (r : Result ℕ ValueFault) → duration_in text ≡ r → expires_by r ≡ Ok n → IsWithin 1 LIMIT n
    by (Ok zero) found said = usual said
    by (Ok (suc ms)) found said = subst (IsWithin 1 LIMIT) (one (suc ms) n said) (positive ms, duration_within text (suc ms) found)
    by (Err value.TooLarge) found said = let bad : ⊥ = cc in absurd bad
    by (Err value.NoMemory) found said = usual said
    by (Err value.NotANumber) found said = usual said
    by (Err value.NotADuration) found said = usual said
    by (Err value.NotAMoment) found said = usual said
    by (Err value.BadName) found said = usual said

-- ---- all limits

record AreWithin (l : Limits) : Type 0 where
  max_items : IsWithin 1 10_000 l.max_items
  heartbeat : IsWithin 1 86_400_000 l.heartbeat
  max_bytes : IsWithin 8_192 4_194_304 l.max_bytes
  expires : IsWithin 1 LIMIT l.expires

usual_items : IsWithin 1 10_000 20
usual_items = (omega arith, omega arith)

usual_heartbeat : IsWithin 1 86_400_000 900_000
usual_heartbeat = (omega arith, omega arith)

usual_bytes : IsWithin 8_192 4_194_304 512_000
usual_bytes = (omega arith, omega arith)

usual_version : IsWithin 1 MAX 1
usual_version = (omega arith, omega arith)

limits_within : (root : Element) (l : Limits) → limits_in root ≡ Ok l → AreWithin l
limits_within root l is =
    let items = went (items_in root) _ l is in
    let beats = went (heartbeat_in root) _ l items.rest in
    let bytes = went (bytes_in root) _ l beats.rest in
    let expires = went (expires_in root) _ l bytes.rest in
    let same : ◌≡◌ {A = Limits} (record { max_items = items.given; heartbeat = beats.given; max_bytes = bytes.given; expires = expires.given }) l = one _ l expires.rest in
    subst AreWithin same (record {
      max_items = number_within the.MaxItems 20 1 10_000 _ items.given usual_items items.read;
      heartbeat = number_within the.Heartbeat 900_000 1 86_400_000 _ beats.given usual_heartbeat beats.read;
      max_bytes = number_within the.MaxEnvelopeSize 512_000 8_192 4_194_304 _ bytes.given usual_bytes bytes.read;
      expires = expires_within _ expires.given expires.read;
    })

-- ---- good parts of a good tree

child_good : (name : List ℕ) (e : Element) (room : ℕ) → IsGoodElement e (suc room) → IfSome (child name e) (λ (inner : Element). IsGoodElement inner room)
child_good name e room good = among (elements_in e.children) (inner_good e.children room good.2)
  where
    among : (es : List Element) → AreGoodElements es room → IfSome (find (is_called space name) es) (λ (inner : Element). IsGoodElement inner room)
    among [] good = tt
    among (x ∷ es) good = either_is (λ (inner : Element). IsGoodElement inner room) (is_called space name x) x (find (is_called space name) es) good.0 (among es good.1)

elements_of : (o : Option Element) (room : ℕ) → IfSome o (λ (inner : Element). IsGoodElement inner (suc room)) → AreGoodElements (elements_in (nodes_of o)) room
elements_of None room good = tt
elements_of (Some e) room good = inner_good e.children room good.2

tree_good : (text : List ℕ) (root : Element) → tree_of Utf8 text ≡ Some root → IsGoodTree root
tree_good text root is = good_read Utf8 text (Ok root) (is_spelt_by Utf8 text root is)

-- ---- queries

said_read : (list : Element) (room : ℕ) (q : QueryList) → IsGoodElement list room → queries_said list ≡ Ok q → queries.AreRead q.items
said_read list room q good is = by (query_in list) refl is
  where
    by : (r : Result QueryList QueryFault) → query_in list ≡ r → unless_refused r ≡ Ok q → queries.AreRead q.items
    by (Err fault) found said = let bad : ⊥ = cc in absurd bad
    by (Ok found_list) found said = subst (λ (l : QueryList). queries.AreRead l.items) (one found_list q said) (queries.query_read list room found_list good found)

spelt_read : (text : List ℕ) (q : QueryList) → queries_at (tree_of Utf8 text) ≡ Ok q → queries.AreRead q.items
spelt_read text q is = by (tree_of Utf8 text) refl is
  where
    by : (o : Option Element) → tree_of Utf8 text ≡ o → queries_at o ≡ Ok q → queries.AreRead q.items
    by None found said = let bad : ⊥ = cc in absurd bad
    by (Some root) found said = said_read root 64 q (tree_good text root found) said

held_read : (e : Element) (room : ℕ) (q : QueryList) → IsGoodElement e (suc room) → queries_of e ≡ Ok q → queries.AreRead q.items
held_read e room q good is = by (elements_in e.children) (inner_good e.children room good.2) is
  where
    by : (es : List Element) → AreGoodElements es room → queries_by (slice_get es 0) (said_in e) ≡ Ok q → queries.AreRead q.items
    by [] good said = spelt_read (said_in e) q said
    by (list ∷ es) good said = said_read list room q good.0 said

queries_are : (root : Element) (room : ℕ) (q : QueryList) → IsGoodElement root (suc (suc room)) → queries_in root ≡ Ok q → queries.AreRead q.items
queries_are root room q good is = by (child (codes "Query") root) (child_good (codes "Query") root (suc room) good) is
  where
    by : (o : Option Element) → IfSome o (λ (inner : Element). IsGoodElement inner (suc room)) → and_then (needed bad_query o) (λ e. queries_of e) ≡ Ok q → queries.AreRead q.items
    by None good said = let bad : ⊥ = cc in absurd bad
    by (Some e) good said = held_read e room q good said

-- ---- sources

each_plain : (xs : List SourceAt) → AllByRecursion sources.IsRead xs → AllByRecursion IsPlainSource xs
each_plain [] each = tt
each_plain (x ∷ xs) each = (each.0.plain, each_plain xs each.1)

each_allowed : (xs : List SourceAt) → AllByRecursion sources.IsRead xs → AllByRecursion HasXmlAddress xs
each_allowed [] each = tt
each_allowed (x ∷ xs) each = (each.0.allowed, each_allowed xs each.1)

record AreSound (kind : SubKind) (found : List SourceAt) : Type 0 where
  plain : ArePlainSources kind found
  allowed : AllByRecursion HasXmlAddress found

none_sound : AreSound BySource []
none_sound = record { plain = refl; allowed = tt }

some_sound : (read found : List SourceAt) → sources.AreRead read → some_source read ≡ Ok found → AreSound ByCollector found
some_sound [] found are is = let bad : ⊥ = cc in absurd bad
some_sound (x ∷ xs) found are is =
    subst (AreSound ByCollector) (one (x ∷ xs) found is) (record {
      plain = (more xs, are.different, each_plain (x ∷ xs) are.each);
      allowed = each_allowed (x ∷ xs) are.each;
    })
  where
    more : (ys : List SourceAt) → 0 < suc (length ys)
    more ys = omega arith

sources_sound : (kind : SubKind) (root : Element) (room : ℕ) (found : List SourceAt) → IsGoodElement root (suc (suc room)) → sources_of kind root ≡ Ok found → AreSound kind found
sources_sound BySource root room found good is = subst (AreSound BySource) (one [] found is) none_sound
sources_sound ByCollector root room found good is =
    let es = elements_in (nodes_of (child (codes "EventSources") root)) in
    let read = went (sources_from [] es) (λ given. some_source given) found is in
    some_sound read.given found
    (sources.all_read [] es room read.given (record { different = refl; each = tt }) (elements_of (child (codes "EventSources") root) room (child_good (codes "EventSources") root (suc room) good)) read.read)
    read.rest

-- ---- a subscription

pub record IsSound (s : Subscription) : Type 0 where
  pub plain : IsPlain s
  pub texts : HasXmlTexts s

parts_sound : (root : Element) (room : ℕ) (s : Subscription) → IsGoodElement root (suc (suc room)) → subscription_of root ≡ Ok s → HasKeptNames s → IsSound s
parts_sound root room s good is kept =
    let name = went (name_in root) _ s is in
    let kind = went (kind_in root) _ s name.rest in
    let enabled = went (must (BadDocument the.Enabled) (is_enabled root)) _ s kind.rest in
    let pushed = went (must (BadDocument the.Delivery) (is_pushed root)) _ s enabled.rest in
    let limits = went (limits_in root) _ s pushed.rest in
    let query = went (queries_in root) _ s limits.rest in
    let named = went (sources_of kind.given root) _ s query.rest in
    let version = went (version_in root) _ s named.rest in
    let made : Subscription = record {
      name = name.given;
      kind = kind.given;
      query = query.given;
      max_items = limits.given.max_items;
      max_bytes = limits.given.max_bytes;
      heartbeat = limits.given.heartbeat;
      expires = limits.given.expires;
      sources = named.given;
      version = version.given;
    } in
    let same : made ≡ s = one made s version.rest in
    let names = subst HasKeptNames (sym same) kept in
    let within = limits_within root limits.given limits.read in
    let list = queries_are root room query.given good query.read in
    let at = sources_sound kind.given root room named.given good named.read in
    subst IsSound same (record {
      plain = record {
        query = queries.writable query.given.items names.query list;
        max_items = within.max_items;
        max_bytes = within.max_bytes;
        heartbeat = within.heartbeat;
        expires = within.expires;
        sources = at.plain;
        version = number_within the.Version 1 1 MAX _ version.given usual_version version.read;
      };
      texts = record { query = queries.xml_queries query.given.items list.each; sources = at.allowed };
    })

-- what is read from a good tree can be written, and is read again then
pub read_sound : (root : Element) (s : Subscription) → IsGoodTree root → subscription_in root ≡ Ok s → HasKeptNames s → IsSound s
unfolding subscription_in
read_sound root s good is kept = by (is_called space (codes "Subscription") root) is
  where
    by : (b : Bool) → cond b (subscription_of root) (Err (BadDocument the.Subscription)) ≡ Ok s → IsSound s
    by false said = let bad : ⊥ = cc in absurd bad
    by true said = parts_sound root 62 s good said kept
