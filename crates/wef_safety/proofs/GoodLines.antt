-- What a good line says: its subscription reads back from the words that keep it, its batch is sound, and its event may be
-- written.
use Rattle.std.proofs.Common.{◌≡◌, ℕ, ◌≤◌, Bool, true, false, ◌&&◌, cond, List, [], ◌∷◌, length, nat_le, nat_lt, refl, sym, ◌∙◌, subst, arith}
use Rattle.std.proofs.lemmas.Bool.{and_parts}
use Rattle.std.proofs.lemmas.Bool.Decides.{nat_tests}
use Rattle.std.proofs.lemmas.Option.{none-some, same_Some}
use Rattle.std.proofs.lemmas.Str.{IsUtf8-from_is_utf8}
use Rattle.std.specs.Prelude.{Option, None, Some, is_some}
use Rattle.std.specs.Cmp.Lexicographic.{slice_cmp}
use Rattle.std.specs.FinMap as finite
use Rattle.std.specs.List.{AllByRecursion, list_all}
use Rattle.std.specs.Ordering.{eq_by_cmp, nat_cmp}
use Rattle.std.specs.Str.{is_utf8}
use Rattle.std.specs.Cmp.Lexicographic.{bytes_decides}
use Rattle.wef_base.specs.Characters.{is_xml_text}
use Rattle.wef_base.specs.Names.{channel_name, same, trimmed}
use Rattle.wef_elements.proofs.GoodTexts.{xml_text}
use Rattle.wef_eventing.specs.Sending.{AreXmlQueries}
use Rattle.wef_batch.specs.Numbers.{AreNumbered, IsNumbered}
use Rattle.wef_batch.specs.declared.items.Batch.{Batch}
use Rattle.wef_batch.specs.declared.items.Item.{Item}
use Rattle.wef_batch.specs.declared.items.Item.TheVariants as item
use Rattle.wef_base.specs.declared.tree.Element.{Element}
use Rattle.wef_event.proofs.NewEvents.{new_fits}
use Rattle.wef_event.proofs.PlainTrees.{plain_of_tree}
use Rattle.wef_event.specs.Events.{Event, IsEventOf, event_limit, is_event}
use Rattle.wef_event.specs.PlainEvent.{plain_tree}
use Rattle.wef_event.specs.Unnumbered.{new_event, plain_numbered, plain_numbered_text}
use Rattle.wef_event.specs.declared.unnumbered.PlainEvent.{PlainEvent}
use Rattle.wef_documents.proofs.KeptBack.{kept_again}
use Rattle.wef_eventing.specs.Kept.{HasKeptName}
use Rattle.wef_base.specs.declared.numbers.TheConstants.{MAX}
use Rattle.wef_documents.specs.Kept.{read_kept}
use Rattle.wef_documents.specs.Laws.{ArePlainSources, HasXmlAddress, IsWithin}
use Rattle.wef_documents.specs.Written.{document_text}
use Rattle.wef_eventing.specs.Subscriptions.{AreLimits}
use Rattle.wef_eventing.specs.declared.subscriptions.Subscription.{Subscription}
use Rattle.wef_query.specs.Items.{QueryItem, says_path}
use Rattle.wef_query.specs.Laws.{ReadsBack, are_grouped}
use Rattle.wef_query_paths.specs.Paths.{path_of}
use Rattle.wef_query.specs.declared.QueryList.{QueryList}
use Rattle.wef_replay.proofs.GoodNames.{kept_channel}
use Rattle.wef_lines.specs.Documents.{is_new_event}
use Rattle.wef_replay.specs.Good.{are_limits, are_queries, are_words, fits_always, has_word, may_be_written, is_between, is_channel, is_count, is_expiry, is_item, is_line, is_no_collector, is_number, is_one, is_query, is_query_text, is_reach, is_source, is_subscription}
use Rattle.wef_replay.specs.declared.lines.Line.TheVariants as lines
use Rattle.wef_machine.specs.Steps.{begun_subscription, subscription_of}
use Rattle.wef_times.specs.declared.durations.TheConstants.{LIMIT}
use Rattle.wef_collector.specs.FormsStay.{IsSoundBatch, IsSoundItem}
use Rattle.wef_safety.specs.Kept.{AreAddressed}
use Rattle.wef_safety.proofs.Offering.{reads_subscription}
use Rattle.wef_safety.proofs.EventTrees.{new_has_tree}
use Rattle.wef_safety.proofs.SourceAddresses.{called_allowed, called_plain}

-- ---- names and numbers

at_most : (m n : ℕ) → nat_le m n ≡ true → m ≤ n
at_most m n e = grind (arith, nat_tests, e)

between : (least greatest n : ℕ) → is_between least greatest n ≡ true → (least ≤ n) × (n ≤ greatest)
between least greatest n e = let parts = and_parts (nat_le least n) (nat_le n greatest) e in (at_most least n parts.0, at_most n greatest parts.1)

-- ---- a subscription

-- what the test of a query says
record IsQuery (q : QueryItem) : Type 0 where
  channel : is_channel q.channel ≡ true
  utf8 : is_utf8 q.text ≡ true
  allowed : is_xml_text q.text ≡ true
  trimmed_text : same (trimmed q.text) q.text ≡ true
  path : is_some (path_of q.text) ≡ true

query_is : (q : QueryItem) → is_query q ≡ true → IsQuery q
query_is q e =
    let outer = and_parts (is_channel q.channel) (is_query_text q.text) e in
    let texts = and_parts (is_utf8 q.text && is_xml_text q.text) (says_path q.text) outer.1 in
    let characters = and_parts (is_utf8 q.text) (is_xml_text q.text) texts.0 in
    let says = and_parts (same (trimmed q.text) q.text) (is_some (path_of q.text)) texts.1 in
    record { channel = outer.0; utf8 = characters.0; allowed = characters.1; trimmed_text = says.0; path = says.1 }

name_is : (q : QueryItem) → IsQuery q → HasKeptName q
name_is q is = record {
  utf8 = IsUtf8-from_is_utf8 q.channel (and_parts (is_utf8 q.channel) (is_one q.channel (channel_name q.channel)) is.channel).0;
  reads_back = kept_channel q.channel is.channel;
}

names_are : (qs : List QueryItem) → list_all is_query qs ≡ true → AllByRecursion HasKeptName qs
names_are [] e = tt
names_are (q ∷ qs) e = let parts = and_parts (is_query q) (list_all is_query qs) e in (name_is q (query_is q parts.0), names_are qs parts.1)

queries_read : (qs : List QueryItem) → list_all is_query qs ≡ true → AllByRecursion ReadsBack qs
queries_read [] e = tt
queries_read (q ∷ qs) e =
    let parts = and_parts (is_query q) (list_all is_query qs) e in
    let is = query_is q parts.0 in
    (record { channel = (name_is q is).reads_back; text = (bytes_decides (trimmed q.text) q.text).0 is.trimmed_text; path = is.path }, queries_read qs parts.1)

queries_allowed : (qs : List QueryItem) → list_all is_query qs ≡ true → AreXmlQueries qs
queries_allowed [] e = tt
queries_allowed (q ∷ qs) e =
    let parts = and_parts (is_query q) (list_all is_query qs) e in
    let is = query_is q parts.0 in
    (xml_text q.text (IsUtf8-from_is_utf8 q.text is.utf8) is.allowed, queries_allowed qs parts.1)

limits_are : (items bytes beat : ℕ) → are_limits items bytes beat ≡ true → AreLimits items bytes beat
limits_are items bytes beat e =
    let outer = and_parts (is_between 1 10000 items && is_between 8192 4194304 bytes) (is_between 1 86400000 beat) e in
    let inner = and_parts (is_between 1 10000 items) (is_between 8192 4194304 bytes) outer.0 in
    (between 1 10000 items inner.0, between 8192 4194304 bytes inner.1, between 1 86400000 beat outer.1)

-- What the words of a good line say of the subscription that they make.
record IsWellSaid (about : Subscription) : Type 0 where
  name : is_subscription about.name ≡ true
  limits : are_limits about.max_items about.max_bytes about.heartbeat ≡ true
  queries : are_queries about.query.items ≡ true
  expires : IsWithin 1 LIMIT about.expires
  sources : ArePlainSources about.kind about.sources
  addresses : AllByRecursion HasXmlAddress about.sources
  version : IsWithin 1 MAX about.version

-- it is read again from its document
said_again : (about : Subscription) → IsWellSaid about → read_kept about.name (document_text about) ≡ Some about
said_again about is =
    let name = reads_subscription about.name is.name in
    let queries = and_parts (are_grouped about.query.items) (list_all is_query about.query.items) is.queries in
    let limits = limits_are about.max_items about.max_bytes about.heartbeat is.limits in
    kept_again about
    (record { utf8 = name.0; name = name.1; query = names_are about.query.items queries.1 })
    (record { query = queries_allowed about.query.items queries.1; sources = is.addresses })
    (record {
      query = record { grouped = queries.0; each = queries_read about.query.items queries.1 };
      max_items = limits.0;
      max_bytes = limits.1;
      heartbeat = limits.2;
      expires = is.expires;
      sources = is.sources;
      version = is.version;
    })

-- the subscription of a good line is read again from its document
pub subscription_again : (u : List ℕ) (items bytes beat : ℕ) (query : QueryList) → is_line (lines.Subscribe u items bytes beat query) ≡ true →
    read_kept u (document_text (subscription_of u items bytes beat query)) ≡ Some (subscription_of u items bytes beat query)
subscription_again u items bytes beat query e =
    let outer = and_parts (is_subscription u && are_limits items bytes beat) (are_queries query.items) e in
    let inner = and_parts (is_subscription u) (are_limits items bytes beat) outer.0 in
    said_again (subscription_of u items bytes beat query)
    (record {
      name = inner.0;
      limits = inner.1;
      queries = outer.1;
      expires = (omega arith, omega arith);
      sources = refl;
      addresses = tt;
      version = (omega arith, omega arith);
    })

-- What the words of a line say that has the collector begin.
pub record IsBegun (u s : List ℕ) (items bytes beat expires : ℕ) (query : QueryList) : Type 0 where
  pub name : is_subscription u ≡ true
  pub source : is_source s ≡ true
  pub limits : are_limits items bytes beat ≡ true
  pub expiry : is_expiry expires ≡ true
  pub queries : are_queries query.items ≡ true

pub begun : (u s : List ℕ) (items bytes beat expires : ℕ) (query : QueryList) → is_line (lines.SubscribeAt u s items bytes beat expires query) ≡ true → IsBegun u s items bytes beat expires query
begun u s items bytes beat expires query e =
    let all = and_parts (is_subscription u && is_source s && are_limits items bytes beat && is_expiry expires) (are_queries query.items) e in
    let three = and_parts (is_subscription u && is_source s && are_limits items bytes beat) (is_expiry expires) all.0 in
    let two = and_parts (is_subscription u && is_source s) (are_limits items bytes beat) three.0 in
    let names = and_parts (is_subscription u) (is_source s) two.0 in
    record { name = names.0; source = names.1; limits = two.1; expiry = three.1; queries = all.1 }

-- so is the subscription that the collector begins
pub begun_again : (u s : List ℕ) (items bytes beat expires : ℕ) (query : QueryList) → IsBegun u s items bytes beat expires query →
    read_kept u (document_text (begun_subscription u s items bytes beat expires query)) ≡ Some (begun_subscription u s items bytes beat expires query)
begun_again u s items bytes beat expires query is =
    said_again (begun_subscription u s items bytes beat expires query)
    (record {
      name = is.name;
      limits = is.limits;
      queries = is.queries;
      expires = between 1 LIMIT expires is.expiry;
      sources = (omega arith, refl, (called_plain s is.source, tt));
      addresses = (called_allowed s is.source, tt);
      version = (omega arith, omega arith);
    })

-- and it is found where its source is
pub begun_addressed : (u s : List ℕ) (items bytes beat expires : ℕ) (query : QueryList) → IsBegun u s items bytes beat expires query → AreAddressed (begun_subscription u s items bytes beat expires query)
begun_addressed u s items bytes beat expires query is = (record { name = is.source; address = refl }, tt)

-- ---- a batch

pub names_source : (u s : List ℕ) (b : Batch) → is_line (lines.Batch u s b) ≡ true → is_source s ≡ true
names_source u s b e =
    let outer = and_parts (is_subscription u && is_source s && is_no_collector s) (are_words b) e in
    let inner = and_parts (is_subscription u && is_source s) (is_no_collector s) outer.0 in
    (and_parts (is_subscription u) (is_source s) inner.0).1

sound : (i : Item) → is_item i ≡ true → IsSoundItem i
sound (item.Event event) e =
    let outer = and_parts (is_channel event.channel && is_number event.number) (is_event event) e in
    let inner = and_parts (is_channel event.channel) (is_number event.number) outer.0 in
    ((between 1 9223372036854775807 event.number inner.1).1, outer.1)
sound (item.Dropped channel first last) e = (between 1 9223372036854775807 last (and_parts (is_channel channel && is_number first) (is_number last) e).1).1
sound (item.Loose count) e = tt

all_sound : (items : List Item) → list_all is_item items ≡ true → AllByRecursion IsSoundItem items
all_sound [] e = tt
all_sound (i ∷ items) e = let parts = and_parts (is_item i) (list_all is_item items) e in (sound i parts.0, all_sound items parts.1)

reached : (es : List (List ℕ × ℕ)) → list_all is_reach es ≡ true → (c : List ℕ) (n : ℕ) → finite.find (slice_cmp nat_cmp) c es ≡ Some n → n ≤ 9223372036854775807
reached [] e c n found = absurd (none-some n found)
reached (x ∷ es) e c n found = by_test (reached es (and_parts (is_reach x) (list_all is_reach es) e).1 c n) (eq_by_cmp (slice_cmp nat_cmp) c x.0) found
  where
    parts : (is_reach x ≡ true) × (list_all is_reach es ≡ true)
    parts = and_parts (is_reach x) (list_all is_reach es) e

    by_test : (finite.find (slice_cmp nat_cmp) c es ≡ Some n → n ≤ 9223372036854775807) → (t : Bool) → cond t (Some x.1) (finite.find (slice_cmp nat_cmp) c es) ≡ Some n → n ≤ 9223372036854775807
    by_test behind true is = subst (λ (m : ℕ). m ≤ 9223372036854775807) (same_Some x.1 n is) (at_most x.1 9223372036854775807 (and_parts (is_channel x.0) (is_count x.1) (parts).0).1)
    by_test behind false is = behind is

pub sound_batch : (u s : List ℕ) (b : Batch) → is_line (lines.Batch u s b) ≡ true → IsSoundBatch b
sound_batch u s b e =
    let words = (and_parts (is_subscription u && is_source s && is_no_collector s) (are_words b) e).1 in
    let outer = and_parts (has_word b && list_all is_item b.items) (list_all is_reach (finite.entries b.to)) words in
    let inner = and_parts (has_word b) (list_all is_item b.items) outer.0 in
    record {
      items = all_sound b.items inner.1;
      to = λ c n found. reached (finite.entries b.to) outer.1 c n (sym (finite.get-entries b.to c) ∙ found);
    }

numbered : (i : Item) → is_item i ≡ true → IsNumbered i
numbered (item.Event event) e = tt
numbered (item.Dropped channel first last) e =
    let outer = and_parts (is_channel channel && is_number first) (is_number last) e in
    ((between 1 9223372036854775807 first (and_parts (is_channel channel) (is_number first) outer.0).1).1, (between 1 9223372036854775807 last outer.1).1)
numbered (item.Loose count) e = tt

all_numbered : (items : List Item) → list_all is_item items ≡ true → AreNumbered items
all_numbered [] e = tt
all_numbered (i ∷ items) e = let parts = and_parts (is_item i) (list_all is_item items) e in (numbered i parts.0, all_numbered items parts.1)

-- the numbers of a line's batch are such as records have
pub numbered_batch : (u s : List ℕ) (b : Batch) → is_line (lines.Batch u s b) ≡ true → AreNumbered b.items
numbered_batch u s b e =
    let words = (and_parts (is_subscription u && is_source s && is_no_collector s) (are_words b) e).1 in
    all_numbered b.items (and_parts (has_word b) (list_all is_item b.items) (and_parts (has_word b && list_all is_item b.items) (list_all is_reach (finite.entries b.to)) words).0).1

-- ---- a write

-- An event may be written: its channel is a name as it is kept, and it is the event of a tree.
pub record IsWritable (event : Event) : Type 0 where
  pub named : channel_name event.channel ≡ Some event.channel
  pub node : Element
  pub is : IsEventOf event node

-- the event of plain words that isn't too long is the new one
new_is : (plain : PlainEvent) → is_some (plain_numbered plain 0) ≡ true → plain_numbered plain 0 ≡ Some (new_event plain)
new_is plain fits = by_length (nat_lt event_limit (length (plain_numbered_text plain 0))) fits
  where
    by_length : (b : Bool) → is_some (cond b None (Some (new_event plain))) ≡ true → ◌≡◌ {A = Option Event} (cond b None (Some (new_event plain))) (Some (new_event plain))
    by_length true e = cc
    by_length false e = refl

pub writable : (s : List ℕ) (plain : PlainEvent) → is_line (lines.Write s plain) ≡ true → IsWritable (new_event plain)
writable s plain e =
    let fits = (and_parts (is_source s) (fits_always plain) e).1 in
    let outer = and_parts (is_channel plain.channel && is_utf8 plain.word) (is_some (plain_numbered plain 9223372036854775807)) fits in
    let inner = and_parts (is_channel plain.channel) (is_utf8 plain.word) outer.0 in
    let named = kept_channel plain.channel inner.0 in
    let channel = (and_parts (is_utf8 plain.channel) (is_one plain.channel (channel_name plain.channel)) inner.0).0 in
    record {
      named = named;
      node = plain_tree plain.channel 0 plain.id plain.level plain.word;
      is = plain_of_tree plain.channel plain.word 0 plain.id plain.level (new_event plain) named channel inner.1 plain.characters (omega arith)
          (new_is plain (new_fits plain 9223372036854775807 (omega arith) outer.1));
    }

pub writable_xml : (s : List ℕ) (event : Event) → is_line (lines.WriteXml s event) ≡ true → IsWritable event
writable_xml s event e =
    let may = (and_parts (is_source s) (may_be_written event) e).1 in
    let parts = and_parts (is_channel event.channel) (is_new_event event) may in
    let tree = new_has_tree event parts.1 in
    record { named = kept_channel event.channel parts.0; node = tree.0; is = tree.1 }
