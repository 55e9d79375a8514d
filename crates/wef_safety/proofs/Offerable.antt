-- What the collector of a kept world offers to a declared source can be written as bytes, and is read again.
use Rattle.std.proofs.Common.{◌≡◌, ℕ, ◌≤◌, ◌==◌, ◌&&◌, ◌||◌, not, nat_eq, nat_le, Bool, true, false, cond, max, List, [], ◌∷◌, ◌++◌, length, take, drop, append_assoc, refl, ap, sym, ◌∙◌, subst, arith}
use Rattle.wef_documents.proofs.KeptBack.{kept_names, kept_plain, kept_xml}
use Rattle.wef_documents.specs.Kept.{read_kept}
use Rattle.wef_documents.specs.Laws.{HasKeptNames, HasXmlTexts, IsPlain}
use Rattle.std.proofs.lemmas.Bool.{and_from, and_parts, eqb-true}
use Rattle.std.proofs.lemmas.Bool.Decides.{nat_tests}
use Rattle.std.proofs.lemmas.Option.{none-some}
use Rattle.std.specs.Cmp.Lexicographic.{pointwise, slice_cmp}
use Rattle.std.specs.FinMap as finite
use Rattle.std.specs.List.{AllByRecursion, filter, list_all, list_any}
use Rattle.std.specs.Ordering.{eq_by_cmp, nat_cmp}
use Rattle.std.specs.Prelude.{Option, Some, None, IfSome, is_some, codes}
use Rattle.std.specs.Str.{is_utf8}
use Rattle.wef_base.specs.Names.{channel_name, same}
use Rattle.wef_base.specs.declared.numbers.TheConstants.{MAX}
use Rattle.wef_bodies.specs.Laws.{IsPlainOffer, OfferCanStand}
use Rattle.wef_bookmark.proofs.Joining.{get-raised, one_name, order}
use Rattle.wef_bookmark.proofs.Kept.{empty_kept, raised_kept}
use Rattle.wef_bookmark.specs.Entries.{AreEntries}
use Rattle.wef_bookmark.specs.Nodes.{AreTexts}
use Rattle.wef_bookmark.specs.Order.{Marks, number_at, raised}
use Rattle.wef_collector.specs.Offers.{offer_made, offers, subscribe_from}
use Rattle.wef_collector_reports.specs.declared.listing.Listed.{Listed}
use Rattle.wef_collector_rows.specs.Bookmarks.{bookmark_of, bookmark_rows, has_channel, raised_by_rows}
use Rattle.wef_collector_rows.specs.Forms as collector
use Rattle.wef_collector_rows.specs.Keys.{bookmark_key}
use Rattle.wef_eventing.proofs.AddressTexts.{address_is_plain, address_printed}
use Rattle.wef_eventing.proofs.AddressesBack.{addresses_read_back}
use Rattle.wef_eventing.specs.Addresses.{IsHost, behind_slash, delivery_address, has_path, has_segments, is_address, is_delivery, is_printed, is_slash, scheme, segment, subscription_in}
use Rattle.wef_eventing.specs.declared.subscriptions.Subscription.{Subscription}
use Rattle.wef_ids.proofs.PlainIds.{id_text_good, id_text_trimmed}
use Rattle.wef_keeper.specs.Rows.{Rows, cell_of_row, row_of}
use Rattle.wef_keeper.specs.Sections.{is_under}
use Rattle.wef_keeper.specs.declared.keys.Cell.{Cell}
use Rattle.wef_keeper.specs.declared.keys.Depth.TheVariants.{Source}
use Rattle.wef_keeper.specs.declared.keys.Key.{Key}
use Rattle.wef_keeper.specs.declared.keys.Row.{Row}
use Rattle.wef_replay.proofs.Gifts.{AllOf}
use Rattle.wef_replay.proofs.GoodNames.{kept_channel}
use Rattle.wef_replay.specs.Good.{is_channel, is_one, is_source, is_subscription}
use Rattle.wef_pairs.specs.Pairs.{subscription_at}
use Rattle.wef_machine.specs.States.{Slot, State, host, slot_of}
use Rattle.wef_safety.specs.Kept.{IsKept}
use Rattle.wef_safety.proofs.KeptChannels.{kept_of, known_has}
use Rattle.wef_safety.proofs.NameTexts.{subscription_is_plain}
use Rattle.wef_safety.proofs.Offering.{IsListed, Stands, all_filter, all_made, all_stand, reads_source, reads_subscription}
use Rattle.wef_safety.proofs.RowMoves.{AreRowsKept}
use Rattle.wef_safety.proofs.Sent.{all_map}
use Rattle.wef_subscribes.specs.Laws.{IsKeptSubscribe, IsPlainSubscribe, IsWithin}
use Rattle.wef_times.specs.declared.durations.TheConstants.{LIMIT}

-- a test of numbers that holds
tested : (m n : ℕ) → nat_le m n ≡ true → m ≤ n
tested m n e = grind (arith, nat_tests, e)

-- ---- addresses at a host

-- whether a text begins otherwise than with a slash
abbrev pub begins_bare : List ℕ → Bool
begins_bare [] = false
begins_bare (c ∷ cs) = not (is_slash c)

-- a host that an address of HTTP may have: it isn't taken for the path
abbrev pub IsAuthority : List ℕ → Type 0
IsAuthority at = IsHost at × (begins_bare at ≡ true)

slash_behind : (front rest : List ℕ) → list_any is_slash (front ++ 47 ∷ rest) ≡ true
slash_behind [] rest = refl
slash_behind (c ∷ front) rest = by (is_slash c) (slash_behind front rest)
  where
    by : (t : Bool) → list_any is_slash (front ++ 47 ∷ rest) ≡ true → (t || list_any is_slash (front ++ 47 ∷ rest)) ≡ true
    by true later = refl
    by false later = later

second_slash : (front rest : List ℕ) → list_any is_slash rest ≡ true → list_any is_slash (behind_slash (front ++ 47 ∷ rest)) ≡ true
second_slash [] rest has = has
second_slash (c ∷ front) rest has = by (is_slash c) (second_slash front rest has)
  where
    by : (t : Bool) → list_any is_slash (behind_slash (front ++ 47 ∷ rest)) ≡ true → list_any is_slash (cond t (front ++ 47 ∷ rest) (behind_slash (front ++ 47 ∷ rest))) ≡ true
    by true later = slash_behind front rest
    by false later = later

grouped : (at path u s : List ℕ) → at ++ path ++ u ++ s ≡ at ++ (path ++ (u ++ s))
grouped at path u s = simp append_assoc

-- what stands behind the first slash of an address's path
behind_first : List ℕ → List ℕ → List ℕ
behind_first u s = codes "wsman/subscriptions/" ++ (segment u ++ 47 ∷ segment s)

-- an address behind its scheme
behind_scheme : (at u s : List ℕ) → drop (length scheme) (delivery_address at u s) ≡ at ++ 47 ∷ behind_first u s
unfolding delivery_address scheme behind_first
behind_scheme at u s = grouped at (codes "/wsman/subscriptions/") (segment u) (47 ∷ segment s)

scheme_there : (at u s : List ℕ) → same (take (length scheme) (delivery_address at u s)) scheme ≡ true
unfolding delivery_address scheme
scheme_there at u s = refl

path_there : (at rest : List ℕ) → begins_bare at ≡ true → has_path (at ++ 47 ∷ rest) ≡ true
path_there [] rest bare = cc
path_there (c ∷ at) rest bare = and_from (not (is_slash c)) (list_any is_slash (at ++ 47 ∷ rest)) bare (slash_behind at rest)

first_there : (u s : List ℕ) → list_any is_slash (behind_first u s) ≡ true
unfolding behind_first
first_there u s = refl

segments_there : (at u s : List ℕ) → has_segments (delivery_address at u s) ≡ true
segments_there at u s = ap (λ (text : List ℕ). list_any is_slash (behind_slash text)) (behind_scheme at u s) ∙ second_slash at (behind_first u s) (first_there u s)

-- it has the scheme, an authority and a path, so it is one of HTTP
address_there : (at u s : List ℕ) → IsAuthority at → is_address (delivery_address at u s) ≡ true
address_there at u s is =
    let address = delivery_address at u s in
    let path = ap has_path (behind_scheme at u s) ∙ path_there at (behind_first u s) is.1 in
    and_from (same (take (length scheme) address) scheme && has_path (drop (length scheme) address)) (list_all is_printed address)
    (and_from (same (take (length scheme) address) scheme) (has_path (drop (length scheme) address)) (scheme_there at u s) path) (address_printed at u s is.0.1)

-- and leads to the subscription
delivery_there : (at u s : List ℕ) → IsAuthority at → is_subscription u ≡ true → is_source s ≡ true → is_delivery (delivery_address at u s) ≡ true
delivery_there at u s is name good =
    let address = delivery_address at u s in
    let sub = reads_subscription u name in
    let source = reads_source s good in
    let back = addresses_read_back at u s sub.0 sub.1 source.0 source.1 in
    and_from (is_address address && has_segments address) (is_some (subscription_in address))
    (and_from (is_address address) (has_segments address) (address_there at u s is) (segments_there at u s)) (ap is_some back.0)

-- ---- names

utf8_name : (c : List ℕ) → is_channel c ≡ true → is_utf8 c ≡ true
utf8_name c good = (and_parts (is_utf8 c) (is_one c (channel_name c)) good).0

-- ---- the subscription of an offer

-- A subscription that can be written, and read again.
pub record CanBeSaid (about : Subscription) : Type 0 where
  pub names : HasKeptNames about
  pub plain : IsPlain about
  pub texts : HasXmlTexts about

read_said : (name body : List ℕ) → AllOf CanBeSaid (read_kept name body)
read_said name body = kept_of CanBeSaid name body (λ s is. record { names = kept_names name body s is; plain = kept_plain name body s is; texts = kept_xml name body s is })

-- so is each that rows keep
pub known_said : (rows : Rows) (u : List ℕ) (about : Subscription) → subscription_at rows u ≡ Some about → CanBeSaid about
known_said rows u about known = known_has CanBeSaid rows u about (read_said u) known

-- ---- the bookmark of an offer

-- a bookmark whose channels have names, with numbers of records
abbrev pub AreGoodMarks : Marks → Type 0
AreGoodMarks b = AreEntries b × AreTexts b

no_texts : AreTexts finite.empty
no_texts c n is = absurd (none-some n (sym (finite.get-empty (slice_cmp nat_cmp) c) ∙ is))

texts_raised : (b : Marks) (c : List ℕ) (to : ℕ) → is_utf8 c ≡ true → AreTexts b → AreTexts (raised b c to)
texts_raised b c to good texts q n is = by (eq_by_cmp order q c) refl (sym (get-raised b c to q) ∙ is)
  where
    by : (t : Bool) → eq_by_cmp order q c ≡ t → cond t (Some (max (number_at b c) to)) (finite.get b q) ≡ Some n → is_utf8 q ≡ true
    by true one e = ap is_utf8 (one_name q c one) ∙ good
    by false other e = texts q n e

-- a row of a channel with a name, and with a number of a record
abbrev IsGoodRow : Row → Type 0
IsGoodRow row = (is_channel row.key.channel ≡ true) × (row.value ≤ MAX)

raised_good : (b : Marks) (rows : List Row) → AreGoodMarks b → AllByRecursion IsGoodRow rows → AreGoodMarks (raised_by_rows b rows)
raised_good b [] good all = good
raised_good b (row ∷ rows) good all =
    let c = row.key.channel in
    let here = all.0 in
    raised_good (raised b c row.value) rows
    (raised_kept b c row.value (kept_channel c here.0) here.1 good.0, texts_raised b c row.value (utf8_name c here.0) good.1) all.1

-- a key under those of a subscription's and a source's bookmark is that of one
bookmark_kind : (u s : List ℕ) (key : Key) → is_under Source (bookmark_key u s []) key ≡ true → key.kind ≡ 2
bookmark_kind u s key under =
    let outer = and_parts (nat_eq 2 key.kind && pointwise nat_eq u key.sub) (pointwise nat_eq s key.source) under in
    sym (eqb-true 2 key.kind (and_parts (nat_eq 2 key.kind) (pointwise nat_eq u key.sub) outer.0).0)

-- a key of a kind
abbrev of_kind : ℕ → Key → Key
of_kind kind k = record { kind = kind; sub = k.sub; source = k.source; channel = k.channel; number = k.number }

bookmark_formed : (row : Row) → row.key.kind ≡ 2 → collector.is_formed row ≡ collector.is_bookmark_row row
unfolding collector.is_formed collector.is_bookmark_row
bookmark_formed row kind = ap (λ (n : ℕ). collector.is_formed (record { key = of_kind n row.key; value = row.value; body = row.body })) kind

bookmark_number : (row : Row) → collector.is_bookmark_row row ≡ true → row.value ≤ MAX
unfolding collector.is_bookmark_row
bookmark_number row formed =
    let outer = and_parts (collector.names_channel row.key && row.key.number == 0 && collector.is_number row.value) (collector.is_empty row.body) formed in
    tested row.value MAX (and_parts (collector.names_channel row.key && row.key.number == 0) (collector.is_number row.value) outer.0).1

formed_row : (rows : Rows) (row : Row) → collector.AreFormed rows → finite.get rows row.key ≡ Some (cell_of_row row) → collector.is_formed row ≡ true
formed_row rows row formed there = subst (λ (o : Option Cell). IfSome o (λ cell. collector.is_formed (row_of (row.key, cell)) ≡ true)) there (formed row.key)

good_row : (rows : Rows) (u s : List ℕ) → AreRowsKept rows → collector.AreFormed rows → (row : Row) → Stands rows Source (bookmark_key u s []) row → IsGoodRow row
good_row rows u s keys formed row is =
    let kind = bookmark_kind u s row.key is.under in
    ((keys row.key (cell_of_row row) is.there).channel kind, bookmark_number row (sym (bookmark_formed row kind) ∙ formed_row rows row formed is.there))

pub good_marks : (rows : Rows) (u s : List ℕ) → AreRowsKept rows → collector.AreFormed rows → AreGoodMarks (bookmark_of rows u s)
good_marks rows u s keys formed =
    let all = all_map (Stands rows Source (bookmark_key u s [])) IsGoodRow (good_row rows u s keys formed) (bookmark_rows rows u s) (all_stand rows Source (bookmark_key u s [])) in
    raised_good finite.empty (filter has_channel (bookmark_rows rows u s)) (empty_kept, no_texts)
    (all_map (λ (row : Row). IsGoodRow row × (has_channel row ≡ true)) IsGoodRow (λ row is. is.0) (filter has_channel (bookmark_rows rows u s))
    (all_filter IsGoodRow has_channel (bookmark_rows rows u s) all))

-- ---- a wish

-- how long it asks for, where it says that, is a time that is read
abbrev pub IsTimed : Option ℕ → Type 0
IsTimed expires = IfSome expires (IsWithin 1 LIMIT)

-- the wish of a listed subscription for what is above the kept bookmark is read as it is written
pub plain_wish : (rows : Rows) (s at : List ℕ) (expires : Option ℕ) → IsAuthority at → AreRowsKept rows → collector.AreFormed rows → is_source s ≡ true → IsTimed expires → (l : Listed) → IsListed rows l →
    IsPlainSubscribe (subscribe_from (bookmark_of rows l.subscription.name s) s at l.subscription expires)
plain_wish rows s at expires is_host keys formed good timed l is =
    let about = l.subscription in
    let said = known_said rows about.name about is.known in
    record {
      notify_to = delivery_there at about.name s is_host is.name good;
      end_to = address_there at about.name s is_host;
      identifier = (subscription_is_plain about.name is.name).0;
      query = said.plain.query;
      max_items = said.plain.max_items;
      max_bytes = said.plain.max_bytes;
      heartbeat = said.plain.heartbeat;
      expires = timed;
      from = (good_marks rows about.name s keys formed).0;
    }

-- and its names are kept
pub kept_wish : (rows : Rows) (s at : List ℕ) (expires : Option ℕ) → AreRowsKept rows → collector.AreFormed rows → (l : Listed) → IsListed rows l →
    IsKeptSubscribe (subscribe_from (bookmark_of rows l.subscription.name s) s at l.subscription expires)
kept_wish rows s at expires keys formed l is =
    let about = l.subscription in
    let marks = good_marks rows about.name s keys formed in
    record { query = (known_said rows about.name about is.known).names.query; entries = marks.0; names = marks.1 }

-- ---- offers

-- the offer of a listed subscription is read as it is written
plain_offer : (rows : Rows) (s at : List ℕ) → IsAuthority at → AreRowsKept rows → collector.AreFormed rows → is_source s ≡ true → (l : Listed) → IsListed rows l → IsPlainOffer (offer_made rows s at l.subscription)
plain_offer rows s at is_host keys formed good l is = record {
  version = id_text_trimmed l.subscription.version;
  subscribe = plain_wish rows s at None is_host keys formed good tt l is;
}

-- and its texts can stand in a message
standing_offer : (rows : Rows) (s at : List ℕ) → IsHost at → AreRowsKept rows → collector.AreFormed rows → (l : Listed) → IsListed rows l → OfferCanStand (offer_made rows s at l.subscription)
standing_offer rows s at is_host keys formed l is =
    let about = l.subscription in
    let address = (address_is_plain at about.name s is_host).1 in
    record {
      version = id_text_good about.version;
      subscribe = (
        record { notify_to = address; end_to = address; identifier = (subscription_is_plain about.name is.name).1; query = (known_said rows about.name about is.known).texts.query },
        kept_wish rows s at None keys formed l is,
      );
    }

-- what is offered to a source can be written, and read again
pub offers_can_be_sent : (rows : Rows) (s at : List ℕ) → IsAuthority at → AreRowsKept rows → collector.AreFormed rows → is_source s ≡ true →
    AllByRecursion IsPlainOffer (offers rows s at) × AllByRecursion OfferCanStand (offers rows s at)
offers_can_be_sent rows s at is_host keys formed good =
    (all_made rows s at IsPlainOffer keys (plain_offer rows s at is_host keys formed good), all_made rows s at OfferCanStand keys (standing_offer rows s at is_host.0 keys formed))

-- ---- kept worlds

-- the collector's host is such
pub host_there : IsAuthority host
host_there = ((omega arith, refl), refl)

-- what is offered to a declared source of a kept world can be written, and read again
pub kept_offers_can_be_sent : (state : State) (s : List ℕ) (slot : Slot) → IsKept state → slot_of state s ≡ Some slot →
    AllByRecursion IsPlainOffer (offers state.collector.rows s host) × AllByRecursion OfferCanStand (offers state.collector.rows s host)
kept_offers_can_be_sent state s slot kept there = offers_can_be_sent state.collector.rows s host host_there kept.keys kept.formed (kept.sources s slot there).name
