-- What the collector offers has the terms of its subscriptions, and begins at most at what it keeps.
use Rattle.std.proofs.Common.{◌≡◌, ℕ, ◌≤◌, Bool, true, false, ◌&&◌, cond, List, [], ◌∷◌, nat_eq, refl, ap, sym, ◌∙◌, subst, arith}
use Rattle.std.proofs.lemmas.List.Elements.{All-head, All-tail}
use Rattle.std.proofs.lemmas.Option.{none-some, same_Some}
use Rattle.std.proofs.lemmas.Bool.{and_parts, eqb-true}
use Rattle.std.proofs.lemmas.Str.{IsUtf8-from_is_utf8}
use Rattle.std.specs.Prelude.{Option, Some, None, T, is_some, max, unwrap_or}
use Rattle.std.specs.Cmp.{eq_by_cmp_equiv}
use Rattle.std.specs.Cmp.Lexicographic.{bytes_decides, pointwise, slice_cmp}
use Rattle.std.specs.FinMap as finite
use Rattle.std.specs.FinMap.{find, is_sorted}
use Rattle.std.specs.FinMap.Entries.{below_all}
use Rattle.std.specs.List.{All, AllByRecursion, filter}
use Rattle.std.specs.Option.{option_map}
use Rattle.std.specs.Ordering.{eq_by_cmp, is_eq, is_lt, nat_cmp}
use Rattle.std.specs.Prelude as prelude
use Rattle.std.specs.Str.{IsUtf8, is_utf8}
use Rattle.std.specs.declared.cmp.Ordering.{Ordering}
use Rattle.std.specs.declared.cmp.Ordering.TheVariants.{Less, Equal, Greater}
use Rattle.wef_base.specs.Names.{same, source_name, subscription_name}
use Rattle.wef_bookmark.proofs.Joining.{raised_number}
use Rattle.wef_bookmark.specs.Order.{Marks, number_at, raised}
use Rattle.wef_collector.proofs.Hits.{one_key, one_name}
use Rattle.wef_collector_rows.specs.Bookmarks.{bookmark_at, bookmark_of, bookmark_rows, has_channel, raised_by_rows}
use Rattle.wef_collector_rows.specs.Keys.{bookmark_key}
use Rattle.wef_collector_reports.specs.Listing.{listed}
use Rattle.wef_collector.specs.Offers.{is_offered, offer_made, offer_of, offers, subscribe_from}
use Rattle.wef_collector.proofs.ListedThere.{listed_are_there}
use Rattle.wef_collector.specs.There.{HaveOwnKeys, IsOwnKey, standing_as}
use Rattle.wef_collector_rows.specs.Standing.{standing}
use Rattle.wef_collector_reports.specs.declared.listing.Listed.{Listed}
use Rattle.wef_collector_rows.specs.declared.standings.Standing.TheVariants.{Ended, Live}
use Rattle.wef_eventing.proofs.AddressesBack.{addresses_read_back}
use Rattle.wef_eventing.specs.Addresses.{IsHost, delivery_address, source_in, subscription_in}
use Rattle.wef_eventing.specs.declared.offers.Offer.{Offer}
use Rattle.wef_keeper.specs.Rows.{Rows, cell_of_row, is_after, key_cmp, key_cmp_total, row_of, rows_after}
use Rattle.wef_keeper.specs.Sections.{is_under, rows_under}
use Rattle.wef_keeper.specs.declared.keys.Cell.{Cell}
use Rattle.wef_keeper.specs.declared.keys.Depth.{Depth}
use Rattle.wef_keeper.specs.declared.keys.Depth.TheVariants.{Source}
use Rattle.wef_keeper.specs.declared.keys.Key.{Key}
use Rattle.wef_keeper.specs.declared.keys.Row.{Row}
use Rattle.wef_replay.proofs.GoodNames.{one_given}
use Rattle.wef_replay.specs.Good.{is_one, is_source, is_subscription}
use Rattle.wef_pairs.specs.Pairs.{about_of, subscription_at}
use Rattle.wef_safety.specs.Kept.{IsBehind, IsOffered}
use Rattle.wef_safety.proofs.RowMoves.{AreRowsKept, known_name}
use Rattle.wef_safety.proofs.Sent.{all_filter_map, all_map}

-- ---- rows of a section stand in the rows

both : (a b : Bool) → T (a && b) → T a × T b
both true b p = (tt, p)
both false b p = absurd p

less : (o : Ordering) → T (is_lt o) → o ≡ Less
less Less p = refl
less Equal p = absurd p
less Greater p = absurd p

below : (q : Key) (es : List (Key × Cell)) → T (below_all key_cmp q es) → find key_cmp q es ≡ None
below q [] h = refl
below q (e ∷ es) h =
    let parts = both (is_lt (key_cmp q e.0)) (below_all key_cmp q es) h in
    ap (λ (o : Ordering). cond (is_eq o) (Some e.1) (find key_cmp q es)) (less (key_cmp q e.0) parts.0) ∙ below q es parts.1

-- an entry that is found in a list is found behind a lesser one too
found_behind : (e : Key × Cell) (es : List (Key × Cell)) → T (below_all key_cmp e.0 es) → (x : Key × Cell) → find key_cmp x.0 es ≡ Some x.1 → find key_cmp x.0 (e ∷ es) ≡ Some x.1
found_behind e es under x found = by_test (eq_by_cmp key_cmp x.0 e.0) refl
  where
    by_test : (t : Bool) → eq_by_cmp key_cmp x.0 e.0 ≡ t → cond t (Some e.1) (find key_cmp x.0 es) ≡ Some x.1
    by_test true is = absurd (none-some x.1 (sym (below e.0 es under) ∙ ap (λ (q : Key). find key_cmp q es) (sym (one_key x.0 e.0 is)) ∙ found))
    by_test false is = found

all_found : (es : List (Key × Cell)) → T (is_sorted key_cmp es) → AllByRecursion (λ (e : Key × Cell). find key_cmp e.0 es ≡ Some e.1) es
all_found [] h = tt
all_found (e ∷ es) h =
    let parts = both (below_all key_cmp e.0 es) (is_sorted key_cmp es) h in (
      ap (λ (t : Bool). cond t (Some e.1) (find key_cmp e.0 es)) ((eq_by_cmp_equiv key_cmp_total).refl e.0),
      all_map (λ (x : Key × Cell). find key_cmp x.0 es ≡ Some x.1) (λ (x : Key × Cell). find key_cmp x.0 (e ∷ es) ≡ Some x.1) (found_behind e es parts.0) es (all_found es parts.1),
    )

pub all_filter : {X : Type 0} (P : X → Type 0) (test : X → Bool) (xs : List X) → AllByRecursion P xs → AllByRecursion (λ x. P x × (test x ≡ true)) (filter test xs)
all_filter P test [] all = tt
all_filter P test (x ∷ xs) all = by_test (test x) refl (all_filter P test xs all.1)
  where
    by_test : (t : Bool) → test x ≡ t → AllByRecursion (λ y. P y × (test y ≡ true)) (filter test xs) → AllByRecursion (λ y. P y × (test y ≡ true)) (cond t (x ∷ filter test xs) (filter test xs))
    by_test true is rest = ((all.0, is), rest)
    by_test false is rest = rest

all_of_map : {X Y : Type 0} (P : X → Type 0) (Q : Y → Type 0) (f : X → Y) → ((x : X) → P x → Q (f x)) → (xs : List X) → AllByRecursion P xs → AllByRecursion Q (prelude.map f xs)
all_of_map P Q f gives [] all = tt
all_of_map P Q f gives (x ∷ xs) all = (gives x all.0, all_of_map P Q f gives xs all.1)

-- A row stands in the rows, and its key shares the parts of another.
pub record Stands (rows : Rows) (depth : Depth) (after : Key) (row : Row) : Type 0 where
  pub there : finite.get rows row.key ≡ Some (cell_of_row row)
  pub under : is_under depth after row.key ≡ true

pub all_stand : (rows : Rows) (depth : Depth) (after : Key) → AllByRecursion (Stands rows depth after) (rows_under depth after rows)
all_stand rows depth after =
    let entries = all_found (finite.entries rows) (finite.entries_sorted rows) in
    let behind = all_filter (λ (e : Key × Cell). find key_cmp e.0 (finite.entries rows) ≡ Some e.1) (λ (e : Key × Cell). is_after after e.0) (finite.entries rows) entries in
    let standing = all_of_map (λ (e : Key × Cell). (find key_cmp e.0 (finite.entries rows) ≡ Some e.1) × (is_after after e.0 ≡ true))
    (λ (row : Row). finite.get rows row.key ≡ Some (cell_of_row row)) row_of (λ e found. finite.get-entries rows e.0 ∙ found.0)
    (filter (λ (e : Key × Cell). is_after after e.0) (finite.entries rows)) behind in
    all_map (λ (row : Row). (finite.get rows row.key ≡ Some (cell_of_row row)) × (is_under depth after row.key ≡ true)) (Stands rows depth after)
    (λ row is. record { there = is.0; under = is.1 }) (rows_under depth after rows)
    (all_filter (λ (row : Row). finite.get rows row.key ≡ Some (cell_of_row row)) (λ (row : Row). is_under depth after row.key) (rows_after after rows) standing)

-- ---- bookmarks

-- a bookmark row's number is the kept one
bookmark_row : (rows : Rows) (u s : List ℕ) → AreRowsKept rows → (row : Row) → Stands rows Source (bookmark_key u s []) row → row.value ≡ bookmark_at rows u s row.key.channel
bookmark_row rows u s keys row is =
    let outer = and_parts (nat_eq 2 row.key.kind && pointwise nat_eq u row.key.sub) (pointwise nat_eq s row.key.source) is.under in
    let inner = and_parts (nat_eq 2 row.key.kind) (pointwise nat_eq u row.key.sub) outer.0 in
    let kind = sym (eqb-true 2 row.key.kind inner.0) in
    let sub = sym ((bytes_decides u row.key.sub).0 inner.1) in
    let source = sym ((bytes_decides s row.key.source).0 outer.1) in
    let number = (keys row.key (cell_of_row row) is.there).bookmark kind in
    let own : row.key ≡ bookmark_key u s row.key.channel = λ i. record { kind = kind i; sub = sub i; source = source i; channel = row.key.channel; number = number i } in
    ap (λ (o : Option Cell). unwrap_or (option_map (λ (cell : Cell). cell.value) o) 0) (sym is.there ∙ ap (finite.get rows) own)

raised_behind : (rows : Rows) (u s : List ℕ) (b : Marks) (c : List ℕ) (n : ℕ) → n ≡ bookmark_at rows u s c → IsBehind rows u s b → IsBehind rows u s (raised b c n)
raised_behind rows u s b c n is behind q = subst (λ (m : ℕ). m ≤ bookmark_at rows u s q) (sym (raised_number b c n q)) (by_name (same q c) refl)
  where
    by_name : (t : Bool) → same q c ≡ t → cond t (max (number_at b q) n) (number_at b q) ≤ bookmark_at rows u s q
    by_name true e =
        let at : n ≡ bookmark_at rows u s q = is ∙ ap (bookmark_at rows u s) (sym (one_name q c e)) in
        let less = behind q in
        omega arith
    by_name false e = behind q

raised_all : (rows : Rows) (u s : List ℕ) (b : Marks) (rs : List Row) → IsBehind rows u s b →
    AllByRecursion (λ (row : Row). row.value ≡ bookmark_at rows u s row.key.channel) rs → IsBehind rows u s (raised_by_rows b rs)
raised_all rows u s b [] behind all = behind
raised_all rows u s b (row ∷ rs) behind all = raised_all rows u s (raised b row.key.channel row.value) rs (raised_behind rows u s b row.key.channel row.value all.0 behind) all.1

empty_behind : (rows : Rows) (u s : List ℕ) → IsBehind rows u s finite.empty
empty_behind rows u s c = let none = ap (λ (o : Option ℕ). unwrap_or o 0) (finite.get-empty (slice_cmp nat_cmp) c) in omega arith

-- the kept bookmark of a subscription and a source is that of their rows
bookmark_behind : (rows : Rows) (u s : List ℕ) → AreRowsKept rows → IsBehind rows u s (bookmark_of rows u s)
bookmark_behind rows u s keys =
    raised_all rows u s finite.empty (filter has_channel (bookmark_rows rows u s)) (empty_behind rows u s)
    (all_map (λ (row : Row). (row.value ≡ bookmark_at rows u s row.key.channel) × (has_channel row ≡ true)) (λ (row : Row). row.value ≡ bookmark_at rows u s row.key.channel)
    (λ row is. is.0) (filter has_channel (bookmark_rows rows u s))
    (all_filter (λ (row : Row). row.value ≡ bookmark_at rows u s row.key.channel) has_channel (bookmark_rows rows u s)
    (all_map (Stands rows Source (bookmark_key u s [])) (λ (row : Row). row.value ≡ bookmark_at rows u s row.key.channel) (bookmark_row rows u s keys) (bookmark_rows rows u s)
    (all_stand rows Source (bookmark_key u s [])))))

-- ---- names

-- a name that its reader gives
pub reads_subscription : (u : List ℕ) → is_subscription u ≡ true → IsUtf8 u × (subscription_name u ≡ Some u)
reads_subscription u good = let parts = and_parts (is_utf8 u) (is_one u (subscription_name u)) good in (IsUtf8-from_is_utf8 u parts.0, one_given u (subscription_name u) parts.1)

pub reads_source : (s : List ℕ) → is_source s ≡ true → IsUtf8 s × (source_name s ≡ Some s)
reads_source s good = let parts = and_parts (is_utf8 s) (is_one s (source_name s)) good in (IsUtf8-from_is_utf8 s parts.0, one_given s (source_name s) parts.1)

-- ---- listed subscriptions

-- A listed subscription has a good name, and is the one of the rows.
pub record IsListed (rows : Rows) (l : Listed) : Type 0 where
  pub name : is_subscription l.subscription.name ≡ true
  pub known : subscription_at rows l.subscription.name ≡ Some l.subscription

own_keys : (rows : Rows) → AreRowsKept rows → HaveOwnKeys rows
own_keys rows keys key kind there = by_cell (finite.get rows key) refl there
  where
    no_cell : false ≡ true → ⊥
    no_cell e = cc

    by_cell : (o : Option Cell) → finite.get rows key ≡ o → is_some o ≡ true → IsOwnKey key
    by_cell None e some = absurd (no_cell some)
    by_cell (Some cell) e some =
        let form = keys key cell e in
        record { own = form.subscription kind; reads_back = (reads_subscription key.sub (form.name kind)).1 }

about_as : (l : Listed) → about_of (standing_as l) ≡ Some l.subscription
about_as l = by_test l.live
  where
    by_test : (live : Bool) → about_of (cond live (Live l.subscription) (Ended l.subscription)) ≡ Some l.subscription
    by_test true = refl
    by_test false = refl

listed_is : (rows : Rows) → AreRowsKept rows → (l : Listed) → standing rows l.subscription.name ≡ standing_as l → IsListed rows l
listed_is rows keys l stands =
    let known : subscription_at rows l.subscription.name ≡ Some l.subscription = ap about_of stands ∙ about_as l in
    record { name = known_name rows l.subscription.name l.subscription keys known; known = known }

by_recursion : {X : Type 0} (P : X → Type 0) (xs : List X) → All P xs → AllByRecursion P xs
by_recursion P [] all = tt
by_recursion P (x ∷ xs) all = (All-head P x xs all, by_recursion P xs (All-tail P x xs all))

pub all_listed : (rows : Rows) → AreRowsKept rows → AllByRecursion (IsListed rows) (listed rows)
all_listed rows keys =
    all_map (λ (l : Listed). standing rows l.subscription.name ≡ standing_as l) (IsListed rows) (listed_is rows keys) (listed rows)
    (by_recursion (λ (l : Listed). standing rows l.subscription.name ≡ standing_as l) (listed rows) (listed_are_there rows (own_keys rows keys)))

-- ---- offers

-- what holds of the offer of each listed subscription holds of all that is offered to a source
pub all_made : (rows : Rows) (s host : List ℕ) (P : Offer → Type 0) → AreRowsKept rows → ((l : Listed) → IsListed rows l → P (offer_made rows s host l.subscription)) → AllByRecursion P (offers rows s host)
all_made rows s host P keys holds =
    all_filter_map (IsListed rows) P (offer_of rows s host) (λ l offer is e. by_test l offer is (is_offered l) e) (listed rows) (all_listed rows keys)
  where
    by_test : (l : Listed) (offer : Offer) → IsListed rows l → (t : Bool) → cond t (Some (offer_made rows s host l.subscription)) None ≡ Some offer → P offer
    by_test l offer is true made = subst P (same_Some (offer_made rows s host l.subscription) offer made) (holds l is)
    by_test l offer is false made = absurd (none-some offer made)

-- the address of an offer leads to its subscription and to the source
abbrev LeadsBack : List ℕ → List ℕ → List ℕ → Type 0
LeadsBack host u s = (subscription_in (delivery_address host u s) ≡ Some u) × (source_in (delivery_address host u s) ≡ Some s)

leads_back : (rows : Rows) (s host : List ℕ) → is_source s ≡ true → (l : Listed) → IsListed rows l → LeadsBack host l.subscription.name s
leads_back rows s host good l is =
    let name = reads_subscription l.subscription.name is.name in
    let source = reads_source s good in
    let back = addresses_read_back host l.subscription.name s name.0 name.1 source.0 source.1 in
    (back.0, back.1)

-- a wish of a listed subscription for what is above the kept bookmark has the terms of that subscription, for however long it asks
pub wish_is_offered : (rows : Rows) (s host : List ℕ) (expires : Option ℕ) → IsHost host → AreRowsKept rows → is_source s ≡ true → (l : Listed) → IsListed rows l →
    IsOffered rows s (subscribe_from (bookmark_of rows l.subscription.name s) s host l.subscription expires)
wish_is_offered rows s host expires is_host keys good l is =
    let back = leads_back rows s host good l is in
    record {
      u = l.subscription.name;
      terms = record {
        about = l.subscription;
        known = is.known;
        at = host;
        host = is_host;
        address_is = refl;
        to_subscription = back.0;
        to_source = back.1;
        identifier_is = refl;
        query_is = refl;
        max_items_is = refl;
        max_bytes_is = refl;
      };
      from = bookmark_behind rows l.subscription.name s keys;
      told = refl;
    }

-- all that is offered to a source is offered well
pub all_offers : (rows : Rows) (s host : List ℕ) → IsHost host → AreRowsKept rows → is_source s ≡ true → AllByRecursion (λ (offer : Offer). IsOffered rows s offer.subscribe) (offers rows s host)
all_offers rows s host is_host keys good = all_made rows s host (λ (offer : Offer). IsOffered rows s offer.subscribe) keys (wish_is_offered rows s host None is_host keys good)

-- an offer begins at the bookmark that the rows have
abbrev pub BeginsAtRows : Rows → List ℕ → Offer → Type 0
BeginsAtRows rows s offer = (u : List ℕ) → subscription_in offer.subscribe.notify_to ≡ Some u → offer.subscribe.from ≡ bookmark_of rows u s

pub all_begin : (rows : Rows) (s host : List ℕ) → AreRowsKept rows → is_source s ≡ true → AllByRecursion (BeginsAtRows rows s) (offers rows s host)
all_begin rows s host keys good = all_made rows s host (BeginsAtRows rows s) keys (λ l is u leads.
    let back = leads_back rows s host good l is in
    ap (λ (v : List ℕ). bookmark_of rows v s) (same_Some l.subscription.name u (sym back.0 ∙ leads)))
