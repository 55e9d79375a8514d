-- The batches that sources build fit.
use Rattle.std.proofs.Common.{◌≡◌, ℕ, ◌≤◌, Bool, true, false, ◌&&◌, List, ◌++◌, length, refl, ap, sym, subst, ◌∙◌, Some, None, nat_le}
use Rattle.std.specs.Prelude.{Option}
use Rattle.std.specs.FinMap as map
use Rattle.std.specs.List.{filter_map}
use Rattle.wef_batch.specs.Reach.{last_after, last_in, loose_sum, reach_of}
use Rattle.wef_batch.specs.WellFormed.{is_at_least, is_in, is_in_order, is_well_formed, rises}
use Rattle.wef_batch.specs.declared.items.Item.{Item}
use Rattle.wef_bookmark.specs.Order.{number_at}
use Rattle.wef_keeper.specs.Rows.{Rows}
use Rattle.wef_query.proofs.Sorting.{is-in_order}
use Rattle.wef_query.specs.Selected.{selects}
use Rattle.wef_query.specs.declared.QueryList.{QueryList}
use Rattle.wef_source_log.specs.Histories.{Histories, History, history}
use Rattle.wef_source_log.specs.Laws.{ReadsWindow, WindowsRead}
use Rattle.wef_source_log.specs.LogWindow.{last_of}
use Rattle.wef_building.specs.Building.{built, built_items, built_to, channel_candidates, candidates, item_of, left_items, room_of, session_channels}
use Rattle.wef_building.specs.Fits.{FitsChannel, FitsUpTo, event_at, ranges_in}
use Rattle.wef_building.specs.Laws.{AreWithin, BuiltBatchesFit, BuiltBookmarksReach}
use Rattle.wef_building.specs.Wanted.{in_ranges, wanted}
use Rattle.wef_building.specs.declared.sessions.Session.{Session}
use Rattle.wef_building.proofs.Candidates.{channel_says, skipped}
use Rattle.wef_building.proofs.Cases.{and_true}
use Rattle.wef_building.proofs.Channels.{AreApart, AreOwn, front_listed, front_not_loose, holds_of_all, in_order_apart, ordered_of, own-append, own_among, own_unlisted}
use Rattle.wef_building.proofs.Cuts.{Says, cut_fits}
use Rattle.wef_building.proofs.Fitting.{parts}
use Rattle.wef_building.proofs.Items.{Ordered, no_event_below, no_range_below, ordered_front, own, own-event_at, own-last, own-ranges, own-rises, reached, rises_own}
use Rattle.wef_building.proofs.Reaches.{Stops, stops, stops_above, to_has_no_other, to_is}

-- ---- one channel

-- items whose own ones fit, fit
from_own : (query : QueryList) (max_bytes : ℕ) (c : List ℕ) (records : History) (capacity b t : ℕ) (items : List Item)
    → FitsUpTo query max_bytes c records capacity b (own c items) t → FitsUpTo query max_bytes c records capacity b items t
from_own query max_bytes c records capacity b t items fits = record {
  within = fits.within;
  exact = λ n over. sym (own-event_at c n items) ∙ fits.exact n over ∙ ap (λ ranges. wanted query c records b t ranges n) (own-ranges c items);
  lost = λ n dropped. fits.lost n (ap (λ ranges. in_ranges ranges n) (own-ranges c items) ∙ dropped);
}

-- a channel's items rise, and the bookmark is at least at the last
channel_in_order : (c : List ℕ) (p last : ℕ) (front back : List Item) (to : Option ℕ) → Ordered c p (own c front) → Stops c last (own c front) back to
    → (rises c None front && is_at_least to (last_in c front)) ≡ true
channel_in_order c p last front back to ordered h =
    and_true (rises c None front) _ (sym (own-rises c None front) ∙ rises_own c p (own c front) ordered)
    (ap (is_at_least to) (sym (own-last c None front)) ∙ at_least to h)
  where
    at_least : (to : Option ℕ) → Stops c last (own c front) back to → is_at_least to (last_after c None (own c front)) ≡ true
    at_least None h = refl
    at_least (Some t) h = reached c p t (own c front) ordered h.0

-- a channel's items fit up to its reach
channel_fits : (query : QueryList) (max_bytes : ℕ) (c : List ℕ) (records : History) (capacity p b : ℕ) (front back : List Item) (to : Option ℕ)
    → Says query max_bytes c records capacity p (own c front ++ back) → p ≤ b → Stops c (length records) (own c front) back to
    → FitsChannel query max_bytes c records capacity b front (reach_of to (last_in c front))
channel_fits query max_bytes c records capacity p b front back None says up h =
    subst (FitsChannel query max_bytes c records capacity b front) (sym (sym (own-last c None front) ∙ ap (last_after c None) h)) tt
channel_fits query max_bytes c records capacity p b front back (Some t) says up h =
    from_own query max_bytes c records capacity b t front (cut_fits query max_bytes c records capacity p b t (own c front) back says h.0 h.1 h.2 up)

-- ---- a session

-- the candidates of each channel say all that the window's history has above the position
candidates_say : (rows : Rows) (all : Histories) (capacity boot : ℕ) (session : Session) → ReadsWindow rows all capacity boot → AreWithin session.positions all → (c : List ℕ)
    → Says session.query session.max_bytes c (history all c) capacity (number_at session.positions c) (channel_candidates rows session c)
candidates_say rows all capacity boot session reads within c =
    let p = number_at session.positions c in
    let first = sym (reads.first_is c) in
    let records = sym (reads.records_are c p) in
    subst (Says session.query session.max_bytes c (history all c) capacity p)
    (λ i. skipped c p (first i) ++ filter_map (item_of session.query (room_of session.max_bytes)) (records i))
    (channel_says session.query session.max_bytes c (history all c) capacity p (within c))

channels_apart : (session : Session) → AreApart (session_channels session)
channels_apart session = in_order_apart (session_channels session) (is-in_order (selects session.query.items))

-- What is built for a session.
record Building (rows : Rows) (all : Histories) (capacity : ℕ) (session : Session) : Type 0 where
  says : (c : List ℕ) → Says session.query session.max_bytes c (history all c) capacity (number_at session.positions c) (channel_candidates rows session c)
  last_is : (c : List ℕ) → last_of rows c ≡ length (history all c)
  all_own : AreOwn (channel_candidates rows session)
  parts : built_items rows session ++ left_items rows session ≡ candidates rows session
  apart : AreApart (session_channels session)

building : (rows : Rows) (all : Histories) (capacity boot : ℕ) (session : Session) → ReadsWindow rows all capacity boot → AreWithin session.positions all → Building rows all capacity session
building rows all capacity boot session reads within =
    let says = candidates_say rows all capacity boot session reads within in
    record {
      says = says;
      last_is = reads.last_is;
      all_own = λ c. ordered_of c (number_at session.positions c) (channel_candidates rows session c) (says c).ordered;
      parts = parts session.max_items (room_of session.max_bytes) (candidates rows session);
      apart = channels_apart session;
    }

-- the built items of a channel, and those that are left, are its candidates
own_parts : (rows : Rows) (all : Histories) (capacity : ℕ) (session : Session) (c : List ℕ) → Building rows all capacity session → is_in (session_channels session) c ≡ true
    → own c (built_items rows session) ++ own c (left_items rows session) ≡ channel_candidates rows session c
own_parts rows all capacity session c of here =
    sym (own-append c (built_items rows session) (left_items rows session)) ∙ ap (own c) of.parts ∙ own_among (channel_candidates rows session) (session_channels session) c of.all_own of.apart here

own_say : (rows : Rows) (all : Histories) (capacity : ℕ) (session : Session) (c : List ℕ) → Building rows all capacity session → is_in (session_channels session) c ≡ true
    → Says session.query session.max_bytes c (history all c) capacity (number_at session.positions c) (own c (built_items rows session) ++ own c (left_items rows session))
own_say rows all capacity session c of here =
    subst (Says session.query session.max_bytes c (history all c) capacity (number_at session.positions c)) (sym (own_parts rows all capacity session c of here)) (of.says c)

own_ordered : (rows : Rows) (all : Histories) (capacity : ℕ) (session : Session) (c : List ℕ) → Building rows all capacity session → is_in (session_channels session) c ≡ true
    → Ordered c (number_at session.positions c) (own c (built_items rows session))
own_ordered rows all capacity session c of here =
    ordered_front c (number_at session.positions c) (own c (built_items rows session)) (own c (left_items rows session)) (own_say rows all capacity session c of here).ordered

own_stops : (rows : Rows) (all : Histories) (capacity : ℕ) (session : Session) (c : List ℕ) → Building rows all capacity session → is_in (session_channels session) c ≡ true
    → Stops c (length (history all c)) (own c (built_items rows session)) (own c (left_items rows session)) (map.get (built_to rows session) c)
own_stops rows all capacity session c of here =
    let p = number_at session.positions c in
    let g = channel_candidates rows session in
    let cs = session_channels session in
    let front = built_items rows session in
    let back = left_items rows session in
    subst (Stops c (length (history all c)) (own c front) (own c back)) (sym (to_is rows session.positions cs back c of.apart))
    (stops_above c (length (history all c)) p (own c front) (own c back) _ (own_ordered rows all capacity session c of here)
    (stops rows g c (length (history all c)) p of.all_own (sym (of.last_is c)) (of.says c).ordered (of.says c).ends cs front back of.apart here of.parts (own_parts rows all capacity session c of here)))

built_in_order : (rows : Rows) (all : Histories) (capacity : ℕ) (session : Session) → Building rows all capacity session → (c : List ℕ) → is_in (session_channels session) c ≡ true
    → is_in_order (record { items = built_items rows session; to = built_to rows session; ack_wanted = true }) c ≡ true
built_in_order rows all capacity session of c here =
    channel_in_order c (number_at session.positions c) (length (history all c)) (built_items rows session) (own c (left_items rows session)) (map.get (built_to rows session) c)
    (own_ordered rows all capacity session c of here) (own_stops rows all capacity session c of here)

built_not_loose : (rows : Rows) (all : Histories) (capacity : ℕ) (session : Session) → Building rows all capacity session → loose_sum (built_items rows session) ≡ 0
built_not_loose rows all capacity session of = front_not_loose (channel_candidates rows session) (session_channels session) (built_items rows session) (left_items rows session) of.all_own of.parts

-- What is built is well-formed.
built_well_formed : (rows : Rows) (all : Histories) (capacity : ℕ) (session : Session) → Building rows all capacity session
    → is_well_formed (session_channels session) (record { items = built_items rows session; to = built_to rows session; ack_wanted = true }) ≡ true
built_well_formed rows all capacity session of =
    and_true _ _
    (and_true _ _
    (front_listed (channel_candidates rows session) (session_channels session) (built_items rows session) (left_items rows session) of.all_own of.parts)
    (holds_of_all (is_in_order (record { items = built_items rows session; to = built_to rows session; ack_wanted = true })) (session_channels session) (built_in_order rows all capacity session of)))
    (ap (λ n. nat_le n 9223372036854775807) (built_not_loose rows all capacity session of))

-- Where windows are read rightly, what is built from them fits.
pub built_fit : WindowsRead → BuiltBatchesFit
unfolding built
built_fit read rows all capacity boot session b some begun window within up =
    let of = building rows all capacity boot session (read rows all capacity boot begun window) within in
    record {
      well_formed = built_well_formed rows all capacity session of;
      no_loose = built_not_loose rows all capacity session of;
      others = λ c none. to_has_no_other rows session.positions (session_channels session) (left_items rows session) c none;
      channels = λ c here.
          channel_fits session.query session.max_bytes c (history all c) capacity (number_at session.positions c) (number_at b c) (built_items rows session) (own c (left_items rows session)) (map.get (built_to rows session) c)
          (own_say rows all capacity session c of here) (up c) (own_stops rows all capacity session c of here);
    }

-- and its bookmark has how far it reads
pub built_reach : WindowsRead → BuiltBookmarksReach
unfolding built
built_reach read rows all capacity boot session c some begun window within here =
    by (map.get (built_to rows session) c) (own_stops rows all capacity session c (building rows all capacity boot session (read rows all capacity boot begun window) within) here)
  where
    by : (to : Option ℕ) → Stops c (length (history all c)) (own c (built_items rows session)) (own c (left_items rows session)) to → to ≡ reach_of to (last_in c (built_items rows session))
    by None h = sym (sym (own-last c None (built_items rows session)) ∙ ap (last_after c None) h)
    by (Some t) h = refl

-- What is built for a session says nothing of a channel at or below where the session stands in it.
pub record SaysAbove (b : ℕ) (c : List ℕ) (items : List Item) : Type 0 where
  pub no_event : (n : ℕ) → n ≤ b → event_at c n items ≡ None
  pub no_range : (n : ℕ) → n ≤ b → in_ranges (ranges_in c items) n ≡ false

pub built_above : (rows : Rows) (all : Histories) (capacity boot : ℕ) (session : Session) → ReadsWindow rows all capacity boot → AreWithin session.positions all → (c : List ℕ)
    → SaysAbove (number_at session.positions c) c (built rows session).items
unfolding built
built_above rows all capacity boot session reads within c = by_channel (is_in (session_channels session) c) refl
  where
    of : Building rows all capacity session
    of = building rows all capacity boot session reads within

    ordered : Ordered c (number_at session.positions c) (own c (built_items rows session)) → SaysAbove (number_at session.positions c) c (built_items rows session)
    ordered o = record {
      no_event = λ n low. sym (own-event_at c n (built_items rows session)) ∙ no_event_below c (number_at session.positions c) n (own c (built_items rows session)) o low;
      no_range = λ n low. ap (λ ranges. in_ranges ranges n) (sym (own-ranges c (built_items rows session)))
          ∙ no_range_below c (number_at session.positions c) n (own c (built_items rows session)) o low;
    }

    by_channel : (t : Bool) → is_in (session_channels session) c ≡ t → SaysAbove (number_at session.positions c) c (built_items rows session)
    by_channel true here = ordered (own_ordered rows all capacity session c of here)
    by_channel false none = ordered (subst (Ordered c (number_at session.positions c)) (sym (own_unlisted (session_channels session) c (built_items rows session)
        (front_listed (channel_candidates rows session) (session_channels session) (built_items rows session) (left_items rows session) of.all_own of.parts) none)) tt)
