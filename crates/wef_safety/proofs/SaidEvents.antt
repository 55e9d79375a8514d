-- Events that are those that their texts say: what histories hold, what is written to them, and what is built from them.
use Rattle.std.proofs.Common.{◌≡◌, ℕ, zero, suc, ◌+◌, ◌-◌, ◌<◌, ◌≤◌, ◌==◌, Bool, true, false, cond, List, [], ◌∷◌, ◌++◌, drop, length, max, refl, ap, sym, ◌∙◌, subst, nat_lt, nat_le, arith, ◌⊎◌, inl, inr}
use Rattle.std.proofs.lemmas.Bool.Decides.{nat_tests}
use Rattle.std.proofs.lemmas.Option.{none-some, same_Some}
use Rattle.std.specs.Prelude.{Option, Some, None, is_none, slice_get, unwrap_or}
use Rattle.std.specs.FinMap as finite
use Rattle.std.specs.List.{AllByRecursion, filter_map}
use Rattle.wef_batch.specs.Cost.{cost}
use Rattle.wef_batch.specs.declared.items.Item.{Item}
use Rattle.wef_batch.specs.declared.items.Item.TheVariants as item
use Rattle.wef_bookmark.specs.Order.{number_at}
use Rattle.wef_event.specs.Events.{Event, is_event}
use Rattle.wef_event.specs.Numbering.{NumberedEventsAreRead, numbered, numbered_text, text_or_nothing}
use Rattle.wef_keeper.specs.Rows.{Rows}
use Rattle.wef_query.specs.declared.QueryList.{QueryList}
use Rattle.wef_building.specs.Building.{built, candidates_in, channel_candidates, fitting, has_room, item_of, room_of, session_channels, sized_item, unread}
use Rattle.wef_building.specs.Selecting.{is_wanted}
use Rattle.wef_building.specs.declared.sessions.Session.{Session}
use Rattle.wef_source_log.specs.Histories.{AreEvents, Histories, History, extended, history, text_at}
use Rattle.wef_source_log.specs.Laws.{ReadsWindow, numbered_from}
use Rattle.wef_source_log.specs.LogWindow.{first_for, first_of, records_after}
use Rattle.wef_safety.proofs.EventTrees.{said_has_number}
use Rattle.wef_safety.proofs.GoodLines.{IsWritable}
use Rattle.wef_safety.proofs.Moves.{put_there}
use Rattle.wef_safety.proofs.Sent.{all_filter_map}

-- an event is the one that its text says
abbrev pub IsSaid : Event → Type 0
IsSaid event = is_event event ≡ true

-- so is an item's event; the numbers of a dropped range are those of records, in order, and no item is loose
abbrev pub IsSaidItem : Item → Type 0
IsSaidItem (item.Event event) = IsSaid event
IsSaidItem (item.Dropped channel first last) = (1 ≤ first) × (first ≤ last)
IsSaidItem (item.Loose count) = ⊥

-- a text is that of the event of a channel's number
abbrev pub IsText : List ℕ → ℕ → List ℕ → Type 0
IsText c n text = IsSaid (record { channel = c; number = n; text = text })

-- ---- histories

-- nothing was written
pub no_events : AreEvents finite.empty
no_events c n text e = absurd (none-some text (sym (nothing n) ∙ e))
  where
    empty : history finite.empty c ≡ []
    empty = ap (λ (o : Option History). unwrap_or o []) (finite.get-empty _ c)

    nothing : (n : ℕ) → text_at (history finite.empty c) n ≡ None
    nothing n = ap (λ (records : History). text_at records n) empty ∙ elim (n == 0) as (λ b. cond b None (slice_get {X = List ℕ} [] (n - 1)) ≡ None) [ true ↦ refl | false ↦ refl ]

-- what stands at a place of a longer list stood there, or is the last
at_place : (records : History) (text : List ℕ) (k : ℕ) (found : List ℕ) → slice_get (records ++ text ∷ []) k ≡ Some found
    → (slice_get records k ≡ Some found) ⊎ ((k ≡ length records) × (text ≡ found))
at_place [] text zero found e = inr (refl, same_Some text found e)
at_place [] text (suc k) found e = absurd (none-some found e)
at_place (x ∷ records) text zero found e = inl e
at_place (x ∷ records) text (suc k) found e = elim (at_place records text k found e) [ inl before ↦ inl before | inr last ↦ inr (ap suc last.0, last.1) ]

place_is : (n size : ℕ) → n == 0 ≡ false → n - 1 ≡ size → n ≡ size + 1
place_is n size some e = grind (arith, nat_tests, some, e)

-- the texts of a history with one more are those before and that one
at_number : (c : List ℕ) (records : History) (text : List ℕ) → ((n : ℕ) (found : List ℕ) → text_at records n ≡ Some found → IsText c n found) → IsText c (length records + 1) text
    → (n : ℕ) (found : List ℕ) → text_at (records ++ text ∷ []) n ≡ Some found → IsText c n found
at_number c records text before last n found e = by (n == 0) refl e (before n found)
  where
    by : (b : Bool) → n == 0 ≡ b → cond b None (slice_get (records ++ text ∷ []) (n - 1)) ≡ Some found → (cond b None (slice_get records (n - 1)) ≡ Some found → IsText c n found) → IsText c n found
    by true zero_is e was = absurd (none-some found e)
    by false some e was = elim (at_place records text (n - 1) found e) [
      | inl here ↦ was here
      | inr new ↦ subst (λ (x : ℕ × List ℕ). IsText c x.0 x.1) (λ i. (sym (place_is n (length records) some new.0) i, new.1 i)) last
    ]

-- histories of events with one event more
pub written_events : (all : Histories) (c text : List ℕ) → AreEvents all → IsText c (length (history all c) + 1) text → AreEvents (extended all c text)
written_events all c text events last d =
    put_there all c (history all c ++ text ∷ []) d (λ (o : Option History). (n : ℕ) (found : List ℕ) → text_at (unwrap_or o []) n ≡ Some found → IsText d n found)
    (λ is. subst (λ (e : List ℕ). (n : ℕ) (found : List ℕ) → text_at (history all c ++ text ∷ []) n ≡ Some found → IsText e n found) (sym is) (at_number c (history all c) text (events c) last))
    (events d)

-- ---- a write

below : (n : ℕ) → nat_le 9223372036854775807 n ≡ false → n < 9223372036854775807
below n e = grind (arith, nat_tests, e)

-- the event that an event with a number is
made : (event : Event) (n : ℕ) (o : Option Event) → is_none o ≡ false → ((new : Event) → o ≡ Some new → (is_event new ≡ true) × (new.channel ≡ event.channel) × (new.number ≡ n)) →
    IsText event.channel n (text_or_nothing o)
made event n None some read = absurd (none_there some)
  where
    none_there : true ≡ false → ⊥
    none_there e = cc
made event n (Some new) some read =
    let says = read new refl in
    subst (λ (x : List ℕ × ℕ). IsText x.0 x.1 new.text) (λ i. (says.1 i, says.2 i)) says.0

-- an event with the next number is the one that its text says
pub numbered_said : NumberedEventsAreRead → (event : Event) (last : ℕ) → IsWritable event → nat_le 9223372036854775807 last ≡ false → is_none (numbered event (last + 1)) ≡ false
    → IsText event.channel (last + 1) (numbered_text event (last + 1))
numbered_said read event last good room fits =
    let within = below last room in
    made event (last + 1) (numbered event (last + 1)) fits (λ new e. read event new good.node (last + 1) good.is (omega arith) (omega arith) e)

-- ---- what is built

-- a history's texts from a number on are those of events
numbered_are : (c : List ℕ) (n : ℕ) (texts : List (List ℕ)) → ((k : ℕ) (text : List ℕ) → slice_get texts k ≡ Some text → IsText c (n + k) text) → AllByRecursion IsSaid (numbered_from c n texts)
numbered_are c n [] said = tt
numbered_are c n (text ∷ texts) said = (
  subst (λ (m : ℕ). IsText c m text) (plus_zero n) (said zero text refl),
  numbered_are c (n + 1) texts (λ k found e. subst (λ (m : ℕ). IsText c m found) (plus_next n k) (said (suc k) found e)),
)
  where
    plus_zero : (n : ℕ) → n + zero ≡ n
    plus_zero n = omega arith

    plus_next : (n k : ℕ) → n + suc k ≡ n + 1 + k
    plus_next n k = omega arith

zero_plus : (k : ℕ) → zero + k ≡ k
zero_plus k = omega arith

one_plus : (m k : ℕ) → suc m + k ≡ suc (m + k)
one_plus m k = omega arith

-- what stands at a place behind others stands that much further among all
at_dropped : (records : History) (m k : ℕ) (text : List ℕ) → slice_get (drop m records) k ≡ Some text → slice_get records (m + k) ≡ Some text
at_dropped records zero k text e = ap (slice_get records) (zero_plus k) ∙ e
at_dropped [] (suc m) k text e = absurd (none-some text e)
at_dropped (x ∷ records) (suc m) k text e = ap (slice_get (x ∷ records)) (one_plus m k) ∙ at_dropped records m k text e

is_some_number : (n k : ℕ) → 1 ≤ n → n + k == 0 ≡ false
is_some_number n k least = grind (arith, nat_tests, least)

records_said : (c : List ℕ) (records : History) (first : ℕ) → 1 ≤ first → ((n : ℕ) (text : List ℕ) → text_at records n ≡ Some text → IsText c n text)
    → AllByRecursion IsSaid (numbered_from c first (drop (first - 1) records))
records_said c records first least events = numbered_are c first (drop (first - 1) records) (λ k text e.
    events (first + k) text
    (ap (λ (b : Bool). cond b None (slice_get records (first + k - 1))) (is_some_number first k least)
    ∙ ap (slice_get records) (omega arith) ∙ at_dropped records (first - 1) k text e))

sized_said : (room : ℕ) (event : Event) → IsSaid event → IsSaidItem (sized_item room event)
sized_said room event said = by (nat_lt room (cost (item.Event event)))
  where
    by : (b : Bool) → IsSaidItem (cond b (item.Dropped event.channel event.number event.number) (item.Event event))
    by true = (said_has_number event said, omega arith)
    by false = said

item_said : (query : QueryList) (room : ℕ) (event : Event) (i : Item) → IsSaid event → item_of query room event ≡ Some i → IsSaidItem i
item_said query room event i said e = by (is_wanted query event.channel event.text) e
  where
    by : (b : Bool) → cond b (Some (sized_item room event)) None ≡ Some i → IsSaidItem i
    by true e = subst IsSaidItem (same_Some (sized_item room event) i e) (sized_said room event said)
    by false e = absurd (none-some i e)

all_append : (front back : List Item) → AllByRecursion IsSaidItem front → AllByRecursion IsSaidItem back → AllByRecursion IsSaidItem (front ++ back)
all_append [] back here there = there
all_append (i ∷ front) back here there = (here.0, all_append front back here.1 there)

unread_said : (rows : Rows) (c : List ℕ) (position : ℕ) → AllByRecursion IsSaidItem (unread rows c position)
unread_said rows c position = by (nat_lt (position + 1) (first_of rows c)) refl
  where
    up : (first : ℕ) → nat_lt (position + 1) first ≡ true → position + 1 ≤ first - 1
    up first e = grind (arith, nat_tests, e)

    by : (b : Bool) → nat_lt (position + 1) (first_of rows c) ≡ b → AllByRecursion IsSaidItem (cond b (item.Dropped c (position + 1) (first_of rows c - 1) ∷ []) [])
    by true e = ((omega arith, up (first_of rows c) e), tt)
    by false e = tt

channel_said : (rows : Rows) (all : Histories) (capacity boot : ℕ) (session : Session) (c : List ℕ) → ReadsWindow rows all capacity boot → AreEvents all
    → AllByRecursion IsSaidItem (channel_candidates rows session c)
channel_said rows all capacity boot session c reads events =
    let p = number_at session.positions c in
    let first = max (first_for capacity (length (history all c))) (p + 1) in
    let said = records_said c (history all c) first (omega arith) (events c) in
    all_append (unread rows c p) (filter_map (item_of session.query (room_of session.max_bytes)) (records_after rows c p)) (unread_said rows c p)
    (all_filter_map IsSaid IsSaidItem (item_of session.query (room_of session.max_bytes)) (item_said session.query (room_of session.max_bytes)) (records_after rows c p)
    (subst (AllByRecursion IsSaid) (sym (reads.records_are c p)) said))

candidates_said : (rows : Rows) (all : Histories) (capacity boot : ℕ) (session : Session) (channels : List (List ℕ)) → ReadsWindow rows all capacity boot → AreEvents all
    → AllByRecursion IsSaidItem (candidates_in rows session channels)
candidates_said rows all capacity boot session [] reads events = tt
candidates_said rows all capacity boot session (c ∷ channels) reads events =
    all_append (channel_candidates rows session c) (candidates_in rows session channels) (channel_said rows all capacity boot session c reads events)
    (candidates_said rows all capacity boot session channels reads events)

fitting_said : (items bytes : ℕ) (all : List Item) → AllByRecursion IsSaidItem all → AllByRecursion IsSaidItem (fitting items bytes all)
fitting_said items bytes [] said = tt
fitting_said items bytes (i ∷ is) said = by (has_room items bytes i) (fitting_said (items - 1) (bytes - cost i) is said.1)
  where
    by : (b : Bool) → AllByRecursion IsSaidItem (fitting (items - 1) (bytes - cost i) is) → AllByRecursion IsSaidItem (cond b (i ∷ fitting (items - 1) (bytes - cost i) is) [])
    by true rest = (said.0, rest)
    by false rest = tt

-- the events of what is built from a window of events are those that their texts say
pub built_said : (rows : Rows) (all : Histories) (capacity boot : ℕ) (session : Session) → ReadsWindow rows all capacity boot → AreEvents all
    → AllByRecursion IsSaidItem (built rows session).items
unfolding built
built_said rows all capacity boot session reads events =
    fitting_said session.max_items (room_of session.max_bytes) (candidates_in rows session (session_channels session)) (candidates_said rows all capacity boot session (session_channels session) reads events)
