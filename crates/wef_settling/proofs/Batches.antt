-- What the batches of sessions read: one with an item moves its session on, none passes what was written; and where a session has nothing
-- to send, each record above its position stands in the window and isn't selected.
use Rattle.std.proofs.Common.{◌≡◌, ℕ, ◌+◌, ◌-◌, ◌<◌, ◌≤◌, ◌==◌, Bool, true, false, cond, List, [], ◌∷◌, ◌++◌, length, refl, ap, sym, subst, ◌∙◌, Some, None, nat_lt, arith}
use Rattle.std.specs.FinMap as map
use Rattle.std.specs.List.{filter_map, flat_map}
use Rattle.std.specs.Prelude.{Option, unwrap_or}
use Rattle.wef_base.specs.Names.{same}
use Rattle.wef_batch.specs.WellFormed.{is_in}
use Rattle.wef_batch.specs.declared.items.Item.{Item}
use Rattle.wef_batch.specs.declared.items.Item.TheVariants.{Dropped}
use Rattle.wef_bookmark.specs.Order.{number_at}
use Rattle.wef_building.proofs.Candidates.{channel_says, skipped}
use Rattle.wef_building.proofs.Cases.{apart, by_test, either, lt_fails, lt_holds, or_true, same_itself}
use Rattle.wef_building.proofs.Channels.{AllOf, AreApart, AreOwn, in_order_apart, ordered_of, own-append, own_among}
use Rattle.wef_building.proofs.Cuts.{Says}
use Rattle.wef_building.proofs.Fitting.{parts}
use Rattle.wef_building.proofs.Items.{ItemsEndBy, Ordered, nothing_between, ordered_front, own}
use Rattle.wef_building.proofs.Reaches.{Stops, stops, stops_above, to_has_no_other, to_is}
use Rattle.wef_building.specs.Building.{built, built_items, built_to, candidates, channel_candidates, is_of, item_of, left_items, room_of, session_channels, unread}
use Rattle.wef_building.specs.Laws.{AreWithin}
use Rattle.wef_building.specs.declared.sessions.Session.{Session}
use Rattle.wef_keeper.specs.Rows.{Rows}
use Rattle.wef_query.proofs.Sorting.{is-in_order}
use Rattle.wef_query.specs.Selected.{selects}
use Rattle.wef_settling.specs.Settled.{IsPassed}
use Rattle.wef_source.specs.Machine.{has_caught_up}
use Rattle.wef_source_log.specs.Histories.{Histories, history}
use Rattle.wef_source_log.specs.Laws.{ReadsWindow}
use Rattle.wef_source_log.specs.LogWindow.{first_for, first_of}

-- ---- the candidates of a session

-- What is known of the candidates of a session above positions within the histories.
record Building (rows : Rows) (all : Histories) (capacity : ℕ) (session : Session) : Type 0 where
  says : (c : List ℕ) → Says session.query session.max_bytes c (history all c) capacity (number_at session.positions c) (channel_candidates rows session c)
  all_own : AreOwn (channel_candidates rows session)
  apart_names : AreApart (session_channels session)
  in_two : built_items rows session ++ left_items rows session ≡ candidates rows session

building : (rows : Rows) (all : Histories) (capacity boot : ℕ) (session : Session) → ReadsWindow rows all capacity boot → AreWithin session.positions all → Building rows all capacity session
building rows all capacity boot session reads within = record {
  says = says;
  all_own = λ c. ordered_of c (number_at session.positions c) (channel_candidates rows session c) (says c).ordered;
  apart_names = in_order_apart (session_channels session) (is-in_order (selects session.query.items));
  in_two = parts session.max_items (room_of session.max_bytes) (candidates rows session);
}
  where
    says : (c : List ℕ) → Says session.query session.max_bytes c (history all c) capacity (number_at session.positions c) (channel_candidates rows session c)
    says c =
        let p = number_at session.positions c in
        let first = sym (reads.first_is c) in
        let records = sym (reads.records_are c p) in
        subst (Says session.query session.max_bytes c (history all c) capacity p)
        (λ i. skipped c p (first i) ++ filter_map (item_of session.query (room_of session.max_bytes)) (records i))
        (channel_says session.query session.max_bytes c (history all c) capacity p (within c))

-- What a batch has of a channel: items that rise above the position, and a bookmark at which they stop.
record Reading (rows : Rows) (all : Histories) (session : Session) (c : List ℕ) : Type 0 where
  ordered : Ordered c (number_at session.positions c) (own c (built_items rows session))
  stopped : Stops c (length (history all c)) (own c (built_items rows session)) (own c (left_items rows session)) (map.get (built_to rows session) c)

reading : (rows : Rows) (all : Histories) (capacity boot : ℕ) (session : Session) (c : List ℕ) → ReadsWindow rows all capacity boot → Building rows all capacity session →
    is_in (session_channels session) c ≡ true → Reading rows all session c
reading rows all capacity boot session c reads of here =
    let p = number_at session.positions c in
    let g = channel_candidates rows session in
    let cs = session_channels session in
    let front = built_items rows session in
    let back = left_items rows session in
    let own_parts : own c front ++ own c back ≡ g c = sym (own-append c front back) ∙ ap (own c) of.in_two ∙ own_among g cs c of.all_own of.apart_names here in
    let ordered = ordered_front c p (own c front) (own c back) (subst (Ordered c p) (sym own_parts) (of.says c).ordered) in
    record {
      ordered = ordered;
      stopped = subst (Stops c (length (history all c)) (own c front) (own c back)) (sym (to_is rows session.positions cs back c of.apart_names))
          (stops_above c (length (history all c)) p (own c front) (own c back) _ ordered
          (stops rows g c (length (history all c)) p of.all_own (sym (reads.last_is c)) (of.says c).ordered (of.says c).ends cs front back of.apart_names here of.in_two own_parts));
    }

-- ---- where a batch reads to

some_above : (c : List ℕ) (p t : ℕ) (items : List Item) → Ordered c p items → ItemsEndBy t items → (items ≡ [] → ⊥) → p < t
some_above c p t items ordered ends some =
    by_test (λ b. nat_lt p t ≡ b → p < t) (nat_lt p t) (λ _ is. lt_holds p t is) (λ _ low. absurd (some (nothing_between c p t items ordered ends (lt_fails p t low)))) refl

-- where items of a channel are taken, the bookmark has the channel above the position
channel_moves : (c : List ℕ) (last p : ℕ) (front back : List Item) (to : Option ℕ) → Stops c last front back to → Ordered c p front → (front ≡ [] → ⊥) → p < unwrap_or to 0
channel_moves c last p front back None stopped ordered some = absurd (some stopped)
channel_moves c last p front back (Some t) stopped ordered some = some_above c p t front ordered stopped.0 some

channel_within : (c : List ℕ) (last : ℕ) (front back : List Item) (to : Option ℕ) → Stops c last front back to → unwrap_or to 0 ≤ last
channel_within c last front back None stopped = omega arith
channel_within c last front back (Some t) stopped = stopped.2

-- no batch reads further than was written
pub built_within : (rows : Rows) (all : Histories) (capacity boot : ℕ) (session : Session) → ReadsWindow rows all capacity boot → AreWithin session.positions all → (c : List ℕ) →
    number_at (built rows session).to c ≤ length (history all c)
unfolding built
built_within rows all capacity boot session reads within c = by_channel (is_in (session_channels session) c) refl
  where
    by_channel : (t : Bool) → is_in (session_channels session) c ≡ t → number_at (built_to rows session) c ≤ length (history all c)
    by_channel true here =
        channel_within c (length (history all c)) (own c (built_items rows session)) (own c (left_items rows session)) (map.get (built_to rows session) c)
        (reading rows all capacity boot session c reads (building rows all capacity boot session reads within) here).stopped
    by_channel false none =
        let nothing = ap (λ (o : Option ℕ). unwrap_or o 0) (to_has_no_other rows session.positions (session_channels session) (left_items rows session) c none) in
        omega arith

-- ---- a batch with an item

nil_cons : (i : Item) (is : List Item) → [] ≡ i ∷ is → ⊥
nil_cons i is e = cc

cons_nil : (i : Item) (is : List Item) → i ∷ is ≡ [] → ⊥
cons_nil i is e = cc

-- A channel of a list, of which an item is.
record IsOfSome (cs : List (List ℕ)) (i : Item) : Type 0 where
  channel : List ℕ
  listed : is_in cs channel ≡ true
  is : is_of channel i ≡ true

-- the first of the items of channels is of one of them
first_is_of : (g : List ℕ → List Item) (cs : List (List ℕ)) (i : Item) (rest : List Item) → AreOwn g → flat_map g cs ≡ i ∷ rest → IsOfSome cs i
first_is_of g [] i rest own_items e = absurd (nil_cons i rest e)
first_is_of g (d ∷ cs) i rest own_items e = by_items (g d) (own_items d) e (λ later. first_is_of g cs i rest own_items later)
  where
    by_items : (items : List Item) → AllOf d items → items ++ flat_map g cs ≡ i ∷ rest → (flat_map g cs ≡ i ∷ rest → IsOfSome cs i) → IsOfSome (d ∷ cs) i
    by_items [] all e goes_on =
        let later = goes_on e in
        record { channel = later.channel; listed = or_true (same d later.channel) (is_in cs later.channel) later.listed; is = later.is }
    by_items (x ∷ xs) all e goes_on =
        let one : x ≡ i = cc in
        record { channel = d; listed = either (same d d) (is_in cs d) (same_itself d); is = subst (λ (y : Item). is_of d y ≡ true) one all.0 }

own_some : (c : List ℕ) (i : Item) (is : List Item) → is_of c i ≡ true → own c (i ∷ is) ≡ [] → ⊥
own_some c i is mine none = cons_nil i (own c is) (sym (ap (λ t. cond t (i ∷ own c is) (own c is)) mine) ∙ none)

-- A batch reads some channel of the query above where the session stands in it.
pub record MovesOn (rows : Rows) (session : Session) : Type 0 where
  pub channel : List ℕ
  pub listed : is_in (session_channels session) channel ≡ true
  pub higher : number_at session.positions channel < number_at (built rows session).to channel

first_moves : (rows : Rows) (all : Histories) (capacity boot : ℕ) (session : Session) → ReadsWindow rows all capacity boot → AreWithin session.positions all → (i : Item) (is : List Item) →
    built_items rows session ≡ i ∷ is → MovesOn rows session
unfolding built
first_moves rows all capacity boot session reads within i is some =
    let of = building rows all capacity boot session reads within in
    let whole : candidates rows session ≡ i ∷ is ++ left_items rows session = sym of.in_two ∙ ap (λ (xs : List Item). xs ++ left_items rows session) some in
    let first = first_is_of (channel_candidates rows session) (session_channels session) i (is ++ left_items rows session) of.all_own whole in
    let c = first.channel in
    let channel = reading rows all capacity boot session c reads of first.listed in
    record {
      channel = c;
      listed = first.listed;
      higher = channel_moves c (length (history all c)) (number_at session.positions c) (own c (built_items rows session)) (own c (left_items rows session)) (map.get (built_to rows session) c)
          channel.stopped channel.ordered (λ none. own_some c i is first.is (ap (own c) (sym some) ∙ none));
    }

-- one that has an item moves its session on
pub built_moves : (rows : Rows) (all : Histories) (capacity boot : ℕ) (session : Session) → ReadsWindow rows all capacity boot → AreWithin session.positions all →
    has_caught_up rows session ≡ false → MovesOn rows session
unfolding built
built_moves rows all capacity boot session reads within more = by_items (built_items rows session) refl more
  where
    by_items : (items : List Item) → built_items rows session ≡ items → (length items == 0) ≡ false → MovesOn rows session
    by_items [] are some = absurd (apart (sym some))
    by_items (i ∷ is) are some = first_moves rows all capacity boot session reads within i is are

-- ---- where there is nothing to send

no_gap : (rows : Rows) (c : List ℕ) (p : ℕ) (rest : List Item) → unread rows c p ++ rest ≡ [] → first_of rows c ≤ p + 1
no_gap rows c p rest none =
    by_test (λ t. nat_lt (p + 1) (first_of rows c) ≡ t → cond t (Dropped c (p + 1) (first_of rows c - 1) ∷ []) [] ++ rest ≡ [] → first_of rows c ≤ p + 1) (nat_lt (p + 1) (first_of rows c))
    (λ _ _ some. absurd (cons_nil _ _ some)) (λ _ low _. lt_fails (p + 1) (first_of rows c) low) refl none

in_window : (capacity size p n : ℕ) → first_for capacity size ≤ p + 1 → p < n → size < n + capacity
in_window capacity size p n low above = omega arith

-- each record above the position is left to the window, and the query doesn't select it
pub nothing_left : (rows : Rows) (all : Histories) (capacity boot : ℕ) (session : Session) → ReadsWindow rows all capacity boot → AreWithin session.positions all → candidates rows session ≡ [] →
    (c : List ℕ) → is_in (session_channels session) c ≡ true → (n : ℕ) → number_at session.positions c < n → IsPassed session.query c (history all c) capacity n
nothing_left rows all capacity boot session reads within none c listed n above =
    let of = building rows all capacity boot session reads within in
    let g = channel_candidates rows session in
    let p = number_at session.positions c in
    let empty : g c ≡ [] = sym (own_among g (session_channels session) c of.all_own of.apart_names listed) ∙ ap (own c) none in
    let says = subst (Says session.query session.max_bytes c (history all c) capacity p) empty (of.says c) in
    record {
      stands = in_window capacity (length (history all c)) p n (subst (λ (m : ℕ). m ≤ p + 1) (reads.first_is c) (no_gap rows c p _ empty)) above;
      unselected = sym (says.exact n above);
    }
