-- A draft to which candidates were offered has those that fit, and the first that doesn't.
use Rattle.std.proofs.Common.{◌≡◌, ℕ, ◌-◌, Bool, true, false, cond, List, [], ◌∷◌, ◌++◌, refl, ap, sym, ◌∙◌, append_assoc, append-nil, Some, None, if◌then◌else◌}
use Rattle.std.specs.Prelude.{Option, is_some}
use Rattle.std.specs.FinMap as map
use Rattle.std.specs.List.{filter_map}
use Rattle.std.proofs.lemmas.List.Concat.{flat_map-cons}
use Rattle.std.proofs.lemmas.List.Elements.{filter_map-append}
use Rattle.std.specs.Option.{option_to_list}
use Rattle.wef_batch.specs.Cost.{cost}
use Rattle.wef_batch.specs.declared.items.Item.{Item}
use Rattle.wef_bookmark.specs.Order.{Marks}
use Rattle.wef_event.specs.Events.{Event}
use Rattle.wef_keeper.specs.Rows.{Rows}
use Rattle.wef_building.specs.Building.{built, built_items, built_to, candidates, candidates_in, channel_candidates, first_number, fitting, has_room, is_of, left_items, left_over, reaches, room_of, session_channels, with_reach, with_reaches}
use Rattle.wef_building.specs.Drafting.{empty_draft, offered, stop_at, with_item, with_items}
use Rattle.wef_building.specs.declared.drafting.Draft.{Draft}
use Rattle.wef_building.specs.declared.sessions.Session.{Session}
use Rattle.wef_source_log.specs.LogWindow.{last_of}

-- nothing is taken once an item is left
pub taken_none : (d : Draft) (first : Item) (is : List Item) → d.left ≡ Some first → with_items d is ≡ d
taken_none d first [] e = refl
taken_none d first (i ∷ is) e = ap (λ o. with_items (offered o d i) is) e ∙ taken_none d first is e

pub taken_full : (d : Draft) (is : List Item) → is_some d.left ≡ true → with_items d is ≡ d
taken_full d is full = by d.left refl
  where
    by : (o : Option Item) → d.left ≡ o → with_items d is ≡ d
    by None e = let apart : is_some d.left ≡ false = ap is_some e in cc
    by (Some first) e = taken_none d first is e

pub with_items-append : (d : Draft) (is js : List Item) → with_items d (is ++ js) ≡ with_items (with_items d is) js
with_items-append d [] js = refl
with_items-append d (i ∷ is) js = with_items-append (with_item d i) is js

abbrev grown : Draft → Item → Draft
grown d i = record d { items = d.items ++ i ∷ []; items_left = d.items_left - 1; bytes_left = d.bytes_left - cost i }

taken_where : (d : Draft) (i : Item) (b : Bool) → d.left ≡ None → has_room d.items_left d.bytes_left i ≡ b → with_item d i ≡ cond b (grown d i) (record d { left = Some i })
taken_where d i b none fits = ap (λ o. offered o d i) none ∙ ap (λ t. cond t (grown d i) (record d { left = Some i })) fits

-- the first of a list
abbrev pub first_of : List Item → Option Item
first_of [] = None
first_of (i ∷ is) = Some i

pub items_taken : (d : Draft) (is : List Item) → d.left ≡ None → (with_items d is).items ≡ d.items ++ fitting d.items_left d.bytes_left is
items_taken d [] none = sym (append-nil d.items)
items_taken d (i ∷ is) none =
    elim (has_room d.items_left d.bytes_left i) as (λ b. has_room d.items_left d.bytes_left i ≡ b
    → (with_items (with_item d i) is).items ≡ d.items ++ cond b (i ∷ fitting (d.items_left - 1) (d.bytes_left - cost i) is) []) [
      | true ↦ λ fits.
          ap (λ x. (with_items x is).items) (taken_where d i true none fits)
          ∙ items_taken (grown d i) is none
          ∙ append_assoc d.items (i ∷ []) (fitting (d.items_left - 1) (d.bytes_left - cost i) is)
      | false ↦ λ fails.
          ap (λ x. (with_items x is).items) (taken_where d i false none fails)
          ∙ ap (λ (x : Draft). x.items) (taken_none (record d { left = Some i }) i is refl)
          ∙ sym (append-nil d.items)
    ] refl

pub left_taken : (d : Draft) (is : List Item) → d.left ≡ None → (with_items d is).left ≡ first_of (left_over d.items_left d.bytes_left is)
left_taken d [] none = none
left_taken d (i ∷ is) none =
    elim (has_room d.items_left d.bytes_left i) as (λ b. has_room d.items_left d.bytes_left i ≡ b
    → (with_items (with_item d i) is).left ≡ first_of (cond b (left_over (d.items_left - 1) (d.bytes_left - cost i) is) (i ∷ is))) [
      | true ↦ λ fits. ap (λ x. (with_items x is).left) (taken_where d i true none fits) ∙ left_taken (grown d i) is none
      | false ↦ λ fails.
          ap (λ x. (with_items x is).left) (taken_where d i false none fails)
          ∙ ap (λ (x : Draft). x.left) (taken_none (record d { left = Some i }) i is refl)
    ] refl

-- how far channels are read is decided by the first item left
pub reaches_by_first : (rows : Rows) (cs : List (List ℕ)) (left : List Item) → reaches rows cs (option_to_list (first_of left)) ≡ reaches rows cs left
reaches_by_first rows [] left = refl
reaches_by_first rows (c ∷ cs) [] = refl
reaches_by_first rows (c ∷ cs) (i ∷ is) =
    ap (λ rest. cond (is_of c i) ((c, first_number i - 1) ∷ []) ((c, last_of rows c) ∷ rest)) (reaches_by_first rows cs (i ∷ is))

-- what a page gives is taken, and then what is behind it
pub page_taken : (h : Event → Option Item) (d next : Draft) (page rest all : List Event) → next ≡ with_items d (filter_map h page) → all ≡ page ++ rest
    → with_items next (filter_map h rest) ≡ with_items d (filter_map h all)
page_taken h d next page rest all made parts =
    ap (λ x. with_items x (filter_map h rest)) made
    ∙ sym (with_items-append d (filter_map h page) (filter_map h rest))
    ∙ ap (with_items d) (sym (filter_map-append h page rest) ∙ ap (filter_map h) (sym parts))

-- a channel's candidates are taken, and then those of the channels behind it
pub channel_taken : (rows : Rows) (session : Session) (d next : Draft) (c : List ℕ) (behind all : List (List ℕ)) → next ≡ with_items d (channel_candidates rows session c) → all ≡ c ∷ behind
    → with_items next (candidates_in rows session behind) ≡ with_items d (candidates_in rows session all)
channel_taken rows session d next c behind all made parts =
    ap (λ x. with_items x (candidates_in rows session behind)) made
    ∙ sym (with_items-append d (channel_candidates rows session c) (candidates_in rows session behind))
    ∙ ap (with_items d) (sym (flat_map-cons (channel_candidates rows session) c behind) ∙ ap (candidates_in rows session) (sym parts))

-- a channel that isn't of the item left is read to its last record
pub reach_read : (rows : Rows) (positions to next : Marks) (c : List ℕ) (last : ℕ) (left : Option Item) (behind all : List (List ℕ)) → stop_at c left ≡ None → last ≡ last_of rows c
    → next ≡ with_reach positions to (c, last) → all ≡ c ∷ behind → with_reaches positions next (reaches rows behind (option_to_list left)) ≡ with_reaches positions to (reaches rows all (option_to_list left))
reach_read rows positions to next c last left behind all none read reached parts =
    ap (λ (b : Marks). with_reaches positions b (reaches rows behind (option_to_list left))) (reached ∙ ap (λ n. with_reach positions to (c, n)) read)
    ∙ ap (with_reaches positions to) (sym (goes left none) ∙ ap (λ cs. reaches rows cs (option_to_list left)) (sym parts))
  where
    by : (i : Item) (t : Bool) (stop : ℕ) (found : List (List ℕ × ℕ)) → (if t then Some stop else None) ≡ None → cond t ((c, stop) ∷ []) found ≡ found
    by i true stop found e = cc
    by i false stop found e = refl

    goes : (left : Option Item) → stop_at c left ≡ None → reaches rows (c ∷ behind) (option_to_list left) ≡ (c, last_of rows c) ∷ reaches rows behind (option_to_list left)
    goes None e = refl
    goes (Some i) e = by i (is_of c i) (first_number i - 1) ((c, last_of rows c) ∷ reaches rows behind (i ∷ [])) e

-- the batch that a draft and what channels are read make
pub built_by : (rows : Rows) (session : Session) (d : Draft) (to : Marks) → d ≡ with_items (empty_draft session.max_items (room_of session.max_bytes)) (candidates rows session)
    → to ≡ with_reaches session.positions map.empty (reaches rows (session_channels session) (option_to_list d.left))
    → record { items = d.items; to = to; ack_wanted = true } ≡ built rows session
unfolding built
built_by rows session d to made read =
    let start = empty_draft session.max_items (room_of session.max_bytes) in
    let items : d.items ≡ built_items rows session = ap (λ (x : Draft). x.items) made ∙ items_taken start (candidates rows session) refl in
    let left : d.left ≡ first_of (left_items rows session) = ap (λ (x : Draft). x.left) made ∙ left_taken start (candidates rows session) refl in
    let reach : to ≡ built_to rows session =
    read
    ∙ ap (λ o. with_reaches session.positions map.empty (reaches rows (session_channels session) (option_to_list o))) left
    ∙ ap (with_reaches session.positions map.empty) (reaches_by_first rows (session_channels session) (left_items rows session))
    in
    λ k. record { items = items k; to = reach k; ack_wanted = true }
