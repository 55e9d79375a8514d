-- A batch that fits a source's histories is sound, where its events are those that their texts say: its numbers are no
-- greater than the histories are long.
use Rattle.std.proofs.Common.{◌≡◌, ℕ, ◌≤◌, Bool, true, false, ◌&&◌, cond, List, [], ◌∷◌, length, nat_le, refl, ap, sym, ◌∙◌, subst, arith}
use Rattle.std.proofs.lemmas.Bool.{and_from, and_parts}
use Rattle.std.proofs.lemmas.Bool.Decides.{nat_tests}
use Rattle.std.proofs.lemmas.Option.{none-some}
use Rattle.std.specs.Prelude.{Option, Some, None}
use Rattle.std.specs.FinMap as map
use Rattle.std.specs.List.{AllByRecursion, list_all}
use Rattle.wef_base.specs.Names.{same}
use Rattle.wef_batch.proofs.Reached.{holds_in, items_are_reached}
use Rattle.wef_batch.specs.Numbers.{AreNumbered, IsNumbered}
use Rattle.wef_batch.specs.Reach.{last_in, later, loose_sum, reach, reach_of, span_in}
use Rattle.wef_batch.specs.WellFormed.{ends_by, follows, is_above, is_at_least, is_in, is_in_order, is_listed, is_well_formed, rises}
use Rattle.wef_batch.specs.declared.items.Batch.{Batch}
use Rattle.wef_batch.specs.declared.items.Item.{Item}
use Rattle.wef_batch.specs.declared.items.Item.TheVariants.{Event, Dropped, Loose}
use Rattle.wef_bookmark.specs.Order.{Marks, number_at}
use Rattle.wef_collector.proofs.Hits.{same_self}
use Rattle.wef_query.specs.Selected.{channels_of}
use Rattle.wef_query.specs.declared.QueryList.{QueryList}
use Rattle.wef_building.specs.Fits.{Fits, FitsChannel}
use Rattle.wef_source_log.specs.Histories.{Histories, History, history}
use Rattle.wef_collector.specs.FormsStay.{IsSoundBatch, IsSoundItem}
use Rattle.wef_safety.proofs.SaidEvents.{IsSaidItem}

at_most : (m n : ℕ) → nat_le m n ≡ true → m ≤ n
at_most m n e = grind (arith, nat_tests, e)

by_reach : (query : QueryList) (max_bytes : ℕ) (c : List ℕ) (records : History) (capacity b : ℕ) (items : List Item) (reached : Option ℕ) (first last : ℕ) →
    FitsChannel query max_bytes c records capacity b items reached → ends_by reached (Some (first, last)) ≡ true → length records ≤ 9223372036854775807 → last ≤ 9223372036854775807
by_reach query max_bytes c records capacity b items None first last fits ends long = absurd cc
by_reach query max_bytes c records capacity b items (Some t) first last fits ends long = omega (arith, at_most last t ends, fits.within)

own_span : (c d : List ℕ) (span : ℕ × ℕ) → c ≡ d → ◌≡◌ {A = Option (ℕ × ℕ)} (cond (same c d) (Some span) None) (Some span)
own_span c d span e = ap (λ (t : Bool). cond t (Some span) None) (subst (λ (x : List ℕ). same c x ≡ true) e (same_self c))

-- what is known of an item of a batch: it is listed, and it ends where its channel is reached
record IsInBatch (channels : List (List ℕ)) (batch : Batch) (item : Item) : Type 0 where
  listed : is_listed channels item ≡ true
  ends : (c : List ℕ) → is_in channels c ≡ true → ends_by (reach c batch) (span_in c item) ≡ true

pub fitting_is_sound : (query : QueryList) (max_bytes : ℕ) (all : Histories) (capacity : ℕ) (b : Marks) (batch : Batch) → Fits query max_bytes all capacity b batch →
    ((c : List ℕ) → length (history all c) ≤ 9223372036854775807) → AllByRecursion IsSaidItem batch.items → IsSoundBatch batch
fitting_is_sound query max_bytes all capacity b batch fits lengths said = record {
  items = each batch.items listed said (λ c here. items_are_reached channels batch c fits.well_formed here);
  to = λ c n e. by_channel c n e (is_in channels c) refl;
}
  where
    channels : List (List ℕ)
    channels = channels_of query.items

    listed : list_all (is_listed (channels_of query.items)) batch.items ≡ true
    listed = (and_parts (list_all (is_listed channels) batch.items) (list_all (is_in_order batch) channels)
        (and_parts (list_all (is_listed channels) batch.items && list_all (is_in_order batch) channels) (nat_le (loose_sum batch.items) 9223372036854775807) fits.well_formed).0).0

    ends_in : (c : List ℕ) (first last : ℕ) → is_in (channels_of query.items) c ≡ true → ends_by (reach c batch) (Some (first, last)) ≡ true → last ≤ 9223372036854775807
    ends_in c first last here ends =
        by_reach query max_bytes c (history all c) capacity (number_at b c) batch.items (reach c batch) first last (fits.channels c here) ends (lengths c)

    sound : (item : Item) → IsInBatch (channels_of query.items) batch item → IsSaidItem item → IsSoundItem item
    sound (Event event) is said = (
      ends_in event.channel event.number event.number is.listed
          (subst (λ (o : Option (ℕ × ℕ)). ends_by (reach event.channel batch) o ≡ true) (own_span event.channel event.channel (event.number, event.number) refl) (is.ends event.channel is.listed)),
      said,
    )
    sound (Dropped channel first last) is said =
        ends_in channel first last is.listed
        (subst (λ (o : Option (ℕ × ℕ)). ends_by (reach channel batch) o ≡ true) (own_span channel channel (first, last) refl) (is.ends channel is.listed))
    sound (Loose count) is said = tt

    each : (items : List Item) → list_all (is_listed (channels_of query.items)) items ≡ true → AllByRecursion IsSaidItem items →
        ((c : List ℕ) → is_in (channels_of query.items) c ≡ true → list_all (λ item. ends_by (reach c batch) (span_in c item)) items ≡ true) → AllByRecursion IsSoundItem items
    each [] are said ends = tt
    each (item ∷ items) are said ends =
        let parts = and_parts (is_listed channels item) (list_all (is_listed channels) items) are in (
          sound item (record {
            listed = parts.0;
            ends = λ c here. (and_parts (ends_by (reach c batch) (span_in c item)) (list_all (λ other. ends_by (reach c batch) (span_in c other)) items) (ends c here)).0;
          }) said.0,
          each items parts.1 said.1 (λ c here. (and_parts (ends_by (reach c batch) (span_in c item)) (list_all (λ other. ends_by (reach c batch) (span_in c other)) items) (ends c here)).1),
        )

    by_channel : (c : List ℕ) (n : ℕ) → map.get batch.to c ≡ Some n → (reads : Bool) → is_in (channels_of query.items) c ≡ reads → n ≤ 9223372036854775807
    by_channel c n e true here =
        let fit = subst (FitsChannel query max_bytes c (history all c) capacity (number_at b c) batch.items) (ap (λ (o : Option ℕ). reach_of o (last_in c batch.items)) e) (fits.channels c here) in
        omega (arith, fit.within, lengths c)
    by_channel c n e false here = absurd (none-some n (sym (fits.others c here) ∙ e))

-- ---- the numbers of its items

-- a span doesn't end before it begins
is_up : Option (ℕ × ℕ) → Bool
is_up None = true
is_up (Some span) = nat_le span.0 span.1

up : (previous : Option ℕ) (span : Option (ℕ × ℕ)) → follows previous span ≡ true → is_up span ≡ true
unfolding is_up
up previous None follows = refl
up previous (Some span) follows = (and_parts (is_above previous span.0) (nat_le span.0 span.1) follows).1

all_up : (c : List ℕ) (previous : Option ℕ) (items : List Item) → rises c previous items ≡ true → list_all (λ item. is_up (span_in c item)) items ≡ true
all_up c previous [] rise = refl
all_up c previous (item ∷ items) rise =
    let parts = and_parts (follows previous (span_in c item)) (rises c (later previous (span_in c item)) items) rise in
    and_from (is_up (span_in c item)) (list_all (λ other. is_up (span_in c other)) items) (up previous (span_in c item) parts.0) (all_up c (later previous (span_in c item)) items parts.1)

-- a well-formed batch that is sound has numbers such as records have
pub well_formed_numbers : (channels : List (List ℕ)) (batch : Batch) → is_well_formed channels batch ≡ true → AllByRecursion IsSoundItem batch.items → AreNumbered batch.items
unfolding is_up
well_formed_numbers channels batch formed sound = each batch.items parts.0 sound rising
  where
    parts : (list_all (is_listed channels) batch.items ≡ true) × (list_all (is_in_order batch) channels ≡ true)
    parts = and_parts (list_all (is_listed channels) batch.items) (list_all (is_in_order batch) channels)
        (and_parts (list_all (is_listed channels) batch.items && list_all (is_in_order batch) channels) (nat_le (loose_sum batch.items) 9223372036854775807) formed).0

    rising : (c : List ℕ) → is_in channels c ≡ true → list_all (λ item. is_up (span_in c item)) batch.items ≡ true
    rising c here =
        all_up c None batch.items (and_parts (rises c None batch.items) (is_at_least (map.get batch.to c) (last_in c batch.items)) (holds_in (is_in_order batch) channels c parts.1 here)).0

    numbered : (item : Item) → is_listed channels item ≡ true → IsSoundItem item → ((c : List ℕ) → is_in channels c ≡ true → is_up (span_in c item) ≡ true) → IsNumbered item
    numbered (Event event) listed sound up = tt
    numbered (Dropped c first last) listed sound up =
        let span = subst (λ (o : Option (ℕ × ℕ)). is_up o ≡ true) (own_span c c (first, last) refl) (up c listed) in
        (omega (arith, at_most first last span, sound), sound)
    numbered (Loose count) listed sound up = tt

    each : (items : List Item) → list_all (is_listed channels) items ≡ true → AllByRecursion IsSoundItem items → ((c : List ℕ) → is_in channels c ≡ true → list_all (λ item. is_up (span_in c item)) items ≡ true) → AreNumbered items
    each [] listed sound up = tt
    each (item ∷ items) listed sound up =
        let here = and_parts (is_listed channels item) (list_all (is_listed channels) items) listed in (
          numbered item here.0 sound.0 (λ c is. (and_parts (is_up (span_in c item)) (list_all (λ other. is_up (span_in c other)) items) (up c is)).0),
          each items here.1 sound.1 (λ c is. (and_parts (is_up (span_in c item)) (list_all (λ other. is_up (span_in c other)) items) (up c is)).1),
        )
