-- Positions that have each channel that may be moved.
use Rattle.std.proofs.Common.{◌≡◌, ℕ, ◌+◌, ◌<◌, ◌≤◌, Bool, true, false, ◌||◌, List, [], ◌∷◌, length, get_or, set, refl, ap, sym, subst, ◌∙◌, cond, Some, None, arith, ⊎_elim}
use Rattle.std.specs.Prelude.{IfSome, Option, T, is_some}
use Rattle.std.specs.FinMap as map
use Rattle.std.specs.FinMap.Entries.{below_all}
use Rattle.std.specs.List.{All, AllByRecursion, filter, remove}
use Rattle.std.proofs.lemmas.List.Elements.{All-filter, All-get_or, All-set}
use Rattle.std.proofs.lemmas.List.Edits.{get_or-remove_above, get_or-remove_below, length-remove}
use Rattle.std.proofs.lemmas.Bool.{cases_lt}
use Rattle.std.specs.Ordering.{eq_by_cmp, is_eq, is_lt, ordering_reverse}
use Rattle.std.specs.declared.cmp.Ordering.{Ordering}
use Rattle.std.specs.declared.cmp.Ordering.TheVariants.{Less, Equal, Greater}
use Rattle.std.specs.Cmp.{tied_itself}
use Rattle.std.specs.Cmp.Lexicographic.{nat_list_cmp_total, same_text}
use Rattle.wef_base.specs.Names.{same}
use Rattle.wef_batch.specs.WellFormed.{is_in}
use Rattle.wef_base.specs.declared.numbers.TheConstants.{MAX}
use Rattle.wef_bookmark.specs.Entries.{AreEntries}
use Rattle.wef_bookmark.specs.Order.{Marks, joined, raised}
use Rattle.wef_bookmark.proofs.Joining.{both, joined_has, order, raised_has}
use Rattle.wef_eventing.specs.Sending.{IsServable}
use Rattle.wef_eventing.specs.declared.offers.Subscribe.{Subscribe}
use Rattle.wef_query.specs.Selected.{channels_of}
use Rattle.wef_building.specs.Reading.{ReadsAbove}
use Rattle.wef_source.specs.Serving.{AreKept, CanBeServed, CanBeTold, HasAll, HasEach}
use Rattle.wef_building.proofs.Cases.{either, or_true}
use Rattle.wef_source.proofs.InOrder.{filter_in_order, none_in_order}
use Rattle.wef_building.proofs.ReadAbove.{reads_nothing}
use Rattle.wef_source.specs.Sessions.{acknowledged, answered, moved_by, prolonged, sending, session_from, session_leased, settled, until, with_channels}
use Rattle.wef_source.specs.declared.serving.Answer.{Answer}
use Rattle.wef_source.specs.declared.serving.Answer.TheVariants.{Taken, Refused}
use Rattle.wef_building.specs.declared.sessions.Lease.{Lease}
use Rattle.wef_building.specs.declared.sessions.Outstanding.{Outstanding}
use Rattle.wef_building.specs.declared.sessions.Session.{Session}

-- what a bookmark has stays there when another one is joined
pub joined_has_all : (p q to : Marks) → HasAll p q → HasAll (joined p to) q
joined_has_all p q to has c there = joined_has p to c ∙ either _ _ (has c there)

pub raised_has_all : (p q : Marks) (c : List ℕ) (n : ℕ) → HasAll p q → HasAll (raised p c n) q
raised_has_all p q c n has d there = raised_has p c n d ∙ or_true _ _ (has d there)

pub settled_served : (s : Session) → CanBeServed s → CanBeServed (settled s)
settled_served s h = record { queried = h.queried; awaited = reads_nothing s.positions (channels_of s.query.items); notify_to = h.notify_to; identifier = h.identifier; lease = h.lease }

pub sending_served : (s : Session) (outstanding : Outstanding) (now : ℕ) → ReadsAbove s.positions (channels_of s.query.items) outstanding.to → CanBeServed s → CanBeServed (sending outstanding now s)
sending_served s outstanding now reads h = record { queried = h.queried; awaited = reads; notify_to = h.notify_to; identifier = h.identifier; lease = h.lease }

pub acknowledged_served : (s : Session) → CanBeServed s → CanBeServed (acknowledged s)
acknowledged_served s h = by s.outstanding
  where
    by : (o : Option Outstanding) → CanBeServed (moved_by o s)
    by None = settled_served s h
    by (Some outstanding) = record {
      queried = λ c in_query. joined_has s.positions outstanding.to c ∙ either _ _ (h.queried c in_query);
      awaited = reads_nothing (joined s.positions outstanding.to) (channels_of s.query.items);
      notify_to = h.notify_to;
      identifier = h.identifier;
      lease = h.lease;
    }

pub answered_served : (answer : Answer) (s : Session) → CanBeServed s → CanBeServed (answered answer s)
answered_served Taken s h = acknowledged_served s h
answered_served Refused s h = settled_served s h

until_told : (expiry : ℕ) (o : Option Lease) → IfSome o CanBeTold → IfSome (until expiry o) CanBeTold
until_told expiry None told = tt
until_told expiry (Some lease) told = record { identifier = told.identifier; trimmed = told.trimmed; end_to = told.end_to }

pub prolonged_served : (expiry : ℕ) (s : Session) → CanBeServed s → CanBeServed (prolonged expiry s)
prolonged_served expiry s h = record { queried = h.queried; awaited = h.awaited; notify_to = h.notify_to; identifier = h.identifier; lease = until_told expiry s.lease h.lease }

-- sessions of which one was changed in a way that keeps it served
pub changed_served : (change : Session → Session) → ((s : Session) → CanBeServed s → CanBeServed (change s)) → (ss : List Session) (k : ℕ) (s t : Session)
    → All CanBeServed ss → k < length ss → s ≡ get_or ss k s → t ≡ change s → All CanBeServed (set ss k t)
changed_served change keeps ss k s t all within read made =
    let here : CanBeServed s = subst CanBeServed (sym read) (All-get_or CanBeServed ss k s within all) in
    All-set CanBeServed ss k t (subst CanBeServed (sym made) (keeps s here)) all

pub read_served : (ss : List Session) (k : ℕ) (s : Session) → All CanBeServed ss → k < length ss → s ≡ get_or ss k s → CanBeServed s
read_served ss k s all within read = subst CanBeServed (sym read) (All-get_or CanBeServed ss k s within all)

-- sessions of which one was taken out
pub removed_served : (ss : List Session) (k : ℕ) → All CanBeServed ss → k < length ss → All CanBeServed (remove ss k)
removed_served ss k all within = λ j d below.
    let long = length-remove ss k within in
    ⊎_elim
    (λ before. rw (get_or-remove_below ss k d j before within) (all j d (omega arith)))
    (λ behind. rw (get_or-remove_above ss k d j behind within) (all (j + 1) d (omega arith)))
    (cases_lt j k)

-- ---- entries

-- each of these entries is found among those
abbrev pub AreFound : List (List ℕ × ℕ) → List (List ℕ × ℕ) → Type 0
AreFound all [] = Unit {0}
AreFound all (e ∷ es) = (map.find order e.0 all ≡ Some e.1) × AreFound all es

reversed_less : (r : Ordering) → T (is_lt r) → is_eq (ordering_reverse r) ≡ false
reversed_less Less h = refl
reversed_less Equal h = absurd h
reversed_less Greater h = refl

-- a name is none that is less
other : (c d : List ℕ) → T (is_lt (order c d)) → eq_by_cmp order d c ≡ false
other c d h = ap is_eq (nat_list_cmp_total.antisymm d c) ∙ reversed_less (order c d) h

are_found_behind : (e : List ℕ × ℕ) (all es : List (List ℕ × ℕ)) → T (below_all order e.0 es) → AreFound all es → AreFound (e ∷ all) es
are_found_behind e all [] above found = tt
are_found_behind e all (f ∷ fs) above found =
    let parts = both (is_lt (order e.0 f.0)) (below_all order e.0 fs) above in
    (ap (λ b. cond b (Some e.1) (map.find order f.0 all)) (other e.0 f.0 parts.0) ∙ found.0, are_found_behind e all fs parts.1 found.1)

found_itself : (e : List ℕ × ℕ) (es : List (List ℕ × ℕ)) → map.find order e.0 (e ∷ es) ≡ Some e.1
found_itself e es = ap (λ r. cond (is_eq r) (Some e.1) (map.find order e.0 es)) (tied_itself nat_list_cmp_total e.0)

are_found : (es : List (List ℕ × ℕ)) → T (map.is_sorted order es) → AreFound es es
are_found [] sorted = tt
are_found (e ∷ es) sorted =
    let parts = both (below_all order e.0 es) (map.is_sorted order es) sorted in
    (found_itself e es, are_found_behind e es es parts.0 (are_found es parts.1))

-- each of these entries' channels is in a bookmark
abbrev pub AreIn : Marks → List (List ℕ × ℕ) → Type 0
AreIn b [] = Unit {0}
AreIn b (e ∷ es) = (is_some (map.get b e.0) ≡ true) × AreIn b es

are_in_from : (b : Marks) (es : List (List ℕ × ℕ)) → AreFound (map.entries b) es → AreIn b es
are_in_from b [] found = tt
are_in_from b (e ∷ es) found = (ap is_some (map.get-entries b e.0 ∙ found.0), are_in_from b es found.1)

pub entries_are_in : (b : Marks) → AreIn b (map.entries b)
entries_are_in b = are_in_from b (map.entries b) (are_found (map.entries b) (map.entries_sorted b))

-- and its number is at most the greatest
abbrev pub IsWithin : List ℕ × ℕ → Type 0
IsWithin e = e.1 ≤ MAX

within_from : (b : Marks) (es : List (List ℕ × ℕ)) → AreEntries b → AreFound (map.entries b) es → AllByRecursion IsWithin es
within_from b [] kept found = tt
within_from b (e ∷ es) kept found = ((kept e.0 e.1 (map.get-entries b e.0 ∙ found.0)).1, within_from b es kept found.1)

pub entries_within : (b : Marks) → AreEntries b → AllByRecursion IsWithin (map.entries b)
entries_within b kept = within_from b (map.entries b) kept (are_found (map.entries b) (map.entries_sorted b))

-- sessions of which only those are left that pass a test
pub filtered_kept : (test : Session → Bool) (ss : List Session) → AreKept ss → AreKept (filter test ss)
filtered_kept test ss kept = record { served = All-filter test CanBeServed ss kept.served; in_order = filter_in_order test ss kept.in_order }

pub none_kept : AreKept []
none_kept = record { served = λ k d below. absurd (omega arith); in_order = none_in_order }

channel_kept : (b : Marks) (cs : List (List ℕ)) (c : List ℕ) → is_some (map.get b c) ≡ true → is_some (map.get (with_channels b cs) c) ≡ true
channel_kept b [] c there = there
channel_kept b (x ∷ xs) c there = channel_kept (raised b x 0) xs c (raised_has b x 0 c ∙ or_true _ _ there)

same_turned : (x c : List ℕ) → same x c ≡ true → same c x ≡ true
same_turned x c e =
    let one = same_text x c (sym e) in
    subst (λ y. same c y ≡ true) (sym one) (subst (λ y. same y c ≡ true) one e)

-- each channel that is added is there
channels_added : (b : Marks) (cs : List (List ℕ)) → HasEach (with_channels b cs) cs
channels_added b [] c listed = cc
channels_added b (x ∷ xs) c listed = by (channels_added (raised b x 0) xs c) (same x c) refl listed
  where
    by : (is_in xs c ≡ true → is_some (map.get (with_channels (raised b x 0) xs) c) ≡ true) → (t : Bool) → same x c ≡ t → (t || is_in xs c) ≡ true → is_some (map.get (with_channels (raised b x 0) xs) c) ≡ true
    by rest true is there = channel_kept (raised b x 0) xs c (raised_has b x 0 c ∙ either _ _ (same_turned x c is))
    by rest false is there = rest there

pub begun_served : (now : ℕ) (subscribe : Subscribe) (u : List ℕ) → IsServable subscribe → CanBeServed (session_from now subscribe u)
begun_served now subscribe u servable =
    let positions = with_channels subscribe.from (channels_of subscribe.query.items) in
    record {
      queried = channels_added subscribe.from (channels_of subscribe.query.items);
      awaited = reads_nothing positions (channels_of subscribe.query.items);
      notify_to = servable.notify_to;
      identifier = servable.identifier;
      lease = tt;
    }

pub leased_served : (now : ℕ) (subscribe : Subscribe) (lease : Lease) (u : List ℕ) → IsServable subscribe → CanBeTold lease → CanBeServed (session_leased now subscribe lease u)
leased_served now subscribe lease u servable told =
    let begun = begun_served now subscribe u servable in
    record { queried = begun.queried; awaited = begun.awaited; notify_to = begun.notify_to; identifier = begun.identifier; lease = told }
