-- Where the collector's rows change beside those of subscriptions and of pairs alone, what is kept stays so.
use Rattle.std.proofs.Common.{◌≡◌, ℕ, ◌<◌, ◌≤◌, ◌&&◌, ◌||◌, Bool, false, List, [], ◌∷◌, refl, ap, sym, ◌∙◌, subst, nat_eq, arith}
use Rattle.std.proofs.lemmas.Bool.{and_parts, eqb-true}
use Rattle.std.specs.Prelude.{Option}
use Rattle.std.specs.Cmp.Lexicographic.{pointwise}
use Rattle.std.specs.FinMap as finite
use Rattle.std.specs.List.{AllByRecursion, filter, filter_map}
use Rattle.wef_collector.specs.Taken.{put}
use Rattle.wef_collector_reports.specs.Listing.{listed, listed_of}
use Rattle.wef_collector_rows.specs.Bookmarks.{bookmark_of, has_channel, raised_by_rows}
use Rattle.wef_collector_rows.specs.Forms.{AreFormed, is_formed}
use Rattle.wef_collector_rows.specs.Keys.{bookmark_key, boot_key, subscription_key}
use Rattle.wef_collector_rows.specs.Standing.{standing, standing_of}
use Rattle.wef_eventing.specs.declared.subscriptions.Subscription.{Subscription}
use Rattle.wef_keeper.proofs.Sections.{same_under}
use Rattle.wef_keeper.proofs.StayFormed.{applied_formed}
use Rattle.wef_keeper.specs.Forms.{IsPut}
use Rattle.wef_keeper.specs.Kinds.{number_of}
use Rattle.wef_keeper.specs.Laws.{get-unnamed}
use Rattle.wef_keeper.specs.Rows.{Rows, applied, is_named, key_of}
use Rattle.wef_keeper.specs.declared.keys.Change.{Change}
use Rattle.wef_keeper.specs.declared.keys.Depth.TheVariants.{Kind, Source}
use Rattle.wef_keeper.specs.declared.keys.Key.{Key}
use Rattle.wef_keeper.specs.declared.keys.Row.{Row}
use Rattle.wef_keeper.specs.declared.kinds.RowKind.TheVariants.{Loose}
use Rattle.wef_pairs.specs.Pairs.{about_of, subscription_at}
use Rattle.wef_machine.specs.States.{State, slot_of}
use Rattle.wef_pairs.proofs.Takes.{SameRows, bookmark_alike, kind_apart}
use Rattle.wef_safety.specs.Kept.{IsKept, IsPairKept, IsWorldKept}
use Rattle.wef_safety.proofs.Growing.{RowsGrow}
use Rattle.wef_safety.proofs.Moves.{alike_pair, kept_rows}
use Rattle.wef_safety.proofs.RowMoves.{AreRowsKept, IsChangeKept, kept_by_changes}
use Rattle.wef_safety.proofs.Sent.{all_map}

-- Each row of a subscription or a pair stands as it stood: those are the rows of the kinds up to `Loose`.
abbrev pub AreAside : Rows → Rows → Type 0
AreAside after before = (key : Key) → key.kind ≤ number_of Loose → finite.get after key ≡ finite.get before key

-- ---- changes

-- A change is of a row of another kind than these.
abbrev pub IsAside : Change → Type 0
IsAside change = number_of Loose < (key_of change).kind

greater : (m n : ℕ) → m ≤ 5 → 5 < n → n ≡ m → ⊥
greater m n low high e = omega arith

unnamed : (changes : List Change) (q : Key) → q.kind ≤ number_of Loose → AllByRecursion IsAside changes → is_named changes q ≡ false
unnamed [] q low all = refl
unnamed (change ∷ changes) q low all =
    ap (λ (t : Bool). t || is_named changes q) (kind_apart (key_of change) q (greater q.kind (key_of change).kind low all.0)) ∙ unnamed changes q low all.1

-- what such changes leave
pub changed_aside : (changes : List Change) (rows : Rows) → AllByRecursion IsAside changes → AreAside (applied changes rows) rows
changed_aside changes rows all q low = get-unnamed changes rows q (unnamed changes q low all)

-- a start changes the row of the boot number alone
pub booted_aside : (rows : Rows) (boot : ℕ) → AreAside (applied (put boot_key boot [] ∷ []) rows) rows
booted_aside rows boot = changed_aside (put boot_key boot [] ∷ []) rows (omega arith, tt)

-- a boot number is no subscription, bookmark or lease
boot_put : (boot : ℕ) → IsChangeKept (put boot_key boot [])
boot_put boot = record {
  name = λ kind. absurd (omega arith);
  subscription = λ kind. absurd (omega arith);
  sources = λ kind. absurd (omega arith);
  bookmark = λ kind. absurd (omega arith);
  channel = λ kind. absurd (omega arith);
  lease = λ kind. absurd (omega arith);
}

pub kept_by_booting : (rows : Rows) (boot : ℕ) → AreRowsKept rows → AreRowsKept (applied (put boot_key boot [] ∷ []) rows)
kept_by_booting rows boot = kept_by_changes (put boot_key boot [] ∷ []) rows (boot_put boot, tt)

-- ---- what is read of the rows

-- what is kept of a pair
pub pair_aside : (after before : Rows) (u s c : List ℕ) → AreAside after before → SameRows after before u s c
pair_aside after before u s c aside q is = aside q is.greatest

-- what stands for a subscription
pub standing_aside : (after before : Rows) (u : List ℕ) → AreAside after before → standing after u ≡ standing before u
standing_aside after before u aside = ap (standing_of u) (aside (subscription_key u) (omega arith))

pub subscription_aside : (after before : Rows) (u : List ℕ) → AreAside after before → subscription_at after u ≡ subscription_at before u
subscription_aside after before u aside = ap about_of (standing_aside after before u aside)

-- the bookmark of a subscription and a source
pub bookmark_of_aside : (after before : Rows) (u s : List ℕ) → AreAside after before → bookmark_of after u s ≡ bookmark_of before u s
bookmark_of_aside after before u s aside =
    ap (λ (found : List Row). raised_by_rows finite.empty (filter has_channel found)) (same_under Source (bookmark_key u s []) after before (λ q is.
    let outer = and_parts (nat_eq 2 q.kind && pointwise nat_eq u q.sub) (pointwise nat_eq s q.source) is in
    let kind = eqb-true 2 q.kind (and_parts (nat_eq 2 q.kind) (pointwise nat_eq u q.sub) outer.0).0 in
    aside q (omega arith)))

-- all subscriptions, by name
pub listed_aside : (after before : Rows) → AreAside after before → listed after ≡ listed before
listed_aside after before aside =
    ap (filter_map listed_of) (same_under Kind (subscription_key []) after before (λ q is. let kind = eqb-true 1 q.kind is in aside q (omega arith)))

-- ---- what is kept

-- no subscription goes, and no bookmark falls
pub grows_aside : (after before : Rows) → AreAside after before → RowsGrow before after
grows_aside after before aside = record {
  known = λ u about e. subscription_aside after before u aside ∙ e;
  bookmarks = λ u s c. let same_number = bookmark_alike after before u s c (pair_aside after before u s c aside) in omega arith;
}

-- a world is kept with other rows
abbrev pub KeptWith : State → Rows → Type 0
KeptWith state rows = IsWorldKept rows state.foreign state.sources state.messages state.moment

-- so it is with rows that differ from its own beside those of subscriptions and pairs, where each is kept so and is of its form
pub kept_aside : (state : State) (rows : Rows) → IsKept state → AreAside rows state.collector.rows → AreRowsKept rows → AreFormed rows → KeptWith state rows
kept_aside state rows kept aside keys formed = kept_rows state rows state.foreign kept (grows_aside rows state.collector.rows aside)
    (λ u s c apart.
    alike_pair rows state.collector.rows u s c (subscription_at rows u) (slot_of state s) (pair_aside rows state.collector.rows u s c aside)
    (subst (λ (o : Option Subscription). IsPairKept state.collector.rows u s c o (slot_of state s)) (sym (subscription_aside rows state.collector.rows u aside)) (kept.pairs u s c apart)))
    kept.apart keys formed

-- A change beside those of subscriptions and pairs leaves a row that may be kept, or none.
pub record IsAsideKept (change : Change) : Type 0 where
  pub aside : IsAside change
  pub kept : IsChangeKept change
  pub formed : IsPut is_formed change

pub changes_kept : (state : State) (changes : List Change) → IsKept state → AllByRecursion IsAsideKept changes → KeptWith state (applied changes state.collector.rows)
changes_kept state changes kept all =
    let rows : Rows = state.collector.rows in
    kept_aside state (applied changes rows) kept (changed_aside changes rows (all_map IsAsideKept IsAside (λ change is. is.aside) changes all))
    (kept_by_changes changes rows (all_map IsAsideKept IsChangeKept (λ change is. is.kept) changes all) kept.keys)
    (applied_formed is_formed changes (all_map IsAsideKept (IsPut is_formed) (λ change is. is.formed) changes all) rows kept.formed)
