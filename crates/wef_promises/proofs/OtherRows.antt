-- What is changed of leases, and of when sources were heard, leaves each row of another kind.
use Rattle.std.proofs.Common.{◌≡◌, ◌≢◌, ℕ, ◌≤◌, ◌||◌, Bool, false, List, [], ◌∷◌, refl, ap, sym, ◌∙◌, arith}
use Rattle.std.proofs.lemmas.Bool.{cond_both}
use Rattle.std.specs.Prelude.{Option, Some, None}
use Rattle.std.specs.FinMap as finite
use Rattle.std.specs.List.{AllByRecursion}
use Rattle.wef_base.specs.Names.{same}
use Rattle.wef_collector.proofs.Hearing.{others_by_hearing}
use Rattle.wef_collector.specs.Responses.{lease_changes}
use Rattle.wef_collector.specs.Taken.{heard_changes}
use Rattle.wef_collector.specs.declared.responses.Leasing.{Leasing}
use Rattle.wef_collector.specs.declared.responses.Leasing.TheVariants.{Leases, Clears, Stays}
use Rattle.wef_collector_leases.specs.Changes.{delete_kept, delete_lease, delete_named, end_lease, is_lease, put_lease, put_over, release_changes}
use Rattle.wef_collector_leases.specs.Leases.{lease_at, lease_rows}
use Rattle.wef_collector_leases.specs.declared.leases.Lease as leases
use Rattle.wef_collector_rows.specs.Keys.{heard_key}
use Rattle.wef_keeper.specs.Kinds.{number_of}
use Rattle.wef_keeper.specs.Laws.{get-unnamed}
use Rattle.wef_keeper.specs.Rows.{Rows, applied, is_named, key_of}
use Rattle.wef_keeper.specs.declared.keys.Change.{Change}
use Rattle.wef_keeper.specs.declared.keys.Key.{Key}
use Rattle.wef_keeper.specs.declared.kinds.RowKind.TheVariants.{Heard, Lease, Loose}
use Rattle.wef_pairs.proofs.Takes.{kind_apart}
use Rattle.wef_safety.proofs.Aside.{AreAside}
use Rattle.wef_safety.proofs.LeaseRows.{all_released, leases_are_rows}

-- ---- leases

-- a change is of the row of a lease
abbrev IsOfLease : Change → Type 0
IsOfLease change = (key_of change).kind ≡ number_of Lease

abbrev AreOfLeases : List Change → Type 0
AreOfLeases changes = AllByRecursion IsOfLease changes

unnamed : (changes : List Change) (key : Key) → number_of Lease ≢ key.kind → AreOfLeases changes → is_named changes key ≡ false
unnamed [] key other all = refl
unnamed (change ∷ changes) key other all =
    ap (λ (t : Bool). t || is_named changes key) (kind_apart (key_of change) key (λ one. other (sym all.0 ∙ one))) ∙ unnamed changes key other all.1

-- each row of another kind stays
stays : (changes : List Change) (rows : Rows) (key : Key) → number_of Lease ≢ key.kind → AreOfLeases changes → finite.get (applied changes rows) key ≡ finite.get rows key
stays changes rows key other all = get-unnamed changes rows key (unnamed changes key other all)

put_of_lease : (u s : List ℕ) (lease : leases.Lease) (kept : Option leases.Lease) → AreOfLeases (put_over u s lease kept)
put_of_lease u s lease None = (refl, tt)
put_of_lease u s lease (Some kept) = cond_both (is_lease lease kept) [] (put_lease u s lease ∷ []) AreOfLeases (λ same. tt) (λ new. (refl, tt))

delete_of_lease : (u s : List ℕ) (kept : Option leases.Lease) → AreOfLeases (delete_kept u s kept)
delete_of_lease u s None = tt
delete_of_lease u s (Some kept) = (refl, tt)

named_of_lease : (u s identifier : List ℕ) (kept : Option leases.Lease) → AreOfLeases (delete_named u s identifier kept)
named_of_lease u s identifier None = tt
named_of_lease u s identifier (Some kept) = cond_both (same kept.identifier identifier) (delete_lease u s ∷ []) [] AreOfLeases (λ own. (refl, tt)) (λ other. tt)

-- by an answer to a request
leasing_of_leases : (rows : Rows) (u s : List ℕ) (leasing : Leasing) → AreOfLeases (lease_changes rows u s leasing)
leasing_of_leases rows u s (Leases lease) = put_of_lease u s lease (lease_at rows u s)
leasing_of_leases rows u s Clears = delete_of_lease u s (lease_at rows u s)
leasing_of_leases rows u s Stays = tt

pub leasing_leaves : (rows : Rows) (u s : List ℕ) (leasing : Leasing) (key : Key) → number_of Lease ≢ key.kind →
    finite.get (applied (lease_changes rows u s leasing) rows) key ≡ finite.get rows key
leasing_leaves rows u s leasing key other = stays (lease_changes rows u s leasing) rows key other (leasing_of_leases rows u s leasing)

-- by the end of a session
pub noting_leaves : (rows : Rows) (u s identifier : List ℕ) (key : Key) → number_of Lease ≢ key.kind → finite.get (applied (end_lease rows u s identifier) rows) key ≡ finite.get rows key
noting_leaves rows u s identifier key other = stays (end_lease rows u s identifier) rows key other (named_of_lease u s identifier (lease_at rows u s))

-- where all end at once
pub releasing_leaves : (rows : Rows) (key : Key) → number_of Lease ≢ key.kind → finite.get (applied (release_changes rows) rows) key ≡ finite.get rows key
releasing_leaves rows key other = stays (release_changes rows) rows key other (all_released IsOfLease (λ own kind. kind) (lease_rows rows) (leases_are_rows rows))

-- so what stands of subscriptions and pairs stays
low_apart : (n : ℕ) → n ≤ number_of Loose → number_of Lease ≢ n
low_apart n low e = omega arith

pub leasing_aside : (rows : Rows) (u s : List ℕ) (leasing : Leasing) → AreAside (applied (lease_changes rows u s leasing) rows) rows
leasing_aside rows u s leasing key low = leasing_leaves rows u s leasing key (low_apart key.kind low)

pub noting_aside : (rows : Rows) (u s identifier : List ℕ) → AreAside (applied (end_lease rows u s identifier) rows) rows
noting_aside rows u s identifier key low = noting_leaves rows u s identifier key (low_apart key.kind low)

pub releasing_aside : (rows : Rows) → AreAside (applied (release_changes rows) rows) rows
releasing_aside rows key low = releasing_leaves rows key (low_apart key.kind low)

-- ---- when a source was heard

pub hearing_leaves : (rows : Rows) (u s : List ℕ) (now : ℕ) (key : Key) → number_of Heard ≢ key.kind → finite.get (applied (heard_changes rows u s now) rows) key ≡ finite.get rows key
hearing_leaves rows u s now key other = others_by_hearing rows u s now key (kind_apart (heard_key u s) key other)

heard_apart : (n : ℕ) → n ≤ number_of Loose → number_of Heard ≢ n
heard_apart n low e = omega arith

pub hearing_aside : (rows : Rows) (u s : List ℕ) (now : ℕ) → AreAside (applied (heard_changes rows u s now) rows) rows
hearing_aside rows u s now key low = hearing_leaves rows u s now key (heard_apart key.kind low)
