-- What changes where leases begin, go on and end lets what is kept stay so.
use Rattle.std.proofs.Common.{◌≡◌, ℕ, ◌≤◌, ◌&&◌, nat_le, true, List, [], ◌∷◌, ap, sym, ◌∙◌, arith}
use Rattle.std.proofs.lemmas.Bool.{cond_both, eqb-true}
use Rattle.std.proofs.lemmas.Bool.Decides.{nat_tests}
use Rattle.std.proofs.lemmas.Str.{chars-encodes}
use Rattle.std.specs.List.{AllByRecursion, filter, list_all}
use Rattle.std.specs.Prelude.{Option, Some, None}
use Rattle.std.specs.Str.{chars}
use Rattle.wef_base.specs.Characters.{is_xml_char, is_xml_text}
use Rattle.wef_base.specs.Names.{same}
use Rattle.wef_base.specs.declared.numbers.TheConstants.{MAX}
use Rattle.wef_collector_leases.specs.Changes.{clear_lease, delete_kept, delete_lease, delete_named, deletes, end_lease, is_lease, put_lease, put_over, release_changes, replace_lease}
use Rattle.wef_collector_leases.specs.Leases.{lease_at, lease_rows}
use Rattle.wef_collector_leases.specs.declared.leases.Lease.{Lease}
use Rattle.wef_collector_rows.specs.Forms.{is_formed, is_lease_row, is_source_name, is_subscription_name}
use Rattle.wef_collector_rows.specs.Keys.{lease_key}
use Rattle.wef_documents.proofs.TrimmedTexts.{xml_scalars}
use Rattle.wef_front_source.specs.Sending.{IsPlainText}
use Rattle.wef_keeper.specs.Forms.{IsPut}
use Rattle.wef_keeper.specs.Kinds.{number_of}
use Rattle.wef_keeper.specs.Rows.{Rows, rows_after}
use Rattle.wef_keeper.specs.Sections.{is_under}
use Rattle.wef_keeper.specs.declared.keys.Change.{Change}
use Rattle.wef_keeper.specs.declared.keys.Change.TheVariants.{Delete}
use Rattle.wef_keeper.specs.declared.keys.Depth.TheVariants.{Kind}
use Rattle.wef_keeper.specs.declared.keys.Key.{Key}
use Rattle.wef_keeper.specs.declared.keys.Row.{Row}
use Rattle.wef_keeper.specs.declared.kinds.RowKind.TheVariants as kinds
use Rattle.wef_xml.specs.Good.{IsXmlText}
use Rattle.wef_safety.proofs.Aside.{IsAsideKept}
use Rattle.wef_safety.proofs.RowMoves.{lease_put}

-- A lease may be kept: its identifier is a text that a header says as it is, and its end is a number that a row may have.
pub record MayStand (lease : Lease) : Type 0 where
  pub identifier : IsPlainText lease.identifier
  pub expiry : lease.expiry ≤ MAX

-- A subscription and a source have names that read back.
pub record HaveNames (u s : List ℕ) : Type 0 where
  pub subscription : is_subscription_name u ≡ true
  pub source : is_source_name s ≡ true

le_tested : (n m : ℕ) → n ≤ m → nat_le n m ≡ true
le_tested n m h = grind (arith, nat_tests)

-- each character of a text that XML allows passes the test of texts
text_passes : (text : List ℕ) → IsXmlText text → is_xml_text text ≡ true
text_passes text is = ap (list_all is_xml_char) (ap chars is.spelt ∙ chars-encodes is.characters (xml_scalars is.characters is.allowed)) ∙ is.allowed

-- it makes a row of its form
put_formed : (u s : List ℕ) (lease : Lease) → HaveNames u s → MayStand lease → IsPut is_formed (put_lease u s lease)
unfolding is_formed is_lease_row
put_formed u s lease names may =
    λ i. (names.subscription i && names.source i) && true && true && le_tested lease.expiry MAX may.expiry i && text_passes lease.identifier may.identifier.1 i

put_is : (u s : List ℕ) (lease : Lease) → HaveNames u s → MayStand lease → IsAsideKept (put_lease u s lease)
put_is u s lease names may = record {
  aside = omega arith;
  kept = lease_put u s lease may.identifier;
  formed = put_formed u s lease names may;
}

delete_is : (u s : List ℕ) → IsAsideKept (delete_lease u s)
delete_is u s = record { aside = omega arith; kept = tt; formed = tt }

-- a lease that is put in place of another, or of none
pub replaced : (rows : Rows) (u s : List ℕ) (lease : Lease) → HaveNames u s → MayStand lease → AllByRecursion IsAsideKept (replace_lease rows u s lease)
replaced rows u s lease names may = by (lease_at rows u s)
  where
    by : (found : Option Lease) → AllByRecursion IsAsideKept (put_over u s lease found)
    by None = (put_is u s lease names may, tt)
    by (Some kept) = cond_both (is_lease lease kept) [] (put_lease u s lease ∷ []) (AllByRecursion IsAsideKept) (λ _. tt) (λ _. (put_is u s lease names may, tt))

-- one that ends
pub cleared : (rows : Rows) (u s : List ℕ) → AllByRecursion IsAsideKept (clear_lease rows u s)
cleared rows u s = by (lease_at rows u s)
  where
    by : (found : Option Lease) → AllByRecursion IsAsideKept (delete_kept u s found)
    by None = tt
    by (Some kept) = (delete_is u s, tt)

-- one that ends where its session is named so
pub ended : (rows : Rows) (u s identifier : List ℕ) → AllByRecursion IsAsideKept (end_lease rows u s identifier)
ended rows u s identifier = by (lease_at rows u s)
  where
    by : (found : Option Lease) → AllByRecursion IsAsideKept (delete_named u s identifier found)
    by None = tt
    by (Some kept) = cond_both (same kept.identifier identifier) (delete_lease u s ∷ []) [] (AllByRecursion IsAsideKept) (λ _. (delete_is u s, tt)) (λ _. tt)

-- ---- all leases

-- a row is that of a lease
abbrev pub IsLeaseRow : Row → Type 0
IsLeaseRow row = row.key.kind ≡ number_of kinds.Lease

under_leases : (found : List Row) → AllByRecursion IsLeaseRow (filter (λ (row : Row). is_under Kind (lease_key [] []) row.key) found)
under_leases [] = tt
under_leases (row ∷ found) =
    let rest = filter (λ (r : Row). is_under Kind (lease_key [] []) r.key) found in
    cond_both (is_under Kind (lease_key [] []) row.key) (row ∷ rest) rest (AllByRecursion IsLeaseRow)
    (λ own. (sym (eqb-true (number_of kinds.Lease) row.key.kind own), under_leases found)) (λ other. under_leases found)

pub leases_are_rows : (rows : Rows) → AllByRecursion IsLeaseRow (lease_rows rows)
leases_are_rows rows = under_leases (rows_after (lease_key [] []) rows)

-- what holds of each deletion of such a row holds of all of them
pub all_released : (P : Change → Type 0) → ((key : Key) → key.kind ≡ number_of kinds.Lease → P (Delete key)) → (found : List Row) → AllByRecursion IsLeaseRow found →
    AllByRecursion P (deletes found)
all_released P gives [] all = tt
all_released P gives (row ∷ found) all = (gives row.key all.0, all_released P gives found all.1)

row_released : (key : Key) → key.kind ≡ number_of kinds.Lease → IsAsideKept (Delete key)
row_released key kind = record { aside = omega (arith, kind); kept = tt; formed = tt }

-- all that end at once
pub released : (rows : Rows) → AllByRecursion IsAsideKept (release_changes rows)
released rows = all_released IsAsideKept row_released (lease_rows rows) (leases_are_rows rows)
