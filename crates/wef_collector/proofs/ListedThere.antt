-- Subscriptions that are listed are those that their names lead to.
use Rattle.std.proofs.Common.{◌≡◌, ℕ, true, nat_eq, List, [], ◌∷◌, refl, ap, sym, ◌∙◌}
use Rattle.std.proofs.lemmas.Bool.{eqb-true}
use Rattle.std.proofs.lemmas.List.Elements.{All-nil, All-cons, All-head, All-tail, filter_passes}
use Rattle.std.specs.FinMap as finite
use Rattle.std.specs.List.{All, cons_option, filter_map}
use Rattle.std.specs.Option.{option_and_then, option_map}
use Rattle.std.specs.Prelude.{Option, Some, None, is_some}
use Rattle.wef_collector.proofs.Hits.{one_name}
use Rattle.wef_documents.proofs.KeptBack.{kept_says}
use Rattle.wef_documents.specs.Kept.{read_kept}
use Rattle.wef_eventing.specs.declared.subscriptions.Subscription.{Subscription}
use Rattle.wef_keeper.proofs.Stands.{Stands, rows_stand}
use Rattle.wef_keeper.specs.Rows.{Rows, rows_after}
use Rattle.wef_keeper.specs.Sections.{is_under}
use Rattle.wef_keeper.specs.declared.keys.Depth.TheVariants.{Kind}
use Rattle.wef_keeper.specs.declared.keys.Key.{Key}
use Rattle.wef_keeper.specs.declared.keys.Row.{Row}
use Rattle.wef_collector_rows.specs.Keys.{subscription_key}
use Rattle.wef_collector_reports.specs.Listing.{listed_by, listed_of}
use Rattle.wef_collector_rows.specs.Standing.{standing, standing_by, standing_of, subscription_rows}
use Rattle.wef_collector.specs.There.{HaveOwnKeys, ListedAreThere, standing_as}
use Rattle.wef_collector_reports.specs.declared.listing.Listed.{Listed}

-- ---- a kept subscription has the name that it was read by

kept_name : (u body : List ℕ) (s : Subscription) → read_kept u body ≡ Some s → s.name ≡ u
kept_name u body s e = one_name s.name u (kept_says u body s e).1

-- ---- a row and what is listed of it

as_listed : (value : ℕ) (u body : List ℕ) (kept : Option Subscription) (l : Listed) → read_kept u body ≡ kept → option_map (listed_by value) kept ≡ Some l
    → (l.subscription.name ≡ u) × (standing_by value kept ≡ standing_as l)
as_listed value u body None l e is = cc
as_listed value u body (Some s) l e is =
    let made : listed_by value s ≡ l = cc in
    (sym (ap (λ (x : Listed). x.subscription.name) made) ∙ kept_name u body s e, ap standing_as made)

one_is_there : (rows : Rows) (row : Row) (l : Listed) → HaveOwnKeys rows → Stands rows row → nat_eq 1 row.key.kind ≡ true → listed_of row ≡ Some l
    → standing rows l.subscription.name ≡ standing_as l
one_is_there rows row l own stands kind is =
    let u = row.key.sub in
    let key = own row.key (sym (eqb-true 1 row.key.kind kind)) (ap is_some stands) in
    let read : option_map (listed_by row.value) (read_kept u row.body) ≡ Some l =
    sym (ap (option_and_then (λ (name : List ℕ). option_map (listed_by row.value) (read_kept name row.body))) key.reads_back) ∙ is in
    let both = as_listed row.value u row.body (read_kept u row.body) l refl read in
    ap (standing rows) both.0 ∙ ap (λ (k : Key). standing_of u (finite.get rows k)) (sym key.own) ∙ ap (standing_of u) stands ∙ both.1

-- all of them
all_are_there : (rows : Rows) (rs : List Row) → HaveOwnKeys rows → All (Stands rows) rs → All (λ (row : Row). nat_eq 1 row.key.kind ≡ true) rs
    → All (λ (l : Listed). standing rows l.subscription.name ≡ standing_as l) (filter_map listed_of rs)
all_are_there rows [] own stand kinds = All-nil (λ (l : Listed). standing rows l.subscription.name ≡ standing_as l)
all_are_there rows (row ∷ rs) own stand kinds =
    let P = λ (l : Listed). standing rows l.subscription.name ≡ standing_as l in
    let K = λ (r : Row). nat_eq 1 r.key.kind ≡ true in
    let rest = all_are_there rows rs own (All-tail (Stands rows) row rs stand) (All-tail K row rs kinds) in
    elim (listed_of row) as (λ o. listed_of row ≡ o → All P (cons_option o (filter_map listed_of rs))) [
      | None ↦ λ is. rest
      | Some l ↦ λ is. All-cons P l (filter_map listed_of rs) (one_is_there rows row l own (All-head (Stands rows) row rs stand) (All-head K row rs kinds) is) rest
    ] refl

pub listed_are_there : ListedAreThere
listed_are_there rows own =
    all_are_there rows (subscription_rows rows) own (rows_stand Kind (subscription_key []) rows) (filter_passes (λ (row : Row). is_under Kind (subscription_key []) row.key) (rows_after (subscription_key []) rows))
