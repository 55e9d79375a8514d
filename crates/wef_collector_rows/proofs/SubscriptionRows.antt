-- What the row at the key of a subscription's name tells.
use Rattle.std.proofs.Common.{◌≡◌, true, false, List, ℕ, sym, ap, ◌∙◌, subst}
use Rattle.std.specs.FinMap as map
use Rattle.std.specs.Option.{option_map}
use Rattle.std.specs.Prelude.{Option, Some, None, IfOk, IfSome, OnOk, Result, Ok, Err}
use Rattle.wef_documents.specs.Kept.{read_kept}
use Rattle.wef_keeper.specs.Keeping.{row_at}
use Rattle.wef_keeper.specs.Rows.{Rows, row_of}
use Rattle.wef_keeper.specs.declared.access.StoreFault.{StoreFault}
use Rattle.wef_keeper.specs.declared.keys.Cell.{Cell}
use Rattle.wef_keeper.specs.declared.keys.Key.{Key}
use Rattle.wef_keeper.specs.declared.keys.Row.{Row}
use Rattle.wef_keeper.proofs.Forming.{no_row}
use Rattle.wef_collector_rows.specs.Forms.{AreFormed, is_formed, is_subscription_row}
use Rattle.wef_collector_rows.specs.Judged.{IsFormedAt}
use Rattle.wef_collector_rows.specs.Keys.{subscription_key}
use Rattle.wef_collector_rows.specs.Standing.{standing, standing_by, standing_of}
use Rattle.wef_collector_rows.specs.declared.standings.Standing.{Standing}
use Rattle.wef_collector_rows.proofs.RowForms.{subscription_formed}

-- what a row says of the name that its key has
told_by : Row → Standing
told_by row = standing_by row.value (read_kept row.key.sub row.body)

-- a row that is found at a key is the one that stands there
found_there : (cell : Option Cell) (key : Key) (row : Row) → Some row ≡ option_map (λ cell. row_of (key, cell)) cell → (row.key ≡ key) × (told_by row ≡ standing_of key.sub cell)
unfolding told_by
found_there None key row is = let bad : ⊥ = cc in absurd bad
found_there (Some cell) key row is =
    let same : row ≡ row_of (key, cell) = cc in
    (ap (λ (r : Row). r.key) same, ap (λ (r : Row). standing_by r.value (read_kept r.key.sub r.body)) same)

-- so it is of its form by the test of subscriptions alone
found_form : (rows : Rows) (key : Key) (u : List ℕ) (row : Row) → key ≡ subscription_key u → Some row ≡ row_at key rows → is_subscription_row row ≡ is_formed row
found_form rows key u row is found =
    subscription_formed row (ap (λ (k : Key). k.kind) ((found_there (map.get rows key) key row found).0 ∙ is))

pub standing_found : (result : Result Standing StoreFault) (told : Option Rows) (key : Key) (u : List ℕ) (row : Row) → key ≡ subscription_key u → IfSome told (λ rows. Some row ≡ row_at key rows)
    → IfOk result (λ s. s ≡ standing_by row.value (read_kept row.key.sub row.body)) → IfSome told (λ rows. IfOk result (λ s. s ≡ standing rows u))
unfolding told_by
standing_found result None key u row is found says = tt
standing_found (Err fault) (Some rows) key u row is found says = tt
standing_found (Ok s) (Some rows) key u row is found says =
    says ∙ (found_there (map.get rows key) key row found).1 ∙ ap (λ (k : Key). standing_of k.sub (map.get rows k)) is

pub standing_judged : {A : Type 0} (result : Result A StoreFault) (told : Option Rows) (key : Key) (u : List ℕ) (row : Row) → key ≡ subscription_key u → IfSome told (λ rows. Some row ≡ row_at key rows)
    → OnOk result (is_subscription_row row ≡ true) → IfSome told (λ rows. OnOk result (IsFormedAt (subscription_key u) rows))
standing_judged result None key u row is found well = tt
standing_judged (Err fault) (Some rows) key u row is found well = tt
standing_judged (Ok answer) (Some rows) key u row is found well =
    let formed : is_formed row ≡ true = sym (found_form rows key u row is found) ∙ well in
    let there : IsFormedAt key rows = subst (λ (o : Option Row). IfSome o (λ row. is_formed row ≡ true)) found formed in
    subst (λ (k : Key). IsFormedAt k rows) is there

-- where it isn't of its form, not all rows are
pub no_standing : (told : Option Rows) (key : Key) (u : List ℕ) (row : Row) → key ≡ subscription_key u → is_subscription_row row ≡ false → IfSome told (λ rows. Some row ≡ row_at key rows) → IfSome told (λ rows. AreFormed rows → ⊥)
no_standing None key u row is ill found = tt
no_standing (Some rows) key u row is ill found = no_row is_formed (Some rows) key row (sym (found_form rows key u row is found) ∙ ill) found
