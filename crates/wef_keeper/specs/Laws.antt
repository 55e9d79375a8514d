-- What a list of changes leaves at each key, and what the number of a kind tells.
use Rattle.std.proofs.Common.{ap, ◌∙◌}
use Rattle.std.specs.Prelude.{◌≡◌, refl, ℕ, nat_le, Bool, true, false, cond, ◌&&◌, ◌||◌, if◌then◌else◌, List, [], ◌∷◌, ◌++◌, Option, Some, None}
use Rattle.std.specs.Cmp.{eq_by_cmp_equiv}
use Rattle.std.specs.FinMap as finite
use Rattle.std.specs.Ordering.{eq_by_cmp}
use Rattle.wef_keeper.specs.Kinds.{number_of, owner_of}
use Rattle.wef_keeper.specs.Rows.{Rows, applied, cell_of, cell_of_row, changed, found_after, is_named, key_cmp, key_cmp_total, key_of}
use Rattle.wef_keeper.specs.declared.keys.Change.{Change}
use Rattle.wef_keeper.specs.declared.keys.Change.TheVariants.{Put, Delete}
use Rattle.wef_keeper.specs.declared.keys.Cell.{Cell}
use Rattle.wef_keeper.specs.declared.keys.Key.{Key}
use Rattle.wef_keeper.specs.declared.kinds.Owner.{Owner}
use Rattle.wef_keeper.specs.declared.kinds.Owner.TheVariants.{Collector, Source}
use Rattle.wef_keeper.specs.declared.kinds.RowKind.{RowKind}

-- the last change that names a key says what stands there
abbrev pub LastChangeDecides : Type 0
LastChangeDecides = (changes : List Change) (rows : Rows) (key : Key) → finite.get (applied changes rows) key ≡ found_after changes key (finite.get rows key)

-- a key that no change names keeps what stands there
abbrev pub OthersStay : Type 0
OthersStay = (changes : List Change) (rows : Rows) (key : Key) → is_named changes key ≡ false → finite.get (applied changes rows) key ≡ finite.get rows key

-- two lists of changes, one after the other, are one list
abbrev pub ListsJoin : Type 0
ListsJoin = (first second : List Change) (rows : Rows) → applied (first ++ second) rows ≡ applied second (applied first rows)

turned : (key q : Key) → eq_by_cmp key_cmp q key ≡ eq_by_cmp key_cmp key q
turned key q = (eq_by_cmp_equiv key_cmp_total).symm q key

pub get-changed : (change : Change) (rows : Rows) (q : Key) → finite.get (changed change rows) q ≡ cond (eq_by_cmp key_cmp (key_of change) q) (cell_of change) (finite.get rows q)
get-changed (Put row) rows q = finite.get-insert key_cmp_total rows row.key (cell_of_row row) q ∙ ap (λ b. cond b (Some (cell_of_row row)) (finite.get rows q)) (turned row.key q)
get-changed (Delete key) rows q = finite.get-remove key_cmp_total rows key q ∙ ap (λ b. cond b None (finite.get rows q)) (turned key q)

pub get-applied : LastChangeDecides
get-applied [] rows q = refl
get-applied (change ∷ changes) rows q = get-applied changes (changed change rows) q ∙ ap (found_after changes q) (get-changed change rows q)

pub or_left : (a b : Bool) → (a || b) ≡ false → a ≡ false
or_left true b e = e
or_left false b e = refl

pub or_right : (a b : Bool) → (a || b) ≡ false → b ≡ false
or_right true b e = cc
or_right false b e = e

-- a key that no change names keeps its cell
pub found_unnamed : (changes : List Change) (q : Key) (cell : Option Cell) → is_named changes q ≡ false → found_after changes q cell ≡ cell
found_unnamed [] q cell e = refl
found_unnamed (change ∷ changes) q cell e =
    ap (λ b. found_after changes q (cond b (cell_of change) cell)) (or_left _ _ e) ∙ found_unnamed changes q cell (or_right (eq_by_cmp key_cmp (key_of change) q) _ e)

pub get-unnamed : OthersStay
get-unnamed changes rows q e = get-applied changes rows q ∙ found_unnamed changes q (finite.get rows q) e

pub applied-append : ListsJoin
applied-append [] second rows = refl
applied-append (change ∷ first) second rows = applied-append first second (changed change rows)

-- no two kinds have one number
abbrev pub NumbersTellKinds : Type 0
NumbersTellKinds = (one other : RowKind) → number_of one ≡ number_of other → one ≡ other

-- the owner of the kind of each number: 1 to 8 are the collector's, 9 to 12 the source's
abbrev pub owner_at : ℕ → Option Owner
owner_at n = if nat_le 1 n && nat_le n 8 then Some Collector else if nat_le 9 n && nat_le n 12 then Some Source else None

abbrev pub NumbersTellOwners : Type 0
NumbersTellOwners = (kind : RowKind) → owner_at (number_of kind) ≡ Some (owner_of kind)
