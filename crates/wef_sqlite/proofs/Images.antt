-- What a crash may leave is one of the images.
use Rattle.std.proofs.Common.{◌≡◌, true, List, Option, Some, None, is_some, IfSome, subst}
use Rattle.sqlite.specs.Held.{Held, state}
use Rattle.sqlite.specs.State.{HasCleanDisk}
use Rattle.sqlite_trees.specs.Tree.{Trees}
use Rattle.sqlite_trees.specs.declared.store.Store.{Ghosts}
use Rattle.wef_keeper.specs.Keeping.{IsOneOf, Store, WhereTold}
use Rattle.wef_keeper.specs.Rows.{Rows}
use Rattle.wef_sqlite.specs.Contents.{are_rows, rows_in, table_in}
use Rattle.wef_sqlite.specs.Keeping.{FindsImages, IsLeft}

pub finds_images : {S : Type 0} (g : Ghosts S) (held : Option (Held S)) (store : Store) → IsLeft g held store → FindsImages g held store
finds_images {S} g held store left last found some = go store.images left some
  where
    table : Held S
    table = found.table

    Left : List Rows → Held S → Type 0
    Left images held = HasCleanDisk (state g held) → (trees : Trees) → (state g held).may_leave trees → (are_rows (table_in trees) ≡ true) × IsOneOf images (rows_in (table_in trees))

    go : (images : Option (List Rows)) → IfSome images (λ images. WhereTold held (λ held. HasCleanDisk (state g held) → (trees : Trees) → (state g held).may_leave trees → (are_rows (table_in trees) ≡ true) × IsOneOf images (rows_in (table_in trees))))
        → is_some images ≡ true → WhereTold images (λ images. IsOneOf images last)
    go None left some = absurd (let e = some in cc)
    go (Some images) left some =
        let here = subst (λ o. WhereTold o (λ held. HasCleanDisk (state g held) → (trees : Trees) → (state g held).may_leave trees → (are_rows (table_in trees) ≡ true) × IsOneOf images (rows_in (table_in trees)))) found.is left in
        subst (IsOneOf images) found.holds (here found.clean found.trees found.left).1
