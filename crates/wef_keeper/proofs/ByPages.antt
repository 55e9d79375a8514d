-- Reading a section by pages.
use Rattle.std.proofs.Common.{◌≡◌, ℕ, ◌+◌, ◌<◌, min, List, [], ◌∷◌, ◌++◌, length, take, refl, ap, ◌∙◌, append-nil, arith, length-append}
use Rattle.std.proofs.lemmas.List.{length-take}
use Rattle.wef_keeper.specs.declared.keys.Key.{Key}
use Rattle.wef_keeper.specs.declared.keys.Row.{Row}
use Rattle.wef_keeper.specs.Sections.{last_key}

-- the last key is that of the last row
pub last_key-push : (after : Key) (front : List Row) (row : Row) → last_key after (front ++ row ∷ []) ≡ row.key
last_key-push after [] row = refl
last_key-push after (first ∷ front) row = last_key-push first.key front row

no_items : {X : Type 0} (xs : List X) → length xs ≡ 0 → xs ≡ []
no_items [] e = refl
no_items (x ∷ xs) e = absurd (omega arith)

-- a page that isn't full is the last one: nothing stands behind it
pub nothing_left : {X : Type 0} (n : ℕ) (all page rest : List X) → page ≡ take n all → all ≡ page ++ rest → length page < n → rest ≡ []
nothing_left n all page rest is splits short =
    let size : length page ≡ min n (length all) = ap length is ∙ length-take n all in
    let sum : length all ≡ length page + length rest = ap length splits ∙ length-append page rest in
    no_items rest (omega arith)

-- and it is all there is
pub last_page : {X : Type 0} (n : ℕ) (all page rest : List X) → page ≡ take n all → all ≡ page ++ rest → length page < n → all ≡ page
last_page n all page rest is splits short = splits ∙ ap (λ (xs : List _). page ++ xs) (nothing_left n all page rest is splits short) ∙ append-nil page
