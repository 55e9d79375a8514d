-- Rows of their form stay so, over whatever a call does to its store.
use Rattle.std.proofs.Common.{◌≡◌, Bool, true, false, cond, List, [], ◌∷◌, refl, sym, subst, inl, inr}
use Rattle.std.specs.FinMap as finite
use Rattle.std.specs.List.{AllByRecursion}
use Rattle.std.specs.Cmp.{Equal-is}
use Rattle.std.specs.Ordering.{eq_by_cmp}
use Rattle.std.specs.Prelude.{Option, Some, None, IfSome}
use Rattle.wef_keeper.specs.Forms.{ArePassed, ArePut, IsPut}
use Rattle.wef_keeper.specs.Keeping.{Follows, IsBeforeOrAfter, IsOneOf, WhereTold}
use Rattle.wef_keeper.specs.Laws.{get-changed}
use Rattle.wef_keeper.specs.Rows.{Rows, applied, cell_of, changed, key_cmp, key_cmp_exact, key_of, row_of}
use Rattle.wef_keeper.specs.declared.keys.Cell.{Cell}
use Rattle.wef_keeper.specs.declared.keys.Change.{Change}
use Rattle.wef_keeper.specs.declared.keys.Change.TheVariants.{Put, Delete}
use Rattle.wef_keeper.specs.declared.keys.Key.{Key}
use Rattle.wef_keeper.specs.declared.keys.Row.{Row}

-- ---- changes

-- what a change leaves at a key is of its form
at_key : (is_formed : Row → Bool) (change : Change) (rows : Rows) (q : Key) → IsPut is_formed change → ArePassed is_formed rows → (named : Bool) → eq_by_cmp key_cmp (key_of change) q ≡ named
    → IfSome (cond named (cell_of change) (finite.get rows q)) (λ cell. is_formed (row_of (q, cell)) ≡ true)
at_key is_formed (Put row) rows q put formed true one = subst (λ (key : Key). is_formed (record { key = key; value = row.value; body = row.body }) ≡ true) (key_cmp_exact row.key q ((Equal-is (key_cmp row.key q)).0 one)) put
at_key is_formed (Delete key) rows q put formed true one = tt
at_key is_formed change rows q put formed false one = formed q

changed_formed : (is_formed : Row → Bool) (change : Change) (rows : Rows) → IsPut is_formed change → ArePassed is_formed rows → ArePassed is_formed (changed change rows)
changed_formed is_formed change rows put formed q =
    subst (λ (found : Option Cell). IfSome found (λ cell. is_formed (row_of (q, cell)) ≡ true)) (sym (get-changed change rows q)) (at_key is_formed change rows q put formed (eq_by_cmp key_cmp (key_of change) q) refl)

-- changes that put rows of their form alone leave such rows
pub applied_formed : (is_formed : Row → Bool) (changes : List Change) → ArePut is_formed changes → (rows : Rows) → ArePassed is_formed rows → ArePassed is_formed (applied changes rows)
applied_formed is_formed [] put rows formed = formed
applied_formed is_formed (change ∷ changes) put rows formed = applied_formed is_formed changes put.1 (changed change rows) (changed_formed is_formed change rows put.0 formed)

-- ---- images

one_formed : (P : Rows → Type 0) (images : List Rows) (rows : Rows) → AllByRecursion P images → IsOneOf images rows → P rows
one_formed P [] rows all one = absurd one
one_formed P (image ∷ []) rows all one = subst P (sym one) all.0
one_formed P (image ∷ next ∷ images) rows all one = elim one [ inl is ↦ subst P (sym is) all.0 | inr later ↦ one_formed P (next ∷ images) rows all.1 later ]

pub all_weaker : (P Q : Rows → Type 0) → ((rows : Rows) → P rows → Q rows) → (images : List Rows) → AllByRecursion P images → AllByRecursion Q images
all_weaker P Q gives [] all = tt
all_weaker P Q gives (image ∷ images) all = (gives image all.0, all_weaker P Q gives images all.1)

-- after reads alone
pub narrowed_formed : (P : Rows → Type 0) (before now : Option (List Rows)) → IfSome before (λ old. IfSome now (AllByRecursion (IsOneOf old))) → IfSome before (λ old. AllByRecursion P old → IfSome now (AllByRecursion P))
narrowed_formed P None now narrows = tt
narrowed_formed P (Some old) None narrows = λ _. tt
narrowed_formed P (Some old) (Some all) narrows = λ formed. all_weaker (IsOneOf old) P (λ rows one. one_formed P old rows formed one) all narrows

-- after a commit that failed
pub left_formed : (P : Rows → Type 0) (changes : List Change) → ((rows : Rows) → P rows → P (applied changes rows)) → (before : Option (List Rows)) (mid : Option Rows) (now : Option (List Rows))
    → IfSome before (λ old. IfSome mid (IsOneOf old)) → Follows mid now (λ found left. AllByRecursion (IsBeforeOrAfter changes found) left) → IfSome before (λ old. AllByRecursion P old → IfSome now (AllByRecursion P))
left_formed P changes keeps None mid now finds follows = tt
left_formed P changes keeps (Some old) mid None finds follows = λ _. tt
left_formed P changes keeps (Some old) None (Some left) finds follows = absurd follows
left_formed P changes keeps (Some old) (Some found) (Some left) finds follows = λ formed.
    let here = one_formed P old found formed finds in
    all_weaker (IsBeforeOrAfter changes found) P (λ rows either. elim either [ inl is ↦ subst P (sym is) here | inr is ↦ subst P (sym is) (keeps found here) ]) left follows

-- after one that is done
pub done_formed : (P : Rows → Type 0) (changes : List Change) → ((rows : Rows) → P rows → P (applied changes rows)) → (before : Option (List Rows)) (mid now : Option Rows) (left : Option (List Rows))
    → IfSome before (λ old. IfSome mid (IsOneOf old)) → Follows mid now (λ found after. after ≡ applied changes found) → IfSome left (λ all. WhereTold now (λ stand. all ≡ stand ∷ []))
    → IfSome before (λ old. AllByRecursion P old → IfSome left (AllByRecursion P))
done_formed P changes keeps None mid now left finds follows only = tt
done_formed P changes keeps (Some old) mid now None finds follows only = λ _. tt
done_formed P changes keeps (Some old) mid None (Some all) finds follows only = absurd only
done_formed P changes keeps (Some old) None (Some after) (Some all) finds follows only = absurd follows
done_formed P changes keeps (Some old) (Some found) (Some after) (Some all) finds follows only = λ formed.
    subst (AllByRecursion P) (sym only) (subst P (sym follows) (keeps found (one_formed P old found formed finds)), tt)
