-- What is told of a store after a call that keeps its rows.
use Rattle.std.proofs.Common.{◌≡◌, true, subst, Option, Some, None, IfSome}
use Rattle.std.specs.Prelude.{Result, Ok, Err, IfOk}
use Rattle.wef_keeper.specs.Keeping.{Store, Follows, KeepsRows, OfRows, Stays, WhereTold}
use Rattle.wef_keeper.specs.Rows.{Rows}

pub follows_kept : (before now : Option Rows) (Holds : Rows → Rows → Type 0) → Stays before now → Follows before now Holds → IfSome now (λ rows. Holds rows rows)
follows_kept before None Holds stays follows = tt
follows_kept before (Some rows) Holds stays follows = subst (λ (o : Option Rows). WhereTold o (λ told. Holds told rows)) stays follows

-- a fact of the rows that an opened store keeps is a fact of those that it tells now
pub told_now : (before now : Store) (Holds : Rows → Rows → Type 0) → before.opened ≡ true → KeepsRows before now → OfRows before now Holds → IfSome now.rows (λ rows. Holds rows rows)
told_now before now Holds opened keeps of = follows_kept before.rows now.rows Holds (keeps opened).0 (of opened)

-- what was said of what was told before is said of what is told now
pub told_still : {X : Type 0} (before now : Option X) (Holds : X → Type 0) → Stays before now → IfSome before Holds → IfSome now Holds
told_still before None Holds stays holds = tt
told_still {X = X} before (Some told) Holds stays holds = subst (λ (o : Option X). IfSome o Holds) stays holds

-- a fact of all is one of what is told
pub told_any : {X : Type 0} (told : Option X) (P : X → Type 0) → ((x : X) → P x) → IfSome told P
told_any None P gives = tt
told_any (Some x) P gives = gives x

-- a fact of what is told gives another
pub told_map : {X : Type 0} (told : Option X) (P Q : X → Type 0) → ((x : X) → P x → Q x) → IfSome told P → IfSome told Q
told_map None P Q gives holds = tt
told_map (Some x) P Q gives holds = gives x holds

-- two facts of what is told give a third
pub told_both : {X : Type 0} (told : Option X) (P Q R : X → Type 0) → IfSome told P → IfSome told Q → ((x : X) → P x → Q x → R x) → IfSome told R
told_both None P Q R p q gives = tt
told_both (Some x) P Q R p q gives = gives x p q

-- a fact of an answer and two of what is told give one of both
pub told_ok : {A E X : Type 0} (result : Result A E) (told : Option X) (P : A → Type 0) (Q S : X → Type 0) (R : X → A → Type 0) → IfOk result P → IfSome told Q → IfSome told S
    → ((x : X) (a : A) → P a → Q x → S x → R x a) → IfSome told (λ x. IfOk result (R x))
told_ok result None P Q S R p q s gives = tt
told_ok (Ok a) (Some x) P Q S R p q s gives = gives x a p q s
told_ok (Err fault) (Some x) P Q S R p q s gives = tt

-- a fact of two things that are told, the other one first
pub told_swap : {X Y : Type 0} (first : Option X) (second : Option Y) (P : X → Y → Type 0) → IfSome first (λ x. IfSome second (P x)) → IfSome second (λ y. IfSome first (λ x. P x y))
told_swap first None P holds = tt
told_swap None (Some y) P holds = tt
told_swap (Some x) (Some y) P holds = holds

-- ---- what follows of what was told before

-- what is told now follows from itself
pub follows_self : {X : Type 0} (told : Option X) (Holds : X → X → Type 0) → IfSome told (λ x. Holds x x) → Follows told told Holds
follows_self None Holds holds = tt
follows_self (Some x) Holds holds = holds

-- a fact that follows, with one of what was told before
pub follows_with : {X Y : Type 0} (before : Option X) (now : Option Y) (P R : X → Y → Type 0) (Q : X → Type 0) → Follows before now P → IfSome before Q → ((x : X) (y : Y) → P x y → Q x → R x y) → Follows before now R
follows_with before None P R Q follows told gives = tt
follows_with None (Some y) P R Q follows told gives = absurd follows
follows_with (Some x) (Some y) P R Q follows told gives = gives x y follows told

-- two facts that follow give a third
pub follows_both : {X Y : Type 0} (before : Option X) (now : Option Y) (P Q R : X → Y → Type 0) → Follows before now P → Follows before now Q → ((x : X) (y : Y) → P x y → Q x y → R x y) → Follows before now R
follows_both before None P Q R first second gives = tt
follows_both None (Some y) P Q R first second gives = absurd first
follows_both (Some x) (Some y) P Q R first second gives = gives x y first second

-- a fact of what follows, for whatever else is told
pub follows_told : {X Y Z : Type 0} (also : Option Z) (before : Option X) (now : Option Y) (P : Z → X → Y → Type 0) → Follows before now (λ x y. Unit {0}) → IfSome also (λ z. Follows before now (P z))
    → Follows before now (λ x y. IfSome also (λ z. P z x y))
follows_told also before None P tells holds = tt
follows_told also None (Some y) P tells holds = absurd tells
follows_told None (Some x) (Some y) P tells holds = tt
follows_told (Some z) (Some x) (Some y) P tells holds = holds
