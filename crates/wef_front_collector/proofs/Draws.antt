-- Ids that are drawn one after the other.
use Rattle.std.proofs.Common.{◌≡◌, ℕ, zero, suc, ◌+◌, ◌<◌, ◌≤◌, List, [], ◌∷◌, ◌++◌, length, drop, append_assoc, ap, refl, sym, ◌∙◌, arith}
use Rattle.std.proofs.lemmas.List.{length-drop}
use Rattle.std.specs.Prelude.{Result, OnErr}
use Rattle.std.specs.declared.result.Result.TheVariants.{Ok, Err}
use Rattle.std.specs.List.{AllByRecursion}
use Rattle.wef_bodies.specs.Laws.{IsXmlId}
use Rattle.wef_collector.specs.Memories.{drawn_in}
use Rattle.wef_collector.specs.declared.memories.Memory.{Memory}
use Rattle.wef_ids.proofs.PlainIds.{id_text_good}
use Rattle.wef_ids.specs.IdTexts.{id_of_value}
use Rattle.wef_ids.specs.Ids.{next_id, with_drawn}
use Rattle.wef_ids.specs.declared.MessageId.{MessageId}
use Rattle.wef_ids.specs.declared.ids.Ids.{Ids}
use Rattle.wef_front_collector.specs.Replies.{MayHaveDrawn, drawn_ids, ids_after, memory_after}

pub no_draws : (most : ℕ) (before now : Memory) → now ≡ before → MayHaveDrawn most before now
no_draws most before now same = (0, omega arith, same)

pub one_draw : (before now : Memory) → now ≡ drawn_in 1 before → MayHaveDrawn 1 before now
one_draw before now is = (1, omega arith, is)

-- where a call is refused behind one draw more
pub draws_behind_one : {T E : Type 0} (result : Result T E) (most : ℕ) (before mid now : Memory) → mid ≡ drawn_in 1 before → MayHaveDrawn most mid now → OnErr result (MayHaveDrawn (suc most) before now)
draws_behind_one (Ok given) most before mid now one more = tt
draws_behind_one (Err fault) most before mid now one (draws, few, is) = (suc draws, few_more, is ∙ ap (memory_after draws) one)
  where
    few_more : suc draws ≤ suc most
    few_more = omega arith

-- where it is behind so many
pub draws_so : {T E : Type 0} (result : Result T E) (most draws : ℕ) (before now : Memory) → draws ≤ most → now ≡ memory_after draws before → OnErr result (MayHaveDrawn most before now)
draws_so (Ok given) most draws before now few is = tt
draws_so (Err fault) most draws before now few is = (draws, few, is)

-- one draw more is the last
last_id : (draws : ℕ) (ids : Ids) → with_drawn 1 (ids_after draws ids) ≡ ids_after (suc draws) ids
last_id zero ids = refl
last_id (suc draws) ids = last_id draws (with_drawn 1 ids)

pub last_draw : (draws : ℕ) (memory : Memory) → drawn_in 1 (memory_after draws memory) ≡ memory_after (suc draws) memory
last_draw draws memory = λ i. record memory { ids = last_id draws memory.ids i }

-- the text of each id that is drawn is one that XML allows
pub drawn_texts : (count : ℕ) (ids : Ids) → AllByRecursion IsXmlId (drawn_ids count ids)
drawn_texts zero ids = tt
drawn_texts (suc more) ids = (id_text_good (next_id ids), drawn_texts more (with_drawn 1 ids))

-- ---- a loop that draws

-- one place more of a list is left behind the place before it
pub left_one : {A : Type 0} (xs : List A) (i : ℕ) → i < length xs → length (drop i xs) ≡ suc (length (drop (i + 1) xs))
left_one xs i less = omega (arith, length-drop i xs, length-drop (i + 1) xs)

-- ids, and those that are left to draw, are all
pub next_drawn : (ids whole : List MessageId) (n m : ℕ) (now : Ids) → n ≡ suc m → ids ++ drawn_ids n now ≡ whole
    → (ids ++ id_of_value (next_id now) ∷ []) ++ drawn_ids m (with_drawn 1 now) ≡ whole
next_drawn ids whole n m now left is =
    append_assoc ids (id_of_value (next_id now) ∷ []) (drawn_ids m (with_drawn 1 now)) ∙ ap (λ (k : ℕ). ids ++ drawn_ids k now) (sym left) ∙ is

pub next_after : (n m : ℕ) (now whole : Memory) → n ≡ suc m → memory_after n now ≡ whole → memory_after m (drawn_in 1 now) ≡ whole
next_after n m now whole left is = ap (λ (k : ℕ). memory_after k now) (sym left) ∙ is
