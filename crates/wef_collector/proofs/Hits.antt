-- When a change names a key, and what lists of changes leave at one.
use Rattle.std.proofs.Common.{◌≡◌, ℕ, Bool, true, false, ◌||◌, cond, List, [], ◌∷◌, ◌++◌, refl, ap, sym, ◌∙◌, if◌then◌else◌}
use Rattle.std.specs.Prelude.{Option}
use Rattle.std.specs.declared.cmp.Ordering.{Ordering}
use Rattle.std.specs.declared.cmp.Ordering.TheVariants.{Less, Equal, Greater}
use Rattle.std.specs.Cmp.{eq_by_cmp_equiv}
use Rattle.std.specs.Cmp.Lexicographic.{slice_cmp, texts_ties, nat_list_eq_equiv}
use Rattle.std.specs.FinMap.{nat_cmp-IsAntisymmetric, slice_cmp-IsAntisymmetric}
use Rattle.std.specs.List.{flat_map}
use Rattle.std.specs.Ordering.{eq_by_cmp, is_eq, nat_cmp}
use Rattle.wef_base.specs.Names.{same}
use Rattle.wef_batch.specs.WellFormed.{is_in}
use Rattle.wef_keeper.specs.declared.keys.Cell.{Cell}
use Rattle.wef_keeper.specs.declared.keys.Change.{Change}
use Rattle.wef_keeper.specs.declared.keys.Key.{Key}
use Rattle.wef_keeper.specs.Rows.{found_after, cell_of, is_named, key_cmp, key_cmp_exact, key_cmp_total, key_of}

-- a test that can't be true is false
pub refuted : (t : Bool) → (t ≡ true → ⊥) → t ≡ false
refuted true no_way = absurd (no_way refl)
refuted false no_way = refl

pub not_both : {t : Bool} → t ≡ true → t ≡ false → ⊥
not_both yes_is no_is = cc

tie : (r : Ordering) → is_eq r ≡ true → r ≡ Equal
tie Less e = cc
tie Equal e = refl
tie Greater e = cc

-- names that are the same byte for byte are one
pub one_name : (a b : List ℕ) → same a b ≡ true → a ≡ b
one_name a b e = slice_cmp-IsAntisymmetric nat_cmp-IsAntisymmetric a b (tie (slice_cmp nat_cmp a b) (sym (texts_ties a b) ∙ e))

pub same_self : (a : List ℕ) → same a a ≡ true
same_self a = nat_list_eq_equiv.refl a

-- the test of two keys
abbrev pub hits : Key → Key → Bool
hits k q = eq_by_cmp key_cmp k q

pub one_key : (k q : Key) → hits k q ≡ true → k ≡ q
one_key k q e = key_cmp_exact k q (tie (key_cmp k q) e)

pub hits_self : (k : Key) → hits k k ≡ true
hits_self k = (eq_by_cmp_equiv key_cmp_total).refl k

-- lists of changes, one after the other
pub found-append : (xs ys : List Change) (q : Key) (cell : Option Cell) → found_after (xs ++ ys) q cell ≡ found_after ys q (found_after xs q cell)
found-append [] ys q cell = refl
found-append (x ∷ xs) ys q cell = found-append xs ys q (cond (hits (key_of x) q) (cell_of x) cell)

-- a change that is made on a test
pub found_if : (t : Bool) (change : Change) (q : Key) (cell : Option Cell) →
    found_after (if t then change ∷ [] else []) q cell ≡ cond t (cond (hits (key_of change) q) (cell_of change) cell) cell
found_if true change q cell = refl
found_if false change q cell = refl

pub found_if_other : (t : Bool) (change : Change) (q : Key) (cell : Option Cell) → hits (key_of change) q ≡ false → found_after (if t then change ∷ [] else []) q cell ≡ cell
found_if_other true change q cell e = ap (λ (b : Bool). cond b (cell_of change) cell) e
found_if_other false change q cell e = refl

-- the same changes again for each of a list, none of which touches the key
pub found_flat_other : {X : Type 0} (changes : X → List Change) (xs : List X) (q : Key) (cell : Option Cell) →
    ((x : X) (cell : Option Cell) → found_after (changes x) q cell ≡ cell) → found_after (flat_map changes xs) q cell ≡ cell
found_flat_other changes [] q cell stays = refl
found_flat_other changes (x ∷ xs) q cell stays =
    found-append (changes x) (flat_map changes xs) q cell ∙ ap (found_after (flat_map changes xs) q) (stays x cell) ∙ found_flat_other changes xs q cell stays

once : (a b : Bool) (H : Option Cell → Option Cell) (cell : Option Cell) → ((x : Option Cell) → H (H x) ≡ H x) →
    cond b (H (cond a (H cell) cell)) (cond a (H cell) cell) ≡ cond (a || b) (H cell) cell
once true true H cell idem = idem cell
once true false H cell idem = refl
once false true H cell idem = refl
once false false H cell idem = refl

-- changes of channels, of which those of the channel c alone touch the key, and always in the same way
pub found_channels : (changes : List ℕ → List Change) (c : List ℕ) (H : Option Cell → Option Cell) (q : Key) →
    ((d : List ℕ) (cell : Option Cell) → found_after (changes d) q cell ≡ cond (same d c) (H cell) cell) → ((x : Option Cell) → H (H x) ≡ H x) →
    (channels : List (List ℕ)) (cell : Option Cell) → found_after (flat_map changes channels) q cell ≡ cond (is_in channels c) (H cell) cell
found_channels changes c H q one idem [] cell = refl
found_channels changes c H q one idem (d ∷ channels) cell =
    found-append (changes d) (flat_map changes channels) q cell
    ∙ ap (found_after (flat_map changes channels) q) (one d cell)
    ∙ found_channels changes c H q one idem channels (cond (same d c) (H cell) cell)
    ∙ once (same d c) (is_in channels c) H cell idem

-- changes that name no key but those of others
pub named-append : (xs ys : List Change) (q : Key) → is_named xs q ≡ false → is_named ys q ≡ false → is_named (xs ++ ys) q ≡ false
named-append [] ys q e f = f
named-append (x ∷ xs) ys q e f = by_first (hits (key_of x) q) (is_named xs q) (is_named (xs ++ ys) q) e (λ g. named-append xs ys q g f)
  where
    by_first : (a b d : Bool) → (a || b) ≡ false → (b ≡ false → d ≡ false) → (a || d) ≡ false
    by_first true b d e go = e
    by_first false b d e go = go e

pub named_if : (t : Bool) (change : Change) (q : Key) → hits (key_of change) q ≡ false → is_named (if t then change ∷ [] else []) q ≡ false
named_if true change q e = ap (λ (b : Bool). b || false) e
named_if false change q e = refl

pub named_flat : {X : Type 0} (changes : X → List Change) (xs : List X) (q : Key) → ((x : X) → is_named (changes x) q ≡ false) → is_named (flat_map changes xs) q ≡ false
named_flat changes [] q none = refl
named_flat changes (x ∷ xs) q none = named-append (changes x) (flat_map changes xs) q (none x) (named_flat changes xs q none)
