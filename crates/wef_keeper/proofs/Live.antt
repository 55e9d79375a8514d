-- The finite map that a tree with room stands for: what it answers, and its entries.
use Rattle.std.proofs.Common.{◌≡◌, Bool, true, false, cond, refl, sym, ap, ◌∙◌, Option, Some, None, List, [], ◌∷◌, OnOk, OnErr, Result, length, arith}
use Rattle.std.specs.declared.result.Result.TheVariants.{Ok, Err}
use Rattle.std.proofs.lemmas.Map.Keys.{sorted_head, sorted_tail}
use Rattle.std.specs.BTreeMap.{is_at}
use Rattle.std.specs.Cmp.{Equal-is, IsTotalOrder}
use Rattle.std.specs.FinMap as finite
use Rattle.std.specs.FinMap.{find, put}
use Rattle.std.specs.List.{filter_map, AllByRecursion}
use Rattle.std.specs.List.Sorted.{IsStrictlySortedBy}
use Rattle.std.specs.Map.{lookup, keys_of}
use Rattle.std.specs.Option.{option_flatten, option_map}
use Rattle.std.specs.Ordering.{eq_by_cmp, is_eq}
use Rattle.std.specs.declared.cmp.Ordering.{Ordering}
use Rattle.std.specs.declared.cmp.Ordering.TheVariants.{Less}
use Rattle.wef_keeper.specs.Cells.{live, settled}
use Rattle.wef_keeper.specs.Rows.{Rows, key_cmp, key_cmp_exact, key_cmp_total}
use Rattle.wef_keeper.specs.declared.keys.Cell.{Cell}
use Rattle.wef_keeper.specs.declared.keys.Key.{Key}

pub on_ok : {X E A B : Type 0} (r : Result X E) → (A → B) → OnOk r A → OnOk r B
on_ok (Ok x) f a = f a
on_ok (Err e) f a = a

pub on_err : {X E A B : Type 0} (r : Result X E) → (A → B) → OnErr r A → OnErr r B
on_err (Ok x) f a = a
on_err (Err e) f a = f a

get-settled : (key : Key) (room : Option Cell) (rows : Rows) (q : Key) → finite.get (settled key room rows) q ≡ cond (eq_by_cmp key_cmp q key) room (finite.get rows q)
get-settled key None rows q = finite.get-remove key_cmp_total rows key q
get-settled key (Some cell) rows q = finite.get-insert key_cmp_total rows key cell q

flat_cond : (b : Bool) (room : Option Cell) (rest : Option (Option Cell)) → cond b room (option_flatten rest) ≡ option_flatten (cond b (Some room) rest)
flat_cond true room rest = refl
flat_cond false room rest = refl

-- the map answers what the tree does
pub get-live : (entries : List (Key × Option Cell)) (q : Key) → finite.get (live entries) q ≡ option_flatten (lookup (is_at (key_cmp q)) entries)
get-live [] q = finite.get-empty key_cmp q
get-live (entry ∷ entries) q =
    get-settled entry.0 entry.1 (live entries) q
    ∙ ap (cond (eq_by_cmp key_cmp q entry.0) entry.1) (get-live entries q)
    ∙ flat_cond (eq_by_cmp key_cmp q entry.0) entry.1 (lookup (is_at (key_cmp q)) entries)

-- trees that answer alike stand for one map
pub live_is : (entries : List (Key × Option Cell)) (rows : Rows) → ((q : Key) → option_flatten (lookup (is_at (key_cmp q)) entries) ≡ finite.get rows q) → live entries ≡ rows
live_is entries rows same = finite.same_map key_cmp_total key_cmp_exact _ _ (λ q. get-live entries q ∙ same q)

-- ---- the entries of the map

nothing : {A : Type 0} (xs : List A) → length xs ≡ 0 → xs ≡ []
nothing [] e = refl
nothing (x ∷ xs) e = absurd (omega arith)

no_entries : finite.entries (finite.empty {X = Cell} {R = key_cmp}) ≡ []
no_entries = nothing _ (sym (finite.len-entries finite.empty) ∙ finite.len-empty key_cmp Cell)

removed : (b : Bool) (x : Option Cell) → (b ≡ true → x ≡ None) → cond b None x ≡ x
removed true x e = sym (e refl)
removed false x e = refl

-- the entries whose room is filled
abbrev pub filled : {K X : Type 0} → List (K × Option X) → List (K × X)
filled entries = filter_map (λ entry. option_map (λ x. (entry.0, x)) entry.1) entries

abbrev pub Above : {K X : Type 0} → (K → K → Ordering) → K → List (K × X) → Type 0
Above R key entries = AllByRecursion (λ k. R key k ≡ Less) (keys_of entries)

module _ {K X : Type 0} {R : K → K → Ordering} (o : IsTotalOrder R) (exact : finite.IsAntisymmetric R) where
  pub above_filled : (key : K) (entries : List (K × Option X)) → Above R key entries → Above R key (filled entries)
  above_filled key [] h = h
  above_filled key (e ∷ entries) h =
      elim e.1 as (λ room. Above R key (filled ((e.0, room) ∷ entries))) [
        | None ↦ above_filled key entries h.1
        | Some x ↦ (h.0, above_filled key entries h.1)
      ]

  find_above : (key : K) (entries : List (K × X)) → Above R key entries → find R key entries ≡ None
  find_above key [] h = refl
  find_above key (e ∷ entries) h = ap (λ r. cond (is_eq r) (Some e.1) (find R key entries)) h.0 ∙ find_above key entries h.1

  put_front : (key : K) (x : X) (entries : List (K × X)) → Above R key entries → put R key x entries ≡ (key, x) ∷ entries
  put_front key x [] h = refl
  put_front key x (e ∷ entries) h = rw h.0

-- the head of a list in order is below all that follow
above_head : {X : Type 0} (e : Key × X) (entries : List (Key × X)) → IsStrictlySortedBy key_cmp (keys_of (e ∷ entries)) → Above key_cmp e.0 entries
above_head e entries h = sorted_head key_cmp e.0 (keys_of entries) h

settled_entries : (key : Key) (room : Option Cell) (rows : Rows) (rest : List (Key × Option Cell)) → Above key_cmp key (filled rest) → finite.entries rows ≡ filled rest
    → finite.entries (settled key room rows) ≡ filled ((key, room) ∷ rest)
settled_entries key (Some cell) rows rest above same =
    finite.entries-insert key_cmp_total rows key cell ∙ ap (put key_cmp key cell) same ∙ put_front key_cmp_total key_cmp_exact key cell (filled rest) above
settled_entries key None rows rest above same =
    let gone : finite.get rows key ≡ None = finite.get-entries rows key ∙ ap (find key_cmp key) same ∙ find_above key_cmp_total key_cmp_exact key (filled rest) above in
    ap finite.entries (finite.same_map key_cmp_total key_cmp_exact (finite.remove rows key) rows
    (λ q. finite.get-remove key_cmp_total rows key q ∙ removed (eq_by_cmp key_cmp q key) (finite.get rows q)
    (λ t. ap (finite.get rows) (key_cmp_exact q key ((Equal-is (key_cmp q key)).0 t)) ∙ gone)))
    ∙ same

-- the map's entries are those of the tree whose room is filled
pub entries-live : (entries : List (Key × Option Cell)) → IsStrictlySortedBy key_cmp (keys_of entries) → finite.entries (live entries) ≡ filled entries
entries-live [] h = no_entries
entries-live (e ∷ entries) h =
    settled_entries e.0 e.1 (live entries) entries
    (above_filled key_cmp_total key_cmp_exact e.0 entries (above_head e entries h))
    (entries-live entries (sorted_tail key_cmp e.0 (keys_of entries) h))
