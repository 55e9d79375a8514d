-- Whatever the collector does, each row of a subscription stands at the key of its own name.
use Rattle.std.proofs.Common.{◌≡◌, ℕ, Bool, true, false, cond, nat_lt, List, refl, ap, sym, ◌∙◌, subst, arith}
use Rattle.std.proofs.lemmas.Bool.Decides.{nat_tests}
use Rattle.std.specs.FinMap as map
use Rattle.std.specs.Prelude.{Some, None, is_some}
use Rattle.wef_base.specs.Names.{subscription_name}
use Rattle.wef_batch.specs.declared.items.Batch.{Batch}
use Rattle.wef_keeper.specs.Rows.{Rows, applied, key_cmp, key_cmp_total}
use Rattle.wef_keeper.specs.declared.keys.Cell.{Cell}
use Rattle.wef_keeper.specs.declared.keys.Key.{Key}
use Rattle.wef_collector_rows.specs.Keys.{key, subscription_key}
use Rattle.wef_collector.specs.Taken.{heard_changes, taken}
use Rattle.wef_collector.specs.There.{HaveOwnKeys, IsOwnKey, OwnKeysStay}
use Rattle.wef_collector.proofs.Hearing.{is_heard_kind, kinds_by_hearing}
use Rattle.wef_collector.proofs.Hits.{hits, one_key, refuted}
use Rattle.wef_collector.proofs.Moving.{IsApart, apart_by_taking}

-- a subscription's row is put at its own key
put_own : (rows : Rows) (u : List ℕ) (cell : Cell) → subscription_name u ≡ Some u → HaveOwnKeys rows → HaveOwnKeys (map.insert rows (subscription_key u) cell)
put_own rows u cell name own q kind there =
    elim (hits q (subscription_key u)) as (λ b. hits q (subscription_key u) ≡ b → IsOwnKey q) [
      | true ↦ λ hit. subst IsOwnKey (sym (one_key q (subscription_key u) hit)) (record { own = refl; reads_back = name })
      | false ↦ λ miss.
          let found = map.get-insert key_cmp_total rows (subscription_key u) cell q ∙ ap (λ (b : Bool). cond b (Some cell) (map.get rows q)) miss in
          own q kind (sym (ap is_some found) ∙ there)
    ] refl

no_higher : (kind n : ℕ) → nat_lt 1 kind ≡ true → kind ≡ n → n ≡ 1 → ⊥
no_higher kind n above e one = grind (arith, nat_tests)

-- no row is there at first
nothing_there : (q : Key) → is_some (map.get {X = Cell} {R = key_cmp} map.empty q) ≡ true → IsOwnKey q
nothing_there q there =
    let none : map.get {X = Cell} {R = key_cmp} map.empty q ≡ None = map.get-empty key_cmp q in
    let nothing : false ≡ true = sym (ap is_some none) ∙ there in
    cc

-- a batch puts no row of a subscription
apart : (u s : List ℕ) (q : Key) → q.kind ≡ 1 → IsApart u s q
apart u s q is kind c n above = refuted _ (λ hit. no_higher kind q.kind above (ap (λ (k : Key). k.kind) (one_key (key kind u s c n) q hit)) is)

taken_own : (rows : Rows) (u s : List ℕ) (channels : List (List ℕ)) (batch : Batch) (now : ℕ) → HaveOwnKeys rows → HaveOwnKeys (taken rows u s channels batch now)
taken_own rows u s channels batch now own q kind there =
    own q kind (sym (ap is_some (apart_by_taking rows u s channels batch now q (apart u s q kind))) ∙ there)

-- nor does a source that is heard
no_moment : (kind : ℕ) → kind ≡ 1 → is_heard_kind kind ≡ false
no_moment kind is = subst (λ (n : ℕ). is_heard_kind n ≡ false) (sym is) refl

heard_own : (rows : Rows) (u s : List ℕ) (now : ℕ) → HaveOwnKeys rows → HaveOwnKeys (applied (heard_changes rows u s now) rows)
heard_own rows u s now own q kind there = own q kind (sym (ap is_some (kinds_by_hearing rows u s now q (no_moment q.kind kind))) ∙ there)

pub own_keys_stay : OwnKeysStay
own_keys_stay = record {
  start = λ q kind there. nothing_there q there;
  add = λ rows s name own. put_own rows s.name _ name own;
  end = λ rows u name own. put_own rows u _ name own;
  take = taken_own;
  hear = heard_own;
}
