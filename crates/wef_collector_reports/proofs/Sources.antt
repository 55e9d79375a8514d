-- Names put in order in two turns.
use Rattle.std.proofs.Common.{◌≡◌, ℕ, List, [], ◌∷◌, ◌++◌, refl}
use Rattle.wef_query.specs.Order.{with_name, with_names}

pub with_names_join : (names these those : List (List ℕ)) → with_names names (these ++ those) ≡ with_names (with_names names these) those
with_names_join names [] those = refl
with_names_join names (name ∷ these) those = with_names_join (with_name names name) these those
