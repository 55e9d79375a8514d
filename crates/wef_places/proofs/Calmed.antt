-- Sources in which nothing is armed any more.
use Rattle.std.proofs.Common.{◌≡◌, ℕ, List, ap, sym, ◌∙◌}
use Rattle.std.proofs.lemmas.Map.Lookups.{exact_bytes}
use Rattle.std.proofs.lemmas.Map.Made.{lookup-map_values}
use Rattle.std.specs.BTreeMap.{is_at}
use Rattle.std.specs.Cmp.Lexicographic.{nat_list_cmp_total, slice_cmp}
use Rattle.std.specs.FinMap.{from_entries, same_map}
use Rattle.std.specs.Option.{option_map}
use Rattle.std.specs.Ordering.{nat_cmp}
use Rattle.std.specs.Prelude.{map}
use Rattle.wef_machine.proofs.Declared.{calmed_at}
use Rattle.wef_machine.proofs.NameMaps.{get_given, given_at}
use Rattle.wef_machine.specs.States.{Slot, calmed_slot, calmed_slots}

-- entries of which each is calmed make a map in which each source is
pub calmed_given : (es fs : List (List ℕ × Slot)) → fs ≡ map (λ (e : List ℕ × Slot). (e.0, calmed_slot e.1)) es
    → from_entries {R = slice_cmp nat_cmp} fs ≡ calmed_slots (from_entries es)
calmed_given es fs is = same_map nat_list_cmp_total exact_bytes _ _ (λ q.
    get_given fs q
    ∙ ap (λ (entries : List (List ℕ × Slot)). given_at entries q) is
    ∙ lookup-map_values calmed_slot (is_at (slice_cmp nat_cmp q)) es
    ∙ sym (calmed_at (from_entries es) q ∙ ap (option_map calmed_slot) (get_given es q)))
