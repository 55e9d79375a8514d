-- Sources that are written are read as them.
use Rattle.std.proofs.Common.{◌≡◌, ℕ, ◌<◌, Bool, true, false, not, cond, List, [], ◌∷◌, ◌++◌, length, refl, ap, sym, ◌∙◌, append_assoc, append-nil, arith, map}
use Rattle.std.specs.Prelude.{Some, Ok, codes, find}
use Rattle.std.specs.List.{AllByRecursion}
use Rattle.std.specs.Option.{option_map}
use Rattle.std.proofs.lemmas.Bool.{and_parts}
use Rattle.wef_base.specs.declared.tree.Element.{Element}
use Rattle.wef_elements.specs.Children.{as_nodes, elements_in, first_called, is_called}
use Rattle.wef_elements.proofs.Again.{elements_again, said_again}
use Rattle.wef_eventing.specs.declared.subscriptions.SourceAt.{SourceAt}
use Rattle.wef_documents.specs.Addresses.{source_of, usual_port}
use Rattle.wef_documents.specs.Laws.{IsPlainSource, differ_behind}
use Rattle.wef_documents.specs.Sources.{address_at, has_source, some_source, sources_from, with_address, with_source}
use Rattle.wef_documents.specs.Steps.{and_then, needed}
use Rattle.wef_documents.specs.Values.{space}
use Rattle.wef_documents.specs.Written.{leaf, source_element}
use Rattle.wef_documents.specs.declared.faults.DocumentFault.TheVariants.{BadDocument}
use Rattle.wef_documents.specs.declared.faults.Part.TheVariants as the

-- the first of a name among elements that stand in another
pub among : (name : List ℕ) (es : List Element) → first_called space name (as_nodes es) ≡ find (is_called space name) es
among name es = ap (find (is_called space name)) (elements_again es)

-- an address with a port is one of its source
source_again : (s : SourceAt) → IsPlainSource s → source_of s.address ≡ Some s
unfolding source_of
source_again s is =
    (λ i. option_map (λ (name : List ℕ). record { name = name; address = cond (is.port i) s.address (s.address ++ usual_port) }) (is.name i))

-- the element of a source holds its address
holds_address : (s : SourceAt) → address_at (source_element s) ≡ Some (leaf (codes "Address") s.address)
unfolding space
holds_address s = among (codes "Address") (leaf (codes "Address") s.address ∷ [])

stands_behind : (before : List SourceAt) (s : SourceAt) → not (has_source s.name before) ≡ true → with_source before s ≡ before ++ s ∷ []
stands_behind before s new = by (has_source s.name before) new
  where
    by : (b : Bool) → not b ≡ true → cond b before (before ++ s ∷ []) ≡ before ++ s ∷ []
    by true e = let bad : ⊥ = cc in absurd bad
    by false e = refl

-- it is read as the source, behind those before it
one_again : (before : List SourceAt) (s : SourceAt) → IsPlainSource s → not (has_source s.name before) ≡ true
    → with_address before (address_at (source_element s)) ≡ Ok (before ++ s ∷ [])
one_again before s is new =
    ap (with_address before) (holds_address s)
    ∙ ap (λ text. and_then (needed (BadDocument the.Address) (source_of text)) (λ x. Ok (with_source before x))) (said_again space (codes "Address") s.address is.address)
    ∙ ap (λ o. and_then (needed (BadDocument the.Address) o) (λ x. Ok (with_source before x))) (source_again s is)
    ∙ ap Ok (stands_behind before s new)

all_again : (before more : List SourceAt) → differ_behind before more ≡ true → AllByRecursion IsPlainSource more
    → sources_from before (map source_element more) ≡ Ok (before ++ more)
all_again before [] new is = ap Ok (sym (append-nil before))
all_again before (s ∷ more) new is =
    let parts = and_parts (not (has_source s.name before)) (differ_behind (before ++ s ∷ []) more) new in
    ap (λ r. and_then r (λ sources. sources_from sources (map source_element more))) (one_again before s is.0 parts.0)
    ∙ all_again (before ++ s ∷ []) more parts.1 is.1
    ∙ ap Ok (append_assoc before (s ∷ []) more)

some_there : (sources : List SourceAt) → 0 < length sources → some_source sources ≡ Ok sources
some_there [] some = let bad : ⊥ = omega arith in absurd bad
some_there (s ∷ sources) some = refl

-- the elements of sources, one or more, are read as these
pub sources_again : (sources : List SourceAt) → 0 < length sources → differ_behind [] sources ≡ true → AllByRecursion IsPlainSource sources
    → and_then (sources_from [] (elements_in (as_nodes (map source_element sources)))) (λ found. some_source found) ≡ Ok sources
sources_again sources some new is =
    ap (λ es. and_then (sources_from [] es) (λ found. some_source found)) (elements_again (map source_element sources))
    ∙ ap (λ r. and_then r (λ found. some_source found)) (all_again [] sources new is)
    ∙ some_there sources some
