-- The path `*`, and predicates that are a number.
use Rattle.std.proofs.Common.{◌≡◌, not, ◌==◌, List, [], ◌∷◌, length, map, sym, ◌∙◌, ap}
use Rattle.wef_base.specs.declared.tree.Element.{Element}
use Rattle.wef_query_tokens.specs.declared.operator.Operator.TheVariants.{Equal}
use Rattle.wef_query_paths.specs.Paths.{any_path, any_step}
use Rattle.wef_query_paths.specs.declared.path.Literal.TheVariants.{Number}
use Rattle.wef_query_paths.specs.declared.path.Path.{Path, out-roll-Path}
use Rattle.wef_query_paths.specs.declared.path.And.{And}
use Rattle.wef_query_paths.specs.declared.path.Or.{Or}
use Rattle.wef_query_paths.specs.declared.path.Predicate.{Predicate}
use Rattle.wef_query_paths.specs.declared.path.Predicate.TheOpen.{Path-F}
use Rattle.wef_query_paths.specs.declared.path.Step.{Step}
use Rattle.wef_query_paths.specs.declared.path.Unit.{Unit}
use Rattle.wef_query_paths.specs.declared.path.Value.{Value}
use Rattle.wef_query_paths.specs.declared.path.Value.TheVariants.{Position}
use Rattle.wef_query_values.specs.Places.{Place, Document, Inside}
use Rattle.wef_query_values.specs.Laws.{AnyGives, NumbersArePlaces}
use Rattle.wef_query_values.specs.Meaning.{after, compared, gives, goes, nodes}
use Rattle.wef_query_values.proofs.Layers.{given_position, goes_out, holds_at, holds_compared, nodes_out}

any_nodes : (root : Element) → nodes any_path (Document root) ≡ Inside root ∷ []
unfolding any_path
any_nodes root =
    nodes_out any_path (Document root)
    ∙ ap (λ (layer : Path-F Predicate Unit Value And Or Path Step). after (map goes layer.rest) (goes layer.first (Document root))) (out-roll-Path (record { first = any_step; rest = [] }))
    ∙ goes_out any_step (Document root)

pub any_gives : AnyGives
unfolding gives
any_gives root = ap (λ (xs : List Place). not (length xs == 0)) (any_nodes root)

pub numbers_are_places : NumbersArePlaces
numbers_are_places number x place =
    holds_at number x place ∙ sym (holds_compared Position Equal (Number number) x place ∙ ap (λ v. compared v Equal (Number number) x place) given_position)
