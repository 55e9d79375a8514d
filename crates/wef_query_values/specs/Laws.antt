-- Laws of operators, of what texts say, and of what paths give.
use Rattle.std.specs.Prelude.{◌≡◌, ℕ, true, List, ℤ}
use Rattle.std.specs.Option.{ok_or}
use Rattle.std.specs.Str.{IsUtf8}
use Rattle.wef_base.specs.declared.names.ValueFault.TheVariants.{NotAMoment}
use Rattle.wef_base.specs.declared.tree.Element.{Element}
use Rattle.wef_times.specs.Instants.{instant_in}
use Rattle.wef_query_tokens.specs.declared.operator.Operator.{Operator}
use Rattle.wef_query_tokens.specs.declared.operator.Operator.TheVariants.{Equal}
use Rattle.wef_query_paths.specs.Paths.{any_path}
use Rattle.wef_query_paths.specs.declared.path.Literal.TheVariants.{Number}
use Rattle.wef_query_paths.specs.declared.path.Predicate.TheVariants.{At}
use Rattle.wef_query_paths.specs.declared.path.Unit.TheVariants.{Compared}
use Rattle.wef_query_paths.specs.declared.path.Value.TheVariants.{Position}
use Rattle.wef_query_values.specs.Comparisons.{instant_of_text}
use Rattle.wef_query_values.specs.Meaning as meaning
use Rattle.wef_query_values.specs.Operators.{holds, mirrored}
use Rattle.wef_query_values.specs.Places.{Place}

-- an operator holds where the mirrored one does with the sides exchanged
abbrev pub MirroredHold : Type 0
MirroredHold = (operator : Operator) (x y : ℤ) → holds (mirrored operator) y x ≡ holds operator x y

-- the instant of a text in UTF-8, whose spaces are trimmed as bytes, is the one with its spaces trimmed as characters
abbrev pub InstantsAreRead : Type 0
InstantsAreRead = (text : List ℕ) → IsUtf8 text → instant_in text ≡ ok_or (instant_of_text text) NotAMoment

-- the path `*` gives a node of each event
abbrev pub AnyGives : Type 0
AnyGives = (root : Element) → meaning.gives any_path root ≡ true

-- a number alone says what `position() =` says before it
abbrev pub NumbersArePlaces : Type 0
NumbersArePlaces = (number : ℕ) (x : Place) (place : ℕ) → meaning.holds (At number) x place ≡ meaning.holds_unit (Compared Position Equal (Number number)) x place
