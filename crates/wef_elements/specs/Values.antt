-- What attributes and texts say.
use Rattle.std.specs.Prelude.{ℕ, Bool, ◌&&◌, List, Option, None, if◌then◌else◌}
use Rattle.std.specs.List.{find}
use Rattle.std.specs.Option.{option_map}
use Rattle.wef_base.specs.Names.{same, trimmed}
use Rattle.wef_base.specs.Numbers.{is_numeral, number_within}
use Rattle.wef_base.specs.declared.numbers.TheConstants.{MAX}
use Rattle.wef_base.specs.declared.tree.Attribute.{Attribute}

-- an attribute of this namespace and local name (Namespaces in XML 1.0, 2.1)
abbrev pub has_name : List ℕ → List ℕ → Attribute → Bool
has_name space name a = same name a.name && same space a.space

-- the value of the first attribute of a name
abbrev pub value_of : List ℕ → List ℕ → List Attribute → Option (List ℕ)
value_of space name attributes = option_map (λ (a : Attribute). a.value) (find (has_name space name) attributes)

-- the number of digits, at most that of a record
abbrev pub number_of_numeral : List ℕ → Option ℕ
number_of_numeral digits = if is_numeral digits then number_within MAX digits else None

-- the number that a text says, with spaces round it or not
unfoldable pub number_said : List ℕ → Option ℕ
number_said text = number_of_numeral (trimmed text)
