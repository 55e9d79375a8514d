-- Where steps go.
use Rattle.std.specs.Prelude.{Bool, true, false}
use Rattle.wef_query_tokens.specs.declared.axis.Axis.{Axis}
use Rattle.wef_query_tokens.specs.declared.axis.Axis.TheVariants.{Child, Attribute}

-- whether an axis leads to the children of a node
abbrev pub goes_to_children : Axis → Bool
goes_to_children Child = true
goes_to_children Attribute = false
