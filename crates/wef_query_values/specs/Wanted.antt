-- What the walk asks of the nodes that a path finds.
use Rattle.std.specs.Prelude.{Bool, true}
use Rattle.wef_query_values.specs.Comparisons.{compares, has_bits, masked_compares}
use Rattle.wef_query_values.specs.Places.{Place}
use Rattle.wef_query_values.specs.declared.wanted.Wanted.{Wanted}
use Rattle.wef_query_values.specs.declared.wanted.Wanted.TheVariants.{Any, Comparing, Masked, Bits}

-- whether a node is what is asked for
abbrev pub is_wanted : Wanted → Place → Bool
is_wanted Any x = true
is_wanted (Comparing op literal) x = compares op literal.now x
is_wanted (Masked mask op literal) x = masked_compares mask op literal.now x
is_wanted (Bits mask) x = has_bits mask x
