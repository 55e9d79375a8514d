-- Operators with their sides exchanged.
use Rattle.std.proofs.Common.{refl, ap}
use Rattle.std.specs.Prelude.{not}
use Rattle.std.proofs.lemmas.Cmp.{int_eq_equiv}
use Rattle.wef_query_tokens.specs.declared.operator.Operator.TheVariants.{Equal, NotEqual, Less, LessOrEqual, Greater, GreaterOrEqual}
use Rattle.wef_query_values.specs.Laws.{MirroredHold}

pub mirrored_hold : MirroredHold
mirrored_hold Equal x y = int_eq_equiv.symm y x
mirrored_hold NotEqual x y = ap not (int_eq_equiv.symm y x)
mirrored_hold Less x y = refl
mirrored_hold LessOrEqual x y = refl
mirrored_hold Greater x y = refl
mirrored_hold GreaterOrEqual x y = refl
