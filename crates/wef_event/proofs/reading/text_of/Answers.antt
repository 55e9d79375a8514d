use Rattle.std.proofs.Common.{◌≡◌, ℕ, nat_lt, Bool, true, false, cond, List, length, ◌∙◌, sym, subst}
use Rattle.std.specs.Prelude.{Some, None}
use Rattle.std.specs.Str.{IsUtf8}
use Rattle.wef_xml.specs.Canonical.{unless_longer}
use Rattle.wef_event.specs.Events.{text_of_tree}
use Rattle.wef_event.proofs.PlainUtf8.{tree_is_utf8}
use Rattle.wef_event.proofs.reading.text_of.Goals as goal

-- bytes that aren't too many are themselves
themselves : (limit : ℕ) (text bytes : List ℕ) → unless_longer limit text ≡ Some bytes → text ≡ bytes
themselves limit text bytes e = by (nat_lt limit (length text)) e
  where
    by : (t : Bool) → cond t None (Some text) ≡ Some bytes → text ≡ bytes
    by true f = absurd cc
    by false f = cc

pub unreachable-requires : goal.unreachable-requires
unreachable-requires c =
    let is : text_of_tree c.args.node.now ≡ c.as_slice.result.now =
    themselves _ (text_of_tree c.args.node.now) _ (sym c.in-Ok.ensures.value ∙ c.in-Some.is) ∙ sym c.as_slice.ensures in
    c.in_default-from_utf8.ensures.cases.0 (subst IsUtf8 is (tree_is_utf8 c.args.node.now c.requires.good))
