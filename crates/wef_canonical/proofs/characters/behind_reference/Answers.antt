use Rattle.std.proofs.Common.{◌≡◌, ℕ, List, ◌++◌, codes, refl, Bor, IfSome}
use Rattle.std.specs.Prelude.{Option, Some, None}
use Rattle.wef_canonical.specs.Passing.{IsReference, Passes}
use Rattle.wef_canonical.proofs.Runs.{references, referred}
use Rattle.wef_canonical.proofs.characters.behind_reference.Goals as goal

pub returns-in-Some : goal.returns-in-Some
returns-in-Some c = referred 38 (codes "amp;") _ _ _ refl refl references.amp c.in_ok-rest.ensures c.in-Some.ensures

pub returns-in-Some-strip : goal.returns-in-Some-strip
returns-in-Some-strip c = referred 60 (codes "lt;") _ _ _ refl refl references.lt c.in_ok-rest.ensures c.in-Some-strip.ensures

pub returns-in-Some-strip-2 : goal.returns-in-Some-strip-2
returns-in-Some-strip-2 c = referred 62 (codes "gt;") _ _ _ refl refl references.gt c.in_ok-rest.ensures c.in-Some-strip-2.ensures

pub returns-in-Some-strip-3 : goal.returns-in-Some-strip-3
returns-in-Some-strip-3 c = referred 9 (codes "#x9;") _ _ _ refl refl references.tab c.in_ok-rest.ensures c.in-Some-strip-3.ensures

pub returns-in-Some-strip-4 : goal.returns-in-Some-strip-4
returns-in-Some-strip-4 c = referred 10 (codes "#xA;") _ _ _ refl refl references.lf c.in_ok-rest.ensures c.in-Some-strip-4.ensures

pub returns : goal.returns
returns c = by c.strip-7.result c.strip-7.ensures
  where
    by : (o : Option (Bor (List ℕ))) → IfSome o (λ rest. c.in_ok-rest.rest.now ≡ codes "#xD;" ++ rest.now) → IfSome o (λ rest. Passes IsReference c.args.text.now rest.now)
    by None e = tt
    by (Some rest) e = referred 13 (codes "#xD;") _ _ _ refl refl references.cr c.in_ok-rest.ensures e
