use Rattle.std.proofs.Common.{◌≡◌, length}
use Rattle.wef_xml.specs.Fronts.{strip}
use Rattle.wef_xml.proofs.fronts.strip.Given as goal

abbrev pub invariant-loop-wanted : goal.invariant-loop-wanted
invariant-loop-wanted l = strip l.wanted l.rest ≡ strip l.front l.text

abbrev pub decreases-loop-wanted : goal.decreases-loop-wanted
decreases-loop-wanted l = length l.wanted
