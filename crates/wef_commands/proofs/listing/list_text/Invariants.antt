use Rattle.std.proofs.Common.{◌≡◌, ◌++◌, drop}
use Rattle.std.specs.List.{flat_map}
use Rattle.wef_commands.specs.Listing.{list_line, list_text}
use Rattle.wef_commands.proofs.listing.list_text.Given as goal

abbrev pub invariant-loop-listed : goal.invariant-loop-listed
invariant-loop-listed l = l.text ++ flat_map list_line (drop l.listed-index l.list) ≡ list_text l.fn.list
