use Rattle.std.proofs.Common.{rules}
use Rattle.std.proofs.lemmas.Fn.{always_returns_same}
use Rattle.std.specs.Cmp.Lexicographic.{slice_cmp}
use Rattle.std.specs.Ordering.{nat_cmp}
use Rattle.wef_building.specs.declared.sessions.Session.{Session}
use Rattle.wef_source.proofs.Searching.{place_found}
use Rattle.wef_source.proofs.adopting.place_in.Goals as goal

pub returns : goal.returns
returns c =
    let u = c.args.name.now in
    let facts = c.binary_search_by.ensures in
    let by_name = facts.position (λ (s : Session). slice_cmp nat_cmp s.name u) (always_returns_same _ _ _ (λ a r f called. (search rules, search rules))) in
    place_found u c.args.sessions.now _ c.requires facts.bound by_name
