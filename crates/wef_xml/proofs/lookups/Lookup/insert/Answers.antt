use Rattle.std.proofs.Common.{sym, ap, ◌∙◌}
use Rattle.std.specs.FinMap as map
use Rattle.wef_xml.proofs.Maps.{get_given, one_given}
use Rattle.wef_xml.proofs.lookups.Lookup.insert.Goals as goal

pub returns-clause-before : goal.returns-clause-before
returns-clause-before g c =
    c.in_ok-insert.ensures.old ∙ sym (get_given c.self.inside.entries.entries c.args.key) ∙ ap (λ m. map.get m c.args.key) c.self.view_is

pub returns-clause-after : goal.returns-clause-after
returns-clause-after g c =
    one_given c.self.inside.entries.entries _ c.args.key c.args.value c.in_ok-insert.ensures.updates.0 ∙ ap (λ m. map.insert m c.args.key c.args.value) c.self.view_is
