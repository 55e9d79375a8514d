use Rattle.std.proofs.Common.{rules, subst, sym}
use Rattle.std.proofs.lemmas.List.Elements.{filter_from_retain}
use Rattle.wef_source.specs.Serving.{AreKept}
use Rattle.wef_source.specs.Sessions.{is_asked_for}
use Rattle.wef_source.proofs.Served.{filtered_kept}
use Rattle.wef_source.proofs.serving.end_all_leased.Goals as goal

pub returns-clause-changed : goal.returns-clause-changed
returns-clause-changed c = filter_from_retain _ is_asked_for (λ p x b q called. search rules) _ _ _ c.retain.ensures.filtered

pub returns-clause-kept : goal.returns-clause-kept
returns-clause-kept c = subst AreKept (sym (returns-clause-changed c)) (filtered_kept is_asked_for c.args.sessions.now.items c.requires)
