use Rattle.std.proofs.Common.{sym, ◌∙◌, subst}
use Rattle.wef_documents.specs.Names.{HasNamesOf}
use Rattle.wef_documents.proofs.SetsOfNames.{new_source, old_source}
use Rattle.wef_documents.proofs.sources.push_source.Goals as goal

pub returns-then-not-branch-clause-names : goal.returns-then-not-branch-clause-names
returns-then-not-branch-clause-names c =
    (old_source c.args.names.now c.add_name.new.names c.args.sources.now c.args.source c.requires c.in_ok-add_name.ensures.added
    (sym c.in_ok-add_name.ensures.is_new ∙ c.if-not-branch.true)).1

pub returns-clause-names : goal.returns-clause-names
returns-clause-names c =
    let both = new_source c.args.names.now c.add_name.new.names c.args.sources.now c.args.source c.requires c.in_ok-add_name.ensures.added
    (sym c.in_ok-add_name.ensures.is_new ∙ c.if-not-branch.false) in
    subst (HasNamesOf c.add_name.new.names) (sym c.in_ok-push.ensures.ok) both.1
