use Rattle.wef_documents.proofs.ReadPlain.{read_sound}
use Rattle.wef_documents.proofs.reading.sound_subscription.Goals as goal

pub returns-clause-plain : goal.returns-clause-plain
returns-clause-plain c = (read_sound c.args.root.now c.in_ok-subscription.subscription c.requires c.in_ok-subscription.ensures c.names_are_kept.ensures).plain

pub returns-clause-texts : goal.returns-clause-texts
returns-clause-texts c = (read_sound c.args.root.now c.in_ok-subscription.subscription c.requires c.in_ok-subscription.ensures c.names_are_kept.ensures).texts
