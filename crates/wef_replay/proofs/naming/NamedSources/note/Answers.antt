use Rattle.std.proofs.Common.{refl}
use Rattle.wef_replay.proofs.Among.{among_one_more}
use Rattle.wef_replay.proofs.naming.NamedSources.note.Goals as goal

pub returns-in_ok-insert-in-Source : goal.returns-in_ok-insert-in-Source
returns-in_ok-insert-in-Source c =
    let updates = rw c.in_ok-clone-in-Source.ensures at c.in_ok-insert-in-Source.ensures.updates.0 in
    rw (← c.self.view_is, c.in-Source.is) record {
      declared = among_one_more c.insert.new.self.keys c.self.inside.declared.keys _ updates;
      foreign = λ s. refl;
    }

pub returns-in_ok-insert-in-Batch : goal.returns-in_ok-insert-in-Batch
returns-in_ok-insert-in-Batch c =
    let updates = rw c.in_ok-clone-in-Batch.ensures at c.in_ok-insert-in-Batch.ensures.updates.0 in
    rw (← c.self.view_is, c.in-Batch.is) record {
      declared = λ s. refl;
      foreign = among_one_more c.insert-in-Batch.new.self.keys c.self.inside.foreign.keys _ updates;
    }
