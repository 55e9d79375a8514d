use Rattle.wef_commands.proofs.Checked.{ends_unanswered, has_answers}
use Rattle.wef_commands.proofs.checking.read_answers.Goals as goal

pub returns-clause-ok : goal.returns-clause-ok
returns-clause-ok g c =
    has_answers 18446744073709551615 c.answers_of.result c.in-Ok.bytes
    (record { before = g.I.Source.left c.args.input.now; after = g.I.Source.left c.read_whole.new.input; faults_before = g.I.Source.faults c.args.input.now; faults_after = g.I.Source.faults c.read_whole.new.input })
    c.in-Ok.ensures.reads (rw c.as_slice.ensures at c.answers_of.ensures)

pub returns-clause-err : goal.returns-clause-err
returns-clause-err g c =
    ends_unanswered 18446744073709551615 c.answers_of.result c.in-Ok.bytes
    (record { before = g.I.Source.left c.args.input.now; after = g.I.Source.left c.read_whole.new.input; faults_before = g.I.Source.faults c.args.input.now; faults_after = g.I.Source.faults c.read_whole.new.input })
    c.in-Ok.ensures.reads (rw c.as_slice.ensures at c.answers_of.ensures)
