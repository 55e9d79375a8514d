-- The statement of the section shows its rows.
use Rattle.std.proofs.Common.{◌≡◌, rules}
use Rattle.sqlite.specs.Held.{state}
use Rattle.wef_sqlite.proofs.PageRows.{section_says}
use Rattle.wef_sqlite.proofs.read.rows_behind.Goals as goal
use Rattle.wef_sqlite.specs.Schema.{kept_schema}

pub returns-clause-shows : goal.returns-clause-shows
returns-clause-shows g c clean =
    let has : c.args.conn.now.schema ≡ kept_schema = search rules in
    section_says (λ answer. answer.items) c.args.section c.args.after.now c.args.room (state g.S.Store c.args.conn.now) (state g.S.Store c.ask_behind.new.conn) c.ask_behind.result has c.schema.ensures.live (c.ask_behind.ensures.rests clean) (c.ask_behind.ensures.shows clean)
