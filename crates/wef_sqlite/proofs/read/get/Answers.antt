-- The rows that are shown are those that have the key: none, or the one that is read.
use Rattle.sqlite.specs.Held.{state}
use Rattle.wef_sqlite.proofs.Finds.{found_beyond, found_none, found_one, single}
use Rattle.wef_sqlite.proofs.read.get.Goals as goal

pub returns-in_default-clause-found : goal.returns-in_default-clause-found
returns-in_default-clause-found g c clean = (found_beyond c.args.key.now (state g.S.Store c.args.conn.now) c.in_default.ensures).0

pub returns-in_default-clause-reads : goal.returns-in_default-clause-reads
returns-in_default-clause-reads g c clean = (found_beyond c.args.key.now (state g.S.Store c.args.conn.now) c.in_default.ensures).1

pub returns-in-empty-clause-found : goal.returns-in-empty-clause-found
returns-in-empty-clause-found g c clean =
    (found_none c.args.key.now (state g.S.Store c.args.conn.now) (state g.S.Store c.rows_of.new.conn) c.in_ok-rows.rows.items c.as_slice.result.now
    c.requires (c.in_ok-rows.ensures.shows clean) (c.in_ok-rows.ensures.rests clean) c.as_slice.ensures.value c.in-empty.len_below).0

pub returns-in-empty-clause-reads : goal.returns-in-empty-clause-reads
returns-in-empty-clause-reads g c clean =
    (found_none c.args.key.now (state g.S.Store c.args.conn.now) (state g.S.Store c.rows_of.new.conn) c.in_ok-rows.rows.items c.as_slice.result.now
    c.requires (c.in_ok-rows.ensures.shows clean) (c.in_ok-rows.ensures.rests clean) c.as_slice.ensures.value c.in-empty.len_below).1

pub returns-in-len1-clause-found : goal.returns-in-len1-clause-found
returns-in-len1-clause-found g c clean =
    (found_one c.args.key.now (state g.S.Store c.args.conn.now) (state g.S.Store c.rows_of.new.conn) c.in_ok-rows.rows.items c.as_slice.result.now c.row-item.result c.in_ok-said_row-in-len1.field-0
    c.requires (c.in_ok-rows.ensures.shows clean) (c.in_ok-rows.ensures.rests clean) c.as_slice.ensures.value (single c.as_slice.result.now c.row-item.result c.in-len1.len_at_least c.in-len1.len_below c.row-item.is) c.in_ok-said_row-in-len1.ensures).0

pub returns-in-len1-clause-reads : goal.returns-in-len1-clause-reads
returns-in-len1-clause-reads g c clean =
    (found_one c.args.key.now (state g.S.Store c.args.conn.now) (state g.S.Store c.rows_of.new.conn) c.in_ok-rows.rows.items c.as_slice.result.now c.row-item.result c.in_ok-said_row-in-len1.field-0
    c.requires (c.in_ok-rows.ensures.shows clean) (c.in_ok-rows.ensures.rests clean) c.as_slice.ensures.value (single c.as_slice.result.now c.row-item.result c.in-len1.len_at_least c.in-len1.len_below c.row-item.is) c.in_ok-said_row-in-len1.ensures).1
