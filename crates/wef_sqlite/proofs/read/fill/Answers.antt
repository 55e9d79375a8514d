-- A row more is read, and in the end all are.
use Rattle.std.proofs.Common.{◌∷◌, ◌++◌, ◌∙◌, [], List, take, inr, sym, ap, subst, arith, rules}
use Rattle.std.proofs.lemmas.List.{append_assoc}
use Rattle.sqlite.specs.Held.{state}
use Rattle.sqlite.specs.State.{Shown}
use Rattle.wef_keeper.specs.declared.keys.Row.{Row}
use Rattle.wef_sqlite.proofs.PageFilling.{said_once, say_all, say_more}
use Rattle.wef_sqlite.proofs.read.fill.Goals as goal
use Rattle.wef_sqlite.specs.Contents.{rows_in, table_in}
use Rattle.wef_sqlite.specs.Paging.{SayRows, rows_behind}
use Rattle.wef_sqlite.specs.Statements.{text_behind, values_behind}

pub loop-columns-preserved : goal.loop-columns-preserved
loop-columns-preserved g c =
    let answer = c.as_slice-columns-items.result.now in
    let index = c.loop-columns.columns-index in
    let row = c.in_ok-said_row.field-0 in
    let so_far = c.loop-columns.invariant.read in
    record {
      size = search rules;
      behind = search rules;
      read = (
        so_far.0 ++ row ∷ [],
        say_more answer so_far.0 index c.columns-item.result row so_far.1 (omega arith) c.columns-item.is c.in_ok-said_row.ensures,
        c.in_ok-push_behind.ensures.pushed ∙ ap (λ l. l ++ row ∷ []) so_far.2 ∙ append_assoc c.args.page.now so_far.0 (row ∷ []),
      );
    }

pub returns-clause-read : goal.returns-clause-read
returns-clause-read g c clean =
    let answer = c.as_slice-columns-items.result.now in
    let all = c.loop-columns.invariant.read in
    let say = say_all answer all.0 c.loop-columns.columns-index (omega arith) all.1 in
    let old = state g.S.Store c.args.conn.now in
    let new = state g.S.Store c.rows_behind.new.conn in
    let items = c.in_ok-rows.rows.items in
    let shown = subst (λ n. Shown (text_behind c.args.section) (values_behind c.args.section c.args.after.now n) old new items) c.room_in-room.ensures (c.in_ok-rows.ensures.shown clean) in
    inr (items, all.0, shown, subst (λ l. SayRows l all.0) c.as_slice-columns-items.ensures.value say, all.2)

pub returns-clause-given : goal.returns-clause-given
returns-clause-given g c clean is_open shaped ours =
    let section_rows : List Row = rows_behind c.args.section c.args.after.now (rows_in (table_in (state g.S.Store c.rows_behind.new.conn).now.trees)) in
    let answer = c.as_slice-columns-items.result.now in
    let all = c.loop-columns.invariant.read in
    let say = say_all answer all.0 c.loop-columns.columns-index (omega arith) all.1 in
    let shown = subst (λ l. SayRows l (take c.room_in-room.result section_rows)) (sym c.as_slice-columns-items.ensures.value) (c.in_ok-rows.ensures.shows clean is_open shaped ours) in
    all.2 ∙ ap (λ l. c.args.page.now ++ l) (said_once answer all.0 (take c.room_in-room.result section_rows) say shown ∙ ap (λ n. take n section_rows) c.room_in-room.ensures)
