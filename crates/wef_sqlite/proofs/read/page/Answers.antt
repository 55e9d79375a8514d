-- No row stands on an empty page, and each section keeps that all rows are behind the key, and goes on with its rows.
use Rattle.std.proofs.Common.{◌≡◌, List, refl, ◌-◌, ◌++◌, true, sym, subst, take, length, All}
use Rattle.std.proofs.lemmas.List.Elements.{All-nil}
use Rattle.sqlite.specs.Held.{state}
use Rattle.sqlite.specs.State.{HasCleanDisk}
use Rattle.sqlite.proofs.StateLemmas.{clean_if_open}
use Rattle.wef_keeper.specs.Rows.{is_after}
use Rattle.wef_keeper.specs.declared.keys.Row.{Row}
use Rattle.wef_sqlite.proofs.PageFilling.{on_rows_then, page_is}
use Rattle.wef_sqlite.proofs.Plain.{clean_before, rests_then}
use Rattle.wef_sqlite.proofs.read.page.Goals as goal
use Rattle.wef_sqlite.specs.Contents.{rows_in, table_in}
use Rattle.wef_sqlite.specs.Paging.{GoesOn, rows_behind}
use Rattle.wef_sqlite.specs.declared.read.Section.TheVariants.{Number, Channel, Source, Sub}

pub returns-clause-behind : goal.returns-clause-behind
returns-clause-behind g c =
    let Behind : Row → Type 0 = λ row. is_after c.args.after.now row.key ≡ true in
    c.in_ok-fill-5.ensures.behind
    (c.in_ok-fill-4.ensures.behind
    (c.in_ok-fill-3.ensures.behind
    (c.in_ok-fill-2.ensures.behind
    (c.in_ok-fill.ensures.behind (subst (All Behind) (sym c.new-page.ensures) (All-nil Behind))))))

pub returns-clause-given : goal.returns-clause-given
returns-clause-given g c is_open shaped ours =
    let s1 = state g.S.Store c.fill.new.conn in
    let s2 = state g.S.Store c.fill-2.new.conn in
    let s3 = state g.S.Store c.fill-3.new.conn in
    let s4 = state g.S.Store c.fill-4.new.conn in
    let s5 = state g.S.Store c.fill-5.new.conn in
    let p0 = c.new-page.result in
    let p1 = c.fill.new.page in
    let p2 = c.fill-2.new.page in
    let p3 = c.fill-3.new.page in
    let p4 = c.fill-4.new.page in
    let p5 = c.fill-5.new.page in
    let after = c.args.after.now in
    let max = c.args.max in
    let clean5 : HasCleanDisk s5 = clean_if_open (g.S.Store.view c.fill-5.new.conn.store) (g.met.S.Store.shut_if_dirty c.fill-5.new.conn.store) is_open in
    let clean4 = clean_before s4 s5 c.fill-5.ensures.survives clean5 in
    let clean3 = clean_before s3 s4 c.fill-4.ensures.survives clean4 in
    let clean2 = clean_before s2 s3 c.fill-3.ensures.survives clean3 in
    let clean1 = clean_before s1 s2 c.fill-2.ensures.survives clean2 in
    let rests4 = c.in_ok-fill-5.ensures.rests clean5 in
    let rests3 = rests_then s3 s4 s5 (c.in_ok-fill-4.ensures.rests clean4) rests4 in
    let rests2 = rests_then s2 s3 s5 (c.in_ok-fill-3.ensures.rests clean3) rests3 in
    let rests1 = rests_then s1 s2 s5 (c.in_ok-fill-2.ensures.rests clean2) rests2 in
    page_is after max (rows_in (table_in s5.now.trees)) p0 p1 p2 p3 p4 p5 c.new-page.ensures
    (on_rows_then (λ rows. p1 ≡ p0 ++ take (max - length p0) (rows_behind Number after rows)) s1 s5 rests1 (c.in_ok-fill.ensures.given clean1) is_open shaped ours)
    (on_rows_then (λ rows. p2 ≡ p1 ++ take (max - length p1) (rows_behind Channel after rows)) s2 s5 rests2 (c.in_ok-fill-2.ensures.given clean2) is_open shaped ours)
    (on_rows_then (λ rows. p3 ≡ p2 ++ take (max - length p2) (rows_behind Source after rows)) s3 s5 rests3 (c.in_ok-fill-3.ensures.given clean3) is_open shaped ours)
    (on_rows_then (λ rows. p4 ≡ p3 ++ take (max - length p3) (rows_behind Sub after rows)) s4 s5 rests4 (c.in_ok-fill-4.ensures.given clean4) is_open shaped ours)
    (c.in_ok-fill-5.ensures.given clean5 is_open shaped ours)

pub returns-clause-read : goal.returns-clause-read
returns-clause-read g c clean5 =
    let s1 = state g.S.Store c.fill.new.conn in
    let s2 = state g.S.Store c.fill-2.new.conn in
    let s3 = state g.S.Store c.fill-3.new.conn in
    let s4 = state g.S.Store c.fill-4.new.conn in
    let s5 = state g.S.Store c.fill-5.new.conn in
    let clean4 = clean_before s4 s5 c.fill-5.ensures.survives clean5 in
    let clean3 = clean_before s3 s4 c.fill-4.ensures.survives clean4 in
    let clean2 = clean_before s2 s3 c.fill-3.ensures.survives clean3 in
    let clean1 = clean_before s1 s2 c.fill-2.ensures.survives clean2 in
    let start = subst (λ (p : List Row). GoesOn Number c.args.after.now (c.args.max - length p) (state g.S.Store c.args.conn.now) s1 p c.fill.new.page) c.new-page.ensures (c.in_ok-fill.ensures.read clean1) in (
      c.fill.new.conn,
      c.fill.new.page,
      start,
      (
        c.fill-2.new.conn,
        c.fill-2.new.page,
        c.in_ok-fill-2.ensures.read clean2,
        (
          c.fill-3.new.conn,
          c.fill-3.new.page,
          c.in_ok-fill-3.ensures.read clean3,
          (
            c.fill-4.new.conn,
            c.fill-4.new.page,
            c.in_ok-fill-4.ensures.read clean4,
            (c.fill-5.new.conn, c.fill-5.new.page, c.in_ok-fill-5.ensures.read clean5, (refl, refl)),
          ),
        ),
      ),
    )
