use Rattle.std.proofs.Common.{true, refl, take, IfSome, ◌≤◌, ◌≡◌, rules, ◌<◌, ◌==◌, ◌++◌, ◌∙◌, ap, arith, false, length, subst, sym}
use Rattle.std.specs.List.{filter_map}
use Rattle.wef_keeper.specs.Rows.{Rows}
use Rattle.wef_building.specs.Building.{first_number, item_of}
use Rattle.wef_building.specs.Drafting.{with_items}
use Rattle.wef_building.specs.Judged.{AreRead, AreSound}
use Rattle.wef_source_log.specs.Judged.{JudgesPage}
use Rattle.wef_source_log.specs.LogWindow.{last_number, records_after}
use Rattle.wef_building.proofs.Drafts.{page_taken, taken_full}
use Rattle.wef_building.proofs.Judging.{ends_empty, ends_full, none_has, nothing_sound, page_judged}
use Rattle.wef_building.proofs.Told.{any_told, both_told, if_told, last_above, read_itself, read_twice, told_since}
use Rattle.wef_building.proofs.drafting.Draft.take_records.Goals as goal

pub loop-log-init : goal.loop-log-init
loop-log-init g c =
    let store = g.K.Keeper.store c.args.log.now.keeper in
    let channel = c.args.channel.now in
    record {
      read = read_itself store c.requires.ready;
      page = search rules;
      numbered = c.requires.draft;
      judged = λ none. any_told (λ (rows : Rows). AreSound channel c.args.position c.args.position rows × IfSome c.args.self.now.left (λ i. first_number i ≤ c.args.position)) store.rows
          (λ rows. (nothing_sound channel c.args.position rows, none_has (λ i. first_number i ≤ c.args.position) c.args.self.now.left none));
      rest = any_told (λ (rows : Rows). with_items c.args.self.now (filter_map (item_of c.args.query.now c.args.room) (records_after rows channel c.args.position))
          ≡ with_items c.args.self.now (filter_map (item_of c.args.query.now c.args.room) (records_after rows channel c.args.position))) store.rows (λ rows. refl);
    }

pub loop-log-preserved : goal.loop-log-preserved
loop-log-preserved g c =
    let channel = c.args.channel.now in
    let page = c.in_ok-page.page in
    let at : c.last_number-after.result ≡ last_number c.loop-log.after page = cc in
    let start = g.K.Keeper.store c.args.log.now.keeper in
    let mid = g.K.Keeper.store c.loop-log.log.keeper in
    let now = g.K.Keeper.store c.page_ready.new.self.keeper in
    let item = item_of c.args.query.now c.args.room in
    let some : (length page == 0) ≡ false = cc in
    let above : c.loop-log.after < c.last_number-after.result = subst (λ n. c.loop-log.after < n) (sym at) (last_above c.loop-log.after page c.in_ok-page.ensures.above some) in
    record {
      read = read_twice start mid now c.loop-log.invariant.read c.in_ok-page.ensures.reads.0;
      page = search rules;
      numbered = c.in_ok-take_events.ensures.numbered;
      judged = λ none. told_since
          (λ (rows : Rows). AreSound channel c.args.position c.loop-log.after rows × IfSome c.loop-log.self.left (λ i. first_number i ≤ c.loop-log.after))
          (λ (rows : Rows). (page ≡ take c.loop-log.max (records_after rows channel c.loop-log.after)) × JudgesPage channel c.loop-log.after c.loop-log.max rows)
          (λ (rows : Rows). AreSound channel c.args.position c.last_number-after.result rows × IfSome c.take_events.new.self.left (λ i. first_number i ≤ c.last_number-after.result))
          mid.rows now.rows c.in_ok-page.ensures.reads.0.1
          (λ rows before read. page_judged rows channel c.args.query.now c.args.room c.args.position c.loop-log.after c.loop-log.max c.loop-log.self c.take_events.new.self page c.last_number-after.result
          read.0 read.1 at above c.in_ok-take_events.ensures.ok before)
          (c.loop-log.invariant.judged none)
          (both_told (λ (rows : Rows). page ≡ take c.loop-log.max (records_after rows channel c.loop-log.after)) (JudgesPage channel c.loop-log.after c.loop-log.max)
          (λ (rows : Rows). (page ≡ take c.loop-log.max (records_after rows channel c.loop-log.after)) × JudgesPage channel c.loop-log.after c.loop-log.max rows) now.rows (λ rows is judged. (is, judged))
          c.in_ok-page.ensures.page c.in_ok-page.ensures.judged);
      rest = told_since
          (λ (rows : Rows). with_items c.loop-log.self (filter_map item (records_after rows channel c.loop-log.after)) ≡ with_items c.args.self.now (filter_map item (records_after rows channel c.args.position)))
          (λ (rows : Rows). records_after rows channel c.loop-log.after ≡ page ++ records_after rows channel (last_number c.loop-log.after page))
          (λ (rows : Rows). with_items c.take_events.new.self (filter_map item (records_after rows channel c.last_number-after.result)) ≡ with_items c.args.self.now (filter_map item (records_after rows channel c.args.position)))
          mid.rows now.rows c.in_ok-page.ensures.reads.0.1
          (λ rows before splits.
          page_taken item c.loop-log.self c.take_events.new.self page (records_after rows channel c.last_number-after.result) (records_after rows channel c.loop-log.after) c.in_ok-take_events.ensures.ok
          (splits ∙ ap (λ n. page ++ records_after rows channel n) (sym at)) ∙ before)
          c.loop-log.invariant.rest c.in_ok-page.ensures.rest;
    }

pub loop-log-smaller : goal.loop-log-smaller
loop-log-smaller g c =
    let page = c.in_ok-page.page in
    let at : c.last_number-after.result ≡ last_number c.loop-log.after page = cc in
    let some : (length page == 0) ≡ false = cc in
    let above : c.loop-log.after < c.last_number-after.result = subst (λ n. c.loop-log.after < n) (sym at) (last_above c.loop-log.after page c.in_ok-page.ensures.above some) in
    let fits = c.last_number-after.type_inv in
    omega arith

pub returns-then-is_empty-clause-judged : goal.returns-then-is_empty-clause-judged
returns-then-is_empty-clause-judged g c =
    let channel = c.args.channel.now in
    let page = c.in_ok-page.page in
    let empty : (length page == 0) ≡ true = cc in
    let mid = g.K.Keeper.store c.loop-log.log.keeper in
    let now = g.K.Keeper.store c.page_ready.new.self.keeper in
    λ none. told_since
    (λ (rows : Rows). AreSound channel c.args.position c.loop-log.after rows × IfSome c.loop-log.self.left (λ i. first_number i ≤ c.loop-log.after))
    (λ (rows : Rows). page ≡ take c.loop-log.max (records_after rows channel c.loop-log.after))
    (AreRead channel c.args.position c.loop-log.self.left) mid.rows now.rows c.in_ok-page.ensures.reads.0.1
    (λ rows before is. ends_empty rows channel c.args.position c.loop-log.after c.loop-log.max page c.loop-log.self.left is empty c.loop-log.invariant.page before.0)
    (c.loop-log.invariant.judged none) c.in_ok-page.ensures.page

pub returns-clause-judged : goal.returns-clause-judged
returns-clause-judged g c =
    let channel = c.args.channel.now in
    let now = g.K.Keeper.store c.loop-log.log.keeper in
    λ none. if_told
    (λ (rows : Rows). AreSound channel c.args.position c.loop-log.after rows × IfSome c.loop-log.self.left (λ i. first_number i ≤ c.loop-log.after))
    (AreRead channel c.args.position c.loop-log.self.left) now.rows
    (λ rows before. ends_full rows channel c.args.position c.loop-log.after c.loop-log.self.left (sym c.loop-log-test.ensures) before) (c.loop-log.invariant.judged none)

pub returns-clause-ok : goal.returns-clause-ok
returns-clause-ok g c =
    let channel = c.args.channel.now in
    let now = g.K.Keeper.store c.loop-log.log.keeper in
    let item = item_of c.args.query.now c.args.room in
    if_told
    (λ (rows : Rows). with_items c.loop-log.self (filter_map item (records_after rows channel c.loop-log.after)) ≡ with_items c.args.self.now (filter_map item (records_after rows channel c.args.position)))
    (λ (rows : Rows). c.loop-log.self ≡ with_items c.args.self.now (filter_map item (records_after rows channel c.args.position)))
    now.rows (λ rows rest. sym (taken_full c.loop-log.self (filter_map item (records_after rows channel c.loop-log.after)) (sym c.loop-log-test.ensures)) ∙ rest)
    c.loop-log.invariant.rest
