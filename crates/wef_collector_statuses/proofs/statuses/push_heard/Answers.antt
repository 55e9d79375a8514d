use Rattle.std.proofs.Common.{rules, ◌≡◌, ◌<◌, ◌∙◌, ◌++◌, List, [], length, take, ap, sym, append-nil, true, arith}
use Rattle.std.specs.List.{list_all}
use Rattle.wef_keeper.proofs.ByPages.{last_page}
use Rattle.wef_keeper.proofs.Told.{told_both, told_still}
use Rattle.wef_keeper.specs.Rows.{Rows}
use Rattle.wef_keeper.specs.Sections.{last_key, rows_under}
use Rattle.wef_keeper.specs.declared.keys.Depth.TheVariants.{Sub}
use Rattle.wef_keeper.specs.declared.keys.Key.{Key}
use Rattle.wef_keeper.specs.declared.keys.Row.{Row}
use Rattle.wef_collector_reports.proofs.Channels.{rest_passes}
use Rattle.wef_collector_reports.specs.Report.{heard_rows}
use Rattle.wef_collector_rows.specs.Forms.{is_formed}
use Rattle.wef_collector_statuses.specs.Lines.{told}
use Rattle.wef_collector_statuses.proofs.statuses.push_heard.Goals as goal

pub returns-then-len-clause-text : goal.returns-then-len-clause-text
returns-then-len-clause-text g c =
    let page = c.in_ok-page.page in
    let last = c.loop-last.last in
    let telling = c.args.telling.now in
    let now = g.K.Keeper.store c.formed_page.new.keeper in
    let short : length page < 256 = omega (arith, c.len.ensures, c.if-len.true) in
    let text_of = λ (found : List Row). c.loop-last.text ++ told telling found c.loop-last.left.now in
    let whole_text = λ (rows : Rows). c.args.text.now ++ told telling (heard_rows rows telling.sub) c.args.listed.now in
    let done = told_still (g.K.Keeper.store c.loop-last.keeper).rows now.rows (λ rows. text_of (rows_under Sub last rows) ≡ whole_text rows) c.in_ok-page.ensures.reads.0.1 c.loop-last.invariant.rest in
    let added = rw c.as_slice.ensures at (c.in_ok-left.ensures.text []) in
    let whole = told_both now.rows (λ rows. page ≡ take 256 (rows_under Sub last rows)) (λ rows. rows_under Sub last rows ≡ page ++ rows_under Sub (last_key last page) rows)
    (λ rows. rows_under Sub last rows ≡ page) c.in_ok-page.ensures.page c.in_ok-page.ensures.rest (λ rows is splits. last_page 256 _ page _ is splits short) in
    told_both now.rows (λ rows. rows_under Sub last rows ≡ page) (λ rows. text_of (rows_under Sub last rows) ≡ whole_text rows) (λ rows. c.push_rows.new.text ++ told telling [] c.in_ok-left.left.now ≡ whole_text rows) whole done
    (λ rows is so. added ∙ ap text_of (append-nil page ∙ sym is) ∙ so)

pub returns-then-len-clause-judged : goal.returns-then-len-clause-judged
returns-then-len-clause-judged g c =
    let page = c.in_ok-page.page in
    let last = c.loop-last.last in
    let u = c.args.telling.now.sub in
    let now = g.K.Keeper.store c.formed_page.new.keeper in
    let short : length page < 256 = omega (arith, c.len.ensures, c.if-len.true) in
    let same = told_still (g.K.Keeper.store c.loop-last.keeper).rows now.rows (λ rows. list_all is_formed (rows_under Sub last rows) ≡ list_all is_formed (heard_rows rows u)) c.in_ok-page.ensures.reads.0.1 c.loop-last.invariant.formed in
    let whole = told_both now.rows (λ rows. page ≡ take 256 (rows_under Sub last rows)) (λ rows. rows_under Sub last rows ≡ page ++ rows_under Sub (last_key last page) rows)
    (λ rows. rows_under Sub last rows ≡ page) c.in_ok-page.ensures.page c.in_ok-page.ensures.rest (λ rows is splits. last_page 256 _ page _ is splits short) in
    told_both now.rows (λ rows. rows_under Sub last rows ≡ page) (λ rows. list_all is_formed (rows_under Sub last rows) ≡ list_all is_formed (heard_rows rows u)) (λ rows. list_all is_formed (heard_rows rows u) ≡ true) whole same
    (λ rows is so. sym so ∙ ap (list_all is_formed) is ∙ c.in_ok-page.ensures.formed)

pub loop-last-preserved : goal.loop-last-preserved
loop-last-preserved g c =
    let page = c.in_ok-page.page in
    let last = c.loop-last.last in
    let telling = c.args.telling.now in
    let before = g.K.Keeper.store c.loop-last.keeper in
    let now = g.K.Keeper.store c.formed_page.new.keeper in
    let next = c.in_ok-last-2.last in
    let is_next : next ≡ last_key last page = c.in_ok-last-2.ensures ∙ ap (last_key last) c.as_slice-in-loop-last.ensures in
    let text_of = λ (found : List Row). c.loop-last.text ++ told telling found c.loop-last.left.now in
    let whole_text = λ (rows : Rows). c.args.text.now ++ told telling (heard_rows rows telling.sub) c.args.listed.now in
    let done = told_still before.rows now.rows (λ rows. text_of (rows_under Sub last rows) ≡ whole_text rows) c.in_ok-page.ensures.reads.0.1 c.loop-last.invariant.rest in
    let added = λ (more : List Row). rw c.as_slice.ensures at (c.in_ok-left.ensures.text more) in
    let same = told_still before.rows now.rows (λ rows. list_all is_formed (rows_under Sub last rows) ≡ list_all is_formed (heard_rows rows telling.sub)) c.in_ok-page.ensures.reads.0.1 c.loop-last.invariant.formed in
    record {
      read = search rules;
      rest = told_both now.rows (λ rows. rows_under Sub last rows ≡ page ++ rows_under Sub (last_key last page) rows) (λ rows. text_of (rows_under Sub last rows) ≡ whole_text rows)
          (λ rows. c.push_rows.new.text ++ told telling (rows_under Sub next rows) c.in_ok-left.left.now ≡ whole_text rows)
          c.in_ok-page.ensures.rest done
          (λ rows splits so. added (rows_under Sub next rows) ∙ ap text_of (ap (λ (k : Key). page ++ rows_under Sub k rows) is_next ∙ sym splits) ∙ so);
      formed = told_both now.rows (λ rows. rows_under Sub last rows ≡ page ++ rows_under Sub (last_key last page) rows)
          (λ rows. list_all is_formed (rows_under Sub last rows) ≡ list_all is_formed (heard_rows rows telling.sub))
          (λ rows. list_all is_formed (rows_under Sub next rows) ≡ list_all is_formed (heard_rows rows telling.sub))
          c.in_ok-page.ensures.rest same
          (λ rows splits so. rest_passes is_formed page (rows_under Sub next rows) c.in_ok-page.ensures.formed
          ∙ ap (list_all is_formed) (ap (λ (k : Key). page ++ rows_under Sub k rows) is_next ∙ sym splits) ∙ so);
    }
