use Rattle.std.proofs.Common.{rules, ◌≡◌, ◌<◌, ◌∙◌, ◌++◌, List, [], map, length, take, ap, sym, subst, append-nil, true, arith}
use Rattle.std.specs.List.{list_all}
use Rattle.wef_keeper.proofs.ByPages.{last_page}
use Rattle.wef_keeper.specs.Rows.{Rows}
use Rattle.wef_keeper.specs.Sections.{last_key, rows_under}
use Rattle.wef_keeper.specs.declared.keys.Depth.TheVariants.{Channel}
use Rattle.wef_keeper.specs.declared.keys.Key.{Key}
use Rattle.wef_keeper.specs.declared.keys.Row.{Row}
use Rattle.wef_keeper.proofs.Told.{told_both, told_still}
use Rattle.wef_collector_rows.specs.Forms.{is_formed}
use Rattle.wef_collector_reports.specs.Report.{last_row_number, span_of}
use Rattle.wef_collector_reports.specs.Runs.{runs_from, runs_text}
use Rattle.wef_collector_reports.proofs.Channels.{last_is, numbered, page_rises, rest_passes}
use Rattle.wef_collector_reports.proofs.reporting.add_behind.Goals as goal

pub returns-then-is_last-clause-text : goal.returns-then-is_last-clause-text
returns-then-is_last-clause-text g c =
    let page = c.in_ok-page.page in
    let after = c.loop-page.after in
    let writer = c.loop-page.writer in
    let now = g.K.Keeper.store c.formed_page.new.keeper in
    let short : length page < 256 = omega (arith, c.len.ensures, c.if-is_last.true) in
    let text_of = λ (xs : List Row). writer.text ++ runs_text (runs_from writer.running (map (span_of c.args.spans) xs)) in
    let whole_text = λ (rows : Rows). c.args.writer.now.text ++ runs_text (runs_from c.args.writer.now.running (map (span_of c.args.spans) (rows_under Channel c.args.after.now rows))) in
    let done = told_still (g.K.Keeper.store c.loop-page.keeper).rows now.rows (λ rows. text_of (rows_under Channel after rows) ≡ whole_text rows) c.in_ok-page.ensures.reads.0.1 c.loop-page.invariant.rest in
    let told = rw c.as_slice.ensures at (c.in_ok-add_page.ensures []) in
    let whole = told_both now.rows (λ rows. page ≡ take 256 (rows_under Channel after rows)) (λ rows. rows_under Channel after rows ≡ page ++ rows_under Channel (last_key after page) rows)
    (λ rows. rows_under Channel after rows ≡ page) c.in_ok-page.ensures.page c.in_ok-page.ensures.rest (λ rows is splits. last_page 256 _ page _ is splits short) in
    told_both now.rows (λ rows. rows_under Channel after rows ≡ page) (λ rows. text_of (rows_under Channel after rows) ≡ whole_text rows) (λ rows. c.add_page.new.writer.text ++ runs_text (runs_from c.add_page.new.writer.running []) ≡ whole_text rows) whole done
    (λ rows is so. told ∙ ap text_of (append-nil page ∙ sym is) ∙ so)

pub returns-then-is_last-clause-judged : goal.returns-then-is_last-clause-judged
returns-then-is_last-clause-judged g c =
    let page = c.in_ok-page.page in
    let after = c.loop-page.after in
    let now = g.K.Keeper.store c.formed_page.new.keeper in
    let short : length page < 256 = omega (arith, c.len.ensures, c.if-is_last.true) in
    let same = told_still (g.K.Keeper.store c.loop-page.keeper).rows now.rows (λ rows. list_all is_formed (rows_under Channel after rows) ≡ list_all is_formed (rows_under Channel c.args.after.now rows)) c.in_ok-page.ensures.reads.0.1 c.loop-page.invariant.formed in
    let whole = told_both now.rows (λ rows. page ≡ take 256 (rows_under Channel after rows)) (λ rows. rows_under Channel after rows ≡ page ++ rows_under Channel (last_key after page) rows)
    (λ rows. rows_under Channel after rows ≡ page) c.in_ok-page.ensures.page c.in_ok-page.ensures.rest (λ rows is splits. last_page 256 _ page _ is splits short) in
    told_both now.rows (λ rows. rows_under Channel after rows ≡ page) (λ rows. list_all is_formed (rows_under Channel after rows) ≡ list_all is_formed (rows_under Channel c.args.after.now rows))
    (λ rows. list_all is_formed (rows_under Channel c.args.after.now rows) ≡ true) whole same (λ rows is so. sym so ∙ ap (list_all is_formed) is ∙ c.in_ok-page.ensures.formed)

pub loop-page-preserved : goal.loop-page-preserved
loop-page-preserved g c =
    let page = c.in_ok-page.page in
    let after = c.loop-page.after in
    let writer = c.loop-page.writer in
    let before = g.K.Keeper.store c.loop-page.keeper in
    let now = g.K.Keeper.store c.formed_page.new.keeper in
    let text_of = λ (xs : List Row). writer.text ++ runs_text (runs_from writer.running (map (span_of c.args.spans) xs)) in
    let whole_text = λ (rows : Rows). c.args.writer.now.text ++ runs_text (runs_from c.args.writer.now.running (map (span_of c.args.spans) (rows_under Channel c.args.after.now rows))) in
    let written = c.add_page.new.writer in
    let next = numbered after c.last_number-after.result in
    let number : c.last_number-after.result ≡ last_row_number after.number page = c.last_number-after.ensures ∙ ap (last_row_number after.number) c.as_slice-in-loop-page.ensures in
    let is_next : next ≡ last_key after page = ap (numbered after) number ∙ sym (last_is after page c.in_ok-page.ensures.behind) in
    let done = told_still before.rows now.rows (λ rows. text_of (rows_under Channel after rows) ≡ whole_text rows) c.in_ok-page.ensures.reads.0.1 c.loop-page.invariant.rest in
    let told = λ (rest : List Row). rw c.as_slice.ensures at (c.in_ok-add_page.ensures rest) in
    let same = told_still before.rows now.rows (λ rows. list_all is_formed (rows_under Channel after rows) ≡ list_all is_formed (rows_under Channel c.args.after.now rows)) c.in_ok-page.ensures.reads.0.1 c.loop-page.invariant.formed in
    record {
      read = search rules;
      rest = told_both now.rows (λ rows. rows_under Channel after rows ≡ page ++ rows_under Channel (last_key after page) rows) (λ rows. text_of (rows_under Channel after rows) ≡ whole_text rows)
          (λ rows. written.text ++ runs_text (runs_from written.running (map (span_of c.args.spans) (rows_under Channel next rows))) ≡ whole_text rows)
          c.in_ok-page.ensures.rest done
          (λ rows splits so. told (rows_under Channel next rows) ∙ ap text_of (ap (λ (k : Key). page ++ rows_under Channel k rows) is_next ∙ sym splits) ∙ so);
      formed = told_both now.rows (λ rows. rows_under Channel after rows ≡ page ++ rows_under Channel (last_key after page) rows)
          (λ rows. list_all is_formed (rows_under Channel after rows) ≡ list_all is_formed (rows_under Channel c.args.after.now rows))
          (λ rows. list_all is_formed (rows_under Channel next rows) ≡ list_all is_formed (rows_under Channel c.args.after.now rows))
          c.in_ok-page.ensures.rest same
          (λ rows splits so. rest_passes is_formed page (rows_under Channel next rows) c.in_ok-page.ensures.formed
          ∙ ap (list_all is_formed) (ap (λ (k : Key). page ++ rows_under Channel k rows) is_next ∙ sym splits) ∙ so);
    }

pub loop-page-smaller : goal.loop-page-smaller
loop-page-smaller g c =
    let page = c.in_ok-page.page in
    let after = c.loop-page.after in
    let size = c.len.ensures in
    let test = c.if-is_last.false in
    let some : 0 < length page = omega arith in
    let number : c.last_number-after.result ≡ last_row_number after.number page = c.last_number-after.ensures ∙ ap (last_row_number after.number) c.as_slice-in-loop-page.ensures in
    let rises : after.number < last_row_number after.number page = subst (λ (k : Key). after.number < k.number) (last_is after page c.in_ok-page.ensures.behind) (page_rises after page some c.in_ok-page.ensures.behind) in
    let next : c.last_number-after.result < 18446744073709551616 = omega arith in
    omega arith
