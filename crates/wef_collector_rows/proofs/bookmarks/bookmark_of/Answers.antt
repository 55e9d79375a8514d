use Rattle.std.proofs.Common.{◌≡◌, ◌∙◌, []}
use Rattle.wef_keeper.specs.Access.{fails}
use Rattle.wef_keeper.proofs.ReadsOf.{may_be_ill}
use Rattle.wef_collector_rows.specs.Forms.{AreFormed}
use Rattle.wef_collector_rows.specs.Keys.{bookmark_key}
use Rattle.wef_collector_rows.proofs.BookmarkRows.{bookmarks_judged, no_bookmarks}
use Rattle.wef_collector_rows.proofs.bookmarks.bookmark_of.Goals as goal

pub returns-clause-judged : goal.returns-clause-judged
returns-clause-judged g c =
    let begins : c.in_ok-start.start ≡ bookmark_key c.args.sub.now c.args.source.now [] = c.in_ok-start.ensures ∙ (λ i. bookmark_key (c.as_text.ensures.value i) (c.as_text-2.ensures.value i) []) in
    let formed = rw c.as_slice.ensures at c.bookmark_by.ensures.formed in
    bookmarks_judged c.bookmark_by.result (g.K.Keeper.store c.section.new.keeper).rows c.args.sub.now c.args.source.now c.in_ok-start.start c.in_ok-kept.kept begins formed c.in_ok-kept.ensures.section

pub returns-clause-reads : goal.returns-clause-reads
returns-clause-reads g c =
    let begins : c.in_ok-start.start ≡ bookmark_key c.args.sub.now c.args.source.now [] = c.in_ok-start.ensures ∙ (λ i. bookmark_key (c.as_text.ensures.value i) (c.as_text-2.ensures.value i) []) in
    let now = g.K.Keeper.store c.section.new.keeper in
    let items = c.as_slice.ensures in
    may_be_ill AreFormed (fails c.bookmark_by.result) (g.K.Keeper.store c.args.keeper.now) now c.in_ok-kept.ensures.reads
    (λ failed. no_bookmarks now.rows c.args.sub.now c.args.source.now c.in_ok-start.start c.in_ok-kept.kept begins (rw items at (c.bookmark_by.ensures.failed failed)) c.in_ok-kept.ensures.section)
