-- The rows of held events are of their form, as far as they were read page by page.
use Rattle.std.proofs.Common.{◌≡◌, ◌∙◌, ℕ, ◌<◌, List, [], ◌++◌, length, take, refl, ap, sym, subst, append_assoc, arith}
use Rattle.std.proofs.lemmas.Bool.{and_from}
use Rattle.std.proofs.lemmas.List.{length-map, take-map}
use Rattle.std.proofs.lemmas.List.Folds.{list_all-append}
use Rattle.std.specs.List.{list_all}
use Rattle.std.specs.Prelude.{Option, IfSome}
use Rattle.wef_collector_rows.specs.Forms.{is_formed}
use Rattle.wef_collector_rows.specs.Held.{event_of_row, held_after, held_rows, last_number}
use Rattle.wef_collector_rows.specs.Judged.{AreAllFormed}
use Rattle.wef_event.specs.Events.{Event}
use Rattle.wef_keeper.proofs.ByPages.{last_page}
use Rattle.wef_keeper.proofs.Told.{told_any, told_both, told_still}
use Rattle.wef_keeper.specs.Keeping.{Stays}
use Rattle.wef_keeper.specs.Rows.{Rows}
use Rattle.wef_keeper.specs.declared.keys.Row.{Row}
use Rattle.wef_commands.specs.Showing.{JudgesRows}
use Rattle.wef_commands.specs.declared.ending.Ending.{Ending}
use Rattle.wef_commands.specs.declared.ending.Ending.TheVariants as ends

-- of the rows of held events those up to a number are of their form
pub record AreFormedTo (u s c : List ℕ) (after : ℕ) (rows : Rows) : Type 0 where
  pub front : List Row
  pub whole : front ++ held_rows rows u s c after ≡ held_rows rows u s c 0
  pub formed : AreAllFormed front

pub none_read : (u s c : List ℕ) (told : Option Rows) → IfSome told (AreFormedTo u s c 0)
none_read u s c told = told_any told (AreFormedTo u s c 0) (λ rows. record { front = []; whole = refl; formed = refl })

both_formed : (front page : List Row) → AreAllFormed front → AreAllFormed page → AreAllFormed (front ++ page)
both_formed front page first next = list_all-append is_formed front page ∙ and_from (list_all is_formed front) (list_all is_formed page) first next

-- nothing is said of rows that weren't all written
pub judges_nothing : (told : Option Rows) (ending : Ending) (of_rows : Rows → List Row) → ((rows : List Row) → JudgesRows ending rows) → IfSome told (λ rows. JudgesRows ending (of_rows rows))
judges_nothing told ending of_rows gives = told_any told (λ rows. JudgesRows ending (of_rows rows)) (λ rows. gives (of_rows rows))

judges_all : (ending : Ending) (rows : List Row) → AreAllFormed rows → JudgesRows ending rows
judges_all ends.Done rows formed = formed
judges_all _ rows formed = tt

module _ (u s c : List ℕ) (before now : Option Rows) (m after : ℕ) (page : List Event) (stays : Stays before now) (read : IfSome before (AreFormedTo u s c after)) where
  abbrev page_rows : Rows → List Row
  page_rows rows = take m (held_rows rows u s c after)

  abbrev IsFirst : Rows → Type 0
  IsFirst rows = page ≡ take m (held_after rows u s c after)

  abbrev IsNext : Rows → Type 0
  IsNext rows = held_rows rows u s c after ≡ page_rows rows ++ held_rows rows u s c (last_number after page)

  abbrev IsFormed : Rows → Type 0
  IsFormed rows = AreAllFormed (page_rows rows)

  -- what is said of the rows once the page is read
  abbrev pub IsRead : Rows → Type 0
  IsRead rows = IsFirst rows × IsNext rows × IsFormed rows

  pub page_said : IfSome now IsFirst → IfSome now IsNext → IfSome now IsFormed → IfSome now IsRead
  page_said first next formed =
      told_both now IsFirst (λ rows. IsNext rows × IsFormed rows) IsRead first
      (told_both now IsNext IsFormed (λ rows. IsNext rows × IsFormed rows) next formed (λ rows is are. (is, are))) (λ rows is are. (is, are.0, are.1))

  -- a page more
  pub page_read : (last : ℕ) → IfSome now IsRead → last ≡ last_number after page → IfSome now (AreFormedTo u s c last)
  page_read last said is =
      told_both now IsRead (AreFormedTo u s c after) (AreFormedTo u s c last) said (told_still before now (AreFormedTo u s c after) stays read)
      (λ rows of_page to. subst (λ (n : ℕ). AreFormedTo u s c n rows) (sym is) (record {
        front = to.front ++ page_rows rows;
        whole = append_assoc to.front (page_rows rows) (held_rows rows u s c (last_number after page)) ∙ ap (λ (behind : List Row). to.front ++ behind) (sym of_page.1) ∙ to.whole;
        formed = both_formed to.front (page_rows rows) to.formed of_page.2;
      }))

  -- the page has as many rows as events
  as_many : (rows : Rows) → IsFirst rows → length (page_rows rows) ≡ length page
  as_many rows first =
      sym (length-map (page_rows rows) (event_of_row c)) ∙ sym (ap length (take-map (event_of_row c) m (held_rows rows u s c after))) ∙ sym (ap length first)

  -- the last page
  pub last_read : (ending : Ending) → length page < m → IfSome now IsRead → IfSome now (λ rows. JudgesRows ending (held_rows rows u s c 0))
  last_read ending short said =
      told_both now IsRead (AreFormedTo u s c after) (λ rows. JudgesRows ending (held_rows rows u s c 0)) said (told_still before now (AreFormedTo u s c after) stays read)
      (λ rows of_page to.
      let many = as_many rows of_page.0 in
      let less : length (page_rows rows) < m = omega (arith, many, short) in
      let all = last_page m (held_rows rows u s c after) (page_rows rows) (held_rows rows u s c (last_number after page)) refl of_page.1 less in
      judges_all ending (held_rows rows u s c 0)
      (subst AreAllFormed (ap (λ (behind : List Row). to.front ++ behind) (sym all) ∙ to.whole) (both_formed to.front (page_rows rows) to.formed of_page.2)))
