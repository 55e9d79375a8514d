-- Held events, written page by page.
use Rattle.std.proofs.Common.{◌≡◌, ◌∙◌, ℕ, List, [], ◌∷◌, ◌++◌, ◌<◌, length, take, refl, ap, sym, subst, append_assoc, append-nil, inl, inr}
use Rattle.std.specs.Prelude.{Option, None, Some, IfSome, codes}
use Rattle.std.specs.List.{flat_map}
use Rattle.std.specs.Io.KnownBytes.{Appends, Keeps}
use Rattle.wef_collector_rows.specs.Held.{held_after, last_number}
use Rattle.wef_event.specs.Events.{Event}
use Rattle.wef_keeper.proofs.ByPages.{last_page}
use Rattle.wef_keeper.proofs.Told.{told_any, told_both, told_map, told_still}
use Rattle.wef_keeper.specs.Keeping.{Stays}
use Rattle.wef_keeper.specs.Rows.{Rows}
use Rattle.wef_lines.specs.Printed.{event_line, events_text}
use Rattle.wef_commands.proofs.Written.{both, further, part, part_further, unwritten}
use Rattle.wef_commands.specs.Calling.{WroteOut}
use Rattle.wef_commands.specs.Pages.{WroteLast, end_line}
use Rattle.wef_commands.specs.Showing.{WroteUpTo}
use Rattle.wef_commands.specs.Streams.{IsWrittenUpTo, WritesPart}
use Rattle.wef_commands.specs.declared.ending.Ending.{Ending}
use Rattle.wef_commands.specs.declared.ending.Ending.TheVariants as ends

-- the text of events, put together from the other end
text_is : (events : List Event) → events_text events ≡ flat_map event_line events ++ end_line
unfolding events_text
text_is events = append_assoc (flat_map event_line events) (codes "end") (10 ∷ [])

lines_first : (page rest : List Event) → flat_map event_line (page ++ rest) ≡ flat_map event_line page ++ flat_map event_line rest
lines_first [] rest = refl
lines_first (event ∷ page) rest =
    ap (λ (text : List ℕ). event_line event ++ text) (lines_first page rest) ∙ sym (append_assoc (event_line event) (flat_map event_line page) (flat_map event_line rest))

-- the text of a page and of what stands behind it
page_first : (page rest : List Event) → events_text (page ++ rest) ≡ flat_map event_line page ++ events_text rest
page_first page rest =
    text_is (page ++ rest) ∙ ap (λ (text : List ℕ). text ++ end_line) (lines_first page rest)
    ∙ append_assoc (flat_map event_line page) (flat_map event_line rest) end_line ∙ ap (λ (text : List ℕ). flat_map event_line page ++ text) (sym (text_is rest))

-- what is left, by the text of the page that comes next
page_left : (all page rest : List Event) (text : List ℕ) → all ≡ page ++ rest → text ≡ flat_map event_line page → events_text all ≡ text ++ events_text rest
page_left all page rest text splits is = ap events_text splits ∙ page_first page rest ∙ ap (λ (t : List ℕ). t ++ events_text rest) (sym is)

-- and by that of the last page
last_left : (all page : List Event) (text : List ℕ) → all ≡ page → text ≡ flat_map event_line page → events_text all ≡ text ++ end_line
last_left all page text whole is = ap events_text whole ∙ text_is page ∙ ap (λ (t : List ℕ). t ++ end_line) (sym is)

-- nothing was written of a text yet
pub no_part : (a : Option (List ℕ)) (text : List ℕ) → WritesPart a a text
no_part a text = part a a text text (unwritten a text)

-- once a page is written, what is left is what stands behind it
page_written : (a b c : Option (List ℕ)) (whole waiting rest : List ℕ) → IsWrittenUpTo a b whole (waiting ++ rest) → Appends b c waiting → IsWrittenUpTo a c whole rest
page_written a b c whole waiting rest first next =
    further a b c whole waiting [] rest first (record { front = waiting; written = next; whole = append-nil waiting })

-- all that was left
left_written : (a b c : Option (List ℕ)) (whole left : List ℕ) → IsWrittenUpTo a b whole left → Appends b c left → Appends a c whole
left_written a b c whole left first next = subst (Appends a c) first.whole (both a b c first.front left first.written next)

-- a part of what was left
left_in_part : (a b c : Option (List ℕ)) (whole left : List ℕ) → IsWrittenUpTo a b whole left → WritesPart b c left → WritesPart a c whole
left_in_part a b c whole left first next = part_further a b c whole left [] (subst (IsWrittenUpTo a b whole) (sym (append-nil left)) first) next

-- what leaves the known bytes alone leaves what was written
kept_still : (a b c : Option (List ℕ)) (text : List ℕ) → Appends a b text → Keeps b c → Appends a c text
kept_still None b c text written kept = tt
kept_still (Some x) None c text written kept = absurd written
kept_still (Some x) (Some y) None text written kept = absurd kept
kept_still (Some x) (Some y) (Some z) text written kept = kept ∙ written

kept_part : (a b c : Option (List ℕ)) (text : List ℕ) → WritesPart a b text → Keeps b c → WritesPart a c text
kept_part a b c text (k, written) kept = (k, kept_still a b c (take k text) written kept)

last_out : (ending : Ending) (whole left : List ℕ) (a b c : Option (List ℕ)) (f g h : ℕ) → IsWrittenUpTo a b whole left
    → WroteOut left ending (record { before = b; after = c; faults_before = g; faults_after = h }) → WroteUpTo whole ending (record { before = a; after = c; faults_before = f; faults_after = h })
last_out ends.Done whole left a b c f g h first wrote = left_written a b c whole left first wrote
last_out ends.OutputFailed whole left a b c f g h first wrote = left_in_part a b c whole left first wrote.1
last_out _ whole left a b c f g h first wrote = absurd wrote

-- what was left is written, as far as the ending says
last_written : (ending : Ending) (whole left : List ℕ) (a b c : Option (List ℕ)) (f g h : ℕ) → IsWrittenUpTo a b whole left
    → WroteLast left ending (record { before = b; after = c; faults_before = g; faults_after = h }) → WroteUpTo whole ending (record { before = a; after = c; faults_before = f; faults_after = h })
last_written ending whole left a b c f g h first (inl wrote) = last_out ending whole left a b c f g h first wrote
last_written ending whole left a b c f g h first (inr (is, unwritten)) =
    subst (λ (e : Ending). WroteUpTo whole e (record { before = a; after = c; faults_before = f; faults_after = h })) (sym is) (kept_part a b c whole (part a b whole left first) unwritten)

-- ---- page by page, by the rows that are still told

module _ (u s c : List ℕ) where
  -- what is written of the held events above a number
  abbrev pub text_above : ℕ → Rows → List ℕ
  text_above after rows = events_text (held_after rows u s c after)

  -- of the text of all held events that of those above a number is left
  abbrev pub IsLeftAbove : Option (List ℕ) → Option (List ℕ) → ℕ → Rows → Type 0
  IsLeftAbove a b after rows = IsWrittenUpTo a b (text_above 0 rows) (text_above after rows)

  -- nothing is written yet
  pub all_left : (a : Option (List ℕ)) (told : Option Rows) → IfSome told (IsLeftAbove a a 0)
  all_left a told = told_any told (IsLeftAbove a a 0) (λ rows. unwritten a (text_above 0 rows))

  -- where it stops, a front part was written
  pub stopped : (a b : Option (List ℕ)) (before now : Option Rows) (after : ℕ) → Stays before now → IfSome before (IsLeftAbove a b after)
      → IfSome now (λ rows. WritesPart a b (text_above 0 rows))
  stopped a b before now after stays written =
      told_map now (IsLeftAbove a b after) (λ rows. WritesPart a b (text_above 0 rows)) (λ rows. part a b (text_above 0 rows) (text_above after rows))
      (told_still before now (IsLeftAbove a b after) stays written)

module _ (u s c : List ℕ) (a b : Option (List ℕ)) (before now : Option Rows) (after : ℕ) (page : List Event) (text : List ℕ)
    (stays : Stays before now) (written : IfSome before (IsLeftAbove u s c a b after)) (is : text ≡ flat_map event_line page) where
  abbrev whole : Rows → List ℕ
  whole rows = text_above u s c 0 rows

  abbrev behind : Rows → List Event
  behind rows = held_after rows u s c (last_number after page)

  -- the page comes next
  abbrev IsNext : Rows → Type 0
  IsNext rows = held_after rows u s c after ≡ page ++ behind rows

  -- its text comes next
  abbrev IsLeftWith : Rows → Type 0
  IsLeftWith rows = IsWrittenUpTo a b (whole rows) (text ++ events_text (behind rows))

  left_with : IfSome now IsNext → IfSome now IsLeftWith
  left_with next =
      told_both now IsNext (IsLeftAbove u s c a b after) IsLeftWith next (told_still before now (IsLeftAbove u s c a b after) stays written)
      (λ rows splits. subst (IsWrittenUpTo a b (whole rows)) (page_left (held_after rows u s c after) page (behind rows) text splits is))

  -- the output fails behind the page
  pub failed_behind : (d : Option (List ℕ)) → IfSome now IsNext → WritesPart b d text → IfSome now (λ rows. WritesPart a d (whole rows))
  failed_behind d next part =
      told_map now IsLeftWith (λ rows. WritesPart a d (whole rows)) (λ rows left. part_further a b d (whole rows) text (events_text (behind rows)) left part) (left_with next)

  -- the page is written
  pub written_behind : (d : Option (List ℕ)) (last : ℕ) → IfSome now IsNext → Appends b d text → last ≡ last_number after page → IfSome now (IsLeftAbove u s c a d last)
  written_behind d last next more is_last =
      told_map now IsLeftWith (IsLeftAbove u s c a d last)
      (λ rows left. subst (λ (n : ℕ). IsLeftAbove u s c a d n rows) (sym is_last) (page_written a b d (whole rows) text (events_text (behind rows)) left more)) (left_with next)

  -- the page is the last
  pub ended_behind : (m : ℕ) (ending : Ending) (d : Option (List ℕ)) (f g h : ℕ) → length page < m → IfSome now (λ rows. page ≡ take m (held_after rows u s c after)) → IfSome now IsNext
      → WroteLast (text ++ end_line) ending (record { before = b; after = d; faults_before = g; faults_after = h })
      → IfSome now (λ rows. WroteUpTo (whole rows) ending (record { before = a; after = d; faults_before = f; faults_after = h }))
  ended_behind m ending d f g h short first next wrote =
      let all = told_both now (λ rows. page ≡ take m (held_after rows u s c after)) IsNext (λ rows. held_after rows u s c after ≡ page) first next
      (λ rows is_page splits. last_page m (held_after rows u s c after) page (behind rows) is_page splits short) in
      told_both now (λ rows. held_after rows u s c after ≡ page) (IsLeftAbove u s c a b after)
      (λ rows. WroteUpTo (whole rows) ending (record { before = a; after = d; faults_before = f; faults_after = h })) all (told_still before now (IsLeftAbove u s c a b after) stays written)
      (λ rows last left. last_written ending (whole rows) (text ++ end_line) a b d f g h
      (subst (IsWrittenUpTo a b (whole rows)) (last_left (held_after rows u s c after) page text last is) left) wrote)
