-- The facts of the crates below, from these crates' laws.
use Rattle.std.proofs.Common.{◌≡◌, ◌∙◌, ℕ, ◌+◌, ◌≤◌, ◌<◌, true, false, List, nat_le, refl, ap, arith}
use Rattle.std.proofs.lemmas.Bool.{and_parts}
use Rattle.std.proofs.lemmas.Bool.Decides.{nat_tests}
use Rattle.std.specs.Prelude.{Option, Some, None, IfSome, unwrap_or}
use Rattle.std.specs.FinMap as finite
use Rattle.std.specs.Option.{option_map}
use Rattle.std.specs.Str.{is_utf8}
use Rattle.wef_collector.proofs.FormsStay.{forms_stay as collector_forms}
use Rattle.wef_collector_rows.specs.Forms.{is_source_name, is_subscription_name}
use Rattle.wef_event.proofs.NumberedTrees.{numbered_is_read}
use Rattle.wef_keeper.specs.Rows.{Rows, row_of}
use Rattle.wef_keeper.specs.declared.keys.Cell.{Cell}
use Rattle.wef_replay.specs.Good.{is_source, is_subscription}
use Rattle.wef_building.proofs.Built.{built_fit}
use Rattle.wef_source_log.proofs.Cells.{extends, last_cell-number, last_in, nothing_is_empty, starts_keep}
use Rattle.wef_source_log.proofs.Contents.{windows_read}
use Rattle.wef_source_log.proofs.Forming.{forms_stay as log_forms, number_within}
use Rattle.wef_source_log.specs.Forms as log
use Rattle.wef_source_log.specs.Histories.{Histories}
use Rattle.wef_source_log.specs.Keys.{last_key}
use Rattle.wef_source_log.specs.LogWindow.{IsWindow, boot_of, last_of}
use Rattle.wef_safety.proofs.Lower.{Lower}

below : (n : ℕ) → nat_le 9223372036854775807 n ≡ false → n < 9223372036854775807
below n e = grind (arith, nat_tests, e)

boot_is : (rows : Rows) (all : Histories) (capacity boot : ℕ) → IsWindow rows all capacity boot → boot_of rows ≡ boot
boot_is rows all capacity boot window = ap (λ (o : Option Cell). unwrap_or (option_map (λ (cell : Cell). cell.value) o) 0) window.boot_row ∙ last_cell-number boot

last_within : (rows : Rows) (c : List ℕ) → log.AreFormed rows → last_of rows c ≤ 9223372036854775807
last_within rows c formed = by_cell (finite.get rows (last_key c)) (formed (last_key c))
  where
    by_cell : (o : Option Cell) → IfSome o (λ cell. log.is_formed (row_of (last_key c, cell)) ≡ true) → unwrap_or (option_map (λ (cell : Cell). cell.value) o) 0 ≤ 9223372036854775807
    by_cell None e = omega arith
    by_cell (Some cell) e = number_within (row_of (last_key c, cell)) e refl

-- a name that a line may have is one such as the collector keeps
pub subscription_named : (u : List ℕ) → is_subscription u ≡ true → is_subscription_name u ≡ true
subscription_named u e = (and_parts (is_utf8 u) (is_subscription_name u) e).1

pub source_named : (s : List ℕ) → is_source s ≡ true → is_source_name s ≡ true
source_named s e = (and_parts (is_utf8 s) (is_source_name s) e).1

pub lower : Lower
lower = record {
  formed_empty = collector_forms.nothing;
  formed_booted = collector_forms.start;
  formed_added = λ rows about name back formed. collector_forms.add rows about (subscription_named about.name name) back formed;
  formed_ended = collector_forms.end;
  formed_taken = λ rows u s about batch now live source good sound soon formed.
      collector_forms.take rows u s about batch now live (source_named s source) good sound soon formed;
  log_empty = nothing_is_empty;
  log_starts = starts_keep;
  log_extends = λ rows event all capacity boot some begun window. (extends rows _ event (last_of rows event.channel + 1) refl refl all capacity boot some begun window).1;
  log_boot_is = boot_is;
  log_formed_empty = log_forms.nothing;
  log_formed_started = λ rows capacity least greatest room formed. log_forms.start rows capacity formed (below (boot_of rows) room) least greatest;
  log_formed_written = λ rows event room named said formed. log_forms.write rows event.channel _ formed (below (last_of rows event.channel) room) named said;
  log_lengths = λ rows all capacity boot c window formed.
      let same = last_in rows all capacity boot window c in
      let most = last_within rows c formed in
      omega arith;
  log_reads = windows_read;
  numbered_events = numbered_is_read;
  built_fits = built_fit windows_read;
}
