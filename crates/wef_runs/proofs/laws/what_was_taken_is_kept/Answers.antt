use Rattle.wef_runs.proofs.Done.{all_kept, run_done, run_keeps}
use Rattle.wef_runs.proofs.Readings.{run_read}
use Rattle.wef_runs.proofs.laws.what_was_taken_is_kept.Goals as goal

pub returns : goal.returns
returns c = record { deeds = run_done; read = run_read; run = run_keeps; runs = all_kept }
