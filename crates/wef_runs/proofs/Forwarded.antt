-- That what `forward` sends fits, by its account.
use Rattle.std.proofs.Common.{◌≡◌, ◌⊎◌, inl, inr, ℕ, ◌+◌, Bool, true, false, cond, List, [], sym, refl, subst, arith}
use Rattle.std.specs.List.{AllByRecursion}
use Rattle.std.specs.Prelude.{Ok, Err}
use Rattle.wef_building.specs.Faults.{source_answer, source_store}
use Rattle.wef_building.specs.declared.faults.SourceFault.{SourceFault}
use Rattle.wef_cli.specs.Runs.{Peers}
use Rattle.wef_commands.specs.Endings.{Told}
use Rattle.wef_commands.specs.declared.ending.Ending.{Ending}
use Rattle.wef_commands.specs.declared.writing.TheConstants.{LOG_CAPACITY}
use Rattle.wef_keeper.proofs.Going.{may_leave}
use Rattle.wef_keeper.specs.Calls.{Makes, MayLeave}
use Rattle.wef_keeper.specs.Keeping.{Store}
use Rattle.wef_keeper.specs.Rows.{Rows}
use Rattle.wef_keeper.specs.declared.keys.Change.{Change}
use Rattle.wef_running.specs.ByRows.{ForwardSays, IsBegun}
use Rattle.wef_source.specs.Calls.{start_effect}
use Rattle.wef_source.specs.Machine.{start_of}
use Rattle.wef_source_log.proofs.Cells.{starts_keep}
use Rattle.wef_source_log.specs.Answers.{is_boot_full, next_boot}
use Rattle.wef_source_log.specs.Histories.{Histories}
use Rattle.wef_source_log.specs.LogWindow as log
use Rattle.wef_source_log.specs.declared.faults.LogFault.TheVariants as log_faults
use Rattle.wef_source_log.specs.LogWindow.{IsWindow}
use Rattle.wef_runs.proofs.Acted.{asking_acted}
use Rattle.wef_runs.proofs.Fitting.{all_fit, all_rise}
use Rattle.wef_runs.specs.Acts.{BeginWithin}
use Rattle.wef_runs.specs.Forwarded.{ForwardsFit, HasForwarded, acts_by}

-- a start leaves the window, under the same boot number or the next
pub start_window : (found last : Rows) (all : Histories) (boot : ℕ) → IsWindow found all LOG_CAPACITY boot → MayLeave (λ rows. start_effect rows LOG_CAPACITY) last found
    → IsWindow last all LOG_CAPACITY boot ⊎ IsWindow last all LOG_CAPACITY (boot + 1)
start_window found last all boot window (inl same) = inl (subst (λ (rows : Rows). IsWindow rows all LOG_CAPACITY boot) (sym same) window)
start_window found last all boot window (inr made) = by (is_boot_full found) made
  where
    by : (full : Bool) → Makes {F = SourceFault} (source_answer {T = List Change} (cond full (Err log_faults.Full) (Ok (log.start_changes found LOG_CAPACITY)))) found last
        → IsWindow last all LOG_CAPACITY boot ⊎ IsWindow last all LOG_CAPACITY (boot + 1)
    by true made = absurd made
    by false made = inr (subst (λ (rows : Rows). IsWindow rows all LOG_CAPACITY (boot + 1)) (sym made) (starts_keep found all LOG_CAPACITY boot window))

-- where nothing was asked or sent
pub nothing_forwarded : (all : Histories) (boot : ℕ) (found last : Rows) → IsWindow last all LOG_CAPACITY boot ⊎ IsWindow last all LOG_CAPACITY (boot + 1) → HasForwarded all boot found last []
nothing_forwarded all boot found last window = record { window = window; end = start_of (next_boot found); acted = refl; fit = tt; rise = tt }

module _ (ending : Ending) (out : Told) (peers : Peers) (now : Store) (found last : Rows) (all : Histories) (boot : ℕ) (window : IsWindow found all LOG_CAPACITY boot) (address s : List ℕ) (count : ℕ) where
  begun_fits : (is : IsBegun address s count ending out peers.moment peers.link_before peers.link_after now found last)
      → AllByRecursion (BeginWithin all) (acts_by ending out peers now found last address s count (inr (inr is)))
      → HasForwarded all boot found last (acts_by ending out peers now found last address s count (inr (inr is)))
  begun_fits is within =
      let then_window : IsWindow last all LOG_CAPACITY (boot + 1) = subst (λ (rows : Rows). IsWindow rows all LOG_CAPACITY (boot + 1)) (sym is.rows) (starts_keep found all LOG_CAPACITY boot window) in
      let acts = acts_by ending out peers now found last address s count (inr (inr is)) in
      let acted = asking_acted last peers.moment address s count ending out (record { memory = start_of (next_boot found); store = is.started; link = peers.link_before })
      (record { memory = is.end; store = now; link = peers.link_after }) is.sends in
      record {
        window = inr then_window;
        end = is.end;
        acted = acted;
        fit = all_fit last all LOG_CAPACITY (boot + 1) (omega arith) (omega arith) then_window acts (start_of (next_boot found)) is.end acted within tt;
        rise = all_rise last acts (start_of (next_boot found)) is.end acted;
      }

  says_fits : (says : (last ≡ found) ⊎ ForwardSays address s count ending out peers.moment peers.link_before peers.link_after now found last)
      → AllByRecursion (BeginWithin all) (acts_by ending out peers now found last address s count says) → HasForwarded all boot found last (acts_by ending out peers now found last address s count says)
  says_fits (inl same) within = nothing_forwarded all boot found last (inl (subst (λ (rows : Rows). IsWindow rows all LOG_CAPACITY boot) (sym same) window))
  says_fits (inr (inl (fault, refuses, is, unwritten, same, goes))) within =
      nothing_forwarded all boot found last (start_window found last all boot window (may_leave source_store (λ rows. start_effect rows LOG_CAPACITY) next_boot (Err fault) found last goes))
  says_fits (inr (inr is)) within = begun_fits is within

pub forwards_fit : ForwardsFit
forwards_fit address s count found last account all boot window within = says_fits account.ending account.out account.peers account.now found last all boot window address s count account.says within
