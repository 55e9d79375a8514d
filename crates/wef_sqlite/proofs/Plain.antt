-- The statements that read show rows and do nothing else.
use Rattle.std.proofs.Common.{◌≡◌, ℕ, None, List, refl, sym, subst, ◌∙◌, inl, arith}
use Rattle.sqlite.specs.Listing.{understood}
use Rattle.sqlite.specs.State.{State, HasCleanDisk, IsUnchanged, Survives, Shown, ShowsRows, CommitsShowing}
use Rattle.sqlite.proofs.Callers.{IsPlain, never_commits}
use Rattle.sqlite.proofs.StateLemmas.{survives_then, survives_weaker}
use Rattle.sqlite_tied.specs.Compute.{everything}
use Rattle.sqlite_value.specs.Order.{Row}
use Rattle.sqlite.specs.Clock.{timed}
use Rattle.sqlite_schema.specs.declared.schema.Schema.{Schema}
use Rattle.wef_sqlite.specs.Schema.{kept_schema}
use Rattle.wef_sqlite.specs.States.{Rests}
use Rattle.wef_sqlite.specs.Statements.{text_behind}
use Rattle.wef_sqlite.specs.declared.read.Section.{Section}
use Rattle.wef_sqlite.specs.declared.read.Section.TheVariants.{Number, Channel, Source, Sub, Kind}
use Rattle.wef_sqlite.specs.declared.read.TheConstants.{GET}

get_shows : IsPlain (understood kept_schema GET.now)
unfolding understood everything
get_shows = (refl, refl)

pub get_plain : (schema : Schema) → schema ≡ kept_schema → IsPlain (understood schema GET.now)
get_plain schema kept = subst (λ s. IsPlain (understood s GET.now)) (sym kept) get_shows

behind_shows : (section : Section) → IsPlain (understood kept_schema (text_behind section))
unfolding understood everything
behind_shows Number = (refl, refl)
behind_shows Channel = (refl, refl)
behind_shows Source = (refl, refl)
behind_shows Sub = (refl, refl)
behind_shows Kind = (refl, refl)

pub behind_plain : (section : Section) (schema : Schema) → schema ≡ kept_schema → IsPlain (understood schema (text_behind section))
behind_plain section schema kept = subst (λ s. IsPlain (understood s (text_behind section))) (sym kept) (behind_shows section)

-- what is unchanged rests
pub unchanged_rests : (old new : State) → IsUnchanged old new → Rests old new
unchanged_rests old new same = record { is_open = same.0.is_open ∙ sym same.0.was_open; now = same.0.now_is; committed = same.0.committed_is }

-- what a plain statement shows leaves the database
pub shown_rests : (sql : List ℕ) (params : Row) (old new : State) (rows : List Row) → IsPlain (understood old.now.schema sql) → Shown sql params old new rows → Rests old new
unfolding Shown
shown_rests sql params old new rows plain h =
    let none : h.0.returning ≡ None = (subst IsPlain h.1.is plain).0 in
    let same : IsUnchanged old new = (subst (ShowsRows old new sql h.0 (timed params h.0.formats h.1.now) rows) none h.2).3 in
    unchanged_rests old new same

-- and a crash finds nothing else than before
pub commits_nothing : (sql : List ℕ) (params : Row) (old new : State) → IsPlain (understood old.now.schema sql) → Survives old new (CommitsShowing sql params old) → Survives old new (λ _. ⊥)
commits_nothing sql params old new plain = survives_weaker old new _ _ (λ _ db. never_commits sql params old db plain)

-- reads one after another
pub rests_then : (a b c : State) → Rests a b → Rests b c → Rests a c
rests_then a b c first next = record { is_open = next.is_open ∙ first.is_open; now = next.now ∙ first.now; committed = next.committed ∙ first.committed }

pub survives_reads : (a b c : State) → Survives a b (λ _. ⊥) → Survives b c (λ _. ⊥) → Survives a c (λ _. ⊥)
survives_reads a b c = survives_then a b c (λ _. ⊥) (λ _. ⊥) (λ _. ⊥) (λ _ db none. none) (λ _ db none. none)

-- a connection that is clean after reads was so before
pub clean_before : (old new : State) → Survives old new (λ _. ⊥) → HasCleanDisk new → HasCleanDisk old
clean_before old new survives clean = omega (arith, survives.clean, clean)

pub survives_itself : (s : State) → Survives s s (λ _. ⊥)
survives_itself s = record { clean = omega arith; shield = λ h. h; counts = omega arith; limit = refl; closes = λ _ h. inl h; crash = λ _ db h. inl h }
