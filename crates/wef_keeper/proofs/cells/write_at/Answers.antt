use Rattle.std.proofs.Common.{◌≡◌, ◌&&◌, cond, is_some, refl, sym, ap, subst, ◌∙◌, Some, None}
use Rattle.std.specs.BTreeMap.{get}
use Rattle.std.specs.Option.{IsSome, option_copied_mut}
use Rattle.std.specs.Ordering.{eq_by_cmp}
use Rattle.wef_keeper.specs.Cells.{found, has}
use Rattle.wef_keeper.specs.Rows.{key_cmp}
use Rattle.wef_keeper.proofs.Places.{tied, flat_written, some_written, flat_unwritten}
use Rattle.wef_keeper.proofs.cells.write_at.Goals as goal

pub returns-in-Some-clause-found : goal.returns-in-Some-clause-found
returns-in-Some-clause-found c =
    let there : get key_cmp c.args.cells.now c.args.key.now ≡ Some c.in-Some.room.now = sym c.get_mut.ensures.value ∙ ap option_copied_mut c.in-Some.is in
    let written = (c.get_mut.follows.holds c.replace.new.dest).3 (subst IsSome (sym there) refl) in
    λ q. flat_written (eq_by_cmp key_cmp c.args.key.now q) _ _ c.replace.new.dest (written.0 q) (λ t. ap is_some (tied c.args.cells.now c.args.key.now q t ∙ there))
    ∙ ap (λ cell. cond (eq_by_cmp key_cmp c.args.key.now q && has c.args.cells.now q) cell (found c.args.cells.now q)) c.replace.ensures.after

pub returns-in-Some-clause-has : goal.returns-in-Some-clause-has
returns-in-Some-clause-has c =
    let there : get key_cmp c.args.cells.now c.args.key.now ≡ Some c.in-Some.room.now = sym c.get_mut.ensures.value ∙ ap option_copied_mut c.in-Some.is in
    let written = (c.get_mut.follows.holds c.replace.new.dest).3 (subst IsSome (sym there) refl) in
    λ q. some_written (eq_by_cmp key_cmp c.args.key.now q) _ _ c.replace.new.dest (written.0 q) (λ t. ap is_some (tied c.args.cells.now c.args.key.now q t ∙ there))

pub returns-in-None-clause-found : goal.returns-in-None-clause-found
returns-in-None-clause-found c =
    let cells = c.args.cells.now in
    let gone : get key_cmp cells c.args.key.now ≡ None = sym c.get_mut.ensures.value ∙ ap option_copied_mut c.in-None.is in
    λ q. ap (λ m. found m q) c.get_mut.follows.holds-at-none
    ∙ flat_unwritten (eq_by_cmp key_cmp c.args.key.now q) (get key_cmp cells q) c.args.cell (λ t. tied cells c.args.key.now q t ∙ gone)
