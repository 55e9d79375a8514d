use Rattle.std.proofs.Common.{◌≡◌, ◌∙◌, arith, pos, sym, to_z}
use Rattle.std.specs.Prelude.{is_ok, is_some}
use Rattle.std.specs.Int.{w8, w16}
use Rattle.std.proofs.lemmas.Int.{to_z_pos}
use Rattle.wef_times.proofs.calendar.civil.Goals as goal

pub returns-clause-some : goal.returns-clause-some
returns-clause-some c =
    let year : to_z w16 c.args.year ≡ pos c.args.year = to_z_pos w16 c.args.year (omega arith) in
    let month : to_z w8 c.args.month ≡ pos c.args.month = to_z_pos w8 c.args.month (omega arith) in
    let day : to_z w8 c.args.day ≡ pos c.args.day = to_z_pos w8 c.args.day (omega arith) in
    let hour : to_z w8 c.args.hour ≡ pos c.args.hour = to_z_pos w8 c.args.hour (omega arith) in
    let minute : to_z w8 c.args.minute ≡ pos c.args.minute = to_z_pos w8 c.args.minute (omega arith) in
    let second : to_z w8 c.args.second ≡ pos c.args.second = to_z_pos w8 c.args.second (omega arith) in
    let made = rw (year, month, day, hour, minute, second) at c.new.ensures.succeeds in
    let kept : is_some c.ok.result ≡ is_ok c.new.result = c.ok.ensures.variant in
    (λ some. made.0 (sym kept ∙ some), λ given. kept ∙ made.1 given)
