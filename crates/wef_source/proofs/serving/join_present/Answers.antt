use Rattle.std.proofs.Common.{◌≡◌, ap, sym, subst, ◌∙◌}
use Rattle.std.specs.FinMap as map
use Rattle.std.specs.List.{AllByRecursion}
use Rattle.wef_bookmark.specs.Order.{raised_by}
use Rattle.wef_source.specs.Serving.{HasAll}
use Rattle.wef_source.proofs.Served.{AreIn, IsWithin, entries_are_in, entries_within, raised_has_all}
use Rattle.wef_source.proofs.serving.join_present.Goals as goal

pub loop-channel-init : goal.loop-channel-init
loop-channel-init c =
    let all : c.into_iter-channel-iterator.result ≡ map.entries c.args.to.now = cc in
    record {
      so_far = ap (raised_by c.args.positions.now) all;
      kept = c.requires;
      left = subst (AreIn c.args.to.now) (sym all) (entries_are_in c.args.to.now);
      within = subst (AllByRecursion IsWithin) (sym all) (entries_within c.args.to.now c.numbers-channel-items.ensures.kept);
    }

pub loop-channel-preserved : goal.loop-channel-preserved
loop-channel-preserved c =
    let step = c.in-Some.ensures.steps in
    let made = rw c.unwrap.ensures at c.raise.ensures.ok in
    record {
      so_far = ap (λ b. raised_by b c.next.new.self) made ∙ ap (raised_by c.loop-channel.positions) (sym step) ∙ c.loop-channel.invariant.so_far;
      kept = subst (λ b. HasAll b c.args.to.now) (sym made) (raised_has_all c.loop-channel.positions c.args.to.now c.in-Some.channel.now c.in-Some.number.now c.loop-channel.invariant.kept);
      left = (subst (AreIn c.args.to.now) step c.loop-channel.invariant.left).1;
      within = (subst (AllByRecursion IsWithin) step c.loop-channel.invariant.within).1;
    }
