use Rattle.std.proofs.Common.{sym, subst}
use Rattle.wef_eventing.specs.Sending.{AreServable}
use Rattle.wef_source.specs.Serving.{AreKept}
use Rattle.wef_source.specs.Sessions.{is_leased, with_offers}
use Rattle.wef_source.proofs.Served.{filtered_kept}
use Rattle.wef_source.proofs.adopting.sessions_of.Goals as goal

pub loop-offer-init : goal.loop-offer-init
loop-offer-init c = record {
  so_far = λ k. with_offers c.args.now (c.in_ok-made.ensures k) (c.as_slice-offer-items.ensures k);
  kept = subst AreKept (sym c.in_ok-made.ensures) (filtered_kept is_leased c.args.sessions.now c.requires.kept);
  servable = subst AreServable (sym c.as_slice-offer-items.ensures) c.requires.servable;
}
