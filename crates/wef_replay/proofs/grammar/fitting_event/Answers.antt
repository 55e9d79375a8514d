use Rattle.std.proofs.Common.{◌∙◌, sym}
use Rattle.wef_replay.proofs.Fitting.{event_is_made}
use Rattle.wef_replay.proofs.grammar.fitting_event.Goals as goal

pub returns : goal.returns
returns c = event_is_made _ (sym c.fits.ensures ∙ c.if-not-fits.false)
