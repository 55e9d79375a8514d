use Rattle.std.proofs.Common.{sym, subst}
use Rattle.wef_envelope.specs.Written.{written}
use Rattle.wef_envelope.specs.declared.envelopes.Envelope.{Envelope}
use Rattle.wef_xml.specs.Good.{IsGoodTree}
use Rattle.wef_front_source.proofs.BeatsAreGood.{beat_good}
use Rattle.wef_front_source.proofs.sending.write_beat.Goals as goal

pub write_envelope-requires : goal.write_envelope-requires
write_envelope-requires c = subst (λ (e : Envelope). IsGoodTree (written e)) (sym c.in_ok-envelope.ensures) (beat_good c.args.beat.now c.requires)
