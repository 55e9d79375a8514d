use Rattle.std.proofs.Common.{◌≡◌, drop}
use Rattle.wef_source.specs.Sessions.{with_channels}
use Rattle.wef_source.proofs.adopting.add_channels.Given as goal

abbrev pub invariant-loop-channel : goal.invariant-loop-channel
invariant-loop-channel l = with_channels l.positions (drop l.channel-index l.channels) ≡ with_channels l.fn.positions l.channels
