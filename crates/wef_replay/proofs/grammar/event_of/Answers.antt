use Rattle.wef_replay.proofs.grammar.event_of.Goals as goal

pub returns : goal.returns
returns c = rw (c.in_ok-channel.ensures, c.in_ok-id.ensures.value, c.in_ok-level.ensures.value, c.in_ok-word.ensures) c.fitting_event.ensures
