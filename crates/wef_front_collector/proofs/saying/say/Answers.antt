use Rattle.wef_front_collector.proofs.saying.say.Goals as goal

pub returns-in-Take-clause-said : goal.returns-in-Take-clause-said
returns-in-Take-clause-said g c = rw c.in-Take.is c.take.ensures.said

pub returns-in-Take-clause-wants_memory : goal.returns-in-Take-clause-wants_memory
returns-in-Take-clause-wants_memory g c = rw c.in-Take.is c.take.ensures.wants_memory

pub returns-in-Heartbeat-clause-said : goal.returns-in-Heartbeat-clause-said
returns-in-Heartbeat-clause-said g c = rw c.in-Heartbeat.is c.hear_source.ensures.said

pub returns-in-Heartbeat-clause-wants_memory : goal.returns-in-Heartbeat-clause-wants_memory
returns-in-Heartbeat-clause-wants_memory g c = rw c.in-Heartbeat.is c.hear_source.ensures.wants_memory

pub returns-in-Ended-clause-said : goal.returns-in-Ended-clause-said
returns-in-Ended-clause-said g c = rw c.in-Ended.is c.source_ended.ensures.said

pub returns-in-Ended-clause-wants_memory : goal.returns-in-Ended-clause-wants_memory
returns-in-Ended-clause-wants_memory g c = rw c.in-Ended.is c.source_ended.ensures.wants_memory
