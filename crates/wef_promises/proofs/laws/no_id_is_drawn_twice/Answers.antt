use Rattle.wef_safety.proofs.LowerFacts.{lower}
use Rattle.wef_promises.proofs.Drawn.{reply_ids_rise, request_ids_rise}
use Rattle.wef_promises.proofs.laws.no_id_is_drawn_twice.Goals as goal

pub returns : goal.returns
returns c = record { requests = request_ids_rise lower; replies = reply_ids_rise }
