use Rattle.wef_replies.proofs.IdTexts.{id_spelt}
use Rattle.wef_ids.proofs.PlainIds.{id_text_good}
use Rattle.wef_front.proofs.laws.drawn_ids_are_spelt.Goals as goal

pub returns : goal.returns
returns c = record { spelt = id_spelt; text = id_text_good }
