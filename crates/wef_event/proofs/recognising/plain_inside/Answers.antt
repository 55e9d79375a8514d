use Rattle.std.proofs.Common.{refl}
use Rattle.std.specs.Prelude.{Some}
use Rattle.wef_event.proofs.SeenNodes.{plain_seen}
use Rattle.wef_event.proofs.recognising.plain_inside.Goals as goal

pub returns : goal.returns
returns c = λ space room. plain_seen space room c.args.text.now c.in_ok-plain.plain.now
    (record { text = Some c.in_ok-plain.plain; found = c.new.result; rest = c.behind_plain-rest.result }) c.behind_plain-rest.ensures c.in_ok-plain.ensures refl c.new.ensures
