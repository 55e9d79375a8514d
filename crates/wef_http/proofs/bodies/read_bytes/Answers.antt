use Rattle.std.proofs.Common.{rules}
use Rattle.wef_http.proofs.Fronts.{front_held}
use Rattle.wef_http.proofs.bodies.read_bytes.Goals as goal

pub returns-then-count-len-clause-bytes : goal.returns-then-count-len-clause-bytes
returns-then-count-len-clause-bytes g c =
    rw c.skip.ensures (front_held c.args.held.now (g.P.Port.told c.args.port.now).coming c.args.count c.args.body.now.items c.extend_from_slice.new.self.items (search rules) (search rules))
