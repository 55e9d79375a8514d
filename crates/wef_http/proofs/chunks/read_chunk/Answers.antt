use Rattle.std.proofs.Common.{length}
use Rattle.std.proofs.lemmas.Result.{err_from_is_err_and}
use Rattle.wef_http.specs.Reading.{ahead}
use Rattle.wef_http.proofs.ChunkTurns.{line_refused}
use Rattle.wef_http.proofs.chunks.read_chunk.Goals as goal

pub returns-in_err-size-clause-refused : goal.returns-in_err-size-clause-refused
returns-in_err-size-clause-refused g c =
    let told = ahead c.args.held.now (g.P.Port.told c.args.port.now) in
    let e = c.in_err-size.field-0.0 in
    let p = err_from_is_err_and c.from_residual.result c.from_residual.ensures.1 in
    rw (p.1, p.2) (line_refused told (length c.args.body.now.items) e c.in_err-size.ensures.refused)
