use Rattle.std.proofs.Common.{rules}
use Rattle.std.proofs.lemmas.Result.{err_from_is_err_and}
use Rattle.wef_http.specs.Reading.{ahead}
use Rattle.wef_http.proofs.ChunkTurns.{chunk_refused, next_chunk}
use Rattle.wef_http.proofs.chunks.read_chunks.Goals as goal

pub returns-in_err-read_chunk-clause-refused : goal.returns-in_err-read_chunk-clause-refused
returns-in_err-read_chunk-clause-refused g c =
    let first = ahead c.args.held.now (g.P.Port.told c.args.port.now) in
    let middle = ahead c.chunks.held (g.P.Port.told c.chunks.port) in
    let e = c.in_err-read_chunk.field-0.0 in
    let p = err_from_is_err_and c.from_residual.result c.from_residual.ensures.1 in
    rw (p.1, p.2) (chunk_refused first middle c.chunks.body.items e c.chunks.invariant.read c.in_err-read_chunk.ensures.refused)

pub chunks-preserved : goal.chunks-preserved
chunks-preserved g c =
    let first = ahead c.args.held.now (g.P.Port.told c.args.port.now) in
    let middle = ahead c.chunks.held (g.P.Port.told c.chunks.port) in
    let last = ahead c.read_chunk.new.held (g.P.Port.told c.read_chunk.new.port) in
    let body = c.chunks.body.items in
    record {
      read = next_chunk first middle last body c.read_chunk.new.body.items c.chunks.invariant.read (rw c.if-branch.true at c.in_ok-read_chunk.ensures.chunk);
      size = search rules;
      reach = search rules;
      short = search rules;
      rest = search rules;
      later = search rules;
    }
