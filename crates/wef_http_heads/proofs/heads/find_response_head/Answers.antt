use Rattle.std.proofs.Common.{rules, ◌≡◌, ◌≤◌, inl, length, map, take}
use Rattle.httparse.specs.Spans.{header_bytes}
use Rattle.wef_http_heads.proofs.Parted.{full_response, long_response, partial_response}
use Rattle.wef_http_heads.proofs.Wholes.{response_found, response_refused}
use Rattle.wef_http_heads.proofs.heads.find_response_head.Goals as goal

pub returns-in-Ok-Complete-clause-refused : goal.returns-in-Ok-Complete-clause-refused
returns-in-Ok-Complete-clause-refused c =
    let given = rw c.in-Ok-Complete.field-0-is at c.in-Ok-Complete.ensures in
    inl (long_response c.args.bytes.now c.parse_response.new.headers c.in-Ok-Complete.head given.complete c.if-head-gt-HEAD_LIMIT.true)

pub returns-in-Ok-clause-found : goal.returns-in-Ok-clause-found
returns-in-Ok-clause-found c =
    let fields : c.new.result ≡ map (header_bytes c.args.bytes.now) (take c.in-Ok-Complete.head.headers c.parse_response.new.headers) = search rules in
    let given = rw c.in-Ok-Complete.field-0-is at c.in-Ok-Complete.ensures in
    let room : length c.parse_response.new.headers ≤ 64 = search rules in
    response_found c.args.bytes.now c.parse_response.new.headers c.in-Ok-Complete.head c.in-Ok.plan given.complete given.within room c.if-head-gt-HEAD_LIMIT.false (rw fields at c.in-Ok.ensures)

pub returns-in-Err-response_of-clause-refused : goal.returns-in-Err-response_of-clause-refused
returns-in-Err-response_of-clause-refused c =
    let fields : c.new.result ≡ map (header_bytes c.args.bytes.now) (take c.in-Ok-Complete.head.headers c.parse_response.new.headers) = search rules in
    let given = rw c.in-Ok-Complete.field-0-is at c.in-Ok-Complete.ensures in
    let room : length c.parse_response.new.headers ≤ 64 = search rules in
    (response_refused c.args.bytes.now c.parse_response.new.headers c.in-Ok-Complete.head c.in-Err-response_of.end given.complete given.within room c.if-head-gt-HEAD_LIMIT.false (rw fields at c.in-Err-response_of.ensures)).0

pub returns-in-Ok-Partial-2-clause-refused : goal.returns-in-Ok-Partial-2-clause-refused
returns-in-Ok-Partial-2-clause-refused c =
    let given = rw c.in-Ok-Partial-2.field-0-is at c.in-Ok-Partial.ensures in
    inl (full_response c.args.bytes.now (partial_response c.args.bytes.now given.partial given.unfinished) c.if-bytes-lt-HEAD_LIMIT.false)
