use Rattle.std.proofs.Common.{rules, ◌≤◌, inl, length}
use Rattle.wef_http_heads.proofs.Parted.{full_request, long_request, partial_request}
use Rattle.wef_http_heads.proofs.Wholes.{request_found, request_refused}
use Rattle.wef_http_heads.proofs.heads.find_request_head.Goals as goal

pub returns-in-Ok-Partial-clause-found : goal.returns-in-Ok-Partial-clause-found
returns-in-Ok-Partial-clause-found c =
    let given = rw c.in-Ok-Partial.field-0-is at c.in-Ok-Partial.ensures in
    (partial_request c.args.bytes.now given.partial given.unfinished, c.if-bytes-lt-HEAD_LIMIT.true)

pub returns-in-Ok-Partial-2-clause-refused : goal.returns-in-Ok-Partial-2-clause-refused
returns-in-Ok-Partial-2-clause-refused c =
    let given = rw c.in-Ok-Partial-2.field-0-is at c.in-Ok-Partial.ensures in
    inl (full_request c.args.bytes.now (partial_request c.args.bytes.now given.partial given.unfinished) c.if-bytes-lt-HEAD_LIMIT.false)

pub returns-in-Ok-clause-found : goal.returns-in-Ok-clause-found
returns-in-Ok-clause-found c =
    let given = rw c.in-Ok-Complete.field-0-is at c.in-Ok-Complete.ensures in
    let room : length c.parse_request.new.headers ≤ 64 = search rules in
    request_found c.args.side c.args.bytes.now c.parse_request.new.headers c.in-Ok-Complete.head c.in-Ok.plan given.complete given.within room c.if-head-gt-HEAD_LIMIT.false c.in-Ok.ensures

pub returns-in-Err-judge_request-clause-refused : goal.returns-in-Err-judge_request-clause-refused
returns-in-Err-judge_request-clause-refused c =
    let given = rw c.in-Ok-Complete.field-0-is at c.in-Ok-Complete.ensures in
    let room : length c.parse_request.new.headers ≤ 64 = search rules in
    (request_refused c.args.side c.args.bytes.now c.parse_request.new.headers c.in-Ok-Complete.head c.in-Err-judge_request.end given.complete given.within room c.if-head-gt-HEAD_LIMIT.false c.in-Err-judge_request.ensures).0

pub returns-in-Ok-Complete-clause-refused : goal.returns-in-Ok-Complete-clause-refused
returns-in-Ok-Complete-clause-refused c =
    let given = rw c.in-Ok-Complete.field-0-is at c.in-Ok-Complete.ensures in
    inl (long_request c.args.bytes.now c.parse_request.new.headers c.in-Ok-Complete.head given.complete c.if-head-gt-HEAD_LIMIT.true)
