-- Messages of HTTP/1.1 as they are written (RFC 9112, sections 2 to 6; RFC 9110, sections 6 to 10 and 15).
use Rattle.std.specs.Prelude.{ℕ, ◌==◌, ◌||◌, Bool, List, [], ◌∷◌, ◌++◌, codes, length, if◌then◌else◌}
use Rattle.std.specs.Fmt.{decimal}
use Rattle.wef_base.specs.declared.tree.Charset.{Charset}
use Rattle.wef_base.specs.declared.tree.Charset.TheVariants.{Utf8, Utf16}

-- the end of a line: CR LF
abbrev pub line_end : List ℕ
line_end = 13 ∷ 10 ∷ []

-- a line of a head
abbrev pub line : List ℕ → List ℕ
line text = text ++ line_end

-- a field of a head: its name and its value
abbrev pub field : List ℕ → List ℕ → List ℕ
field name value = line (name ++ codes ": " ++ value)

-- a charset as it is called
abbrev pub charset_name : Charset → List ℕ
charset_name Utf8 = codes "UTF-8"
charset_name Utf16 = codes "UTF-16"

-- what kind of body it is: an envelope of SOAP 1.2 (RFC 3902)
unfoldable pub media_type : Charset → List ℕ
media_type charset = codes "application/soap+xml;charset=" ++ charset_name charset

-- the head of a request whose body has so many bytes
unfoldable pub request_head : List ℕ → List ℕ → ℕ → List ℕ
request_head host path size =
    line (codes "POST " ++ path ++ codes " HTTP/1.1")
    ++ field (codes "Host") host
    ++ field (codes "Content-Type") (media_type Utf8)
    ++ field (codes "Content-Length") (decimal size)
    ++ field (codes "Connection") (codes "close")
    ++ line_end

-- A request for a path of a host.
abbrev pub request : List ℕ → List ℕ → List ℕ → List ℕ
request host path body = request_head host path (length body) ++ body

-- what a status says in words
unfoldable pub reason : ℕ → List ℕ
reason status =
    if status == 200 then codes "OK"
    else if status == 204 then codes "No Content"
    else if status == 400 then codes "Bad Request"
    else if status == 404 then codes "Not Found"
    else if status == 405 then codes "Method Not Allowed"
    else if status == 411 then codes "Length Required"
    else if status == 413 then codes "Content Too Large"
    else if status == 415 then codes "Unsupported Media Type"
    else codes "Internal Server Error"

-- an answer, which has a body
abbrev pub has_body : ℕ → Bool
has_body status = status == 200 || status == 500

-- a request that is refused for what its head or its length is
abbrev pub is_refusal : ℕ → Bool
is_refusal status = status == 400 || status == 404 || status == 405 || status == 411 || status == 413 || status == 415

-- a status that is written
abbrev pub is_status : ℕ → Bool
is_status status = has_body status || status == 204 || is_refusal status

-- which methods are allowed, where another one was refused
abbrev pub allowed : ℕ → List ℕ
allowed status = if status == 405 then field (codes "Allow") (codes "POST") else []

-- the first line of a response
abbrev pub status_line : ℕ → List ℕ
status_line status = line (codes "HTTP/1.1 " ++ decimal status ++ codes " " ++ reason status)

-- the fields of an answer: what its body is
abbrev pub answer_fields : Charset → ℕ → List ℕ
answer_fields charset size = field (codes "Content-Type") (media_type charset) ++ field (codes "Content-Length") (decimal size)

-- the fields of a refusal: it has no body, and the connection is closed
abbrev pub refusal_fields : ℕ → List ℕ
refusal_fields status = allowed status ++ field (codes "Content-Length") (codes "0") ++ field (codes "Connection") (codes "close")

-- the fields of a response whose body has so many bytes
abbrev pub fields : ℕ → Charset → ℕ → List ℕ
fields status charset size = if has_body status then answer_fields charset size else if status == 204 then [] else refusal_fields status

-- the head of a response whose body has so many bytes
unfoldable pub response_head : ℕ → Charset → ℕ → List ℕ
response_head status charset size = status_line status ++ fields status charset size ++ line_end

-- A response.
abbrev pub response : ℕ → Charset → List ℕ → List ℕ
response status charset body = response_head status charset (length body) ++ body
