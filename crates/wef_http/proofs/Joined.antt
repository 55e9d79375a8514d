-- The texts of heads in one piece, as they are made.
use Rattle.std.proofs.Common.{◌≡◌, ◌++◌, ℕ, List, append_assoc, codes, sym}
use Rattle.std.specs.Fmt.{decimal}
use Rattle.wef_base.specs.declared.tree.Charset.{Charset}
use Rattle.wef_http.specs.Written.{allowed, answer_fields, charset_name, fields, line_end, media_type, reason, refusal_fields, request_head, response_head}

-- ---- a request

abbrev pub joined_request : List ℕ → List ℕ → ℕ → List ℕ
joined_request host path size =
    codes "POST " ++ (path ++ (codes " HTTP/1.1\r\nHost: " ++ (host
    ++ (codes "\r\nContent-Type: application/soap+xml;charset=UTF-8\r\nContent-Length: " ++ (decimal size ++ codes "\r\nConnection: close\r\n\r\n")))))

request_pieces : (post path version host_name host kind size_name size close end : List ℕ)
    → post ++ (path ++ (version ++ (end ++ (host_name ++ (host ++ (end ++ (kind ++ (end ++ (size_name ++ (size ++ (end ++ (close ++ (end ++ end)))))))))))))
    ≡ (post ++ path ++ version ++ end) ++ (host_name ++ host ++ end) ++ (kind ++ end) ++ (size_name ++ size ++ end) ++ (close ++ end) ++ end
request_pieces post path version host_name host kind size_name size close end = simp append_assoc

pub request_is_joined : (host path : List ℕ) (size : ℕ) → joined_request host path size ≡ request_head host path size
unfolding request_head media_type
request_is_joined host path size =
    request_pieces (codes "POST ") path (codes " HTTP/1.1") (codes "Host: ") host (codes "Content-Type: application/soap+xml;charset=UTF-8")
    (codes "Content-Length: ") (decimal size) (codes "Connection: close") line_end

-- ---- a response

abbrev pub joined_response : ℕ → List ℕ → List ℕ → List ℕ
joined_response status reason fields = codes "HTTP/1.1 " ++ (decimal status ++ (codes " " ++ (reason ++ (codes "\r\n" ++ (fields ++ codes "\r\n")))))

response_pieces : (version status space reason fields end : List ℕ)
    → version ++ (status ++ (space ++ (reason ++ (end ++ (fields ++ end))))) ≡ (version ++ status ++ space ++ reason ++ end) ++ fields ++ end
response_pieces version status space reason fields end = simp append_assoc

pub response_is_joined : (status : ℕ) (charset : Charset) (size : ℕ)
    → joined_response status (reason status) (fields status charset size) ≡ response_head status charset size
unfolding response_head
response_is_joined status charset size = response_pieces (codes "HTTP/1.1 ") (decimal status) (codes " ") (reason status) (fields status charset size) line_end

-- ---- the fields of an answer

abbrev pub joined_answer : List ℕ → ℕ → List ℕ
joined_answer charset size =
    codes "Content-Type: application/soap+xml;charset=" ++ (charset ++ (codes "\r\nContent-Length: " ++ (decimal size ++ codes "\r\n")))

answer_pieces : (kind charset name size end : List ℕ)
    → kind ++ (charset ++ (end ++ (name ++ (size ++ end)))) ≡ (kind ++ charset ++ end) ++ (name ++ size ++ end)
answer_pieces kind charset name size end = simp append_assoc

pub answer_is_joined : (charset : Charset) (size : ℕ) → joined_answer (charset_name charset) size ≡ answer_fields charset size
unfolding media_type
answer_is_joined charset size =
    answer_pieces (codes "Content-Type: application/soap+xml;charset=") (charset_name charset) (codes "Content-Length: ") (decimal size) line_end

-- ---- the fields of a refusal

abbrev pub joined_refusal : List ℕ → List ℕ
joined_refusal allowed = allowed ++ codes "Content-Length: 0\r\nConnection: close\r\n"

pub refusal_is_joined : (status : ℕ) → joined_refusal (allowed status) ≡ refusal_fields status
refusal_is_joined status = sym (append_assoc (allowed status) (codes "Content-Length: 0\r\n") (codes "Connection: close\r\n"))
