-- Turns of a connection, put one behind the other.
use Rattle.std.proofs.Common.{◌≡◌, ◌⊎◌, inl, inr, ℕ, Bool, true, false, refl, List, [], ◌++◌, take, sym, subst, append_assoc, arith, Option, Some, None, Result}
use Rattle.std.proofs.KnownBytes.{Appends-nil, Appends-trans}
use Rattle.std.specs.Prelude.{IfSome}
use Rattle.std.specs.declared.result.Result.TheVariants.{Ok, Err}
use Rattle.std.specs.Io.KnownBytes.{Appends, prepend_known}
use Rattle.wef_http_heads.specs.declared.answers.Answer.{Answer}
use Rattle.wef_http.specs.Messages.{IsRequest, RefusesRequest}
use Rattle.wef_http.specs.Reading.{Leads}
use Rattle.wef_http.specs.declared.messages.HttpRequest.{HttpRequest}
use Rattle.wef_http_heads.specs.Laws.{IsByBytes}
use Rattle.wef_http_heads.specs.Statuses.{refusal}
use Rattle.wef_http_heads.specs.declared.ends.HttpEnd.{HttpEnd}
use Rattle.wef_http_heads.specs.declared.ends.HttpEnd.TheVariants as http
use Rattle.wef_http_heads.specs.declared.targets.Side.{Side}
use Rattle.wef_http.specs.Sending.{Sends}
use Rattle.wef_ports.specs.Telling.{Told}
use Rattle.wef_serving.specs.Serving.{Responds, RespondsInTurn, Serves, refusal_with, response_to, to_one_more}
use Rattle.wef_serving.specs.Serving.{finishes, cuts, refuses, closes, goes_on, breaks, refuses_part, answers_part, leaves}
use Rattle.wef_serving.specs.Turns.{Continues, Ends, HasAnswered, HasRefused, Turns}
use Rattle.wef_serving.specs.declared.ends.ConnectionEnd.{ConnectionEnd}
use Rattle.wef_serving.specs.declared.ends.ConnectionEnd.TheVariants as over

-- a port that is as it was has sent nothing more
unsent : (x y z : Told) → y.sent ≡ x.sent → z ≡ y → Appends x.sent z.sent []
unsent x y z same still = subst (λ (now : Told). Appends x.sent now.sent []) (sym still) (subst (λ (now : Option (List ℕ)). Appends x.sent now []) (sym same) (Appends-nil x.sent))

-- of an end that is neither of the two, the bytes are to blame
abbrev blames : HttpEnd → Bool
blames http.NoMemory = false
blames http.ReadFault = false
blames e = true

blames_bytes : (e : HttpEnd) → blames e ≡ true → IsByBytes e
blames_bytes e b = (λ p. cc, λ p. cc)

-- a status is told where the bytes are to blame alone
by_bytes : (e : HttpEnd) (status : ℕ) → refusal e ≡ Some status → IsByBytes e
by_bytes http.NoMemory status told = absurd (grind (arith, told))
by_bytes http.End status told = blames_bytes http.End refl
by_bytes http.BadHead status told = blames_bytes http.BadHead refl
by_bytes http.Method status told = blames_bytes http.Method refl
by_bytes http.Path status told = blames_bytes http.Path refl
by_bytes http.NoLength status told = blames_bytes http.NoLength refl
by_bytes http.TooLarge status told = blames_bytes http.TooLarge refl
by_bytes http.Media status told = blames_bytes http.Media refl
by_bytes http.Cut status told = blames_bytes http.Cut refl
by_bytes http.ReadFault status told = absurd (grind (arith, told))

-- ---- what becomes of the end

module _ {S : Type 0} (Answers : S → HttpRequest → Answer → S → Type 0) (Leaves : S → HttpRequest → S → Type 0) where
  pub responds : (request : HttpRequest) (y z : Told) (s t : S) (r : Result Unit ConnectionEnd) → HasAnswered Answers Leaves request y s z t r → (t ≡ s) ⊎ Responds Answers Leaves s t
  responds request y z s t (Ok done) has = inr (request, inr (has.1, has.2))
  responds request y z s t (Err over.Closed) has = inr (request, inr (has.1, has.2))
  responds request y z s t (Err over.PortFailed) has = inr (request, inr (has.0, has.1))
  responds request y z s t (Err over.NoMemory) has = inr (request, has.1)
  responds request y z s t (Err over.End) has = absurd has
  responds request y z s t (Err over.Cut) has = absurd has
  responds request y z s t (Err (over.Refused status)) has = absurd has

  -- a turn behind those before it
  pub in_turn : (s t u : S) → RespondsInTurn Answers Leaves s t → (u ≡ t) ⊎ Responds Answers Leaves t u → RespondsInTurn Answers Leaves s u
  in_turn s t u before (inl same) = subst (RespondsInTurn Answers Leaves s) (sym same) before
  in_turn s t u before (inr here) = to_one_more s t u before here

-- ---- turns

module _ {S : Type 0} (side : Side) (Answers : S → HttpRequest → Answer → S → Type 0) (Leaves : S → HttpRequest → S → Type 0) where
  pub begin : (coming : Option (List ℕ)) (now : Told) (s : S) → Continues side Answers Leaves coming now s (prepend_known [] coming) now s
  begin None now s = tt
  begin (Some bytes) now s = ([], Appends-nil now.sent, λ more u e served. served)

  pub go_on : (a b c : Option (List ℕ)) (x y z : Told) (s t u : S)
      → Continues side Answers Leaves a x s b y t → Continues side Answers Leaves b y t c z u → Continues side Answers Leaves a x s c z u
  go_on None b c x y z s t u first next = tt
  go_on (Some bytes) None c x y z s t u first next = absurd first
  go_on (Some bytes) (Some rest) None x y z s t u first next = absurd next
  go_on (Some bytes) (Some rest) (Some last) x y z s t u first next = (
    first.0 ++ next.0,
    Appends-trans x.sent y.sent z.sent first.0 next.0 first.1 next.1,
    λ more v e served.
        subst (λ (text : List ℕ). Serves side Answers Leaves bytes s text v e) (sym (append_assoc first.0 next.0 more)) (first.2 (next.0 ++ more) v e (next.2 more v e served)),
  )

  pub end_of : (a b : Option (List ℕ)) (x y z : Told) (s t u : S) (e : ConnectionEnd)
      → Continues side Answers Leaves a x s b y t → Ends side Answers Leaves b y t z u e → Ends side Answers Leaves a x s z u e
  end_of None b x y z s t u e first last = tt
  end_of (Some bytes) None x y z s t u e first last = absurd first
  end_of (Some bytes) (Some rest) x y z s t u e first last =
      (first.0 ++ last.0, Appends-trans x.sent y.sent z.sent first.0 last.0 first.1 last.1, first.2 last.0 u e last.2)

  goes : (a b : Option (List ℕ)) (x y z : Told) (s t : S) (request : HttpRequest) (answer : Answer)
      → Leads a b (λ bytes rest. IsRequest side bytes request rest) → y.sent ≡ x.sent → Answers s request answer t → request.keep ≡ true → Sends y z (response_to request answer)
      → Continues side Answers Leaves a x s b z t
  goes None b x y z s t request answer read same done keep sent = tt
  goes (Some bytes) None x y z s t request answer read same done keep sent = absurd read
  goes (Some bytes) (Some rest) x y z s t request answer read same done keep sent = (
    response_to request answer,
    subst (λ (before : Option (List ℕ)). Appends before z.sent (response_to request answer)) same sent,
    λ more u e served. goes_on bytes rest more s t u request answer e read done keep served,
  )

  ends_so : (a b : Option (List ℕ)) (x y z : Told) (s t : S) (request : HttpRequest) (text : List ℕ) (e : ConnectionEnd)
      → ((bytes rest : List ℕ) → IsRequest side bytes request rest → Serves side Answers Leaves bytes s text t e)
      → Leads a b (λ bytes rest. IsRequest side bytes request rest) → Appends x.sent z.sent text → Ends side Answers Leaves a x s z t e
  ends_so None b x y z s t request text e served read sent = tt
  ends_so (Some bytes) None x y z s t request text e served read sent = absurd read
  ends_so (Some bytes) (Some rest) x y z s t request text e served read sent = (text, sent, served bytes rest read)

  pub answered : (a : Option (List ℕ)) (held : List ℕ) (x y z : Told) (s t : S) (request : HttpRequest) (r : Result Unit ConnectionEnd)
      → Leads a (prepend_known held y.coming) (λ bytes rest. IsRequest side bytes request rest) → y.sent ≡ x.sent → z.coming ≡ y.coming
      → HasAnswered Answers Leaves request y s z t r → Turns side Answers Leaves a x s (prepend_known held z.coming) z t r
  answered a held x y z s t request (Ok done) read same still has =
      subst (λ (coming : Option (List ℕ)). Continues side Answers Leaves a x s (prepend_known held coming) z t) (sym still)
      (goes a (prepend_known held y.coming) x y z s t request has.1 read same has.2 has.0 has.3)
  answered a held x y z s t request (Err over.Closed) read same still has =
      let text = response_to request has.1 in
      ends_so a (prepend_known held y.coming) x y z s t request text over.Closed (λ bytes rest is. closes bytes rest s t request has.1 is has.2 has.0) read
      (subst (λ (before : Option (List ℕ)). Appends before z.sent text) same has.3)
  answered a held x y z s t request (Err over.PortFailed) read same still has =
      let part = has.2 in
      let text = take part.0 (response_to request has.0) in
      ends_so a (prepend_known held y.coming) x y z s t request text over.PortFailed (λ bytes rest is. answers_part bytes rest s t request has.0 part.0 is has.1) read
      (subst (λ (before : Option (List ℕ)). Appends before z.sent text) same part.1)
  answered a held x y z s t request (Err over.NoMemory) read same still has =
      ends_so a (prepend_known held y.coming) x y z s t request [] over.NoMemory (λ bytes rest is. leaves bytes rest s t request is has.1) read (unsent x y z same has.0)
  answered a held x y z s t request (Err over.End) read same still has = absurd has
  answered a held x y z s t request (Err over.Cut) read same still has = absurd has
  answered a held x y z s t request (Err (over.Refused status)) read same still has = absurd has

  pub refused : (a : Option (List ℕ)) (x y z : Told) (s : S) (e : HttpEnd) (o : ConnectionEnd)
      → IfSome a (λ bytes. IsByBytes e → RefusesRequest side bytes e) → y.sent ≡ x.sent → HasRefused e y z o → Ends side Answers Leaves a x s z s o
  refused None x y z s e o by same has = tt
  refused (Some bytes) x y z s e (over.Refused status) by same has = (
    refusal_with status,
    subst (λ (before : Option (List ℕ)). Appends before z.sent (refusal_with status)) same has.1,
    refuses bytes s e status (by (by_bytes e status has.0)) has.0,
  )
  refused (Some bytes) x y z s e over.PortFailed by same (inl has) = ([], unsent x y z same has.1, breaks bytes s over.PortFailed tt)
  refused (Some bytes) x y z s e over.PortFailed by same (inr has) =
      let part = has.2 in (
        take part.0 (refusal_with has.0),
        subst (λ (before : Option (List ℕ)). Appends before z.sent (take part.0 (refusal_with has.0))) same part.1,
        refuses_part bytes s e has.0 part.0 (by (by_bytes e has.0 has.1)) has.1,
      )
  refused (Some bytes) x y z s e over.NoMemory by same has = ([], unsent x y z same has, breaks bytes s over.NoMemory tt)
  refused (Some bytes) x y z s e over.End by same has =
      ([], unsent x y z same has.1, finishes bytes s (subst (RefusesRequest side bytes) has.0 (by (subst IsByBytes (sym has.0) (blames_bytes _ refl)))))
  refused (Some bytes) x y z s e over.Cut by same has =
      ([], unsent x y z same has.1, cuts bytes s (subst (RefusesRequest side bytes) has.0 (by (subst IsByBytes (sym has.0) (blames_bytes _ refl)))))
  refused (Some bytes) x y z s e over.Closed by same has = absurd has
