-- What is found or refused of the head of a message stays so, whatever follows.
use Rattle.std.proofs.Common.{◌≡◌, ℕ, List, ◌++◌, refl, subst, append_assoc, inl, inr, Result}
use Rattle.std.specs.declared.result.Result.TheVariants.{Ok}
use Rattle.httparse.proofs.GrammarLemmas.{ReadsRequest-append, ReadsResponse-append}
use Rattle.wef_http_heads.specs.Heads.{BeginsRequest, BeginsResponse, Finds, IsHopeless, IsJudged, IsOfBytes, RefusesHead}
use Rattle.wef_http_heads.specs.declared.ends.HttpEnd.{HttpEnd}
use Rattle.wef_http_heads.specs.declared.ends.HttpEnd.TheVariants.{NoMemory, End, BadHead, Method, Path, NoLength, TooLarge, Media, Cut, ReadFault}
use Rattle.wef_http_heads.specs.declared.plans.Found.{Found}
use Rattle.wef_http_heads.specs.declared.plans.Found.TheVariants.{Whole, Partial}
use Rattle.wef_http.specs.Parts.{FindsPart, HasNotEnded}

-- a head that bytes begin with stays in front
abbrev pub Lasts : {H : Type 0} → (List ℕ → H → List ℕ → Type 0) → Type 0
Lasts {H} Begins = (bytes rest more : List ℕ) (h : H) → Begins bytes h rest → Begins (bytes ++ more) h (rest ++ more)

pub request_lasts : Lasts BeginsRequest
request_lasts bytes rest more h begins = (ReadsRequest-append bytes h rest more begins.0, begins.1)

pub response_lasts : Lasts BeginsResponse
response_lasts bytes rest more h begins = (ReadsResponse-append bytes h rest more begins.0, begins.1)

module _ {H P : Type 0} {Begins : List ℕ → H → List ℕ → Type 0} (lasts : Lasts Begins) (judged : H → Result P HttpEnd) where
  judged_more : (bytes more rest : List ℕ) (given : Result P HttpEnd) → IsJudged Begins judged bytes given rest → IsJudged Begins judged (bytes ++ more) given (rest ++ more)
  judged_more bytes more rest given found = (found.0, lasts bytes rest more found.0 found.1, found.2)

  refused_more : (bytes more : List ℕ) (given : Result P HttpEnd) → (rest : List ℕ) × IsJudged Begins judged bytes given rest → (rest : List ℕ) × IsJudged Begins judged (bytes ++ more) given rest
  refused_more bytes more given found = (found.0 ++ more, judged_more bytes more found.0 given found.1)

  hopeless_more : (bytes more : List ℕ) → IsHopeless Begins bytes → IsHopeless Begins (bytes ++ more)
  hopeless_more bytes more hopeless behind h rest begins =
      hopeless (more ++ behind) h rest (subst (λ (all : List ℕ). Begins all h rest) (append_assoc bytes more behind) begins)

  -- a refusal by the bytes at hand
  pub refuses_more : (bytes more : List ℕ) (e : HttpEnd) → IsOfBytes e → RefusesHead Begins judged bytes e → RefusesHead Begins judged (bytes ++ more) e
  refuses_more bytes more NoMemory kind refused = tt
  refuses_more bytes more End kind refused = absurd (kind.0 refl)
  refuses_more bytes more BadHead kind refused = elim refused [ inl h ↦ inl (hopeless_more bytes more h) | inr j ↦ inr (refused_more bytes more _ j) ]
  refuses_more bytes more Method kind refused = refused_more bytes more _ refused
  refuses_more bytes more Path kind refused = refused_more bytes more _ refused
  refuses_more bytes more NoLength kind refused = refused_more bytes more _ refused
  refuses_more bytes more TooLarge kind refused = refused_more bytes more _ refused
  refuses_more bytes more Media kind refused = refused_more bytes more _ refused
  refuses_more bytes more Cut kind refused = absurd (kind.1 refl)
  refuses_more bytes more ReadFault kind refused = tt

  -- a head that is found
  pub finds_more : (Fits : P → Type 0) (bytes : List ℕ) (found : Found P) → ((plan : P) (h : H) → judged h ≡ Ok plan → Fits plan)
      → Finds (λ bytes plan rest. IsJudged Begins judged bytes (Ok plan) rest) bytes found
      → FindsPart (λ bytes plan rest. IsJudged Begins judged bytes (Ok plan) rest) Fits HasNotEnded bytes found
  finds_more Fits bytes (Whole plan len) fits found =
      (found.0, found.1, fits plan found.3.0 found.3.2, λ more. judged_more bytes more _ (Ok plan) found.3)
  finds_more Fits bytes Partial fits found = found
