-- Laws of heads.
use Rattle.std.specs.Prelude.{◌≡◌, ◌≢◌, ℕ, List, Some}
use Rattle.httparse.specs.Grammar.{RequestHead, ReadsRequest, ResponseHead, ReadsResponse}
use Rattle.wef_http_heads.specs.declared.ends.HttpEnd.{HttpEnd}
use Rattle.wef_http_heads.specs.declared.ends.HttpEnd.TheVariants.{NoMemory, ReadFault}
use Rattle.wef_http_heads.specs.declared.plans.RequestPlan.{RequestPlan}
use Rattle.wef_http_heads.specs.declared.plans.ResponsePlan.{ResponsePlan}
use Rattle.wef_http_heads.specs.declared.targets.Side.{Side}
use Rattle.wef_http_heads.specs.declared.targets.Side.TheVariants.{Collector}
use Rattle.wef_http_heads.specs.declared.targets.Target.TheVariants.{Manager}
use Rattle.wef_http_heads.specs.declared.targets.TheConstants.{MANAGER_PATH}
use Rattle.wef_http_heads.specs.Ends.{behind_head}
use Rattle.wef_http_heads.specs.Heads.{PlansRequest, PlansResponse, RefusesRequestHead, RefusesResponseHead}
use Rattle.wef_http_heads.specs.Targets.{target_at}

-- A head of the grammar that bytes begin with ends with the first empty line behind its first line.
pub record HeadsEnd : Type 0 where
  pub requests : (bytes : List ℕ) (h : RequestHead) (rest : List ℕ) → ReadsRequest bytes h rest → behind_head bytes ≡ Some rest
  pub responses : (bytes : List ℕ) (h : ResponseHead) (rest : List ℕ) → ReadsResponse bytes h rest → behind_head bytes ≡ Some rest

-- a refusal that the bytes are the reason of
abbrev pub IsByBytes : HttpEnd → Type 0
IsByBytes e = (e ≢ NoMemory) × (e ≢ ReadFault)

-- Bytes begin with the head of at most one good message, and where they do there is no reason in them to refuse it.
pub record OneHead : Type 0 where
  pub request : (side : Side) (bytes : List ℕ) (p q : RequestPlan) (r s : List ℕ) → PlansRequest side bytes p r → PlansRequest side bytes q s → (p ≡ q) × (r ≡ s)
  pub request_stands : (side : Side) (bytes : List ℕ) (p : RequestPlan) (r : List ℕ) (e : HttpEnd) → PlansRequest side bytes p r → RefusesRequestHead side bytes e → IsByBytes e → ⊥
  pub response : (bytes : List ℕ) (p q : ResponsePlan) (r s : List ℕ) → PlansResponse bytes p r → PlansResponse bytes q s → (p ≡ q) × (r ≡ s)
  pub response_stands : (bytes : List ℕ) (p : ResponsePlan) (r : List ℕ) (e : HttpEnd) → PlansResponse bytes p r → RefusesResponseHead bytes e → IsByBytes e → ⊥

-- The manager's path is for the manager, where a collector serves it.
abbrev pub ManagerIsFound : Type 0
ManagerIsFound = target_at Collector MANAGER_PATH.now ≡ Some Manager
