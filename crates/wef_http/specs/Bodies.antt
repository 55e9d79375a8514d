-- The body of a message, by what its head says of it (RFC 9112, 6).
use Rattle.std.specs.Prelude.{◌≡◌, ℕ, ◌<◌, ◌≤◌, List, ◌++◌, length}
use Rattle.wef_http_heads.specs.declared.ends.HttpEnd.{HttpEnd}
use Rattle.wef_http_heads.specs.declared.ends.HttpEnd.TheVariants.{Cut}
use Rattle.wef_http_heads.specs.declared.heads.TheConstants.{BODY_LIMIT}
use Rattle.wef_http_heads.specs.declared.plans.Framing as framing
use Rattle.wef_http_heads.specs.declared.plans.Framing.TheVariants.{Length, Chunks}
use Rattle.wef_http.specs.Chunks.{IsChunked, RefusesChunks}

-- Bytes are so many of a body, and then a rest.
abbrev pub IsFront : ℕ → List ℕ → List ℕ → List ℕ → Type 0
IsFront size bytes body rest = (bytes ≡ body ++ rest) × (length body ≡ size)

-- Bytes are this body, and then a rest.
abbrev pub IsBody : framing.Framing → List ℕ → List ℕ → List ℕ → Type 0
IsBody (Length size) bytes body rest = IsFront size bytes body rest
IsBody Chunks bytes body rest = IsChunked bytes body rest

-- Bytes don't begin with a body, for this.
abbrev pub RefusesBody : framing.Framing → List ℕ → HttpEnd → Type 0
RefusesBody (Length size) bytes e = (e ≡ Cut) × (length bytes < size)
RefusesBody Chunks bytes e = RefusesChunks bytes e

-- A body of a length that is said before is within the limit.
abbrev pub FitsBody : framing.Framing → Type 0
FitsBody (Length size) = size ≤ BODY_LIMIT
FitsBody Chunks = Unit {0}
