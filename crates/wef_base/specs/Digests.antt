-- Digests of namespaces, which tell most of them apart in a fixed time.
use Rattle.std.specs.Prelude.{◌≡◌, ℕ, nat_lt, Bool, ◌&&◌, true, List, length, nat_eq, replicate, if◌then◌else◌}
use Rattle.std.proofs.Common.{ap}
use Rattle.std.specs.Cmp.{both_ways, second_so}
use Rattle.std.specs.Cmp.Lexicographic.{bytes_decides, pointwise}
use Rattle.sha2.specs.Sha256.{sha256}

-- a namespace of at most 256 bytes is compared as fast as two digests are
abbrev pub is_long : List ℕ → Bool
is_long space = nat_lt 256 (length space)

-- the digest of a namespace: its SHA-256, and zeros for one that isn't long
unfoldable pub digest_of : List ℕ → List ℕ
digest_of space = if is_long space then sha256 space else replicate 32 0

-- the same namespace has the same digest, so a test of the digests before changes no answer
pub by_digest : (x y : List ℕ) → (pointwise nat_eq (digest_of x) (digest_of y) && pointwise nat_eq x y) ≡ pointwise nat_eq x y
by_digest x y = both_ways _ _ (second_so (pointwise nat_eq (digest_of x) (digest_of y)) (pointwise nat_eq x y)) (λ same.
    let digests : pointwise nat_eq (digest_of x) (digest_of y) ≡ true =
    (bytes_decides (digest_of x) (digest_of y)).1 (ap digest_of ((bytes_decides x y).0 same)) in
    λ i. digests i && same i)
