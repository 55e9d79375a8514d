-- A host that the head of a request names is one that an address may name.
use Rattle.std.proofs.Common.{◌≡◌, ℕ, ◌<◌, true, List, length, arith}
use Rattle.std.proofs.lemmas.Bool.{and_parts}
use Rattle.std.proofs.lemmas.Bool.Decides.{nat_tests}
use Rattle.std.specs.List.{list_all}
use Rattle.std.specs.Prelude.{nat_lt}
use Rattle.wef_eventing.specs.Addresses.{IsHost}
use Rattle.wef_http_heads.specs.Fields.{is_host, is_visible}

some : (n : ℕ) → nat_lt 0 n ≡ true → 0 < n
some n e = grind (arith, nat_tests)

pub host_is_printed : (host : List ℕ) → is_host host ≡ true → IsHost host
host_is_printed host e = let parts = and_parts (nat_lt 0 (length host)) (list_all is_visible host) e in (some (length host) parts.0, parts.1)
