-- The parts of an address of HTTP, `http://AUTHORITY/PATH`: the authority, and the path (RFC 3986, section 3).
use Rattle.std.specs.Prelude.{ℕ, List, ◌∷◌}
use Rattle.std.specs.List.{after_first, before_first}
use Rattle.wef_eventing.specs.Addresses.{is_slash}

-- what stands behind the two slashes of the scheme
abbrev pub behind_scheme : List ℕ → List ℕ
behind_scheme address = after_first is_slash (after_first is_slash address)

-- the authority, as spelt: all up to the next slash
abbrev pub authority_of : List ℕ → List ℕ
authority_of address = before_first is_slash (behind_scheme address)

-- the path, as spelt: that slash and all behind it, a query too
abbrev pub path_of : List ℕ → List ℕ
path_of address = 47 ∷ after_first is_slash (behind_scheme address)
