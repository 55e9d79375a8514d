-- Addresses of sources: the name of a machine, and perhaps a port behind a colon.
use Rattle.std.specs.Prelude.{ℕ, ◌-◌, ◌==◌, Bool, ◌&&◌, List, [], ◌∷◌, ◌++◌, length, take, codes, encode_utf8_all, Option, if◌then◌else◌}
use Rattle.std.specs.List.{list_any}
use Rattle.std.specs.Option.{option_map}
use Rattle.std.specs.Str.{chars}
use Rattle.wef_base.specs.Names.{source_name}
use Rattle.wef_base.specs.Numbers.{is_numeral}
use Rattle.wef_eventing.specs.declared.subscriptions.SourceAt.{SourceAt}

abbrev pub is_colon : ℕ → Bool
is_colon c = c == 58

-- what stands behind the last colon, where there is one
abbrev pub behind_last : List ℕ → List ℕ
behind_last [] = []
behind_last (c ∷ cs) = if list_any is_colon cs then behind_last cs else (if is_colon c then cs else c ∷ cs)

-- whether there is a colon, and digits alone, one or more, behind the last
abbrev pub has_port : List ℕ → Bool
has_port cs = list_any is_colon cs && is_numeral (behind_last cs)

-- what stands before the last colon
abbrev pub before_last : List ℕ → List ℕ
before_last cs = take (length cs - length (behind_last cs) - 1) cs

-- the machine that an address leads to: all but the port
abbrev pub machine_of : List ℕ → List ℕ
machine_of address = if has_port (chars address) then encode_utf8_all (before_last (chars address)) else address

-- the port of sources, where an address has none
abbrev pub usual_port : List ℕ
usual_port = codes ":5985"

abbrev pub with_port : List ℕ → List ℕ
with_port address = if has_port (chars address) then address else address ++ usual_port

-- the source at an address, where its machine's name is that of a source
unfoldable pub source_of : List ℕ → Option SourceAt
source_of address = option_map (λ name. record { name = name; address = with_port address }) (source_name (machine_of address))
