-- Names of channels, sources and subscriptions, and the spaces that are trimmed off them.
use Rattle.std.specs.Prelude.{◌≡◌, ℕ, ◌==◌, nat_eq, nat_lt, Bool, ◌||◌, List, [], ◌∷◌, length, map, encode_utf8_all, Option, Some, None, Result, if◌then◌else◌}
use Rattle.std.specs.declared.result.Result.TheVariants.{Ok, Err}
use Rattle.std.specs.List.{list_any}
use Rattle.std.specs.Cmp.Lexicographic.{pointwise}
use Rattle.std.specs.Char.{to_ascii_lowercase}
use Rattle.std.specs.Str.{chars}
use Rattle.wef_base.specs.declared.names.ValueFault.{ValueFault}
use Rattle.wef_base.specs.declared.names.ValueFault.TheVariants.{NoMemory, BadName}
use Rattle.wef_base.specs.declared.names.Letters.{Letters}
use Rattle.wef_base.specs.declared.names.Letters.TheVariants.{Kept, Small}

-- two names are one, byte for byte
abbrev pub same : List ℕ → List ℕ → Bool
same = pointwise nat_eq

-- what XML 1.0 calls a space (its rule S): space, TAB, LF, CR
abbrev pub is_space : ℕ → Bool
is_space c = c == 32 || c == 9 || c == 10 || c == 13

-- characters without the spaces that they begin with
abbrev pub without_start : List ℕ → List ℕ
without_start [] = []
without_start (c ∷ cs) = if is_space c then without_start cs else c ∷ cs

-- c and what follows, but nothing where c is a space that nothing follows
abbrev pub unless_last_space : ℕ → List ℕ → List ℕ
unless_last_space c [] = if is_space c then [] else c ∷ []
unless_last_space c (d ∷ ds) = c ∷ d ∷ ds

-- characters without the spaces that they end with
abbrev pub without_end : List ℕ → List ℕ
without_end [] = []
without_end (c ∷ cs) = unless_last_space c (without_end cs)

-- characters without the spaces at both ends
abbrev pub trimmed_characters : List ℕ → List ℕ
trimmed_characters cs = without_end (without_start cs)

-- a text without the spaces at both ends
abbrev pub trimmed : List ℕ → List ℕ
trimmed text = encode_utf8_all (trimmed_characters (chars text))

-- a character that no name holds: a control character of ASCII, or one of U+FFFE and U+FFFF
abbrev pub is_forbidden : ℕ → Bool
is_forbidden c = nat_lt c 32 || c == 127 || c == 65534 || c == 65535

-- how a name keeps a letter: as it is, or the capital letters A to Z made small
abbrev pub spelt : Letters → ℕ → ℕ
spelt Kept c = c
spelt Small c = to_ascii_lowercase c

-- the name of these characters, where they make one: not empty, at most so many bytes, none forbidden
abbrev pub name_of_characters : Letters → ℕ → List ℕ → Option (List ℕ)
name_of_characters letters limit [] = None
name_of_characters letters limit (c ∷ cs) =
    if list_any is_forbidden (c ∷ cs) || nat_lt limit (length (encode_utf8_all (map (spelt letters) (c ∷ cs))))
    then None else Some (encode_utf8_all (map (spelt letters) (c ∷ cs)))

-- the name that a text gives, trimmed
abbrev pub name_of : Letters → ℕ → List ℕ → Option (List ℕ)
name_of letters limit text = name_of_characters letters limit (trimmed_characters (chars text))

-- a channel's name: 1 to 256 bytes, small letters
unfoldable pub channel_name : List ℕ → Option (List ℕ)
channel_name text = name_of Small 256 text

-- a source's name: 1 to 255 bytes, small letters
unfoldable pub source_name : List ℕ → Option (List ℕ)
source_name text = name_of Small 255 text

-- a subscription's name: 1 to 128 bytes, its letters as they are
unfoldable pub subscription_name : List ℕ → Option (List ℕ)
subscription_name text = name_of Kept 128 text

-- A reader of names gives the name that the definition gives, and BadName exactly where that gives none.
abbrev pub ReadsName : Result (List ℕ) ValueFault → Option (List ℕ) → Type 0
ReadsName (Ok name) given = given ≡ Some name
ReadsName (Err BadName) given = given ≡ None
ReadsName (Err NoMemory) given = Unit {0}
ReadsName (Err _) given = ⊥
