-- The addresses that batches go to: `http://HOST/wsman/subscriptions/U/S`, the subscription and the source
-- percent-encoded (RFC 3986, section 2.1).
use Rattle.std.specs.Prelude.{◌≡◌, ℕ, ◌<◌, ◌==◌, nat_le, Bool, true, false, ◌&&◌, ◌||◌, not, List, [], ◌∷◌, ◌++◌, length, take, drop, is_some, Option, Some, None, codes, if◌then◌else◌}
use Rattle.std.specs.List.{flat_map, list_all, list_any}
use Rattle.std.specs.Option.{option_and_then}
use Rattle.std.specs.Str.{IsUtf8}
use Rattle.percent_encoding.specs.Percent.{percent_encode_byte}
use Rattle.wef_base.specs.Names.{same, source_name, subscription_name}
use Rattle.wef_base.specs.Words.{decoded, parts}

-- a character that is printed: one of ASCII, and no space
abbrev pub is_printed : ℕ → Bool
is_printed c = nat_le 33 c && nat_le c 126

-- a host as an address names it: one printed character or more
abbrev pub IsHost : List ℕ → Type 0
IsHost host = (0 < length host) × (list_all is_printed host ≡ true)

abbrev pub is_slash : ℕ → Bool
is_slash c = c == 47

-- an authority that isn't empty, and a path, which begins with a slash
abbrev pub has_path : List ℕ → Bool
has_path [] = false
has_path (c ∷ cs) = not (is_slash c) && list_any is_slash cs

unfoldable pub scheme : List ℕ
scheme = codes "http://"

-- whether a text is an address of HTTP: the scheme, an authority and a path (RFC 3986, section 3)
abbrev pub is_address : List ℕ → Bool
is_address text = same (take (length scheme) text) scheme && has_path (drop (length scheme) text) && list_all is_printed text

-- a byte that stands for itself: a letter or digit of ASCII, or one of - . _ ~
abbrev pub is_unreserved : ℕ → Bool
is_unreserved b =
    (nat_le 48 b && nat_le b 57) || (nat_le 65 b && nat_le b 90) || (nat_le 97 b && nat_le b 122) || b == 45 || b == 46 || b == 95 || b == 126

-- a byte as it is, or `%` and its two capital hexadecimal digits
abbrev pub segment_byte : ℕ → List ℕ
segment_byte b = if is_unreserved b then b ∷ [] else percent_encode_byte b

-- a name as a segment of a path
unfoldable pub segment : List ℕ → List ℕ
segment name = flat_map segment_byte name

-- where a source's batches for a subscription go
unfoldable pub delivery_address : List ℕ → List ℕ → List ℕ → List ℕ
delivery_address host u s = codes "http://" ++ host ++ codes "/wsman/subscriptions/" ++ segment u ++ 47 ∷ segment s

-- the last piece
abbrev pub last_piece : List (List ℕ) → Option (List ℕ)
last_piece [] = None
last_piece (piece ∷ []) = Some piece
last_piece (piece ∷ next ∷ pieces) = last_piece (next ∷ pieces)

-- the piece before the last
abbrev pub piece_before_last : List (List ℕ) → Option (List ℕ)
piece_before_last [] = None
piece_before_last (piece ∷ []) = None
piece_before_last (piece ∷ next ∷ []) = Some piece
piece_before_last (piece ∷ next ∷ third ∷ pieces) = piece_before_last (next ∷ third ∷ pieces)

-- the subscription that an address leads to: its segment before the last, where that is a subscription's name
unfoldable pub subscription_in : List ℕ → Option (List ℕ)
subscription_in address = option_and_then subscription_name (option_and_then decoded (piece_before_last (parts 47 address)))

-- the source that an address leads to: its last segment, where that is a source's name
unfoldable pub source_in : List ℕ → Option (List ℕ)
source_in address = option_and_then source_name (option_and_then decoded (last_piece (parts 47 address)))

-- what stands behind the first slash
abbrev pub behind_slash : List ℕ → List ℕ
behind_slash [] = []
behind_slash (c ∷ cs) = if is_slash c then cs else behind_slash cs

-- whether the path of an address has a segment before its last, so more than the slash that it begins with
abbrev pub has_segments : List ℕ → Bool
has_segments text = list_any is_slash (behind_slash (drop (length scheme) text))

-- whether an address leads to a subscription, which the segment before its last names
abbrev pub is_delivery : List ℕ → Bool
is_delivery text = is_address text && has_segments text && is_some (subscription_in text)

-- An address that is written leads to the subscription and the source that it was written for.
abbrev pub AddressesReadBack : Type 0
AddressesReadBack = (host u s : List ℕ) → IsUtf8 u → subscription_name u ≡ Some u → IsUtf8 s → source_name s ≡ Some s →
    (subscription_in (delivery_address host u s) ≡ Some u) × (source_in (delivery_address host u s) ≡ Some s)

-- A subscription's name and a source's, as they are kept: each is UTF-8 and reads back as itself.
pub record AreNames (u s : List ℕ) : Type 0 where
  pub sub_utf8 : IsUtf8 u
  pub sub_reads_back : subscription_name u ≡ Some u
  pub source_utf8 : IsUtf8 s
  pub source_reads_back : source_name s ≡ Some s
