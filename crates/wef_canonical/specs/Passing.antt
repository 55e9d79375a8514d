-- What a text begins with where it is passed character by character: names, and characters as they stand in the one text of
-- a tree.
use Rattle.std.specs.Prelude.{◌≡◌, ℕ, ◌==◌, nat_le, Bool, true, false, ◌&&◌, ◌||◌, not, List, [], ◌∷◌, ◌++◌, encode_utf8_all}
use Rattle.std.specs.List.{flat_map, list_all}
use Rattle.wef_base.specs.Characters.{is_within, is_xml_char}
use Rattle.wef_xml.specs.Good.{IsXmlText}
use Rattle.wef_xml.specs.Canonical.{assigned, text_char, value_char}
use Rattle.wef_canonical.specs.declared.characters.Run.{Run}
use Rattle.wef_canonical.specs.declared.characters.Run.TheVariants.{Letters, Plain, Value, Text}

-- Such a front is passed in a text of which the rest is left.
abbrev pub Passes : (List ℕ → Type 0) → List ℕ → List ℕ → Type 0
Passes Is text rest = (front : List ℕ) × Is front × (text ≡ front ++ rest)

-- Whatever such a front is passed further on, one is passed from here.
abbrev pub LeadsOn : (List ℕ → Type 0) → List ℕ → List ℕ → Type 0
LeadsOn Is text rest = (behind : List ℕ) → Passes Is rest behind → Passes Is text behind

-- letters of ASCII that a name begins with, and that stand in one
abbrev pub begins_name : ℕ → Bool
begins_name c = is_within 65 90 c || is_within 97 122 c || c == 95

abbrev pub stands_in_name : ℕ → Bool
stands_in_name c = begins_name c || is_within 48 57 c || c == 45 || c == 46

-- a name of such letters
abbrev pub is_ascii_name : List ℕ → Bool
is_ascii_name [] = false
is_ascii_name (c ∷ cs) = begins_name c && list_all stands_in_name cs

abbrev pub IsAsciiName : List ℕ → Type 0
IsAsciiName name = is_ascii_name name ≡ true

-- a part of a name behind its first letter
abbrev pub AreNameLetters : List ℕ → Type 0
AreNameLetters letters = list_all stands_in_name letters ≡ true

-- a byte of ASCII that stands for itself in texts and values
abbrev pub is_plain_byte : ℕ → Bool
is_plain_byte b = nat_le 32 b && not (b == 34) && not (b == 38) && not (b == 60) && not (b == 62)

-- a character that XML allows, and that does so
abbrev pub is_plain : ℕ → Bool
is_plain c = is_xml_char c && is_plain_byte c

-- a character as it is
abbrev pub itself : ℕ → List ℕ
itself c = c ∷ []

-- Characters that pass a test, spelt one by one, in UTF-8.
pub record IsRun (test : ℕ → Bool) (spelt : ℕ → List ℕ) (front : List ℕ) : Type 0 where
  pub characters : List ℕ
  pub pass : list_all test characters ≡ true
  pub are_spelt : front ≡ encode_utf8_all (flat_map spelt characters)

-- plain characters, a value between its quotes, and a text between two tags
abbrev pub IsPlainRun : List ℕ → Type 0
IsPlainRun = IsRun is_plain itself

abbrev pub IsValueRun : List ℕ → Type 0
IsValueRun = IsRun is_xml_char value_char

abbrev pub IsTextRun : List ℕ → Type 0
IsTextRun = IsRun is_xml_char text_char

-- the runs that are passed
abbrev pub IsRunOf : Run → List ℕ → Type 0
IsRunOf Letters = AreNameLetters
IsRunOf Plain = IsPlainRun
IsRunOf Value = IsValueRun
IsRunOf Text = IsTextRun

-- A character that stands in texts and in values alike.
pub record IsReference (front : List ℕ) : Type 0 where
  pub character : ℕ
  pub allowed : is_xml_char character ≡ true
  pub no_quote : (character == 34) ≡ false
  pub is_spelt : front ≡ encode_utf8_all (text_char character)

-- `="value"`
abbrev pub IsAssigned : List ℕ → Type 0
IsAssigned front = (value : List ℕ) × IsXmlText value × (front ≡ encode_utf8_all (assigned value))
