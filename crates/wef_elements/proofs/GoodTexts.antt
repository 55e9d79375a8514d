-- Texts that XML allows: those of names, and the namespaces of batches and bookmarks.
use Rattle.std.proofs.Common.{◌≡◌, ℕ, Bool, true, false, ◌||◌, List, [], ◌∷◌, IsUtf8, refl, sym, arith}
use Rattle.std.specs.Prelude.{Some}
use Rattle.std.specs.List.{list_all, list_any}
use Rattle.std.specs.Str.{all_scalars, chars}
use Rattle.std.proofs.Math.Utf8.{scalar}
use Rattle.std.proofs.lemmas.Bool.{and_from, and_parts}
use Rattle.std.proofs.lemmas.Bool.Decides.{nat_tests}
use Rattle.std.proofs.lemmas.Str.{encodes-chars, scalars-chars}
use Rattle.wef_base.specs.Characters.{is_xml_char}
use Rattle.wef_base.specs.Names.{channel_name, is_forbidden}
use Rattle.wef_base.specs.declared.names.Letters.TheVariants.{Small}
use Rattle.wef_base.proofs.Kept.{name_allowed}
use Rattle.wef_xml.specs.Good.{IsXmlText}
use Rattle.wef_xml.proofs.Ascii.{plain_text}
use Rattle.wef_elements.specs.Spaces.{management, profile}

pub empty_text : IsXmlText []
empty_text = record { characters = []; spelt = refl; allowed = refl }

-- a text of UTF-8 whose characters XML allows
pub xml_text : (text : List ℕ) → IsUtf8 text → list_all is_xml_char (chars text) ≡ true → IsXmlText text
xml_text text utf8 allowed = record { characters = chars text; spelt = sym (encodes-chars text utf8); allowed = allowed }

-- ---- names

one_allowed : (c : ℕ) → scalar c ≡ true → is_forbidden c ≡ false → is_xml_char c ≡ true
one_allowed c s f = grind (arith, nat_tests)

-- the parts of a choice that doesn't hold
neither : (b c : Bool) → (b || c) ≡ false → (b ≡ false) × (c ≡ false)
neither false c e = (refl, e)
neither true c e = let bad : ⊥ = cc in absurd bad

-- XML allows each character that names may hold
pub all_allowed : (cs : List ℕ) → all_scalars cs ≡ true → list_any is_forbidden cs ≡ false → list_all is_xml_char cs ≡ true
all_allowed [] s f = refl
all_allowed (c ∷ cs) s f =
    let one = and_parts (scalar c) (all_scalars cs) s in
    let none = neither (is_forbidden c) (list_any is_forbidden cs) f in
    and_from _ _ (one_allowed c one.0 none.0) (all_allowed cs one.1 none.1)

-- XML allows each character of a channel's name
pub name_text : (channel : List ℕ) → IsUtf8 channel → channel_name channel ≡ Some channel → IsXmlText channel
unfolding channel_name
name_text channel utf8 named = xml_text channel utf8 (all_allowed (chars channel) (scalars-chars channel utf8) (name_allowed Small 256 channel utf8 named))

-- ---- the namespaces of batches and bookmarks

pub management_good : IsXmlText management
unfolding management
management_good = plain_text management refl

pub profile_good : IsXmlText profile
unfolding profile
profile_good = plain_text profile refl
