-- The names of subscriptions are texts that XML allows, without spaces at their ends.
use Rattle.std.proofs.Common.{◌≡◌, ℕ, Bool, true, false, ◌||◌, cond, nat_lt, List, [], ◌∷◌, length, map, encode_utf8_all, refl, ap, sym, ◌∙◌}
use Rattle.std.proofs.lemmas.Option.{none-some, same_Some}
use Rattle.std.proofs.lemmas.Str.{scalars-chars}
use Rattle.std.specs.List.{list_any}
use Rattle.std.specs.Prelude.{Some, None}
use Rattle.std.specs.Str.{IsUtf8, chars}
use Rattle.wef_base.proofs.Kept.{name_allowed}
use Rattle.wef_base.specs.Names.{is_forbidden, name_of_characters, spelt, subscription_name, trimmed, trimmed_characters}
use Rattle.wef_base.specs.declared.names.Letters.TheVariants.{Kept}
use Rattle.wef_elements.proofs.GoodTexts.{all_allowed, xml_text}
use Rattle.wef_xml.specs.Good.{IsXmlText}

-- ---- no space at the ends

as_they_are : (cs : List ℕ) → map (spelt Kept) cs ≡ cs
as_they_are [] = refl
as_they_are (c ∷ cs) = ap (λ (ds : List ℕ). c ∷ ds) (as_they_are cs)

-- a name whose letters stay is its characters
name_is : (limit : ℕ) (cs name : List ℕ) → name_of_characters Kept limit cs ≡ Some name → encode_utf8_all cs ≡ name
name_is limit [] name e = absurd (none-some name e)
name_is limit (c ∷ cs) name e = by (list_any is_forbidden (c ∷ cs) || nat_lt limit (length (encode_utf8_all (map (spelt Kept) (c ∷ cs))))) e
  where
    by : (b : Bool) → cond b None (Some (encode_utf8_all (map (spelt Kept) (c ∷ cs)))) ≡ Some name → encode_utf8_all (c ∷ cs) ≡ name
    by true e = absurd (none-some name e)
    by false e = ap encode_utf8_all (sym (as_they_are (c ∷ cs))) ∙ same_Some (encode_utf8_all (map (spelt Kept) (c ∷ cs))) name e

-- a name that reads back has none
pub trimmed_name : (u : List ℕ) → subscription_name u ≡ Some u → trimmed u ≡ u
unfolding subscription_name
trimmed_name u named = name_is 128 (trimmed_characters (chars u)) u named

-- ---- characters

-- XML allows each character of a name
pub allowed_name : (u : List ℕ) → IsUtf8 u → subscription_name u ≡ Some u → IsXmlText u
unfolding subscription_name
allowed_name u utf8 named = xml_text u utf8 (all_allowed (chars u) (scalars-chars u utf8) (name_allowed Kept 128 u utf8 named))
