-- Names that texts of XML give: they are UTF-8, and read back as themselves.
use Rattle.std.proofs.Common.{◌≡◌, ℕ, Bool, true, false, cond, List, [], ◌∷◌, map, encode_utf8_all, refl, sym}
use Rattle.std.specs.Prelude.{Option, Some, None, IfSome}
use Rattle.std.specs.Str.{IsUtf8, all_scalars, chars}
use Rattle.std.proofs.lemmas.Str.{scalars-chars}
use Rattle.wef_base.specs.Names.{channel_name, name_of, name_of_characters, spelt, subscription_name, trimmed_characters, without_start}
use Rattle.wef_base.specs.declared.names.Letters.{Letters}
use Rattle.wef_base.specs.declared.names.Letters.TheVariants.{Kept, Small}
use Rattle.wef_base.proofs.Kept.{name_kept, scalars-map_spelt, scalars-without_end, scalars-without_start}
use Rattle.wef_xml.specs.Good.{IsXmlText}
use Rattle.wef_documents.proofs.TrimmedTexts.{xml_scalars}

-- the name of characters is these, as it spells them
name_is : (letters : Letters) (limit : ℕ) (cs name : List ℕ) → name_of_characters letters limit cs ≡ Some name → encode_utf8_all (map (spelt letters) cs) ≡ name
name_is letters limit [] name e = cc
name_is letters limit (c ∷ cs) name e = by _ e
  where
    by : (b : Bool) → cond b None (Some (encode_utf8_all (map (spelt letters) (c ∷ cs)))) ≡ Some name → encode_utf8_all (map (spelt letters) (c ∷ cs)) ≡ name
    by true e = cc
    by false e = cc

name_is_utf8 : (letters : Letters) (limit : ℕ) (text name : List ℕ) → IsUtf8 text → name_of letters limit text ≡ Some name → IsUtf8 name
name_is_utf8 letters limit text name utf8 e =
    let cs = trimmed_characters (chars text) in
    let scalars : all_scalars cs ≡ true = scalars-without_end (without_start (chars text)) (scalars-without_start (chars text) (scalars-chars text utf8)) in
    (map (spelt letters) cs, (scalars-map_spelt letters cs scalars, name_is letters limit cs name e))

-- A name as its reader gives it, of letters as they are kept and so many bytes.
pub record IsReadName (letters : Letters) (limit : ℕ) (name : List ℕ) : Type 0 where
  pub utf8 : IsUtf8 name
  pub reads_back : name_of letters limit name ≡ Some name

name_is_read : (letters : Letters) (limit : ℕ) (text : List ℕ) → IsXmlText text → IfSome (name_of letters limit text) (IsReadName letters limit)
name_is_read letters limit text allowed = by (name_of letters limit text) refl
  where
    utf8 : IsUtf8 text
    utf8 = (allowed.characters, (xml_scalars allowed.characters allowed.allowed, sym allowed.spelt))

    by : (o : Option (List ℕ)) → name_of letters limit text ≡ o → IfSome o (IsReadName letters limit)
    by None e = tt
    by (Some name) e = record { utf8 = name_is_utf8 letters limit text name utf8 e; reads_back = name_kept letters limit text name utf8 e }

pub channel_is_read : (text : List ℕ) → IsXmlText text → IfSome (channel_name text) (IsReadName Small 256)
unfolding channel_name
channel_is_read text allowed = name_is_read Small 256 text allowed

pub subscription_is_read : (text : List ℕ) → IsXmlText text → IfSome (subscription_name text) (IsReadName Kept 128)
unfolding subscription_name
subscription_is_read text allowed = name_is_read Kept 128 text allowed
