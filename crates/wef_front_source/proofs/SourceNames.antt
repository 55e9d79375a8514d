-- The names of sources have no spaces at their ends, and XML allows them.
use Rattle.std.proofs.Common.{◌≡◌, ℕ, suc, ◌≤◌, Bool, true, false, ◌||◌, cond, nat_lt, List, [], ◌∷◌, length, map, encode_utf8_all, refl, ap, sym, ◌∙◌, arith}
use Rattle.std.proofs.lemmas.Option.{none-some, same_Some}
use Rattle.std.proofs.lemmas.Str.{chars-encodes, scalars-chars}
use Rattle.std.specs.List.{list_any}
use Rattle.std.specs.Prelude.{Some, None}
use Rattle.std.specs.Str.{IsUtf8, all_scalars, chars}
use Rattle.wef_base.proofs.Kept.{name_allowed, scalars-map_spelt, scalars-without_end, scalars-without_start}
use Rattle.wef_base.specs.Names.{is_forbidden, is_space, name_of_characters, source_name, spelt, trimmed, trimmed_characters, unless_last_space, without_end, without_start}
use Rattle.wef_base.specs.declared.names.Letters.TheVariants.{Small}
use Rattle.wef_elements.proofs.GoodTexts.{all_allowed, xml_text}
use Rattle.wef_xml.specs.Good.{IsXmlText}

-- ---- what trimming doesn't make shorter it leaves

start_no_longer : (cs : List ℕ) → length (without_start cs) ≤ length cs
start_no_longer [] = omega arith
start_no_longer (c ∷ cs) = by (is_space c) (start_no_longer cs)
  where
    by : (b : Bool) → length (without_start cs) ≤ length cs → length (cond b (without_start cs) (c ∷ cs)) ≤ suc (length cs)
    by true less = omega arith
    by false less = omega arith

start_same : (cs : List ℕ) → length (without_start cs) ≡ length cs → without_start cs ≡ cs
start_same [] same = refl
start_same (c ∷ cs) same = by (is_space c) same
  where
    by : (b : Bool) → length (cond b (without_start cs) (c ∷ cs)) ≡ suc (length cs) → cond b (without_start cs) (c ∷ cs) ≡ c ∷ cs
    by true same = let less = start_no_longer cs in absurd (omega arith)
    by false same = refl

last_no_longer : (c : ℕ) (cs : List ℕ) → length (unless_last_space c cs) ≤ suc (length cs)
last_no_longer c [] = by (is_space c)
  where
    by : (b : Bool) → length (cond b [] (c ∷ [])) ≤ 1
    by true = omega arith
    by false = omega arith
last_no_longer c (d ∷ ds) = omega arith

end_no_longer : (cs : List ℕ) → length (without_end cs) ≤ length cs
end_no_longer [] = omega arith
end_no_longer (c ∷ cs) = let here = last_no_longer c (without_end cs) in let rest = end_no_longer cs in omega arith

last_same : (c : ℕ) (cs : List ℕ) → length (unless_last_space c cs) ≡ suc (length cs) → unless_last_space c cs ≡ c ∷ cs
last_same c [] same = by (is_space c) same
  where
    by : (b : Bool) → length (cond b [] (c ∷ [])) ≡ 1 → cond b [] (c ∷ []) ≡ c ∷ []
    by true same = let bad : ⊥ = cc in absurd bad
    by false same = refl
last_same c (d ∷ ds) same = refl

end_same : (cs : List ℕ) → length (without_end cs) ≡ length cs → without_end cs ≡ cs
end_same [] same = refl
end_same (c ∷ cs) same =
    let here = last_no_longer c (without_end cs) in
    let rest = end_no_longer cs in
    let long : length (without_end cs) ≡ length cs = omega arith in
    let full : length (unless_last_space c (without_end cs)) ≡ suc (length (without_end cs)) = omega arith in
    last_same c (without_end cs) full ∙ ap (λ (ds : List ℕ). c ∷ ds) (end_same cs long)

trim_same : (cs : List ℕ) → length (trimmed_characters cs) ≡ length cs → trimmed_characters cs ≡ cs
trim_same cs same =
    let start = start_no_longer cs in
    let end = end_no_longer (without_start cs) in
    end_same (without_start cs) (omega arith) ∙ start_same cs (omega arith)

-- ---- a name

name_is : (limit : ℕ) (cs name : List ℕ) → name_of_characters Small limit cs ≡ Some name → encode_utf8_all (map (spelt Small) cs) ≡ name
name_is limit [] name e = absurd (none-some name e)
name_is limit (c ∷ cs) name e = by (list_any is_forbidden (c ∷ cs) || nat_lt limit (length (encode_utf8_all (map (spelt Small) (c ∷ cs))))) e
  where
    by : (b : Bool) → cond b None (Some (encode_utf8_all (map (spelt Small) (c ∷ cs)))) ≡ Some name → encode_utf8_all (map (spelt Small) (c ∷ cs)) ≡ name
    by true e = absurd (none-some name e)
    by false e = same_Some (encode_utf8_all (map (spelt Small) (c ∷ cs))) name e

map_length : (f : ℕ → ℕ) (cs : List ℕ) → length (map f cs) ≡ length cs
map_length f [] = refl
map_length f (c ∷ cs) = ap suc (map_length f cs)

-- a name that reads back has no spaces at its ends
pub trimmed_source : (s : List ℕ) → IsUtf8 s → source_name s ≡ Some s → trimmed s ≡ s
unfolding source_name
trimmed_source s utf8 named =
    let cs = trimmed_characters (chars s) in
    let spelt_so : encode_utf8_all (map (spelt Small) cs) ≡ s = name_is 255 cs s named in
    let scalars : all_scalars cs ≡ true = scalars-without_end (without_start (chars s)) (scalars-without_start (chars s) (scalars-chars s utf8)) in
    let read : chars s ≡ map (spelt Small) cs = ap chars (sym spelt_so) ∙ chars-encodes (map (spelt Small) cs) (scalars-map_spelt Small cs scalars) in
    let long : length cs ≡ length (chars s) = sym (ap length read ∙ map_length (spelt Small) cs) in
    ap encode_utf8_all (trim_same (chars s) long ∙ read) ∙ spelt_so

-- ---- characters

-- XML allows each character of a name
pub allowed_source : (s : List ℕ) → IsUtf8 s → source_name s ≡ Some s → IsXmlText s
unfolding source_name
allowed_source s utf8 named = xml_text s utf8 (all_allowed (chars s) (scalars-chars s utf8) (name_allowed Small 255 s utf8 named))
