-- A kept name reads back as itself: trimming, testing and spelling it again change nothing.
use Rattle.std.proofs.Common.{◌≡◌, ℕ, Bool, true, false, ◌||◌, cond, nat_lt, List, [], ◌∷◌, length, map, refl, ap, sym, ◌∙◌, arith, encode_utf8_all}
use Rattle.std.specs.Prelude.{Option, Some, None, IfSome, Result, Ok, Err, IfOk}
use Rattle.std.specs.List.{list_any}
use Rattle.std.specs.Char.{to_ascii_lowercase}
use Rattle.std.specs.Str.{chars, IsUtf8, all_scalars}
use Rattle.std.proofs.lemmas.Bool.Decides.{nat_tests}
use Rattle.std.proofs.lemmas.Bool.{and_parts, and_from}
use Rattle.std.proofs.lemmas.Str.{chars-encodes, scalars-chars}
use lib.Utf8.{scalar}
use Rattle.wef_base.specs.Names.{is_space, is_forbidden, spelt, without_start, without_end, unless_last_space, trimmed_characters, name_of_characters, name_of}
use Rattle.wef_base.specs.declared.names.Letters.{Letters}
use Rattle.wef_base.specs.declared.names.Letters.TheVariants.{Kept, Small}

-- ---- one character

space-small : (c : ℕ) → is_space (to_ascii_lowercase c) ≡ is_space c
space-small c = grind (arith, nat_tests)

forbidden-small : (c : ℕ) → is_forbidden (to_ascii_lowercase c) ≡ is_forbidden c
forbidden-small c = grind (arith, nat_tests)

small-small : (c : ℕ) → to_ascii_lowercase (to_ascii_lowercase c) ≡ to_ascii_lowercase c
small-small c = grind (arith, nat_tests)

scalar-small : (c : ℕ) → scalar c ≡ true → scalar (to_ascii_lowercase c) ≡ true
scalar-small c h = grind (arith, nat_tests)

space-spelt : (letters : Letters) (c : ℕ) → is_space (spelt letters c) ≡ is_space c
space-spelt Kept c = refl
space-spelt Small c = space-small c

forbidden-spelt : (letters : Letters) (c : ℕ) → is_forbidden (spelt letters c) ≡ is_forbidden c
forbidden-spelt Kept c = refl
forbidden-spelt Small c = forbidden-small c

spelt-spelt : (letters : Letters) (c : ℕ) → spelt letters (spelt letters c) ≡ spelt letters c
spelt-spelt Kept c = refl
spelt-spelt Small c = small-small c

pub scalar-spelt : (letters : Letters) (c : ℕ) → scalar c ≡ true → scalar (spelt letters c) ≡ true
scalar-spelt Kept c h = h
scalar-spelt Small c h = scalar-small c h

-- ---- characters stay characters

pub scalars-without_start : (cs : List ℕ) → all_scalars cs ≡ true → all_scalars (without_start cs) ≡ true
scalars-without_start [] h = h
scalars-without_start (c ∷ cs) h = by (is_space c) (scalars-without_start cs (and_parts (scalar c) (all_scalars cs) h).1)
  where
    by : (b : Bool) → all_scalars (without_start cs) ≡ true → all_scalars (cond b (without_start cs) (c ∷ cs)) ≡ true
    by true rest = rest
    by false rest = h

pub scalars-unless_last_space : (c : ℕ) (cs : List ℕ) → scalar c ≡ true → all_scalars cs ≡ true → all_scalars (unless_last_space c cs) ≡ true
scalars-unless_last_space c [] one rest = by (is_space c)
  where
    by : (b : Bool) → all_scalars (cond b [] (c ∷ [])) ≡ true
    by true = refl
    by false = and_from (scalar c) true one refl
scalars-unless_last_space c (d ∷ ds) one rest = and_from (scalar c) (all_scalars (d ∷ ds)) one rest

pub scalars-without_end : (cs : List ℕ) → all_scalars cs ≡ true → all_scalars (without_end cs) ≡ true
scalars-without_end [] h = h
scalars-without_end (c ∷ cs) h =
    let parts = and_parts (scalar c) (all_scalars cs) h in
    scalars-unless_last_space c (without_end cs) parts.0 (scalars-without_end cs parts.1)

pub scalars-map_spelt : (letters : Letters) (cs : List ℕ) → all_scalars cs ≡ true → all_scalars (map (spelt letters) cs) ≡ true
scalars-map_spelt letters [] h = h
scalars-map_spelt letters (c ∷ cs) h =
    let parts = and_parts (scalar c) (all_scalars cs) h in
    and_from (scalar (spelt letters c)) _ (scalar-spelt letters c parts.0) (scalars-map_spelt letters cs parts.1)

-- ---- trimming twice

start_kept : (c : ℕ) (cs : List ℕ) → is_space c ≡ false → without_start (unless_last_space c cs) ≡ unless_last_space c cs
start_kept c [] word = rw word (rw word refl)
start_kept c (d ∷ ds) word = rw word refl

trimmed_start : (cs : List ℕ) → without_start (without_end (without_start cs)) ≡ without_end (without_start cs)
trimmed_start [] = refl
trimmed_start (c ∷ cs) = by (is_space c) refl (trimmed_start cs)
  where
    by : (b : Bool) → is_space c ≡ b → without_start (without_end (without_start cs)) ≡ without_end (without_start cs)
        → without_start (without_end (cond b (without_start cs) (c ∷ cs))) ≡ without_end (cond b (without_start cs) (c ∷ cs))
    by true e rest = rest
    by false e rest = start_kept c (without_end cs) e

alone_kept : (c : ℕ) (b : Bool) → is_space c ≡ b → without_end (cond b [] (c ∷ [])) ≡ cond b [] (c ∷ [])
alone_kept c true e = refl
alone_kept c false e = ap (λ (b : Bool). cond b [] (c ∷ [])) e

end_kept : (c : ℕ) (cs : List ℕ) → without_end cs ≡ cs → without_end (unless_last_space c cs) ≡ unless_last_space c cs
end_kept c [] rest = alone_kept c (is_space c) refl
end_kept c (d ∷ ds) rest = ap (unless_last_space c) rest

trimmed_end : (cs : List ℕ) → without_end (without_end cs) ≡ without_end cs
trimmed_end [] = refl
trimmed_end (c ∷ cs) = end_kept c (without_end cs) (trimmed_end cs)

trimmed_twice : (cs : List ℕ) → trimmed_characters (trimmed_characters cs) ≡ trimmed_characters cs
trimmed_twice cs = ap without_end (trimmed_start cs) ∙ trimmed_end (without_start cs)

-- ---- trimming a name that is spelt

without_start-map : (letters : Letters) (cs : List ℕ) → without_start (map (spelt letters) cs) ≡ map (spelt letters) (without_start cs)
without_start-map letters [] = refl
without_start-map letters (c ∷ cs) =
    ap (λ (b : Bool). cond b (without_start (map (spelt letters) cs)) (map (spelt letters) (c ∷ cs))) (space-spelt letters c) ∙ by (is_space c) (without_start-map letters cs)
  where
    by : (b : Bool) → without_start (map (spelt letters) cs) ≡ map (spelt letters) (without_start cs)
        → cond b (without_start (map (spelt letters) cs)) (map (spelt letters) (c ∷ cs)) ≡ map (spelt letters) (cond b (without_start cs) (c ∷ cs))
    by true rest = rest
    by false rest = refl

unless_last_space-map : (letters : Letters) (c : ℕ) (cs : List ℕ) → unless_last_space (spelt letters c) (map (spelt letters) cs) ≡ map (spelt letters) (unless_last_space c cs)
unless_last_space-map letters c [] = ap (λ (b : Bool). cond b [] (spelt letters c ∷ [])) (space-spelt letters c) ∙ by (is_space c)
  where
    by : (b : Bool) → cond b [] (spelt letters c ∷ []) ≡ map (spelt letters) (cond b [] (c ∷ []))
    by true = refl
    by false = refl
unless_last_space-map letters c (d ∷ ds) = refl

without_end-map : (letters : Letters) (cs : List ℕ) → without_end (map (spelt letters) cs) ≡ map (spelt letters) (without_end cs)
without_end-map letters [] = refl
without_end-map letters (c ∷ cs) =
    ap (unless_last_space (spelt letters c)) (without_end-map letters cs) ∙ unless_last_space-map letters c (without_end cs)

trimmed-map : (letters : Letters) (cs : List ℕ) → trimmed_characters (map (spelt letters) cs) ≡ map (spelt letters) (trimmed_characters cs)
trimmed-map letters cs = ap without_end (without_start-map letters cs) ∙ without_end-map letters (without_start cs)

-- ---- testing and spelling again

forbidden-map : (letters : Letters) (cs : List ℕ) → list_any is_forbidden (map (spelt letters) cs) ≡ list_any is_forbidden cs
forbidden-map letters [] = refl
forbidden-map letters (c ∷ cs) = λ i. forbidden-spelt letters c i || forbidden-map letters cs i

map_spelt-twice : (letters : Letters) (cs : List ℕ) → map (spelt letters) (map (spelt letters) cs) ≡ map (spelt letters) cs
map_spelt-twice letters [] = refl
map_spelt-twice letters (c ∷ cs) = λ i. spelt-spelt letters c i ∷ map_spelt-twice letters cs i

spelt_alike : (letters : Letters) (limit : ℕ) (cs : List ℕ) → name_of_characters letters limit (map (spelt letters) cs) ≡ name_of_characters letters limit cs
spelt_alike letters limit [] = refl
spelt_alike letters limit (c ∷ cs) =
    λ i. cond (forbidden-map letters (c ∷ cs) i || nat_lt limit (length (encode_utf8_all (map_spelt-twice letters (c ∷ cs) i)))) None (Some (encode_utf8_all (map_spelt-twice letters (c ∷ cs) i)))

name_is : (letters : Letters) (limit : ℕ) (cs name : List ℕ) → name_of_characters letters limit cs ≡ Some name → encode_utf8_all (map (spelt letters) cs) ≡ name
name_is letters limit [] name e = cc
name_is letters limit (c ∷ cs) name e = by (list_any is_forbidden (c ∷ cs) || nat_lt limit (length (encode_utf8_all (map (spelt letters) (c ∷ cs))))) e
  where
    by : (b : Bool) → cond b None (Some (encode_utf8_all (map (spelt letters) (c ∷ cs)))) ≡ Some name → encode_utf8_all (map (spelt letters) (c ∷ cs)) ≡ name
    by true e = cc
    by false e = cc

-- ---- the law

-- the name that a text gives is read as itself
pub name_kept : (letters : Letters) (limit : ℕ) (text name : List ℕ) → IsUtf8 text → name_of letters limit text ≡ Some name → name_of letters limit name ≡ Some name
name_kept letters limit text name utf8 e =
    let cs = trimmed_characters (chars text) in
    let is_characters : all_scalars cs ≡ true = scalars-without_end (without_start (chars text)) (scalars-without_start (chars text) (scalars-chars text utf8)) in
    let read : chars name ≡ map (spelt letters) cs = ap chars (sym (name_is letters limit cs name e)) ∙ chars-encodes (map (spelt letters) cs) (scalars-map_spelt letters cs is_characters) in
    let trimmed_again : trimmed_characters (chars name) ≡ map (spelt letters) cs = ap trimmed_characters read ∙ trimmed-map letters cs ∙ ap (map (spelt letters)) (trimmed_twice (chars text)) in
    ap (name_of_characters letters limit) trimmed_again ∙ spelt_alike letters limit cs ∙ e

-- and so is the name that a reader gives
pub result_kept : {E : Type 0} (letters : Letters) (limit : ℕ) (text : List ℕ) (result : Result (Option (List ℕ)) E) → IsUtf8 text
    → IfOk result (λ name. name ≡ name_of letters limit text) → IfOk result (λ name. IfSome name (λ name. name_of letters limit name ≡ Some name))
result_kept letters limit text (Ok (Some name)) utf8 e = name_kept letters limit text name utf8 (sym e)
result_kept letters limit text (Ok None) utf8 e = tt
result_kept letters limit text (Err fault) utf8 e = tt

-- ---- what a name holds

none_forbidden : (letters : Letters) (limit : ℕ) (cs name : List ℕ) → name_of_characters letters limit cs ≡ Some name → list_any is_forbidden cs ≡ false
none_forbidden letters limit [] name e = refl
none_forbidden letters limit (c ∷ cs) name e = by (list_any is_forbidden (c ∷ cs)) (nat_lt limit (length (encode_utf8_all (map (spelt letters) (c ∷ cs))))) refl e
  where
    by : (b long : Bool) → list_any is_forbidden (c ∷ cs) ≡ b → cond (b || long) None (Some (encode_utf8_all (map (spelt letters) (c ∷ cs)))) ≡ Some name → list_any is_forbidden (c ∷ cs) ≡ false
    by true long held e = let bad : ⊥ = cc in absurd bad
    by false long held e = held

-- a name that reads back as itself holds no forbidden character
pub name_allowed : (letters : Letters) (limit : ℕ) (name : List ℕ) → IsUtf8 name → name_of letters limit name ≡ Some name → list_any is_forbidden (chars name) ≡ false
name_allowed letters limit name utf8 e =
    let cs = trimmed_characters (chars name) in
    let is_characters : all_scalars cs ≡ true = scalars-without_end (without_start (chars name)) (scalars-without_start (chars name) (scalars-chars name utf8)) in
    let read : chars name ≡ map (spelt letters) cs = ap chars (sym (name_is letters limit cs name e)) ∙ chars-encodes (map (spelt letters) cs) (scalars-map_spelt letters cs is_characters) in
    ap (list_any is_forbidden) read ∙ forbidden-map letters cs ∙ none_forbidden letters limit cs name e
