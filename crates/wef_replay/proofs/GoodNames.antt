-- Names that words give are such as their readers give: texts that read back as themselves.
use Rattle.std.proofs.Common.{◌≡◌, ℕ, Bool, true, false, ◌&&◌, ◌||◌, cond, List, [], ◌∷◌, length, map, nat_lt, refl, ap, sym, ◌∙◌, subst, encode_utf8_all}
use Rattle.std.specs.Prelude.{Option, Some, None, IsUtf8, codes, not}
use Rattle.std.specs.Cmp.Lexicographic.{nat_list_eq_equiv, slice_cmp, texts_ties}
use Rattle.std.specs.FinMap.{nat_cmp-IsAntisymmetric, slice_cmp-IsAntisymmetric}
use Rattle.std.specs.List.{list_any}
use Rattle.std.specs.Ordering.{is_eq, nat_cmp}
use Rattle.std.specs.Str.{all_scalars, chars, is_utf8}
use Rattle.std.specs.declared.cmp.Ordering.{Ordering}
use Rattle.std.specs.declared.cmp.Ordering.TheVariants.{Less, Equal, Greater}
use Rattle.std.proofs.lemmas.Bool.{and_from, and_parts}
use Rattle.std.proofs.lemmas.Str.{IsUtf8-from_is_utf8, is_utf8-from_IsUtf8, scalars-chars}
use Rattle.wef_base.specs.Names.{channel_name, is_forbidden, name_of, name_of_characters, same, source_name, spelt, subscription_name, trimmed_characters, without_start}
use Rattle.wef_base.specs.Words.{decoded, utf8}
use Rattle.wef_base.specs.declared.names.Letters.{Letters}
use Rattle.wef_base.specs.declared.names.Letters.TheVariants.{Kept, Small}
use Rattle.wef_base.proofs.Kept.{name_kept, scalars-map_spelt, scalars-without_end, scalars-without_start}
use Rattle.wef_replay_values.specs.Values.{channel_word, sending_source_word, source_word, subscription_word, unless_collector}
use Rattle.wef_replay.specs.Good.{is_channel, is_no_collector, is_one, is_source, is_subscription}
use Rattle.wef_replay.proofs.Gifts.{AllOf, all_of-if, all_of-then}

-- ---- a name is a text

encoded_is_text : (cs : List ℕ) → all_scalars cs ≡ true → is_utf8 (encode_utf8_all cs) ≡ true
encoded_is_text cs h = is_utf8-from_IsUtf8 (encode_utf8_all cs) (cs, (h, refl))

-- the name of characters is a text, as it spells them
characters_are_text : (letters : Letters) (limit : ℕ) (cs : List ℕ) → all_scalars cs ≡ true → AllOf (λ name. is_utf8 name ≡ true) (name_of_characters letters limit cs)
characters_are_text letters limit [] scalars = tt
characters_are_text letters limit (c ∷ cs) scalars =
    let spelling = map (spelt letters) (c ∷ cs) in
    all_of-if (λ name. is_utf8 name ≡ true) (list_any is_forbidden (c ∷ cs) || nat_lt limit (length (encode_utf8_all spelling))) None (Some (encode_utf8_all spelling)) tt
    (encoded_is_text spelling (scalars-map_spelt letters (c ∷ cs) scalars))

name_is_text : (letters : Letters) (limit : ℕ) (text name : List ℕ) → IsUtf8 text → name_of letters limit text ≡ Some name → is_utf8 name ≡ true
name_is_text letters limit text name utf8 e =
    let scalars : all_scalars (trimmed_characters (chars text)) ≡ true = scalars-without_end (without_start (chars text)) (scalars-without_start (chars text) (scalars-chars text utf8)) in
    subst (AllOf (λ (read : List ℕ). is_utf8 read ≡ true)) e (characters_are_text letters limit (trimmed_characters (chars text)) scalars)

-- ---- a name reads back

-- a text that its reader gives just so is a name
pub kept_is_one : (name : List ℕ) (given : Option (List ℕ)) → is_utf8 name ≡ true → given ≡ Some name → (is_utf8 name && is_one name given) ≡ true
kept_is_one name given utf8 kept = (λ i. utf8 i && is_one name (kept i)) ∙ nat_list_eq_equiv.refl name

-- a name whose text reads back is good
pub is_kept_name : (name text : List ℕ) (given : Option (List ℕ)) → text ≡ name → IsUtf8 text → given ≡ Some name → true ≡ (is_utf8 name && is_one name given)
is_kept_name name text given same utf8 kept = sym (kept_is_one name given (ap is_utf8 (sym same) ∙ is_utf8-from_IsUtf8 text utf8) kept)

tie : (r : Ordering) → is_eq r ≡ true → r ≡ Equal
tie Less e = cc
tie Equal e = refl
tie Greater e = cc

-- names that are the same byte for byte are one
one_name : (a b : List ℕ) → same a b ≡ true → a ≡ b
one_name a b e = slice_cmp-IsAntisymmetric nat_cmp-IsAntisymmetric a b (tie (slice_cmp nat_cmp a b) (sym (texts_ties a b) ∙ e))

-- and back: a name is what its reader gives
pub one_given : (name : List ℕ) (given : Option (List ℕ)) → is_one name given ≡ true → given ≡ Some name
one_given name None e = cc
one_given name (Some given) e = ap Some (sym (one_name name given e))

pub kept_channel : (c : List ℕ) → is_channel c ≡ true → channel_name c ≡ Some c
kept_channel c e = one_given c (channel_name c) (and_parts (is_utf8 c) (is_one c (channel_name c)) e).1

good_name : (letters : Letters) (limit : ℕ) (text : List ℕ) → is_utf8 text ≡ true → AllOf (λ name. (is_utf8 name && is_one name (name_of letters limit name)) ≡ true) (name_of letters limit text)
good_name letters limit text utf8 = by (name_of letters limit text) refl
  where
    by : (given : Option (List ℕ)) → name_of letters limit text ≡ given → AllOf (λ name. (is_utf8 name && is_one name (name_of letters limit name)) ≡ true) given
    by None e = tt
    by (Some name) e =
        let is_text = IsUtf8-from_is_utf8 text utf8 in
        kept_is_one name (name_of letters limit name) (name_is_text letters limit text name is_text e) (name_kept letters limit text name is_text e)

utf8_is_text : (bytes : List ℕ) → AllOf (λ text. is_utf8 text ≡ true) (utf8 bytes)
utf8_is_text bytes = by (is_utf8 bytes) refl
  where
    by : (b : Bool) → is_utf8 bytes ≡ b → AllOf (λ text. is_utf8 text ≡ true) (cond b (Some bytes) None)
    by true e = e
    by false e = tt

pub decoded_is_text : (word : List ℕ) → AllOf (λ text. is_utf8 text ≡ true) (decoded word)
unfolding decoded
decoded_is_text word = search utf8_is_text

-- ---- the names of words

pub good-subscription : (word : List ℕ) → AllOf (λ u. is_subscription u ≡ true) (subscription_word word)
unfolding subscription_name
good-subscription word = all_of-then _ _ subscription_name (decoded word) (decoded_is_text word) (good_name Kept 128)

pub good-source : (word : List ℕ) → AllOf (λ s. is_source s ≡ true) (source_word word)
unfolding source_name
good-source word = all_of-then _ _ source_name (decoded word) (decoded_is_text word) (good_name Small 255)

pub good-channel : (word : List ℕ) → AllOf (λ c. is_channel c ≡ true) (channel_word word)
unfolding channel_name
good-channel word = all_of-then _ _ channel_name (decoded word) (decoded_is_text word) (good_name Small 256)

good-unless_collector : (s : List ℕ) → is_source s ≡ true → AllOf (λ s. (is_source s && is_no_collector s) ≡ true) (unless_collector s)
good-unless_collector s h = by (same s (codes "collector")) refl
  where
    by : (b : Bool) → same s (codes "collector") ≡ b → AllOf (λ s. (is_source s && is_no_collector s) ≡ true) (cond b None (Some s))
    by true e = tt
    by false e = and_from (is_source s) (is_no_collector s) h (ap not e)

pub good-sending_source : (word : List ℕ) → AllOf (λ s. (is_source s && is_no_collector s) ≡ true) (sending_source_word word)
good-sending_source word = all_of-then _ _ unless_collector (source_word word) (good-source word) good-unless_collector
