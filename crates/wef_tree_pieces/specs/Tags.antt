-- Attributes and tags (XML 1.0, rules AttValue, STag, EmptyElemTag and ETag). A value is quoted by `"` or `'`, holds no
-- `<`, and may hold references; a TAB or LF that stands there itself becomes a space.
use Rattle.std.specs.Prelude.{ℕ, zero, suc, ◌==◌, Bool, ◌||◌, List, [], ◌∷◌, ◌++◌, length, encode_utf8, Option, Some, None, codes, if◌then◌else◌}
use Rattle.std.specs.Option.{option_map, option_and_then}
use Rattle.wef_base.specs.Names.{is_space, without_start}
use Rattle.wef_base.specs.Characters.{is_xml_char}
use Rattle.wef_xml.specs.Fronts.{strip}
use Rattle.wef_tree_pieces.specs.Names.{name_at, with_front}
use Rattle.wef_tree_pieces.specs.References.{reference_at}
use Rattle.wef_tree_pieces.specs.declared.names.Name.{Name}
use Rattle.wef_tree_pieces.specs.declared.tags.Given.{Given}
use Rattle.wef_tree_pieces.specs.declared.tags.Tag.{Tag}

-- a character that stands in a value itself: TAB and LF are read as a space
abbrev pub as_space : ℕ → ℕ
as_space c = if c == 9 || c == 10 then 32 else c

-- one step in a value: its next character, or none at its end; and what is left
abbrev pub value_turn : ℕ → List ℕ → Option (Option ℕ × List ℕ)
value_turn quote [] = None
value_turn quote (c ∷ cs) =
    if c == quote then Some (None, cs)
    else (if c == 38 then option_map (λ read. (Some read.0, read.1)) (reference_at cs)
    else (if c == 60 then None
    else (if is_xml_char c then Some (Some (as_space c), cs) else None)))

-- what a step leads to: the value ends, or goes on behind its next character
abbrev pub value_on : (List ℕ → Option (List ℕ × List ℕ)) → Option ℕ × List ℕ → Option (List ℕ × List ℕ)
value_on go (None, rest) = Some ([], rest)
value_on go (Some c, rest) = option_map (with_front (encode_utf8 c)) (go rest)

-- the value up to its quote, in so many steps, in UTF-8, and what is left behind the quote
abbrev pub value_in : ℕ → ℕ → List ℕ → Option (List ℕ × List ℕ)
value_in zero quote text = None
value_in (suc n) quote text = option_and_then (value_on (value_in n quote)) (value_turn quote text)

-- a quoted value
abbrev pub quoted_at : List ℕ → Option (List ℕ × List ℕ)
quoted_at [] = None
quoted_at (c ∷ cs) = if c == 34 || c == 39 then value_in (length cs) c cs else None

-- what is left behind `=`, with the spaces that may stand round it
abbrev pub behind_equals : List ℕ → Option (List ℕ)
behind_equals text = option_map without_start (strip (codes "=") (without_start text))

-- an attribute as it is spelt: its name and its value
abbrev pub with_value : Name × List ℕ → Option (Given × List ℕ)
with_value name = option_map (λ value. (record { name = name.0; value = value.0 }, value.1)) (option_and_then quoted_at (behind_equals name.1))

abbrev pub given_at : List ℕ → Option (Given × List ℕ)
given_at text = option_and_then with_value (name_at text)

-- a character that ends the attributes of a tag
abbrev pub ends_tag : ℕ → Bool
ends_tag c = c == 62 || c == 47

-- behind spaces: the next attribute, or none at the tag's end
abbrev pub spaced_turn : List ℕ → Option (Option Given × List ℕ)
spaced_turn [] = None
spaced_turn (c ∷ cs) = if ends_tag c then Some (None, c ∷ cs) else option_map (λ read. (Some read.0, read.1)) (given_at (c ∷ cs))

-- one step in a tag: its next attribute, which a space comes before, or none at the tag's end
abbrev pub tag_turn : List ℕ → Option (Option Given × List ℕ)
tag_turn [] = None
tag_turn (c ∷ cs) = if is_space c then spaced_turn (without_start cs) else (if ends_tag c then Some (None, c ∷ cs) else None)

-- the attributes that were read with others before them
abbrev pub with_attributes : List Given → List Given × List ℕ → List Given × List ℕ
with_attributes front read = (front ++ read.0, read.1)

-- what a step leads to: the attributes end, or go on behind the next one
abbrev pub givens_on : (List ℕ → Option (List Given × List ℕ)) → Option Given × List ℕ → Option (List Given × List ℕ)
givens_on go (None, rest) = Some ([], rest)
givens_on go (Some given, rest) = option_map (with_attributes (given ∷ [])) (go rest)

-- the attributes up to the tag's end, in so many steps, and what is left
abbrev pub givens_in : ℕ → List ℕ → Option (List Given × List ℕ)
givens_in zero text = None
givens_in (suc n) text = option_and_then (givens_on (givens_in n)) (tag_turn text)

-- the name and the attributes of a tag, and what is left from its `>` or `/>` on; the text begins behind `<`
abbrev pub with_givens : Name × List ℕ → Option (Tag × List ℕ)
with_givens name = option_map (λ given. (record { name = name.0; given = given.0 }, given.1)) (givens_in (length name.1) name.1)

abbrev pub tag_at : List ℕ → Option (Tag × List ℕ)
tag_at text = option_and_then with_givens (name_at text)

-- the name of an end tag, and what is left; the text begins behind `</`
abbrev pub end_tag_at : List ℕ → Option (Name × List ℕ)
end_tag_at text = option_and_then (λ name. option_map (λ rest. (name.0, rest)) (strip (codes ">") (without_start name.1))) (name_at text)
