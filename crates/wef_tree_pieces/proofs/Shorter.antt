-- No reader leaves more than it was given, and a piece takes at least one character.
use Rattle.std.proofs.Common.{◌≡◌, ℕ, zero, suc, ◌<◌, ◌≤◌, ◌==◌, Bool, true, false, ◌&&◌, ◌||◌, not, is_some, if◌then◌else◌, List, [], ◌∷◌, length, codes, encode_utf8, Option, Some, None, subst, arith}
use Rattle.std.specs.Option.{option_map, option_and_then}
use Rattle.wef_base.specs.Characters.{is_xml_char}
use Rattle.wef_base.specs.Names.{is_space, without_start}
use Rattle.wef_xml.specs.Fronts.{behind, behind_spaces, strip}
use Rattle.wef_xml.specs.Letters.{is_name_char, is_name_start}
use Rattle.wef_tree_pieces.specs.Names.{name_after, name_at, name_tail, plain_name_at, with_front}
use Rattle.wef_tree_pieces.specs.Pieces.{behind_any_quoted, behind_character, behind_encoding, behind_quote, behind_quoted, behind_standalone, behind_version, behind_word, behind_yes_or_no, closed_tag, comment_tail, declaration_tail, letter_at, markup_at, piece_at, section_tail}
use Rattle.wef_tree_pieces.specs.References.{digit, if_allowed, number_at, number_tail, numbered, one_more, reference_at}
use Rattle.wef_tree_pieces.specs.Tags.{as_space, behind_equals, end_tag_at, ends_tag, given_at, givens_in, givens_on, quoted_at, spaced_turn, tag_at, tag_turn, value_in, value_on, value_turn, with_attributes, with_givens, with_value}
use Rattle.wef_tree_pieces.specs.declared.names.Name.{Name}
use Rattle.wef_tree_pieces.specs.declared.pieces.Piece.{Piece}
use Rattle.wef_tree_pieces.specs.declared.pieces.Piece.TheVariants.{Letter}
use Rattle.wef_tree_pieces.specs.declared.tags.Given.{Given}
use Rattle.wef_tree_pieces.specs.declared.tags.Tag.{Tag}

-- what was read, if anything, is at most so long
abbrev Most : {A : Type 0} → (A → ℕ) → ℕ → Option A → Type 0
Most size n None = Unit {0}
Most size n (Some read) = size read ≤ n

-- the length of what is left behind what was read
abbrev left : {A : Type 0} → A × List ℕ → ℕ
left read = length read.1

tail_most : (n c : ℕ) (cs : List ℕ) → length (c ∷ cs) ≤ n → length cs ≤ n
tail_most n c cs h = omega arith

either_most : {A : Type 0} (size : A → ℕ) (n : ℕ) (b : Bool) (x y : A) → size x ≤ n → size y ≤ n → size (if b then x else y) ≤ n
either_most size n true x y p q = p
either_most size n false x y p q = q

if_most : {A : Type 0} (size : A → ℕ) (n : ℕ) (b : Bool) (x y : Option A) → Most size n x → Most size n y → Most size n (if b then x else y)
if_most size n true x y p q = p
if_most size n false x y p q = q

then_most : {A B : Type 0} (size : A → ℕ) (more : B → ℕ) (n : ℕ) (f : A → Option B) (o : Option A) → Most size n o → ((a : A) → size a ≤ n → Most more n (f a)) → Most more n (option_and_then f o)
then_most size more n f None p q = tt
then_most size more n f (Some a) p q = q a p

any_then : {A B : Type 0} (n : ℕ) (f : A → Option (B × List ℕ)) (o : Option A) → ((a : A) → Most left n (f a)) → Most left n (option_and_then f o)
any_then n f None q = tt
any_then n f (Some a) q = q a

map_most : {A B : Type 0} (size : A → ℕ) (more : B → ℕ) (n : ℕ) (f : A → B) (o : Option A) → Most size n o → ((a : A) → size a ≤ n → more (f a) ≤ n) → Most more n (option_map f o)
map_most size more n f None p q = tt
map_most size more n f (Some a) p q = q a p

behind_most : {A : Type 0} (size : A → ℕ) (n : ℕ) (o : Option (List ℕ)) (f : List ℕ → Option A) (other : Option A) → Most length n o → ((rest : List ℕ) → length rest ≤ n → Most size n (f rest)) → Most size n other → Most size n (behind o f other)
behind_most size n None f other p q r = r
behind_most size n (Some rest) f other p q r = q rest p

-- fronts
strip_most : (n : ℕ) (front text : List ℕ) → length text ≤ n → Most length n (strip front text)
strip_most n [] text h = h
strip_most n (w ∷ ws) [] h = tt
strip_most n (w ∷ ws) (c ∷ cs) h = if_most length n (w == c) (strip ws cs) None (strip_most n ws cs (tail_most n c cs h)) tt

without_start_most : (n : ℕ) (text : List ℕ) → length text ≤ n → length (without_start text) ≤ n
without_start_most n [] h = h
without_start_most n (c ∷ cs) h = either_most length n (is_space c) (without_start cs) (c ∷ cs) (without_start_most n cs (tail_most n c cs h)) h

behind_spaces_most : (n : ℕ) (text : List ℕ) → length text ≤ n → Most length n (behind_spaces text)
behind_spaces_most n [] h = tt
behind_spaces_most n (c ∷ cs) h = if_most length n (is_space c) (Some (without_start cs)) None (without_start_most n cs (tail_most n c cs h)) tt

front_most : {A : Type 0} (size : A → ℕ) (n : ℕ) (front text : List ℕ) (f : List ℕ → Option A) (other : Option A) → length text ≤ n → ((rest : List ℕ) → length rest ≤ n → Most size n (f rest)) → Most size n other → Most size n (behind (strip front text) f other)
front_most size n front text f other h q r = behind_most size n (strip front text) f other (strip_most n front text h) q r

-- names
name_tail_most : (n : ℕ) (text : List ℕ) → length text ≤ n → left (name_tail text) ≤ n
name_tail_most n [] h = h
name_tail_most n (c ∷ cs) h = either_most left n (is_name_char c) (with_front (encode_utf8 c) (name_tail cs)) ([], c ∷ cs) (name_tail_most n cs (tail_most n c cs h)) h

plain_name_most : (n : ℕ) (text : List ℕ) → length text ≤ n → Most left n (plain_name_at text)
plain_name_most n [] h = tt
plain_name_most n (c ∷ cs) h = if_most left n (is_name_start c) (Some (with_front (encode_utf8 c) (name_tail cs))) None (name_tail_most n cs (tail_most n c cs h)) tt

name_after_most : (n : ℕ) (first text : List ℕ) → length text ≤ n → Most left n (name_after first text)
name_after_most n first [] h = h
name_after_most n first (c ∷ cs) h =
    if_most left n (c == 58) _ (Some (_, c ∷ cs)) (map_most left left n _ (plain_name_at cs) (plain_name_most n cs (tail_most n c cs h)) (λ _ g. g)) h

name_most : (n : ℕ) (text : List ℕ) → length text ≤ n → Most left n (name_at text)
unfolding name_at
name_most n text h = then_most left left n (λ first. name_after first.0 first.1) (plain_name_at text) (plain_name_most n text h) (λ first g. name_after_most n first.0 first.1 g)

-- references
number_tail_most : (n : ℕ) (hex : Bool) (number : ℕ) (text : List ℕ) → length text ≤ n → Most left n (number_tail hex number text)
number_tail_most n hex number [] h = tt
number_tail_most n hex number (c ∷ cs) h =
    if_most left n (c == 59) (Some (number, cs)) _ (tail_most n c cs h) (any_then n (λ more. number_tail hex more cs) (option_and_then (λ d. one_more hex number d) (digit hex c)) (λ more. number_tail_most n hex more cs (tail_most n c cs h)))

number_most : (n : ℕ) (hex : Bool) (text : List ℕ) → length text ≤ n → Most left n (number_at hex text)
number_most n hex [] h = tt
number_most n hex (c ∷ cs) h = any_then n (λ d. number_tail hex d cs) (digit hex c) (λ d. number_tail_most n hex d cs (tail_most n c cs h))

numbered_most : (n : ℕ) (hex : Bool) (text : List ℕ) → length text ≤ n → Most left n (numbered hex text)
numbered_most n hex text h =
    then_most left left n if_allowed (number_at hex text) (number_most n hex text h) (λ read g. if_most left n (is_xml_char read.0) (Some read) None g tt)

reference_most : (n : ℕ) (text : List ℕ) → length text ≤ n → Most left n (reference_at text)
unfolding reference_at
reference_most n text h =
    front_most left n (codes "amp;") text _ _ h (λ rest g. g)
    (front_most left n (codes "lt;") text _ _ h (λ rest g. g)
    (front_most left n (codes "gt;") text _ _ h (λ rest g. g)
    (front_most left n (codes "quot;") text _ _ h (λ rest g. g)
    (front_most left n (codes "apos;") text _ _ h (λ rest g. g)
    (front_most left n (codes "#x") text (numbered true) _ h (λ rest g. numbered_most n true rest g)
    (front_most left n (codes "#") text (numbered false) None h (λ rest g. numbered_most n false rest g) tt))))))

-- values
value_turn_most : (n quote : ℕ) (text : List ℕ) → length text ≤ n → Most left n (value_turn quote text)
value_turn_most n quote [] h = tt
value_turn_most n quote (c ∷ cs) h =
    let g = tail_most n c cs h in
    if_most left n (c == quote) (Some (None, cs)) _ g
    (if_most left n (c == 38) _ _ (map_most left left n (λ read. (Some read.0, read.1)) (reference_at cs) (reference_most n cs g) (λ _ k. k))
    (if_most left n (c == 60) None _ tt
    (if_most left n (is_xml_char c) (Some (Some (as_space c), cs)) None g tt)))

value_on_most : (n : ℕ) (go : List ℕ → Option (List ℕ × List ℕ)) → ((text : List ℕ) → length text ≤ n → Most left n (go text)) → (read : Option ℕ × List ℕ) → left read ≤ n → Most left n (value_on go read)
value_on_most n go goes (None, rest) h = h
value_on_most n go goes (Some c, rest) h = map_most left left n (with_front (encode_utf8 c)) (go rest) (goes rest h) (λ _ g. g)

value_most : (steps n quote : ℕ) (text : List ℕ) → length text ≤ n → Most left n (value_in steps quote text)
value_most zero n quote text h = tt
value_most (suc steps) n quote text h =
    then_most left left n (value_on (value_in steps quote)) (value_turn quote text) (value_turn_most n quote text h) (value_on_most n (value_in steps quote) (λ rest g. value_most steps n quote rest g))

quoted_most : (n : ℕ) (text : List ℕ) → length text ≤ n → Most left n (quoted_at text)
quoted_most n [] h = tt
quoted_most n (c ∷ cs) h = if_most left n (c == 34 || c == 39) (value_in (length cs) c cs) None (value_most (length cs) n c cs (tail_most n c cs h)) tt

-- tags
behind_equals_most : (n : ℕ) (text : List ℕ) → length text ≤ n → Most length n (behind_equals text)
behind_equals_most n text h =
    map_most length length n without_start (strip (codes "=") (without_start text)) (strip_most n (codes "=") (without_start text) (without_start_most n text h)) (λ rest g. without_start_most n rest g)

with_value_most : (n : ℕ) (name : Name × List ℕ) → left name ≤ n → Most left n (with_value name)
with_value_most n name h =
    map_most left left n _ (option_and_then quoted_at (behind_equals name.1))
    (then_most length left n quoted_at (behind_equals name.1) (behind_equals_most n name.1 h) (λ rest g. quoted_most n rest g)) (λ _ g. g)

given_most : (n : ℕ) (text : List ℕ) → length text ≤ n → Most left n (given_at text)
given_most n text h = then_most left left n with_value (name_at text) (name_most n text h) (with_value_most n)

spaced_turn_most : (n : ℕ) (text : List ℕ) → length text ≤ n → Most left n (spaced_turn text)
spaced_turn_most n [] h = tt
spaced_turn_most n (c ∷ cs) h =
    if_most left n (ends_tag c) (Some (None, c ∷ cs)) _ h (map_most left left n (λ read. (Some read.0, read.1)) (given_at (c ∷ cs)) (given_most n (c ∷ cs) h) (λ _ g. g))

tag_turn_most : (n : ℕ) (text : List ℕ) → length text ≤ n → Most left n (tag_turn text)
tag_turn_most n [] h = tt
tag_turn_most n (c ∷ cs) h =
    if_most left n (is_space c) (spaced_turn (without_start cs)) _ (spaced_turn_most n (without_start cs) (without_start_most n cs (tail_most n c cs h)))
    (if_most left n (ends_tag c) (Some (None, c ∷ cs)) None h tt)

givens_on_most : (n : ℕ) (go : List ℕ → Option (List Given × List ℕ)) → ((text : List ℕ) → length text ≤ n → Most left n (go text)) → (read : Option Given × List ℕ) → left read ≤ n → Most left n (givens_on go read)
givens_on_most n go goes (None, rest) h = h
givens_on_most n go goes (Some given, rest) h = map_most left left n (with_attributes (given ∷ [])) (go rest) (goes rest h) (λ _ g. g)

givens_most : (steps n : ℕ) (text : List ℕ) → length text ≤ n → Most left n (givens_in steps text)
givens_most zero n text h = tt
givens_most (suc steps) n text h =
    then_most left left n (givens_on (givens_in steps)) (tag_turn text) (tag_turn_most n text h) (givens_on_most n (givens_in steps) (λ rest g. givens_most steps n rest g))

tag_most : (n : ℕ) (text : List ℕ) → length text ≤ n → Most left n (tag_at text)
tag_most n text h =
    then_most left left n with_givens (name_at text) (name_most n text h)
    (λ name g. map_most left left n _ (givens_in (length name.1) name.1) (givens_most (length name.1) n name.1 g) (λ _ k. k))

end_tag_most : (n : ℕ) (text : List ℕ) → length text ≤ n → Most left n (end_tag_at text)
end_tag_most n text h =
    then_most left left n _ (name_at text) (name_most n text h)
    (λ name g. map_most length left n (λ rest. (name.0, rest)) (strip (codes ">") (without_start name.1)) (strip_most n (codes ">") (without_start name.1) (without_start_most n name.1 g)) (λ _ k. k))

-- comments, sections and the declaration
comment_most : (n : ℕ) (dashed : Bool) (text : List ℕ) → length text ≤ n → Most length n (comment_tail dashed text)
comment_most n dashed [] h = tt
comment_most n dashed (c ∷ cs) h =
    let g = tail_most n c cs h in
    if_most length n (dashed && c == 45) (strip (codes ">") cs) _ (strip_most n (codes ">") cs g) (if_most length n (is_xml_char c) (comment_tail (c == 45) cs) None (comment_most n (c == 45) cs g) tt)

section_most : (n : ℕ) (text : List ℕ) → length text ≤ n → Most left n (section_tail text)
section_most n [] h = tt
section_most n (c ∷ cs) h =
    front_most left n (codes "]]>") (c ∷ cs) _ _ h (λ rest g. g)
    (if_most left n (is_xml_char c) _ None (map_most left left n (with_front (encode_utf8 c)) (section_tail cs) (section_most n cs (tail_most n c cs h)) (λ _ g. g)) tt)

behind_character_most : (n wanted : ℕ) (text : List ℕ) → length text ≤ n → Most length n (behind_character wanted text)
behind_character_most n wanted [] h = tt
behind_character_most n wanted (c ∷ cs) h = if_most length n (c == wanted) (Some cs) None (tail_most n c cs h) tt

behind_quoted_most : (n : ℕ) (word text : List ℕ) → length text ≤ n → Most length n (behind_quoted word text)
behind_quoted_most n word [] h = tt
behind_quoted_most n word (c ∷ cs) h =
    if_most length n (c == 34 || c == 39) _ None (then_most length length n (behind_character c) (strip word cs) (strip_most n word cs (tail_most n c cs h)) (behind_character_most n c)) tt

behind_quote_most : (n quote : ℕ) (text : List ℕ) → length text ≤ n → Most length n (behind_quote quote text)
behind_quote_most n quote [] h = tt
behind_quote_most n quote (c ∷ cs) h = if_most length n (c == quote) (Some cs) (behind_quote quote cs) (tail_most n c cs h) (behind_quote_most n quote cs (tail_most n c cs h))

behind_any_quoted_most : (n : ℕ) (text : List ℕ) → length text ≤ n → Most length n (behind_any_quoted text)
behind_any_quoted_most n [] h = tt
behind_any_quoted_most n (c ∷ cs) h = if_most length n (c == 34 || c == 39) (behind_quote c cs) None (behind_quote_most n c cs (tail_most n c cs h)) tt

behind_word_most : (n : ℕ) (word text : List ℕ) → length text ≤ n → Most length n (behind_word word text)
behind_word_most n word text h =
    then_most length length n behind_equals (option_and_then (strip word) (behind_spaces text))
    (then_most length length n (strip word) (behind_spaces text) (behind_spaces_most n text h) (strip_most n word)) (behind_equals_most n)

behind_version_most : (n : ℕ) (text : List ℕ) → length text ≤ n → Most length n (behind_version text)
behind_version_most n text h =
    then_most length length n (behind_quoted (codes "1.0")) (behind_word (codes "version") text) (behind_word_most n (codes "version") text h) (behind_quoted_most n (codes "1.0"))

behind_encoding_most : (n : ℕ) (text : List ℕ) → length text ≤ n → Most length n (behind_encoding text)
behind_encoding_most n text h =
    behind_most length n (behind_word (codes "encoding") text) behind_any_quoted (Some text) (behind_word_most n (codes "encoding") text h) (behind_any_quoted_most n) h

behind_yes_or_no_most : (n : ℕ) (text : List ℕ) → length text ≤ n → Most length n (behind_yes_or_no text)
behind_yes_or_no_most n text h =
    behind_most length n (behind_quoted (codes "yes") text) _ (behind_quoted (codes "no") text) (behind_quoted_most n (codes "yes") text h) (λ _ g. g) (behind_quoted_most n (codes "no") text h)

behind_standalone_most : (n : ℕ) (text : List ℕ) → length text ≤ n → Most length n (behind_standalone text)
behind_standalone_most n text h =
    behind_most length n (behind_word (codes "standalone") text) behind_yes_or_no (Some text) (behind_word_most n (codes "standalone") text h) (behind_yes_or_no_most n) h

declaration_most : (n : ℕ) (text : List ℕ) → length text ≤ n → Most length n (declaration_tail text)
declaration_most n text h =
    then_most length length n _ (option_and_then behind_standalone (option_and_then behind_encoding (behind_version text)))
    (then_most length length n behind_standalone (option_and_then behind_encoding (behind_version text))
    (then_most length length n behind_encoding (behind_version text) (behind_version_most n text h) (behind_encoding_most n)) (behind_standalone_most n))
    (λ rest g. strip_most n (codes "?>") (without_start rest) (without_start_most n rest g))

-- pieces
closed_tag_most : (n : ℕ) (read : Tag × List ℕ) → left read ≤ n → Most left n (closed_tag read)
closed_tag_most n read h =
    front_most left n (codes ">") read.1 _ _ h (λ _ g. g)
    (map_most length left n _ (strip (codes "/>") read.1) (strip_most n (codes "/>") read.1 h) (λ _ g. g))

markup_most : (n : ℕ) (text : List ℕ) → length text ≤ n → Most left n (markup_at text)
markup_most n text h =
    front_most left n (codes "!--") text _ _ h (λ rest g. map_most length left n _ (comment_tail false rest) (comment_most n false rest g) (λ _ k. k))
    (front_most left n (codes "![CDATA[") text _ _ h (λ rest g. map_most left left n _ (section_tail rest) (section_most n rest g) (λ _ k. k))
    (front_most left n (codes "/") text _ _ h (λ rest g. map_most left left n _ (end_tag_at rest) (end_tag_most n rest g) (λ _ k. k))
    (front_most left n (codes "?xml") text _ _ h (λ rest g. map_most length left n _ (declaration_tail rest) (declaration_most n rest g) (λ _ k. k))
    (then_most left left n closed_tag (tag_at text) (tag_most n text h) (closed_tag_most n)))))

piece_most : (n c : ℕ) (cs : List ℕ) → length cs ≤ n → Most left n (piece_at (c ∷ cs))
unfolding piece_at
piece_most n c cs h =
    if_most left n (c == 60) (markup_at cs) _ (markup_most n cs h)
    (if_most left n (c == 38) _ (letter_at c cs) (map_most left left n _ (reference_at cs) (reference_most n cs h) (λ _ g. g))
    (if_most left n (is_xml_char c && not (is_some (strip (codes "]]>") (c ∷ cs)))) (Some (Letter c, cs)) None h tt))

-- A piece takes at least one character.
pub piece_shorter : (text : List ℕ) (p : Piece) (rest : List ℕ) → piece_at text ≡ Some (p, rest) → length rest < length text
unfolding piece_at
piece_shorter [] p rest e = grind arith
piece_shorter (c ∷ cs) p rest e =
    let h : length rest ≤ length cs = subst (Most left (length cs)) e (piece_most (length cs) c cs (omega arith)) in omega arith
