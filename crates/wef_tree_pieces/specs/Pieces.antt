-- The pieces that a document is a list of. Which piece stands at the front of a text depends on the text alone; whether
-- it is good in its place is said where elements are put together.
use Rattle.std.specs.Prelude.{ℕ, ◌==◌, Bool, false, ◌&&◌, ◌||◌, not, is_some, List, [], ◌∷◌, encode_utf8, Option, Some, None, codes, if◌then◌else◌}
use Rattle.std.specs.Option.{option_map, option_and_then}
use Rattle.wef_base.specs.Names.{without_start}
use Rattle.wef_base.specs.Characters.{is_xml_char}
use Rattle.wef_xml.specs.Fronts.{strip, behind, behind_spaces}
use Rattle.wef_tree_pieces.specs.Names.{with_front}
use Rattle.wef_tree_pieces.specs.References.{reference_at}
use Rattle.wef_tree_pieces.specs.Tags.{behind_equals, end_tag_at, tag_at}
use Rattle.wef_tree_pieces.specs.declared.pieces.Piece.{Piece}
use Rattle.wef_tree_pieces.specs.declared.pieces.Piece.TheVariants.{Declaration, Comment, Start, Empty, End, Section, Reference, Letter}
use Rattle.wef_tree_pieces.specs.declared.tags.Tag.{Tag}

-- What is left behind a comment (XML 1.0, rule Comment), whose text begins behind `<!--` and ends at the first `--`,
-- which `>` has to follow. `dashed`: the character before was a `-`.
abbrev pub comment_tail : Bool → List ℕ → Option (List ℕ)
comment_tail dashed [] = None
comment_tail dashed (c ∷ cs) = if dashed && c == 45 then strip (codes ">") cs else (if is_xml_char c then comment_tail (c == 45) cs else None)

-- The text of a CDATA section (rules CDStart to CDEnd) up to the first `]]>`, in UTF-8, and what is left.
abbrev pub section_tail : List ℕ → Option (List ℕ × List ℕ)
section_tail [] = None
section_tail (c ∷ cs) =
    behind (strip (codes "]]>") (c ∷ cs)) (λ rest. Some ([], rest))
    (if is_xml_char c then option_map (with_front (encode_utf8 c)) (section_tail cs) else None)

-- what is left behind one character
abbrev pub behind_character : ℕ → List ℕ → Option (List ℕ)
behind_character wanted [] = None
behind_character wanted (c ∷ cs) = if c == wanted then Some cs else None

-- what is left behind a word in quotes of either kind
abbrev pub behind_quoted : List ℕ → List ℕ → Option (List ℕ)
behind_quoted word [] = None
behind_quoted word (c ∷ cs) = if c == 34 || c == 39 then option_and_then (behind_character c) (strip word cs) else None

-- what is left behind the next quote of this kind
abbrev pub behind_quote : ℕ → List ℕ → Option (List ℕ)
behind_quote quote [] = None
behind_quote quote (c ∷ cs) = if c == quote then Some cs else behind_quote quote cs

-- what is left behind anything in quotes
abbrev pub behind_any_quoted : List ℕ → Option (List ℕ)
behind_any_quoted [] = None
behind_any_quoted (c ∷ cs) = if c == 34 || c == 39 then behind_quote c cs else None

-- what is left behind spaces, a word, and `=`
abbrev pub behind_word : List ℕ → List ℕ → Option (List ℕ)
behind_word word text = option_and_then behind_equals (option_and_then (strip word) (behind_spaces text))

-- The three parts of a declaration (rules VersionInfo, EncodingDecl and SDDecl), of which the first must be there. Where
-- one of the others isn't there, nothing is passed over. The encoding isn't looked at.
abbrev pub behind_version : List ℕ → Option (List ℕ)
behind_version text = option_and_then (behind_quoted (codes "1.0")) (behind_word (codes "version") text)

abbrev pub behind_encoding : List ℕ → Option (List ℕ)
behind_encoding text = behind (behind_word (codes "encoding") text) behind_any_quoted (Some text)

abbrev pub behind_yes_or_no : List ℕ → Option (List ℕ)
behind_yes_or_no text = behind (behind_quoted (codes "yes") text) (λ rest. Some rest) (behind_quoted (codes "no") text)

abbrev pub behind_standalone : List ℕ → Option (List ℕ)
behind_standalone text = behind (behind_word (codes "standalone") text) behind_yes_or_no (Some text)

-- what is left behind a declaration (rule XMLDecl), whose text begins behind `<?xml`
abbrev pub declaration_tail : List ℕ → Option (List ℕ)
declaration_tail text =
    option_and_then (λ rest. strip (codes "?>") (without_start rest))
    (option_and_then behind_standalone (option_and_then behind_encoding (behind_version text)))

-- a start tag, or an empty tag; the text of both begins behind `<`
abbrev pub closed_tag : Tag × List ℕ → Option (Piece × List ℕ)
closed_tag read =
    behind (strip (codes ">") read.1) (λ rest. Some (Start read.0, rest))
    (option_map (λ rest. (Empty read.0, rest)) (strip (codes "/>") read.1))

-- a piece that begins with `<`; the text begins behind it
abbrev pub markup_at : List ℕ → Option (Piece × List ℕ)
markup_at text =
    behind (strip (codes "!--") text) (λ rest. option_map (λ after. (Comment, after)) (comment_tail false rest))
    (behind (strip (codes "![CDATA[") text) (λ rest. option_map (λ read. (Section read.0, read.1)) (section_tail rest))
    (behind (strip (codes "/") text) (λ rest. option_map (λ read. (End read.0, read.1)) (end_tag_at rest))
    (behind (strip (codes "?xml") text) (λ rest. option_map (λ after. (Declaration, after)) (declaration_tail rest))
    (option_and_then closed_tag (tag_at text)))))

-- one character that stands for itself
abbrev pub letter_at : ℕ → List ℕ → Option (Piece × List ℕ)
letter_at c cs = if is_xml_char c && not (is_some (strip (codes "]]>") (c ∷ cs))) then Some (Letter c, cs) else None

-- the piece that a text begins with, and what is left
unfoldable pub piece_at : List ℕ → Option (Piece × List ℕ)
piece_at [] = None
piece_at (c ∷ cs) =
    if c == 60 then markup_at cs
    else (if c == 38 then option_map (λ read. (Reference read.0, read.1)) (reference_at cs) else letter_at c cs)
