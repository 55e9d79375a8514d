-- Which pieces are good where, and what they put together. A builder holds the elements that are open, the innermost
-- first, and the characters that wait to become text of the innermost.
use Rattle.std.specs.Prelude.{ℕ, ◌==◌, nat_lt, Bool, true, false, ◌&&◌, not, is_some, List, [], ◌∷◌, ◌++◌, length, encode_utf8, Option, Some, None, if◌then◌else◌}
use Rattle.std.specs.Option.{option_map, option_and_then}
use Rattle.std.specs.FinMap as map
use Rattle.wef_base.specs.Names.{is_space}
use Rattle.wef_base.specs.declared.tree.Element.{Element}
use Rattle.wef_base.specs.declared.tree.Node.{Node}
use Rattle.wef_base.specs.declared.tree.Node.TheVariants.{Element as Child, Chars}
use Rattle.wef_xml.specs.Good.{greatest_depth}
use Rattle.wef_tree_pieces.specs.Names.{same_name}
use Rattle.wef_tree_reading.specs.Scopes.{Declared, attributes_by, declared_by, in_scope}
use Rattle.wef_tree_reading.specs.declared.building.Builder.{Builder}
use Rattle.wef_tree_pieces.specs.declared.names.Name.{Name}
use Rattle.wef_tree_pieces.specs.declared.pieces.Piece.{Piece}
use Rattle.wef_tree_pieces.specs.declared.pieces.Piece.TheVariants.{Declaration, Comment, Start, Empty, End, Section, Reference, Letter}
use Rattle.wef_tree_reading.specs.declared.stack.Open.{Open}
use Rattle.wef_tree_pieces.specs.declared.tags.Tag.{Tag}

-- before the first piece
abbrev pub nothing : Builder
nothing = record { begun = false; around = []; text = []; root = None }

-- outside of the root
abbrev pub is_outside : Builder → Bool
is_outside b = length b.around == 0

-- the open elements with one more child of the innermost
abbrev pub with_child : Node → List Open → List Open
with_child child [] = []
with_child child (o ∷ os) = record o { children = o.children ++ child ∷ [] } ∷ os

-- the open elements with a text as the last child of the innermost, where there is any text
abbrev pub with_text : List ℕ → List Open → List Open
with_text text around = if length text == 0 then around else with_child (Chars text) around

-- once a tag has come, the characters that waited are text
abbrev pub flushed : Builder → Builder
flushed b = record b { begun = true; around = with_text b.text b.around; text = [] }

-- whether one more element may begin
abbrev pub has_room : Builder → Bool
has_room b = nat_lt (length b.around) greatest_depth && not (is_some b.root)

-- the element that a tag opens, where its prefixes are declared and its attributes differ
abbrev pub opened_with : List Open → Tag → Declared → Option Open
opened_with around tag own =
    option_and_then (λ space. option_map (λ attributes. record { name = tag.name; space = space; attributes = attributes; declared = own; children = [] })
    (attributes_by own around [] tag.given))
    (in_scope own around tag.name.prefix)

abbrev pub opened : Builder → Tag → Option Open
opened b tag = if has_room b then option_and_then (opened_with b.around tag) (declared_by map.empty tag.given) else None

-- what an open element is once it ends
abbrev pub element_of : Open → Element
element_of o = record { space = o.space; name = o.name.local; attributes = o.attributes; children = o.children }

-- an element that has ended, as the last child of the innermost open one, or as the root
abbrev pub placed : Element → Builder → Builder
placed e b = if is_outside b then record b { root = Some e } else record b { around = with_child (Child e) b.around }

-- an element that begins, inside those that are open
abbrev pub entered : Builder → Open → Builder
entered b o = record (flushed b) { around = o ∷ (flushed b).around }

-- an element that begins and ends at once
abbrev pub passed : Builder → Open → Builder
passed b o = placed (element_of o) (flushed b)

-- the innermost of these open elements ends, where its name is this one
abbrev pub ended : Name → Builder → List Open → Option Builder
ended name b [] = None
ended name b (o ∷ os) = if same_name name o.name then Some (placed (element_of o) (record b { around = os })) else None

-- more text of the innermost element
abbrev pub with_more : Builder → List ℕ → Option Builder
with_more b more = if is_outside b then None else Some (record b { begun = true; text = b.text ++ more })

-- a character that stands for itself: outside of the root a space alone
abbrev pub with_letter : Builder → ℕ → Option Builder
with_letter b c = if is_outside b then (if is_space c then Some (record b { begun = true }) else None) else with_more b (encode_utf8 c)

-- What is there once a piece has come; none where the piece isn't good in its place.
unfoldable pub taken : Builder → Piece → Option Builder
taken b Declaration = if b.begun then None else Some (record b { begun = true })
taken b Comment = Some (record b { begun = true })
taken b (Start tag) = option_map (entered b) (opened b tag)
taken b (Empty tag) = option_map (passed b) (opened b tag)
taken b (End name) = ended name (flushed b) (flushed b).around
taken b (Section text) = with_more b text
taken b (Reference c) = with_more b (encode_utf8 c)
taken b (Letter c) = with_letter b c
