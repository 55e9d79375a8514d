-- The pieces of a text hold names that are names, and characters that XML allows.
use Rattle.std.proofs.Common.{◌≡◌, ℕ, zero, suc, ◌==◌, Bool, true, false, ◌&&◌, ◌||◌, cond, List, [], ◌∷◌, ◌++◌, length, refl, ap, subst, ◌⊎◌, inl, inr, ⊎_elim}
use Rattle.std.specs.Prelude.{Option, Some, None, encode_utf8, encode_utf8_all, codes, is_some, not, if◌then◌else◌}
use Rattle.std.specs.List.{list_all}
use Rattle.std.specs.Option.{option_map, option_and_then}
use Rattle.wef_base.specs.Characters.{is_xml_char}
use Rattle.wef_base.specs.Names.{is_space, without_start}
use Rattle.wef_xml.specs.Fronts.{strip, behind}
use Rattle.wef_xml.specs.Good.{IsXmlText, IsLocalName}
use Rattle.wef_xml.specs.Letters.{is_name_char, is_name_start}
use Rattle.wef_tree_pieces.specs.Names.{name_tail, plain_name_at, name_after, name_at, with_front}
use Rattle.wef_tree_pieces.specs.Pieces.{closed_tag, comment_tail, declaration_tail, letter_at, markup_at, piece_at, section_tail}
use Rattle.wef_tree_pieces.specs.References.{if_allowed, number_at, numbered, reference_at}
use Rattle.wef_tree_pieces.specs.Tags.{as_space, behind_equals, ends_tag, end_tag_at, given_at, givens_in, givens_on, quoted_at, spaced_turn, tag_at, tag_turn, value_in, value_on, value_turn, with_givens, with_value}
use Rattle.wef_tree_pieces.specs.declared.names.Name.{Name}
use Rattle.wef_tree_pieces.specs.declared.pieces.Piece.{Piece}
use Rattle.wef_tree_pieces.specs.declared.pieces.Piece.TheVariants.{Declaration, Comment, Start, Empty, End, Section, Reference, Letter}
use Rattle.wef_tree_pieces.specs.declared.tags.Given.{Given}
use Rattle.wef_tree_pieces.specs.declared.tags.Tag.{Tag}
use Rattle.wef_tree_pieces.proofs.Inversions.{and_then_some, behind_some, cond_is, if_some, map_some, none_some, some_is, unless_some}

pub no_text : IsXmlText []
no_text = record { characters = []; spelt = refl; allowed = refl }

and_true : (b c : Bool) → b ≡ true → c ≡ true → (b && c) ≡ true
and_true true true e f = refl
and_true true false e f = f
and_true false c e f = e

-- a character before characters
pub text_behind : (c : ℕ) (text : List ℕ) → is_xml_char c ≡ true → IsXmlText text → IsXmlText (encode_utf8 c ++ text)
text_behind c text is good = record {
  characters = c ∷ good.characters;
  spelt = ap (λ t. encode_utf8 c ++ t) good.spelt;
  allowed = and_true _ _ is good.allowed;
}

-- names

record IsTail (name : List ℕ) : Type 0 where
  more : List ℕ
  spelt : name ≡ encode_utf8_all more
  goes_on : list_all is_name_char more ≡ true

tail : (cs : List ℕ) → IsTail (name_tail cs).0
tail [] = record { more = []; spelt = refl; goes_on = refl }
tail (c ∷ cs) = by (is_name_char c) refl (tail cs)
  where
    by : (b : Bool) → is_name_char c ≡ b → IsTail (name_tail cs).0 → IsTail (cond b (with_front (encode_utf8 c) (name_tail cs)) ([], c ∷ cs)).0
    by true is further = record { more = c ∷ further.more; spelt = ap (λ t. encode_utf8 c ++ t) further.spelt; goes_on = and_true _ _ is further.goes_on }
    by false is further = record { more = []; spelt = refl; goes_on = refl }

plain_name : (text : List ℕ) (read : List ℕ × List ℕ) → plain_name_at text ≡ Some read → IsLocalName read.0
plain_name [] read e = absurd (none_some _ e)
plain_name (c ∷ cs) read e =
    let whole = with_front (encode_utf8 c) (name_tail cs) in
    let found = if_some (is_name_start c) (Some whole) read e in
    let good : IsLocalName whole.0 = record {
      first = c;
      more = (tail cs).more;
      spelt = ap (λ t. encode_utf8 c ++ t) (tail cs).spelt;
      begins = found.0;
      goes_on = (tail cs).goes_on;
    } in
    let P : List ℕ × List ℕ → Type 0 = λ r. IsLocalName r.0 in
    subst P (some_is whole read found.1) good

-- a name as it is spelt
pub record IsGoodName (name : Name) : Type 0 where
  pub local : IsLocalName name.local
  pub prefix : (name.prefix ≡ []) ⊎ IsLocalName name.prefix

abbrev HasGoodName : Name × List ℕ → Type 0
HasGoodName read = IsGoodName read.0

abbrev prefixed : List ℕ → List ℕ × List ℕ → Name × List ℕ
prefixed first second = (record { prefix = first; local = second.0 }, second.1)

abbrev unprefixed : List ℕ → List ℕ → Name × List ℕ
unprefixed first rest = (record { prefix = []; local = first }, rest)

after : (first text : List ℕ) (read : Name × List ℕ) → IsLocalName first → name_after first text ≡ Some read → HasGoodName read
after first [] read good e = subst HasGoodName (some_is (unprefixed first []) read e) (record { local = good; prefix = inl refl })
after first (c ∷ cs) read good e = ⊎_elim
    (λ h. let found = map_some (prefixed first) (plain_name_at cs) read h.1 in
    subst HasGoodName found.2 (record { local = plain_name cs found.0 found.1; prefix = inr good }))
    (λ h. subst HasGoodName (some_is (unprefixed first (c ∷ cs)) read h.1) (record { local = good; prefix = inl refl }))
    (cond_is (c == 58) (option_map (prefixed first) (plain_name_at cs)) (Some (unprefixed first (c ∷ cs))) (Some read) e)

pub name_is : (text : List ℕ) (read : Name × List ℕ) → name_at text ≡ Some read → IsGoodName read.0
unfolding name_at
name_is text read e =
    let first = and_then_some (λ (first : List ℕ × List ℕ). name_after first.0 first.1) (plain_name_at text) read e in
    after first.0.0 first.0.1 read (plain_name text first.0 first.1) first.2

-- references

abbrev HasXmlChar : ℕ × List ℕ → Type 0
HasXmlChar read = is_xml_char read.0 ≡ true

numbered_is : (hex : Bool) (text : List ℕ) (read : ℕ × List ℕ) → numbered hex text ≡ Some read → HasXmlChar read
numbered_is hex text read e =
    let number = and_then_some if_allowed (number_at hex text) read e in
    let found = if_some (is_xml_char number.0.0) (Some number.0) read number.2 in
    subst HasXmlChar (some_is number.0 read found.1) found.0

known : (c : ℕ) (rest : List ℕ) (read : ℕ × List ℕ) → is_xml_char c ≡ true → Some (c, rest) ≡ Some read → HasXmlChar read
known c rest read is e = subst HasXmlChar (some_is (c, rest) read e) is

abbrev Reader : Type 0
Reader = List ℕ → Option (ℕ × List ℕ)

abbrev gives : ℕ → Reader
gives c rest = Some (c, rest)

-- what a front leads to is good, and so is what comes else
either :
    (front text : List ℕ) (reader : Reader) (other : Option (ℕ × List ℕ)) (read : ℕ × List ℕ) →
    ((rest : List ℕ) → reader rest ≡ Some read → HasXmlChar read) → (other ≡ Some read → HasXmlChar read) →
    behind (strip front text) reader other ≡ Some read → HasXmlChar read
either front text reader other read so otherwise e = ⊎_elim (λ h. so h.0 h.2) (λ h. otherwise h.1) (behind_some (strip front text) reader other read e)

pub reference_is : (text : List ℕ) (read : ℕ × List ℕ) → reference_at text ≡ Some read → is_xml_char read.0 ≡ true
unfolding reference_at
reference_is text read =
    either (codes "amp;") text (gives 38) _ read (λ rest. known 38 rest read refl)
    (either (codes "lt;") text (gives 60) _ read (λ rest. known 60 rest read refl)
    (either (codes "gt;") text (gives 62) _ read (λ rest. known 62 rest read refl)
    (either (codes "quot;") text (gives 34) _ read (λ rest. known 34 rest read refl)
    (either (codes "apos;") text (gives 39) _ read (λ rest. known 39 rest read refl)
    (either (codes "#x") text (numbered true) _ read (λ rest. numbered_is true rest read)
    (either (codes "#") text (numbered false) None read (λ rest. numbered_is false rest read) (λ e. absurd (none_some read e))))))))

-- values

abbrev IsXmlStep : Option ℕ → Type 0
IsXmlStep None = Unit {0}
IsXmlStep (Some c) = is_xml_char c ≡ true

spaced : (c : ℕ) → is_xml_char c ≡ true → is_xml_char (as_space c) ≡ true
spaced c is = by _ refl
  where
    by : (b : Bool) → (c == 9 || c == 10) ≡ b → is_xml_char (cond b 32 c) ≡ true
    by true e = refl
    by false e = is

abbrev HasXmlStep : Option ℕ × List ℕ → Type 0
HasXmlStep read = IsXmlStep read.0

abbrev stepped : ℕ × List ℕ → Option ℕ × List ℕ
stepped read = (Some read.0, read.1)

turn_is : (quote : ℕ) (text : List ℕ) (read : Option ℕ × List ℕ) → value_turn quote text ≡ Some read → HasXmlStep read
turn_is quote [] read e = absurd (none_some read e)
turn_is quote (c ∷ cs) read e =
    let plain : Option (Option ℕ × List ℕ) = if is_xml_char c then Some (Some (as_space c), cs) else None in
    let inner : Option (Option ℕ × List ℕ) = if c == 60 then None else plain in
    let outer : Option (Option ℕ × List ℕ) = if c == 38 then option_map stepped (reference_at cs) else inner in
    ⊎_elim (λ h. subst HasXmlStep (some_is (None, cs) read h.1) tt) (λ h.
    ⊎_elim (λ h. let found = map_some stepped (reference_at cs) read h.1 in subst HasXmlStep found.2 (reference_is cs found.0 found.1)) (λ h.
    let left = unless_some (c == 60) plain read h.1 in
    let found = if_some (is_xml_char c) (Some (Some (as_space c), cs)) read left.1 in
    subst HasXmlStep (some_is (Some (as_space c), cs) read found.1) (spaced c found.0))
    (cond_is (c == 38) (option_map stepped (reference_at cs)) inner (Some read) h.1)) (cond_is (c == quote) (Some (None, cs)) outer (Some read) e)

abbrev HasXmlText : List ℕ × List ℕ → Type 0
HasXmlText read = IsXmlText read.0

value_is : (n quote : ℕ) (text : List ℕ) (read : List ℕ × List ℕ) → value_in n quote text ≡ Some read → HasXmlText read
value_is zero quote text read e = absurd (none_some read e)
value_is (suc n) quote text read e =
    let step = and_then_some (value_on (value_in n quote)) (value_turn quote text) read e in
    on step.0 (turn_is quote text step.0 step.1) step.2 (value_is n quote)
  where
    on :
        (step : Option ℕ × List ℕ) → IsXmlStep step.0 → value_on (value_in n quote) step ≡ Some read →
        ((text : List ℕ) (r : List ℕ × List ℕ) → value_in n quote text ≡ Some r → HasXmlText r) → HasXmlText read
    on (None, rest) is e further = subst HasXmlText (some_is ([], rest) read e) no_text
    on (Some c, rest) is e further =
        let found = map_some (with_front (encode_utf8 c)) (value_in n quote rest) read e in
        subst HasXmlText found.2 (text_behind c found.0.0 is (further rest found.0 found.1))

quoted_is : (text : List ℕ) (read : List ℕ × List ℕ) → quoted_at text ≡ Some read → HasXmlText read
quoted_is [] read e = absurd (none_some read e)
quoted_is (c ∷ cs) read e = value_is (length cs) c cs read (if_some (c == 34 || c == 39) (value_in (length cs) c cs) read e).1

-- tags

pub record IsGoodGiven (given : Given) : Type 0 where
  pub named : IsGoodName given.name
  pub value : IsXmlText given.value

abbrev pub AreGoodGivens : List Given → Type 0
AreGoodGivens [] = Unit {0}
AreGoodGivens (g ∷ gs) = IsGoodGiven g × AreGoodGivens gs

pub record IsGoodTag (tag : Tag) : Type 0 where
  pub named : IsGoodName tag.name
  pub given : AreGoodGivens tag.given

-- what was read is so, whatever is left
abbrev HasRead : {A : Type 0} → (A → Type 0) → A × List ℕ → Type 0
HasRead Is read = Is read.0

abbrev valued : Name → List ℕ × List ℕ → Given × List ℕ
valued name value = (record { name = name; value = value.0 }, value.1)

given_is : (text : List ℕ) (read : Given × List ℕ) → given_at text ≡ Some read → HasRead IsGoodGiven read
given_is text read e =
    let name = and_then_some with_value (name_at text) read e in
    let value = map_some (valued name.0.0) (option_and_then quoted_at (behind_equals name.0.1)) read name.2 in
    let equals = and_then_some quoted_at (behind_equals name.0.1) value.0 value.1 in
    subst (HasRead IsGoodGiven) value.2 (record { named = name_is text name.0 name.1; value = quoted_is equals.0 value.0 equals.2 })

abbrev IsGoodStep : Option Given × List ℕ → Type 0
IsGoodStep (None, rest) = Unit {0}
IsGoodStep (Some given, rest) = IsGoodGiven given

abbrev given_step : Given × List ℕ → Option Given × List ℕ
given_step read = (Some read.0, read.1)

spaced_is : (text : List ℕ) (read : Option Given × List ℕ) → spaced_turn text ≡ Some read → IsGoodStep read
spaced_is [] read e = absurd (none_some read e)
spaced_is (c ∷ cs) read e = ⊎_elim
    (λ h. subst IsGoodStep (some_is (None, c ∷ cs) read h.1) tt)
    (λ h. let found = map_some given_step (given_at (c ∷ cs)) read h.1 in subst IsGoodStep found.2 (given_is (c ∷ cs) found.0 found.1))
    (cond_is (ends_tag c) (Some (None, c ∷ cs)) (option_map given_step (given_at (c ∷ cs))) (Some read) e)

tag_turn_is : (text : List ℕ) (read : Option Given × List ℕ) → tag_turn text ≡ Some read → IsGoodStep read
tag_turn_is [] read e = absurd (none_some read e)
tag_turn_is (c ∷ cs) read e =
    let ends : Option (Option Given × List ℕ) = if ends_tag c then Some (None, c ∷ cs) else None in
    ⊎_elim (λ h. spaced_is (without_start cs) read h.1)
    (λ h. subst IsGoodStep (some_is (None, c ∷ cs) read (if_some (ends_tag c) (Some (None, c ∷ cs)) read h.1).1) tt)
    (cond_is (is_space c) (spaced_turn (without_start cs)) ends (Some read) e)

abbrev given_before : Given → List Given × List ℕ → List Given × List ℕ
given_before given more = (given ∷ more.0, more.1)

givens_are : (n : ℕ) (text : List ℕ) (read : List Given × List ℕ) → givens_in n text ≡ Some read → HasRead AreGoodGivens read
givens_are zero text read e = absurd (none_some read e)
givens_are (suc n) text read e =
    let step = and_then_some (givens_on (givens_in n)) (tag_turn text) read e in
    on step.0 (tag_turn_is text step.0 step.1) step.2 (givens_are n)
  where
    on :
        (step : Option Given × List ℕ) → IsGoodStep step → givens_on (givens_in n) step ≡ Some read →
        ((text : List ℕ) (r : List Given × List ℕ) → givens_in n text ≡ Some r → HasRead AreGoodGivens r) → HasRead AreGoodGivens read
    on (None, rest) is e further = subst (HasRead AreGoodGivens) (some_is ([], rest) read e) tt
    on (Some given, rest) is e further =
        let found = map_some (given_before given) (givens_in n rest) read e in
        subst (HasRead AreGoodGivens) found.2 (is, further rest found.0 found.1)

abbrev tagged : Name → List Given × List ℕ → Tag × List ℕ
tagged name given = (record { name = name; given = given.0 }, given.1)

tag_is : (text : List ℕ) (read : Tag × List ℕ) → tag_at text ≡ Some read → HasRead IsGoodTag read
tag_is text read e =
    let name = and_then_some with_givens (name_at text) read e in
    let given = map_some (tagged name.0.0) (givens_in (length name.0.1) name.0.1) read name.2 in
    subst (HasRead IsGoodTag) given.2 (record { named = name_is text name.0 name.1; given = givens_are (length name.0.1) name.0.1 given.0 given.1 })

-- sections

section_is : (text : List ℕ) (read : List ℕ × List ℕ) → section_tail text ≡ Some read → HasXmlText read
section_is [] read e = absurd (none_some read e)
section_is (c ∷ cs) read e =
    let goes_on : Option (List ℕ × List ℕ) = option_map (with_front (encode_utf8 c)) (section_tail cs) in
    let other : Option (List ℕ × List ℕ) = if is_xml_char c then goes_on else None in
    ⊎_elim
    (λ h. subst HasXmlText (some_is ([], h.0) read h.2) no_text)
    (λ h. let found = if_some (is_xml_char c) goes_on read h.1 in
    let more = map_some (with_front (encode_utf8 c)) (section_tail cs) read found.1 in
    subst HasXmlText more.2 (text_behind c more.0.0 found.0 (section_is cs more.0 more.1)))
    (behind_some (strip (codes "]]>") (c ∷ cs)) (λ (rest : List ℕ). Some ([], rest)) other read e)

-- pieces

abbrev pub IsGoodPiece : Piece → Type 0
IsGoodPiece Declaration = Unit {0}
IsGoodPiece Comment = Unit {0}
IsGoodPiece (Start tag) = IsGoodTag tag
IsGoodPiece (Empty tag) = IsGoodTag tag
IsGoodPiece (End name) = Unit {0}
IsGoodPiece (Section text) = IsXmlText text
IsGoodPiece (Reference c) = is_xml_char c ≡ true
IsGoodPiece (Letter c) = is_xml_char c ≡ true

abbrev HasGoodPiece : Piece × List ℕ → Type 0
HasGoodPiece read = IsGoodPiece read.0

abbrev PieceReader : Type 0
PieceReader = List ℕ → Option (Piece × List ℕ)

-- what a front leads to is good, and so is what comes else
either_piece :
    (front text : List ℕ) (reader : PieceReader) (other : Option (Piece × List ℕ)) (read : Piece × List ℕ) →
    ((rest : List ℕ) → reader rest ≡ Some read → HasGoodPiece read) → (other ≡ Some read → HasGoodPiece read) →
    behind (strip front text) reader other ≡ Some read → HasGoodPiece read
either_piece front text reader other read so otherwise e =
    ⊎_elim (λ h. so h.0 h.2) (λ h. otherwise h.1) (behind_some (strip front text) reader other read e)

abbrev piece_before : Piece → List ℕ → Piece × List ℕ
piece_before piece rest = (piece, rest)

abbrev section_piece : List ℕ × List ℕ → Piece × List ℕ
section_piece read = (Section read.0, read.1)

abbrev end_piece : Name × List ℕ → Piece × List ℕ
end_piece read = (End read.0, read.1)

abbrev reference_piece : ℕ × List ℕ → Piece × List ℕ
reference_piece read = (Reference read.0, read.1)

closed_is : (tag : Tag × List ℕ) (read : Piece × List ℕ) → IsGoodTag tag.0 → closed_tag tag ≡ Some read → HasGoodPiece read
closed_is tag read good =
    either_piece (codes ">") tag.1 (λ rest. Some (Start tag.0, rest)) _ read (λ rest e. subst HasGoodPiece (some_is (Start tag.0, rest) read e) good)
    (λ e. subst HasGoodPiece (map_some (piece_before (Empty tag.0)) (strip (codes "/>") tag.1) read e).2 good)

markup_is : (text : List ℕ) (read : Piece × List ℕ) → markup_at text ≡ Some read → HasGoodPiece read
markup_is text read =
    either_piece (codes "!--") text (λ rest. option_map (piece_before Comment) (comment_tail false rest)) _ read
    (λ rest e. subst HasGoodPiece (map_some (piece_before Comment) (comment_tail false rest) read e).2 tt)
    (either_piece (codes "![CDATA[") text (λ rest. option_map section_piece (section_tail rest)) _ read
    (λ rest e. let found = map_some section_piece (section_tail rest) read e in subst HasGoodPiece found.2 (section_is rest found.0 found.1))
    (either_piece (codes "/") text (λ rest. option_map end_piece (end_tag_at rest)) _ read
    (λ rest e. subst HasGoodPiece (map_some end_piece (end_tag_at rest) read e).2 tt)
    (either_piece (codes "?xml") text (λ rest. option_map (piece_before Declaration) (declaration_tail rest)) _ read
    (λ rest e. subst HasGoodPiece (map_some (piece_before Declaration) (declaration_tail rest) read e).2 tt)
    (λ e. let tag = and_then_some closed_tag (tag_at text) read e in closed_is tag.0 read (tag_is text tag.0 tag.1) tag.2))))

front_true : (b c : Bool) → (b && c) ≡ true → b ≡ true
front_true true c e = refl
front_true false c e = e

letter_is : (c : ℕ) (cs : List ℕ) (read : Piece × List ℕ) → letter_at c cs ≡ Some read → HasGoodPiece read
letter_is c cs read e =
    let found = if_some (is_xml_char c && not (is_some (strip (codes "]]>") (c ∷ cs)))) (Some (Letter c, cs)) read e in
    subst HasGoodPiece (some_is (Letter c, cs) read found.1) (front_true _ _ found.0)

pub piece_is : (text : List ℕ) (read : Piece × List ℕ) → piece_at text ≡ Some read → IsGoodPiece read.0
unfolding piece_at
piece_is [] read e = absurd (none_some read e)
piece_is (c ∷ cs) read e =
    let other : Option (Piece × List ℕ) = if c == 38 then option_map reference_piece (reference_at cs) else letter_at c cs in
    ⊎_elim (λ h. markup_is cs read h.1) (λ h.
    ⊎_elim (λ h. let found = map_some reference_piece (reference_at cs) read h.1 in subst HasGoodPiece found.2 (reference_is cs found.0 found.1))
    (λ h. letter_is c cs read h.1)
    (cond_is (c == 38) (option_map reference_piece (reference_at cs)) (letter_at c cs) (Some read) h.1)) (cond_is (c == 60) (markup_at cs) other (Some read) e)
