-- Names (Namespaces in XML 1.0, rules NCName and QName): a character that a name may begin with, and characters that may
-- stand in one; one `:` may part a prefix from a local name.
use Rattle.std.specs.Prelude.{ℕ, ◌==◌, Bool, ◌&&◌, List, [], ◌∷◌, ◌++◌, encode_utf8, Option, Some, None, if◌then◌else◌}
use Rattle.std.specs.Option.{option_map, option_and_then}
use Rattle.wef_base.specs.Names.{same}
use Rattle.wef_xml.specs.Letters.{is_name_char, is_name_start}
use Rattle.wef_tree_pieces.specs.declared.names.Name.{Name}

-- what was read with something before it
abbrev pub with_front : List ℕ → List ℕ × List ℕ → List ℕ × List ℕ
with_front front read = (front ++ read.0, read.1)

-- the characters of a name that a text begins with, in UTF-8, and what is left
abbrev pub name_tail : List ℕ → List ℕ × List ℕ
name_tail [] = ([], [])
name_tail (c ∷ cs) = if is_name_char c then with_front (encode_utf8 c) (name_tail cs) else ([], c ∷ cs)

-- a name without `:` that a text begins with
abbrev pub plain_name_at : List ℕ → Option (List ℕ × List ℕ)
plain_name_at [] = None
plain_name_at (c ∷ cs) = if is_name_start c then Some (with_front (encode_utf8 c) (name_tail cs)) else None

-- the name whose first part was read: a prefix where `:` follows, else all of it
abbrev pub name_after : List ℕ → List ℕ → Option (Name × List ℕ)
name_after first [] = Some (record { prefix = []; local = first }, [])
name_after first (c ∷ cs) =
    if c == 58 then option_map (λ second. (record { prefix = first; local = second.0 }, second.1)) (plain_name_at cs)
    else Some (record { prefix = []; local = first }, c ∷ cs)

-- the name that a text begins with, and what is left
unfoldable pub name_at : List ℕ → Option (Name × List ℕ)
name_at text = option_and_then (λ first. name_after first.0 first.1) (plain_name_at text)

-- two names, letter for letter
abbrev pub same_name : Name → Name → Bool
same_name x y = same x.prefix y.prefix && same x.local y.local
