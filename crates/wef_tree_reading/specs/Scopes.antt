-- Namespaces in scope (Namespaces in XML 1.0, 5 and 6). A tag declares namespaces for itself and all inside it; the
-- innermost declaration of a prefix counts. The empty prefix stands for the default namespace.
use Rattle.std.specs.Prelude.{ℕ, Bool, ◌&&◌, ◌||◌, not, is_some, List, [], ◌∷◌, ◌++◌, Option, Some, None, if◌then◌else◌}
use Rattle.std.specs.Option.{option_or, option_and_then}
use Rattle.std.specs.Ordering.{nat_cmp}
use Rattle.std.specs.Cmp.Lexicographic.{slice_cmp}
use Rattle.std.specs.List.{list_any}
use Rattle.std.specs.FinMap as map
use Rattle.wef_base.specs.declared.tree.Attribute.{Attribute}
use Rattle.wef_xml.specs.Spaces.{is_attribute, is_empty, is_xml_prefix, is_xml_space, is_xmlns, xml_space}
use Rattle.wef_tree_pieces.specs.declared.names.Name.{Name}
use Rattle.wef_tree_pieces.specs.declared.tags.Given.{Given}
use Rattle.wef_tree_reading.specs.declared.stack.Open.{Open}

-- the declarations of one tag: a namespace for some prefixes
abbrev pub Declared : Type 0
Declared = map.FinMap (slice_cmp nat_cmp) (List ℕ)

-- the prefix that an attribute declares: `xmlns` declares the default namespace, `xmlns:p` the prefix p
abbrev pub declares : Name → Option (List ℕ)
declares name =
    if is_empty name.prefix then (if is_xmlns name.local then Some [] else None)
    else (if is_xmlns name.prefix then Some name.local else None)

-- whether a prefix may be declared so: `xml` as its own namespace alone, nothing else as that one, `xmlns` never, and a
-- prefix never as no namespace
abbrev pub may_declare : List ℕ → List ℕ → Bool
may_declare prefix space =
    if is_xml_prefix prefix then is_xml_space space
    else not (is_xmlns prefix) && not (is_xml_space space) && (is_empty prefix || not (is_empty space))

-- the declarations of a tag with one more, which must be good and the first of its prefix
abbrev pub with_declaration : Declared → List ℕ → List ℕ → Option Declared
with_declaration own prefix space =
    if may_declare prefix space && not (is_some (map.get own prefix)) then Some (map.insert own prefix space) else None

-- the declarations that a tag's attributes make, behind those so far
abbrev pub declare_one : Declared → Given → Option (List ℕ) → Option Declared
declare_one own given (Some prefix) = with_declaration own prefix given.value
declare_one own given None = Some own

abbrev pub declared_by : Declared → List Given → Option Declared
declared_by own [] = Some own
declared_by own (g ∷ gs) = option_and_then (λ more. declared_by more gs) (declare_one own g (declares g.name))

-- the innermost declaration of a prefix by the elements that are open
abbrev pub declared_outside : List Open → List ℕ → Option (List ℕ)
declared_outside [] prefix = None
declared_outside (o ∷ os) prefix = option_or (map.get o.declared prefix) (declared_outside os prefix)

-- the namespace of a prefix where nothing declares it: none for the empty one
abbrev pub undeclared : List ℕ → Option (List ℕ)
undeclared prefix = if is_empty prefix then Some [] else None

-- the namespace that a prefix stands for in a tag with these declarations, inside these elements
abbrev pub in_scope : Declared → List Open → List ℕ → Option (List ℕ)
in_scope own around prefix =
    if is_xml_prefix prefix then Some xml_space
    else option_or (map.get own prefix) (option_or (declared_outside around prefix) (undeclared prefix))

-- the namespace of an attribute: none without a prefix
abbrev pub attribute_space : Declared → List Open → List ℕ → Option (List ℕ)
attribute_space own around prefix = if is_empty prefix then Some [] else in_scope own around prefix

-- the attributes so far, with one more, unless one of its namespace and local name is there
abbrev pub with_attribute : List Attribute → Given → List ℕ → Option (List Attribute)
with_attribute before given space =
    if list_any (is_attribute space given.name.local) before then None
    else Some (before ++ record { space = space; name = given.name.local; value = given.value } ∷ [])

-- an attribute behind those so far; a declaration is none
abbrev pub attribute_one : Declared → List Open → List Attribute → Given → Option (List Attribute)
attribute_one own around before given =
    if is_some (declares given.name) then Some before
    else option_and_then (with_attribute before given) (attribute_space own around given.name.prefix)

-- the attributes of a tag, behind those so far
abbrev pub attributes_by : Declared → List Open → List Attribute → List Given → Option (List Attribute)
attributes_by own around before [] = Some before
attributes_by own around before (g ∷ gs) = option_and_then (λ more. attributes_by own around more gs) (attribute_one own around before g)
