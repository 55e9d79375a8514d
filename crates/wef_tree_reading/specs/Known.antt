-- The namespaces that are known so far, by their digests, and what is in them.
use Rattle.std.specs.Prelude.{◌≡◌, ℕ, true, List, [], ◌∷◌, Option, Some, None, IfSome}
use Rattle.std.specs.BTreeMap.{get}
use Rattle.std.specs.FinMap as map
use Rattle.std.specs.Ordering.{nat_cmp}
use Rattle.std.specs.Cmp.Lexicographic.{slice_cmp}
use Rattle.wef_base.specs.declared.tree.Element.{Element}
use Rattle.wef_xml.specs.Told.{AreAttributesIn, AreNodesIn, IsElementIn, IsFound}
use Rattle.wef_tree_reading.specs.Scopes.{Declared, declares}
use Rattle.wef_tree_reading.specs.declared.building.Builder.{Builder}
use Rattle.wef_tree_reading.specs.declared.known.Known.{Known}
use Rattle.wef_tree_pieces.specs.declared.pieces.Piece.{Piece}
use Rattle.wef_tree_pieces.specs.declared.pieces.Piece.TheVariants.{Start, Empty}
use Rattle.wef_tree_reading.specs.declared.stack.Open.{Open}
use Rattle.wef_tree_pieces.specs.declared.tags.Given.{Given}

-- what is found by a digest
abbrev pub found_in : Known → List ℕ → Option (List ℕ)
found_in known digest = get (slice_cmp nat_cmp) known.spaces digest

-- What finds all that another does.
abbrev pub Extends : (List ℕ → Option (List ℕ)) → (List ℕ → Option (List ℕ)) → Type 0
Extends find more = (digest space : List ℕ) → find digest ≡ Some space → more digest ≡ Some space

-- Whatever finds what is known, and maybe more, has a property, where namespaces are told apart.
abbrev pub Holds : Known → ((List ℕ → Option (List ℕ)) → Type 0) → Type 0
Holds known P = known.told ≡ true → (find : List ℕ → Option (List ℕ)) → Extends (found_in known) find → P find

-- Nothing that was known is lost.
abbrev pub Grows : Known → Known → Type 0
Grows old new = new.told ≡ true → (old.told ≡ true) × Extends (found_in old) (found_in new)

-- The namespaces that a tag's attributes declare have a property.
abbrev pub AreGivensIn : (List ℕ → Type 0) → List Given → Type 0
AreGivensIn P [] = Unit {0}
AreGivensIn P (g ∷ gs) = IfSome (declares g.name) (λ prefix. P g.value) × AreGivensIn P gs

abbrev pub IsPieceIn : (List ℕ → Type 0) → Piece → Type 0
IsPieceIn P (Start tag) = AreGivensIn P tag.given
IsPieceIn P (Empty tag) = AreGivensIn P tag.given
IsPieceIn P _ = Unit {0}

-- The namespaces of what is open, and of what is in it, have a property.
abbrev pub AreDeclaredIn : (List ℕ → Type 0) → Declared → Type 0
AreDeclaredIn P own = (prefix space : List ℕ) → map.get own prefix ≡ Some space → P space

abbrev pub AreOpensIn : (List ℕ → Type 0) → List Open → Type 0
AreOpensIn P [] = Unit {0}
AreOpensIn P (o ∷ os) = (P o.space × AreAttributesIn P o.attributes × AreDeclaredIn P o.declared × AreNodesIn P o.children) × AreOpensIn P os

abbrev pub IsRootIn : (List ℕ → Type 0) → Option Element → Type 0
IsRootIn P None = Unit {0}
IsRootIn P (Some root) = IsElementIn P root

abbrev pub IsBuilderIn : (List ℕ → Type 0) → Builder → Type 0
IsBuilderIn P b = AreOpensIn P b.around × IsRootIn P b.root

-- What is known finds each long namespace in a builder.
abbrev pub KnowsBuilder : Known → Builder → Type 0
KnowsBuilder known b = Holds known (λ find. IsBuilderIn (IsFound find) b)
