-- The same bytes are heard in one way.
use Rattle.std.proofs.Common.{◌≡◌, ℕ, List, ap, sym, ◌∙◌, ◌⊎◌, inl, inr}
use Rattle.std.specs.Prelude.{Result}
use Rattle.std.specs.declared.result.Result.TheVariants.{Ok, Err}
use Rattle.wef_base.specs.declared.tree.Charset.{Charset}
use Rattle.wef_base.specs.declared.tree.Element.{Element}
use Rattle.wef_ids.specs.declared.FaultName.{FaultName}
use Rattle.wef_ids.specs.declared.FaultName.TheVariants as the
use Rattle.wef_tree_reading.specs.Spelling.{ReadsTree, Spells, StopsAt}
use Rattle.wef_tree_reading.specs.declared.faults.FaultKind.{FaultKind}
use Rattle.wef_tree_reading.specs.declared.faults.FaultKind.TheVariants as kinds
use Rattle.wef_tree_reading.proofs.Readings.{has_no_fault, has_one_fault, has_one_root, is_decoded}
use Rattle.wef_xml.specs.Decoding.{decoded}
use Rattle.wef_xml.specs.declared.faults.TreeFault.{TreeFault}
use Rattle.wef_xml.specs.declared.faults.TreeFault.TheVariants as tree
use Rattle.wef_replies.specs.Refusals.{HearsRead}
use Rattle.wef_replies.specs.Refusals.{HearsBytes, HearsRead}

-- ---- three ways to be heard

-- what a text with such a fault is refused with
abbrev refused_by : FaultKind → FaultName
refused_by kinds.Xml = the.InvalidMessage
refused_by kinds.Deep = the.EncodingLimit
refused_by kinds.Refused = the.InvalidMessage

-- the bytes spell a tree
abbrev HearsRoot : {H : Type 0} → (Element → H) → Charset → List ℕ → H → Type 0
HearsRoot heard_in charset bytes heard = (root : Element) × Spells charset bytes root × (heard ≡ heard_in root)

-- they aren't of the charset
abbrev HearsNoText : {H : Type 0} → (FaultName → H) → Charset → List ℕ → H → Type 0
HearsNoText unheard charset bytes heard = (at : ℕ) × (decoded charset bytes ≡ Err at) × (heard ≡ unheard the.EncodingLimit)

-- their text is no document
abbrev HearsFault : {H : Type 0} → (FaultName → H) → Charset → List ℕ → H → Type 0
HearsFault unheard charset bytes heard = (kind : FaultKind) × (at : ℕ) × StopsAt charset bytes kind at × (heard ≡ unheard (refused_by kind))

abbrev HearsOne : {H : Type 0} → (Element → H) → (FaultName → H) → Charset → List ℕ → H → Type 0
HearsOne heard_in unheard charset bytes heard = HearsRoot heard_in charset bytes heard ⊎ (HearsNoText unheard charset bytes heard ⊎ HearsFault unheard charset bytes heard)

one_of :
    {H : Type 0} (heard_in : Element → H) (unheard : FaultName → H) (charset : Charset) (bytes : List ℕ) (read : Result Element TreeFault) (heard : H) →
    ReadsTree charset bytes read → HearsRead heard_in unheard read heard → HearsOne heard_in unheard charset bytes heard
one_of heard_in unheard charset bytes (Ok root) heard reads is = inl (root, reads, is)
one_of heard_in unheard charset bytes (Err tree.NoMemory) heard reads is = absurd is
one_of heard_in unheard charset bytes (Err (tree.BadCharset at)) heard reads is = inr (inl (at, reads, is))
one_of heard_in unheard charset bytes (Err (tree.BadXml at)) heard reads is = inr (inr (kinds.Xml, at, reads, is))
one_of heard_in unheard charset bytes (Err (tree.TooDeep at)) heard reads is = inr (inr (kinds.Deep, at, reads, is))
one_of heard_in unheard charset bytes (Err (tree.Refused at)) heard reads is = inr (inr (kinds.Refused, at, reads, is))

-- ---- and no two of them

ok_err : (cs : List ℕ) (n : ℕ) → ◌≡◌ {A = Result (List ℕ) ℕ} (Ok cs) (Err n) → ⊥
ok_err cs n e = cc

-- bytes with a fault of their text are of the charset
of_charset : (charset : Charset) (bytes : List ℕ) (kind : FaultKind) (at place : ℕ) → StopsAt charset bytes kind at → decoded charset bytes ≡ Err place → ⊥
of_charset charset bytes kind at place stops bad = ok_err stops.characters place (sym stops.decodes ∙ bad)

same_heard :
    {H : Type 0} (heard_in : Element → H) (unheard : FaultName → H) (charset : Charset) (bytes : List ℕ) (heard other : H) →
    HearsOne heard_in unheard charset bytes heard → HearsOne heard_in unheard charset bytes other → heard ≡ other
same_heard heard_in unheard charset bytes heard other (inl a) (inl b) = a.2 ∙ ap heard_in (has_one_root charset bytes a.0 b.0 a.1 b.1) ∙ sym b.2
same_heard heard_in unheard charset bytes heard other (inl a) (inr (inl b)) = absurd (is_decoded charset bytes a.0 b.0 a.1 b.1)
same_heard heard_in unheard charset bytes heard other (inl a) (inr (inr b)) = absurd (has_no_fault charset bytes a.0 b.0 b.1 a.1 b.2)
same_heard heard_in unheard charset bytes heard other (inr (inl a)) (inl b) = absurd (is_decoded charset bytes b.0 a.0 b.1 a.1)
same_heard heard_in unheard charset bytes heard other (inr (inl a)) (inr (inl b)) = a.2 ∙ sym b.2
same_heard heard_in unheard charset bytes heard other (inr (inl a)) (inr (inr b)) = absurd (of_charset charset bytes b.0 b.1 a.0 b.2 a.1)
same_heard heard_in unheard charset bytes heard other (inr (inr a)) (inl b) = absurd (has_no_fault charset bytes b.0 a.0 a.1 b.1 a.2)
same_heard heard_in unheard charset bytes heard other (inr (inr a)) (inr (inl b)) = absurd (of_charset charset bytes a.0 a.1 b.0 a.2 b.1)
same_heard heard_in unheard charset bytes heard other (inr (inr a)) (inr (inr b)) =
    a.3 ∙ ap (λ (kind : FaultKind). unheard (refused_by kind)) (has_one_fault charset bytes a.0 b.0 a.1 b.1 a.2 b.2).0 ∙ sym b.3

-- an end hears no two things in the same bytes
pub one_is_heard :
    {H : Type 0} (heard_in : Element → H) (unheard : FaultName → H) (charset : Charset) (bytes : List ℕ) (heard other : H) →
    HearsBytes heard_in unheard charset bytes heard → HearsBytes heard_in unheard charset bytes other → heard ≡ other
one_is_heard heard_in unheard charset bytes heard other hears again =
    same_heard heard_in unheard charset bytes heard other (one_of heard_in unheard charset bytes hears.0 heard hears.1 hears.2)
    (one_of heard_in unheard charset bytes again.0 other again.1 again.2)
