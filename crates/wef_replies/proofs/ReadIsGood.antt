-- What an envelope in a good tree says is good: the text of its id, and the elements of its body, which are told where the tree is.
use Rattle.std.proofs.Common.{◌≡◌, ℕ, Bool, true, false, not, cond, List, [], ◌∷◌, subst}
use Rattle.std.specs.Prelude.{Option, Some, None, IfOk, IfSome, ◌&&◌, codes}
use Rattle.std.specs.List.{AllByRecursion, find, list_any}
use Rattle.std.specs.Option.{option_and_then, option_map}
use Rattle.std.specs.declared.result.Result.TheVariants.{Ok}
use Rattle.wef_base.specs.declared.tree.Element.{Element}
use Rattle.wef_batch.specs.Reading.{AreGoodTrees, AreToldTrees}
use Rattle.wef_elements.specs.Children.{elements_in, has_words}
use Rattle.wef_elements.specs.Good.{AreGoodElements}
use Rattle.wef_elements.specs.Texts.{said_in}
use Rattle.wef_elements.proofs.InnerTrees.{element_deeper, inner_good, inner_in}
use Rattle.wef_elements.proofs.GoodTextsInside.{said_in_good}
use Rattle.wef_envelope.specs.Envelopes.{id_in, is_beyond, is_kind, is_part, of_parts, only, parts_among, parts_of, repeated, said, text_of, unless_beyond, unless_repeated, with_required}
use Rattle.wef_envelope.specs.declared.envelopes.Envelope.{Envelope}
use Rattle.wef_envelope.specs.declared.headers.Header.{Header}
use Rattle.wef_envelope.specs.declared.headers.Header.TheVariants as the
use Rattle.wef_ids.specs.IdTexts.{id_of}
use Rattle.wef_ids.specs.declared.MessageId.{MessageId}
use Rattle.wef_xml.specs.Good.{IsGoodElement, IsGoodTree, IsXmlText}
use Rattle.wef_xml.specs.Told.{IsElementIn, IsFound, IsTold}

-- ---- the parts of an envelope

-- headers and elements of a Body that are good, with room for so many in one another
abbrev AreGoodParts : List Element × List Element → Type 0
AreGoodParts parts = AreGoodElements parts.0 62 × AreGoodElements parts.1 62

children_good : (e : Element) → IsGoodElement e 63 → AreGoodElements (elements_in e.children) 62
children_good e good = inner_good e.children 62 good.2

body_parts : (named : Bool) (body : Element) → IsGoodElement body 63 → IfSome (cond named (Some ([], elements_in body.children)) None) AreGoodParts
body_parts true body good = (tt, children_good body good)
body_parts false body good = tt

both_parts : (named : Bool) (header body : Element) → IsGoodElement header 63 → IsGoodElement body 63
    → IfSome (cond named (Some (elements_in header.children, elements_in body.children)) None) AreGoodParts
both_parts true header body good more = (children_good header good, children_good body more)
both_parts false header body good more = tt

among_good : (es : List Element) → AreGoodElements es 63 → IfSome (parts_among es) AreGoodParts
among_good [] good = tt
among_good (body ∷ []) good = body_parts (is_part (codes "Body") body) body good.0
among_good (header ∷ body ∷ []) good = both_parts (is_part (codes "Header") header && is_part (codes "Body") body) header body good.0 good.1.0
among_good (one ∷ two ∷ three ∷ more) good = tt

parts_good : (root : Element) → IsGoodTree root → IfSome (parts_of root) AreGoodParts
unfolding parts_of
parts_good root good = by (is_part (codes "Envelope") root && not (has_words root.children))
  where
    by : (is : Bool) → IfSome (cond is (parts_among (elements_in root.children)) None) AreGoodParts
    by true = among_good (elements_in root.children) (inner_good root.children 63 good.2)
    by false = tt

-- ---- the id

only_good : (h : Header) (es : List Element) → AreGoodElements es 62 → IfSome (only h es) (λ (e : Element). IsGoodElement e 62)
only_good h [] good = tt
only_good h (e ∷ es) good = by (is_kind h e) (list_any (is_kind h) es) (only_good h es good.1)
  where
    by : (here again : Bool) → IfSome (only h es) (λ (x : Element). IsGoodElement x 62) → IfSome (cond here (cond again None (Some e)) (only h es)) (λ (x : Element). IsGoodElement x 62)
    by true true later = tt
    by true false later = good.0
    by false again later = later

id_by : (o : Option Element) → IfSome o (λ (e : Element). IsGoodElement e 62) → IfSome (option_map (λ (e : Element). id_of (said_in e)) o) (λ (id : MessageId). IsXmlText id.text)
id_by None good = tt
id_by (Some e) good = said_in_good e 62 good

id_among : (o : Option (List Element × List Element)) → IfSome o AreGoodParts
    → IfSome (option_map (λ (e : Element). id_of (said_in e)) (option_and_then (λ (parts : List Element × List Element). only the.MessageId parts.0) o)) (λ (id : MessageId). IsXmlText id.text)
id_among None good = tt
id_among (Some parts) good = id_by (only the.MessageId parts.0) (only_good the.MessageId parts.0 good.0)

-- the id that an answer relates to can be written
pub id_is_text : (root : Element) → IsGoodTree root → IfSome (id_in root) (λ (id : MessageId). IsXmlText id.text)
id_is_text root good = id_among (parts_of root) (parts_good root good)

-- ---- the body

-- what holds of a Body's elements holds of those of its envelope
required_body : (B : List Element → Type 0) (headers body : List Element) (action id : Option (List ℕ)) → B body → IfOk (with_required headers body action id) (λ e. B e.body)
required_body B headers body (Some action) (Some id) is = is
required_body B headers body (Some action) None is = tt
required_body B headers body None id is = tt

beyond_body : (B : List Element → Type 0) (headers body : List Element) (found : Option Element) → B body → IfOk (unless_beyond headers body found) (λ e. B e.body)
beyond_body B headers body (Some e) is = tt
beyond_body B headers body None is = required_body B headers body (text_of the.Action headers) (text_of the.MessageId headers) is

repeated_body : (B : List Element → Type 0) (headers body : List Element) (found : Option Element) → B body → IfOk (unless_repeated headers body found) (λ e. B e.body)
repeated_body B headers body (Some e) is = tt
repeated_body B headers body None is = beyond_body B headers body (find is_beyond headers) is

of_body : (B : List Element → Type 0) (o : Option (List Element × List Element)) → IfSome o (λ parts. B parts.1) → IfOk (of_parts o) (λ e. B e.body)
of_body B None is = tt
of_body B (Some parts) is = repeated_body B parts.0 parts.1 (repeated parts.0) is

second_good : (o : Option (List Element × List Element)) → IfSome o AreGoodParts → IfSome o (λ parts. AreGoodElements parts.1 62)
second_good None good = tt
second_good (Some parts) good = good.1

all_deeper : (es : List Element) → AreGoodElements es 62 → AreGoodTrees es
all_deeper [] good = tt
all_deeper (e ∷ es) good = (element_deeper e 63 (element_deeper e 62 good.0), all_deeper es good.1)

-- the elements of a Body are good trees by themselves
pub body_is_good : (root : Element) (e : Envelope) → IsGoodTree root → said root ≡ Ok e → AreGoodTrees e.body
body_is_good root e good is =
    let B : List Element → Type 0 = λ es. AreGoodElements es 62 in
    all_deeper e.body (subst (λ given. IfOk given (λ x. B x.body)) is (of_body B (parts_of root) (second_good (parts_of root) (parts_good root good))))

-- ---- namespaces

AreIn : (List ℕ → Type 0) → List Element → Type 0
AreIn P es = AllByRecursion (λ (e : Element). IsElementIn P e) es

body_in : (P : List ℕ → Type 0) (named : Bool) (headers : List Element) (body : Element) → IsElementIn P body → IfSome (cond named (Some (headers, elements_in body.children)) None) (λ (parts : List Element × List Element). AreIn P parts.1)
unfolding AreIn
body_in P true headers body is = inner_in P body.children is.2
body_in P false headers body is = tt

among_in : (P : List ℕ → Type 0) (es : List Element) → AreIn P es → IfSome (parts_among es) (λ (parts : List Element × List Element). AreIn P parts.1)
unfolding AreIn
among_in P [] is = tt
among_in P (body ∷ []) is = body_in P (is_part (codes "Body") body) [] body is.0
among_in P (header ∷ body ∷ []) is = body_in P (is_part (codes "Header") header && is_part (codes "Body") body) (elements_in header.children) body is.1.0
among_in P (one ∷ two ∷ three ∷ more) is = tt

parts_in : (P : List ℕ → Type 0) (root : Element) → IsElementIn P root → IfSome (parts_of root) (λ (parts : List Element × List Element). AreIn P parts.1)
unfolding AreIn parts_of
parts_in P root is = by (is_part (codes "Envelope") root && not (has_words root.children))
  where
    by : (named : Bool) → IfSome (cond named (parts_among (elements_in root.children)) None) (λ (parts : List Element × List Element). AreIn P parts.1)
    by true = among_in P (elements_in root.children) (inner_in P root.children is.2)
    by false = tt

-- where the root is told, so are the elements of a Body
pub body_is_told : (told : Bool) (root : Element) (e : Envelope) → IsTold told root → said root ≡ Ok e → AreToldTrees told e.body
unfolding AreIn
body_is_told told root e all is so =
    let found = all so in
    let P : List ℕ → Type 0 = IsFound found.0 in
    (found.0, subst (λ given. IfOk given (λ x. AreIn P x.body)) is (of_body (AreIn P) (parts_of root) (parts_in P root found.1)))
