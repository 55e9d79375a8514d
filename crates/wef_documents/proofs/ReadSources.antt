-- The sources that are read are those of their addresses, and differ by their names.
use Rattle.std.proofs.Common.{◌≡◌, ℕ, zero, suc, ◌+◌, ◌-◌, Bool, true, false, not, ◌||◌, cond, List, [], ◌∷◌, ◌++◌, length, take, encode_utf8_all, refl, ap, sym, ◌∙◌, subst, append_assoc, append-nil, arith}
use Rattle.std.specs.Prelude.{Option, Some, None, Ok, Err, Result, IfSome, codes, find}
use Rattle.std.specs.List.{AllByRecursion, list_any}
use Rattle.std.specs.Option.{option_map}
use Rattle.std.specs.Str.{chars}
use Rattle.std.proofs.lemmas.Bool.{and_from, and_parts}
use Rattle.std.proofs.lemmas.List.{length-append}
use Rattle.wef_base.specs.Names.{source_name}
use Rattle.wef_base.specs.Numbers.{is_numeral}
use Rattle.wef_base.specs.declared.tree.Element.{Element}
use Rattle.wef_elements.specs.Children.{elements_in, is_called}
use Rattle.wef_elements.specs.Good.{AreGoodElements}
use Rattle.wef_elements.specs.Texts.{said_in, text_inside}
use Rattle.wef_elements.proofs.GoodTextsInside.{text_inside_good}
use Rattle.wef_elements.proofs.InnerTrees.{inner_good}
use Rattle.wef_eventing.specs.declared.subscriptions.SourceAt.{SourceAt}
use Rattle.wef_xml.specs.Good.{IsGoodElement}
use Rattle.wef_documents.specs.Addresses.{before_last, behind_last, has_port, is_colon, machine_of, source_of, usual_port, with_port}
use Rattle.wef_documents.specs.Laws.{HasXmlAddress, IsPlainSource, differ_behind}
use Rattle.wef_documents.specs.Sources.{address_at, has_source, sources_from, with_address, with_source}
use Rattle.wef_documents.specs.Steps.{and_then, needed}
use Rattle.wef_documents.specs.Values.{child, space}
use Rattle.wef_documents.specs.declared.faults.DocumentFault.{DocumentFault}
use Rattle.wef_documents.specs.declared.faults.DocumentFault.TheVariants.{BadDocument}
use Rattle.wef_documents.specs.declared.faults.Part.TheVariants as the
use Rattle.wef_documents.proofs.FirstFound.{either_is}
use Rattle.wef_documents.proofs.TrimmedTexts.{IsTrim, ported_characters, ported_is, trim_allowed, trim_stays, trimmed_is}

-- ---- an address with a port behind it

colon_there : (cs : List ℕ) → list_any is_colon (cs ++ usual_port) ≡ true
colon_there [] = refl
colon_there (c ∷ cs) = either (is_colon c) (list_any is_colon (cs ++ usual_port)) (colon_there cs)
  where
    either : (b d : Bool) → d ≡ true → (b || d) ≡ true
    either true d e = refl
    either false d e = e

behind_port : (cs : List ℕ) → behind_last (cs ++ usual_port) ≡ codes "5985"
behind_port [] = refl
behind_port (c ∷ cs) =
    ap (λ (b : Bool). cond b (behind_last (cs ++ usual_port)) (cond (is_colon c) (cs ++ usual_port) (c ∷ (cs ++ usual_port)))) (colon_there cs) ∙ behind_port cs

port_there : (cs : List ℕ) → has_port (cs ++ usual_port) ≡ true
port_there cs = and_from _ _ (colon_there cs) (ap (λ ds. is_numeral ds) (behind_port cs))

front_taken : (cs ds : List ℕ) → take (length cs) (cs ++ ds) ≡ cs
front_taken [] ds = refl
front_taken (c ∷ cs) ds = ap (λ xs. c ∷ xs) (front_taken cs ds)

front_length : (cs : List ℕ) → length (cs ++ usual_port) - 4 - 1 ≡ length cs
front_length cs = let whole : length (cs ++ usual_port) ≡ length cs + 5 = length-append cs usual_port in omega arith

before_port : (cs : List ℕ) → before_last (cs ++ usual_port) ≡ cs
before_port cs =
    ap (λ ds. take (length (cs ++ usual_port) - length ds - 1) (cs ++ usual_port)) (behind_port cs)
    ∙ ap (λ n. take n (cs ++ usual_port)) (front_length cs)
    ∙ front_taken cs usual_port

-- ---- a source

-- what is known of a source that is read
pub record IsRead (s : SourceAt) : Type 0 where
  pub plain : IsPlainSource s
  pub allowed : HasXmlAddress s

record Parts (text : List ℕ) (s : SourceAt) : Type 0 where
  name : source_name (machine_of text) ≡ Some s.name
  address : with_port text ≡ s.address

source_parts : (text : List ℕ) (s : SourceAt) → source_of text ≡ Some s → Parts text s
unfolding source_of
source_parts text s is = by (source_name (machine_of text)) refl is
  where
    one : (a b : SourceAt) → Some a ≡ Some b → a ≡ b
    one a b e = cc

    by : (o : Option (List ℕ)) → source_name (machine_of text) ≡ o → option_map (λ (name : List ℕ). record { name = name; address = with_port text }) o ≡ Some s → Parts text s
    by None found e = let bad : ⊥ = cc in absurd bad
    by (Some name) found e =
        let same : ◌≡◌ {A = SourceAt} (record { name = name; address = with_port text }) s = one (record { name = name; address = with_port text }) s e in
        record { name = found ∙ ap (λ (x : SourceAt). Some x.name) same; address = ap (λ (x : SourceAt). x.address) same }

pub source_read : (text : List ℕ) (s : SourceAt) → IsTrim text → source_of text ≡ Some s → IsRead s
source_read text s is read = by (has_port (chars text)) refl
  where
    parts : Parts text s
    parts = source_parts text s read

    -- an address with a port is the text
    as_it_is : has_port (chars text) ≡ true → IsRead s
    as_it_is port =
        let same : text ≡ s.address = sym (ap (λ (b : Bool). cond b text (text ++ usual_port)) port) ∙ parts.address in
        let made : IsRead (record { name = s.name; address = text }) = record { plain = record { address = trim_stays text is; port = port; name = parts.name }; allowed = trim_allowed text is } in
        subst (λ (x : List ℕ). IsRead (record { name = s.name; address = x })) same made

    -- one without gets the usual
    with_usual : has_port (chars text) ≡ false → IsRead s
    with_usual none =
        let whole = text ++ usual_port in
        let longer = ported_is text is in
        let cs = is.characters in
        let same : whole ≡ s.address = sym (ap (λ (b : Bool). cond b text whole) none) ∙ parts.address in
        let read_so : chars whole ≡ cs ++ usual_port = ported_characters text is in
        let port : has_port (chars whole) ≡ true = ap has_port read_so ∙ port_there cs in
        let machine : machine_of whole ≡ text =
        (λ i. cond (port i) (encode_utf8_all (before_last (read_so i))) whole) ∙ ap encode_utf8_all (before_port cs) ∙ sym is.spelt in
        let alone : machine_of text ≡ text = ap (λ (b : Bool). cond b (encode_utf8_all (before_last (chars text))) text) none in
        let name : source_name (machine_of whole) ≡ Some s.name = ap source_name (machine ∙ sym alone) ∙ parts.name in
        let made : IsRead (record { name = s.name; address = whole }) = record { plain = record { address = trim_stays whole longer; port = port; name = name }; allowed = trim_allowed whole longer } in
        subst (λ (x : List ℕ). IsRead (record { name = s.name; address = x })) same made

    by : (b : Bool) → has_port (chars text) ≡ b → IsRead s
    by true e = as_it_is e
    by false e = with_usual e

-- ---- sources

-- what holds of sources that were read so far
pub record AreRead (sources : List SourceAt) : Type 0 where
  pub different : differ_behind [] sources ≡ true
  pub each : AllByRecursion IsRead sources

-- one more that differs from those before it
differ_with : (before done : List SourceAt) (s : SourceAt) → differ_behind before done ≡ true → has_source s.name (before ++ done) ≡ false
    → differ_behind before (done ++ s ∷ []) ≡ true
differ_with before [] s different new = and_from _ _ (ap not (sym (ap (has_source s.name) (append-nil before)) ∙ new)) refl
differ_with before (x ∷ done) s different new =
    let parts = and_parts (not (has_source x.name before)) (differ_behind (before ++ x ∷ []) done) different in
    and_from _ _ parts.0 (differ_with (before ++ x ∷ []) done s parts.1 (ap (has_source s.name) (append_assoc before (x ∷ []) done) ∙ new))

each_with : (done : List SourceAt) (s : SourceAt) → AllByRecursion IsRead done → IsRead s → AllByRecursion IsRead (done ++ s ∷ [])
each_with [] s each is = (is, tt)
each_with (x ∷ done) s each is = (each.0, each_with done s each.1 is)

pub read_with : (done : List SourceAt) (s : SourceAt) → AreRead done → IsRead s → AreRead (with_source done s)
read_with done s are is = by (has_source s.name done) refl
  where
    by : (b : Bool) → has_source s.name done ≡ b → AreRead (cond b done (done ++ s ∷ []))
    by true e = are
    by false e = record { different = differ_with [] done s are.different e; each = each_with done s are.each is }

-- what an element says as the address of a source
address_read : (done : List SourceAt) (o : Option Element) (more : List SourceAt) → AreRead done → IfSome o (λ (e : Element). IsTrim (said_in e))
    → with_address done o ≡ Ok more → AreRead more
address_read done None more are texts is = subst AreRead (one done more is) are
  where
    one : (a b : List SourceAt) → ◌≡◌ {A = Result (List SourceAt) DocumentFault} (Ok a) (Ok b) → a ≡ b
    one a b e = cc
address_read done (Some e) more are texts is = by (source_of (said_in e)) refl is
  where
    one : (a b : List SourceAt) → ◌≡◌ {A = Result (List SourceAt) DocumentFault} (Ok a) (Ok b) → a ≡ b
    one a b e = cc

    by : (o : Option SourceAt) → source_of (said_in e) ≡ o → and_then (needed (BadDocument the.Address) o) (λ s. Ok (with_source done s)) ≡ Ok more → AreRead more
    by None found said = let bad : ⊥ = cc in absurd bad
    by (Some s) found said = subst AreRead (one (with_source done s) more said) (read_with done s are (source_read (said_in e) s texts found))

-- the texts of addresses that good elements hold
child_text : (name : List ℕ) (e : Element) (room : ℕ) → IsGoodElement e room → IfSome (child name e) (λ (inner : Element). IsTrim (said_in inner))
child_text name e zero good = absurd good
child_text name e (suc room) good = among (elements_in e.children) (inner_good e.children room good.2)
  where
    among : (es : List Element) → AreGoodElements es room → IfSome (find (is_called space name) es) (λ (inner : Element). IsTrim (said_in inner))
    among [] good = tt
    among (x ∷ es) good = either_is (λ (inner : Element). IsTrim (said_in inner)) (is_called space name x) x (find (is_called space name) es) (trimmed_is (text_inside x) (text_inside_good x room good.0)) (among es good.1)

address_text : (e : Element) (room : ℕ) → IsGoodElement e room → IfSome (address_at e) (λ (inner : Element). IsTrim (said_in inner))
address_text e room good = by (is_called space (codes "EventSource") e)
  where
    by : (b : Bool) → IfSome (cond b (child (codes "Address") e) None) (λ (inner : Element). IsTrim (said_in inner))
    by true = child_text (codes "Address") e room good
    by false = tt

pub all_read : (done : List SourceAt) (es : List Element) (room : ℕ) (sources : List SourceAt) → AreRead done → AreGoodElements es room
    → sources_from done es ≡ Ok sources → AreRead sources
all_read done [] room sources are good is = subst AreRead (one done sources is) are
  where
    one : (a b : List SourceAt) → ◌≡◌ {A = Result (List SourceAt) DocumentFault} (Ok a) (Ok b) → a ≡ b
    one a b e = cc
all_read done (e ∷ es) room sources are good is =
    by (with_address done (address_at e)) refl (λ more so said. all_read more es room sources so good.1 said) is
  where
    by : (r : Result (List SourceAt) DocumentFault) → with_address done (address_at e) ≡ r → ((more : List SourceAt) → AreRead more → sources_from more es ≡ Ok sources → AreRead sources)
        → and_then r (λ more. sources_from more es) ≡ Ok sources → AreRead sources
    by (Err fault) found further said = let bad : ⊥ = cc in absurd bad
    by (Ok more) found further said = further more (address_read done (address_at e) more are (address_text e room good.0) found) said
