-- Of two readings of one text one goes on where the other ends; so what is read is the only thing to read.
use Rattle.std.proofs.Common.{◌≡◌, ℕ, ◌-◌, length, false, List, [], ◌∷◌, ap, sym, ◌∙◌, subst}
use Rattle.std.specs.Prelude.{Option, Some, None, Result}
use Rattle.std.specs.declared.result.Result.TheVariants.{Ok, Err}
use Rattle.wef_base.specs.declared.tree.Charset.{Charset}
use Rattle.wef_base.specs.declared.tree.Element.{Element}
use Rattle.wef_tree_reading.specs.Building.{nothing, taken}
use Rattle.wef_xml.specs.Decoding.{decoded, line_ends, place}
use Rattle.wef_tree_reading.specs.Laws.{HasOneRoot, HasNoFault, IsDecoded, HasOneFault, GoesOnToTheFault}
use Rattle.wef_tree_pieces.specs.Pieces.{piece_at}
use Rattle.wef_tree_reading.specs.Spelling.{Leads, Reaches, IsStuck, kind_of}
use Rattle.wef_tree_reading.specs.declared.building.Builder.{Builder}
use Rattle.wef_tree_pieces.specs.declared.pieces.Piece.{Piece}

none_some : {A : Type 0} (x : A) → None ≡ Some x → ⊥
none_some x e = cc

-- no piece stands at the end of a text
pub end_is_stuck : (b : Builder) → IsStuck b []
unfolding piece_at
end_is_stuck b p behind e = absurd (none_some _ e)

-- the same piece, the same rest, the same builder
same_step :
    (b : Builder) (text : List ℕ) (p q : Piece) (behind beyond : List ℕ) (t u : Builder) →
    piece_at text ≡ Some (p, behind) → taken b p ≡ Some t → piece_at text ≡ Some (q, beyond) → taken b q ≡ Some u →
    (p ≡ q) × (behind ≡ beyond) × (t ≡ u)
same_step b text p q behind beyond t u e f g h = same (some_pair _ _ _ _ (sym e ∙ g))
  where
    some_pair : (p q : Piece) (x y : List ℕ) → ◌≡◌ {A = Option (Piece × List ℕ)} (Some (p, x)) (Some (q, y)) → (p ≡ q) × (x ≡ y)
    some_pair p q x y e = (ap (λ (o : Option (Piece × List ℕ)). elim o [ Some r ↦ r.0 | None ↦ p ]) e, ap (λ (o : Option (Piece × List ℕ)). elim o [ Some r ↦ r.1 | None ↦ x ]) e)

    some_builder : (x y : Builder) → Some x ≡ Some y → x ≡ y
    some_builder x y e = ap (λ (o : Option Builder). elim o [ Some z ↦ z | None ↦ x ]) e

    same : (p ≡ q) × (behind ≡ beyond) → (p ≡ q) × (behind ≡ beyond) × (t ≡ u)
    same s = (s.0, s.1, some_builder t u (sym f ∙ ap (taken b) s.0 ∙ h))

-- a reading that ends where no piece goes on is as far as each other one, which leads to it
goes_on :
    (ps qs : List Piece) (b : Builder) (text : List ℕ) (c d : Builder) (rest left : List ℕ) →
    IsStuck c rest → Leads b ps text c rest → Leads b qs text d left → (more : List Piece) × Leads d more left c rest
goes_on ps [] b text c d rest left stuck one other =
    let Q : Builder → Type 0 = λ x. Leads x ps left c rest in
    let R : List ℕ → Type 0 = λ x. Leads b ps x c rest in
    (ps, subst Q other.0 (subst R other.1 one))
goes_on [] (q ∷ qs) b text c d rest left stuck one other =
    absurd (none_some other.0 (sym (stuck_here q other.1 (sym (ap piece_at one.1) ∙ other.2)) ∙ (ap (λ x. taken x q) (sym one.0) ∙ other.3)))
  where
    stuck_here : (p : Piece) (behind : List ℕ) → piece_at rest ≡ Some (p, behind) → taken c p ≡ None
    stuck_here = stuck
goes_on (p ∷ ps) (q ∷ qs) b text c d rest left stuck one other =
    let s = same_step b text p q one.1 other.1 one.0 other.0 one.2 one.3 other.2 other.3 in
    let Q : Builder → Type 0 = λ x. Leads x qs one.1 d left in
    let R : List ℕ → Type 0 = λ x. Leads other.0 qs x d left in
    goes_on ps qs one.0 one.1 c d rest left stuck one.4 (subst Q (sym s.2) (subst R (sym s.1) other.4))

-- two readings that both end where no piece goes on are one
leads_nowhere : (ps : List Piece) (b c : Builder) (text rest : List ℕ) → IsStuck b text → Leads b ps text c rest → (b ≡ c) × (text ≡ rest)
leads_nowhere [] b c text rest stuck leads = leads
leads_nowhere (p ∷ ps) b c text rest stuck leads = absurd (none_some leads.0 (sym (stuck p leads.1 leads.2) ∙ leads.3))

same_stop :
    (text : List ℕ) (c d : Builder) (rest left : List ℕ) → IsStuck c rest → IsStuck d left → Reaches text c rest → Reaches text d left →
    (d ≡ c) × (left ≡ rest)
same_stop text c d rest left here there one other =
    let further = goes_on one.0 other.0 nothing text c d rest left here one.1 other.1 in
    leads_nowhere further.0 d c left rest there further.1

same_characters : (charset : Charset) (bytes cs ds : List ℕ) → decoded charset bytes ≡ Ok cs → decoded charset bytes ≡ Ok ds → cs ≡ ds
same_characters charset bytes cs ds e f = ap (λ (r : Result (List ℕ) ℕ). elim r [ Ok x ↦ x | Err n ↦ cs ]) (sym e ∙ f)

same_root : (x y : Element) → Some x ≡ Some y → x ≡ y
same_root x y e = ap (λ (o : Option Element). elim o [ Some z ↦ z | None ↦ x ]) e

-- what a reading of one list of the bytes' characters says of the other
of_characters :
    (charset : Charset) (bytes cs ds : List ℕ) (b : Builder) (rest : List ℕ) → decoded charset bytes ≡ Ok cs → decoded charset bytes ≡ Ok ds →
    Reaches (line_ends false ds) b rest → Reaches (line_ends false cs) b rest
of_characters charset bytes cs ds b rest e f reaches =
    let Q : List ℕ → Type 0 = λ x. Reaches (line_ends false x) b rest in subst Q (same_characters charset bytes ds cs f e) reaches

pub has_one_root : HasOneRoot
has_one_root charset bytes one other h k =
    let stop : (k.2.0 ≡ h.2.0) × (◌≡◌ {A = List ℕ} [] []) =
    same_stop _ _ _ _ _ (end_is_stuck _) (end_is_stuck _) h.2.1 (of_characters charset bytes _ _ _ _ h.1 k.1 k.2.1) in
    same_root one other (sym h.2.2 ∙ ap (λ (b : Builder). b.root) (sym stop.0) ∙ k.2.2)

pub has_no_fault : HasNoFault
has_no_fault charset bytes root kind at h s =
    let stop : (s.stops.there ≡ h.2.0) × (s.rest ≡ []) =
    same_stop _ _ _ _ _ (end_is_stuck _) s.stops.stuck h.2.1 (of_characters charset bytes _ _ _ _ h.1 s.decodes s.stops.reached) in
    none_some root (sym (s.stops.rootless stop.1) ∙ ap (λ (b : Builder). b.root) stop.0 ∙ h.2.2)

pub is_decoded : IsDecoded
is_decoded charset bytes root at h e = ok_err _ _ (sym h.1 ∙ e)
  where
    ok_err : (cs : List ℕ) (n : ℕ) → ◌≡◌ {A = Result (List ℕ) ℕ} (Ok cs) (Err n) → ⊥
    ok_err cs n e = cc

pub has_one_fault : HasOneFault
has_one_fault charset bytes one other here there h k =
    let same : k.characters ≡ h.characters = same_characters charset bytes _ _ k.decodes h.decodes in
    let stop : (k.stops.there ≡ h.stops.there) × (k.rest ≡ h.rest) =
    same_stop _ _ _ _ _ h.stops.stuck k.stops.stuck h.stops.reached (of_characters charset bytes _ _ _ _ h.decodes k.decodes k.stops.reached) in (
      h.stops.kind_is ∙ (λ i. kind_of (sym stop.0 i) (sym stop.1 i)) ∙ sym k.stops.kind_is,
      h.at_is ∙ (λ i. place charset bytes (sym same i) (length (line_ends false (sym same i)) - length (sym stop.1 i))) ∙ sym k.at_is,
    )

pub goes_on_to_the_fault : GoesOnToTheFault
goes_on_to_the_fault text rest left kind b stops reaches = goes_on _ _ nothing text _ _ rest left stops.stuck stops.reached.1 reaches.1
