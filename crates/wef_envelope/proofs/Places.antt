-- Headers at places: what is looked up among them is what stands at its place.
use Rattle.std.proofs.Common.{◌≡◌, ℕ, ◌==◌, Bool, true, false, ◌&&◌, ◌||◌, not, is_some, cond, List, [], ◌∷◌, refl, ap, sym, subst, ◌∙◌, arith}
use Rattle.std.specs.Prelude.{Option, Some, None, IfSome}
use Rattle.std.specs.List.{find, list_any}
use Rattle.std.specs.Option.{option_or}
use Rattle.std.proofs.lemmas.Bool.{and_parts}
use Rattle.std.proofs.lemmas.Bool.Decides.{nat_tests}
use Rattle.wef_base.specs.declared.tree.Element.{Element}
use Rattle.wef_base.specs.declared.tree.Node.{Node}
use Rattle.wef_envelope.specs.Envelopes.{comes_again, is_beyond, is_demand, is_kind, may_repeat, only, repeated}
use Rattle.wef_envelope.specs.Headers.{first, header_of, is_header, name_of, number_of, space_of}
use Rattle.wef_envelope.specs.Spaces.{addressing, eventing, machine, management, windows}
use Rattle.wef_envelope.specs.Written.{Place, standing}
use Rattle.wef_envelope.specs.declared.headers.Header.{Header}
use Rattle.wef_envelope.specs.declared.headers.Header.TheVariants as the

-- an element of a header's name is this header
pub named_is : (h : Header) (ns : List Node) → may_repeat h ≡ false → header_of (record { space = space_of h; name = name_of h; attributes = []; children = ns }) ≡ Some h
unfolding header_of space_of name_of addressing eventing machine management windows
named_is the.To ns once = refl
named_is the.Resource ns once = refl
named_is the.ReplyTo ns once = refl
named_is the.Action ns once = refl
named_is the.MessageId ns once = refl
named_is the.Relates ns once = refl
named_is the.Machine ns once = refl
named_is the.MaxSize ns once = refl
named_is the.Identifier ns once = refl
named_is the.Bookmark ns once = refl
named_is the.AckRequested ns once = refl
named_is the.From ns once = refl
named_is the.FaultTo ns once = refl
named_is the.Locale ns once = refl
named_is the.OperationTimeout ns once = refl
named_is the.SelectorSet ns once = refl
named_is the.OptionSet ns once = refl
named_is the.Private ns once = let bad : ⊥ = cc in absurd bad

-- what stands at each place is its header
abbrev pub ArePlaced : List Place → Type 0
ArePlaced [] = Unit {0}
ArePlaced (p ∷ ps) = IfSome p.1 (λ e. header_of e ≡ Some p.0) × ArePlaced ps

-- what stands at the place of a header
abbrev pub at_place : Header → List Place → Option Element
at_place h [] = None
at_place h (p ∷ ps) = option_or (cond (number_of h == number_of p.0) p.1 None) (at_place h ps)

pub first_at : (h : Header) (ps : List Place) → ArePlaced ps → first h (standing ps) ≡ at_place h ps
first_at h [] placed = refl
first_at h ((k, None) ∷ ps) placed = first_at h ps placed.1 ∙ by (number_of h == number_of k)
  where
    by : (b : Bool) → at_place h ps ≡ option_or (cond b None None) (at_place h ps)
    by true = refl
    by false = refl
first_at h ((k, Some e) ∷ ps) placed =
    ap (λ o. cond (is_header h o) (Some e) (first h (standing ps))) placed.0 ∙ by (number_of h == number_of k) (first_at h ps placed.1)
  where
    by : (b : Bool) → first h (standing ps) ≡ at_place h ps → cond b (Some e) (first h (standing ps)) ≡ option_or (cond b (Some e) None) (at_place h ps)
    by true rest = refl
    by false rest = rest

-- a header that has no place isn't there
absent : (h : Header) (ps : List Place) → ArePlaced ps → list_any (λ (p : Place). number_of h == number_of p.0) ps ≡ false → list_any (is_kind h) (standing ps) ≡ false
absent h [] placed none = refl
absent h ((k, None) ∷ ps) placed none = by (number_of h == number_of k) (λ rest. absent h ps placed.1 rest) none
  where
    by : (b : Bool) → (list_any (λ (p : Place). number_of h == number_of p.0) ps ≡ false → list_any (is_kind h) (standing ps) ≡ false)
        → (b || list_any (λ (p : Place). number_of h == number_of p.0) ps) ≡ false → list_any (is_kind h) (standing ps) ≡ false
    by true rest none = let bad : ⊥ = cc in absurd bad
    by false rest none = rest none
absent h ((k, Some e) ∷ ps) placed none =
    ap (λ o. is_header h o || list_any (is_kind h) (standing ps)) placed.0 ∙ by (number_of h == number_of k) (λ rest. absent h ps placed.1 rest) none
  where
    by : (b : Bool) → (list_any (λ (p : Place). number_of h == number_of p.0) ps ≡ false → list_any (is_kind h) (standing ps) ≡ false)
        → (b || list_any (λ (p : Place). number_of h == number_of p.0) ps) ≡ false → (b || list_any (is_kind h) (standing ps)) ≡ false
    by true rest none = none
    by false rest none = rest none

-- no header has two places
abbrev pub differ : List Place → Bool
differ [] = true
differ (p ∷ ps) = not (list_any (λ (q : Place). number_of p.0 == number_of q.0) ps) && differ ps

and_none : (b c : Bool) → c ≡ false → (b && c) ≡ false
and_none true c none = none
and_none false c none = refl

unless : (b : Bool) → not b ≡ true → b ≡ false
unless true e = let bad : ⊥ = cc in absurd bad
unless false e = refl

-- the one header of a kind is what stands at its place
pub only_at : (h : Header) (ps : List Place) → ArePlaced ps → differ ps ≡ true → only h (standing ps) ≡ at_place h ps
only_at h [] placed apart = refl
only_at h ((k, None) ∷ ps) placed apart =
    only_at h ps placed.1 (and_parts (not (list_any (λ (q : Place). number_of k == number_of q.0) ps)) (differ ps) apart).1 ∙ by (number_of h == number_of k)
  where
    by : (b : Bool) → at_place h ps ≡ option_or (cond b None None) (at_place h ps)
    by true = refl
    by false = refl
only_at h ((k, Some e) ∷ ps) placed apart =
    let parts = and_parts (not (list_any (λ (q : Place). number_of k == number_of q.0) ps)) (differ ps) apart in
    let alone : list_any (λ (q : Place). number_of k == number_of q.0) ps ≡ false = unless (list_any (λ (q : Place). number_of k == number_of q.0) ps) parts.0 in
    ap (λ o. cond (is_header h o) (cond (list_any (is_kind h) (standing ps)) None (Some e)) (only h (standing ps))) placed.0
    ∙ by (number_of h == number_of k) refl (only_at h ps placed.1 parts.1)
    (λ same. absent h ps placed.1 (subst (λ (n : ℕ). list_any (λ (q : Place). n == number_of q.0) ps ≡ false) (sym (same_number (number_of h) (number_of k) same)) alone))
  where
    same_number : (n m : ℕ) → (n == m) ≡ true → n ≡ m
    same_number n m h = grind (arith, nat_tests)

    by : (b : Bool) → (number_of h == number_of k) ≡ b → only h (standing ps) ≡ at_place h ps → ((number_of h == number_of k) ≡ true → list_any (is_kind h) (standing ps) ≡ false)
        → cond b (cond (list_any (is_kind h) (standing ps)) None (Some e)) (only h (standing ps)) ≡ option_or (cond b (Some e) None) (at_place h ps)
    by true is rest none = ap (λ (c : Bool). cond c None (Some e)) (none is)
    by false is rest none = rest

pub none_repeated : (ps : List Place) → ArePlaced ps → differ ps ≡ true → repeated (standing ps) ≡ None
none_repeated [] placed apart = refl
none_repeated ((k, None) ∷ ps) placed apart =
    none_repeated ps placed.1 (and_parts (not (list_any (λ (q : Place). number_of k == number_of q.0) ps)) (differ ps) apart).1
none_repeated ((k, Some e) ∷ ps) placed apart =
    let parts = and_parts (not (list_any (λ (q : Place). number_of k == number_of q.0) ps)) (differ ps) apart in
    let none : comes_again (header_of e) (standing ps) ≡ false =
    ap (λ o. comes_again o (standing ps)) placed.0 ∙ and_none (not (may_repeat k)) (list_any (is_kind k) (standing ps)) (absent k ps placed.1 (unless (list_any (λ (q : Place). number_of k == number_of q.0) ps) parts.0)) in
    ap (λ (b : Bool). cond b (Some e) (repeated (standing ps))) none ∙ none_repeated ps placed.1 parts.1

pub understood : (ps : List Place) → ArePlaced ps → find is_beyond (standing ps) ≡ None
understood [] placed = refl
understood ((k, None) ∷ ps) placed = understood ps placed.1
understood ((k, Some e) ∷ ps) placed =
    ap (λ (o : Option Header). cond (not (is_some o) && list_any is_demand e.attributes) (Some e) (find is_beyond (standing ps))) placed.0 ∙ understood ps placed.1
