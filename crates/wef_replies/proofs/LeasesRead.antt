-- What is read of leases in good trees: an expiry is none above the greatest duration, and an identifier is a text that XML allows.
use Rattle.std.proofs.Common.{◌≡◌, ℕ, zero, suc, ◌≤◌, ◌*◌, ℤ, pos, negsuc, Bool, true, false, cond, nat_le, List, [], ◌∷◌, refl, arith}
use Rattle.std.proofs.lemmas.Bool.Decides.{nat_tests}
use Rattle.std.specs.List.{AllByRecursion, find}
use Rattle.std.specs.Option.{option_and_then, option_map, option_or}
use Rattle.std.specs.Prelude.{Option, Some, None, Result, Ok, Err, IfOk, IfSome, ◌-ℤ◌, codes}
use Rattle.wef_base.specs.Names.{trimmed}
use Rattle.wef_base.specs.declared.names.ValueFault.{ValueFault}
use Rattle.wef_base.specs.declared.names.ValueFault.TheVariants.{TooLarge}
use Rattle.wef_base.specs.declared.tree.Element.{Element}
use Rattle.wef_batch.specs.Reading.{AreGoodTrees}
use Rattle.wef_documents.proofs.QueriesSaid.{AreGood, IsGood, elements_good}
use Rattle.wef_elements.proofs.GoodTextsInside.{said_in_good}
use Rattle.wef_elements.specs.Children.{elements_in, first_called, is_called}
use Rattle.wef_elements.specs.Texts.{said_in, text_inside}
use Rattle.wef_envelope.specs.Spaces.{addressing, eventing}
use Rattle.wef_subscribes.specs.Addresses.{identifier_among, identifier_in}
use Rattle.wef_subscribes.specs.Steps.{and_then, needed}
use Rattle.wef_subscribes.specs.Subscribes.{expires_of}
use Rattle.wef_subscribes.specs.declared.faults.BodyFault.{BodyFault}
use Rattle.wef_subscribes.specs.declared.faults.BodyFault.TheVariants.{BadExpires}
use Rattle.wef_times.specs.Durations.{duration_in, milliseconds_in, within_limit}
use Rattle.wef_times.specs.Expiry.{ahead_by, expiry_in, expiry_of, until}
use Rattle.wef_times.specs.Instants.{instant_in}
use Rattle.wef_times.specs.declared.durations.TheConstants.{LIMIT}
use Rattle.wef_xml.specs.Good.{IsXmlText, greatest_depth}

-- ---- steps

pub goes_on : {A B : Type 0} (P : A → Type 0) (Q : B → Type 0) (r : Result A BodyFault) (more : A → Result B BodyFault) → IfOk r P → ((a : A) → P a → IfOk (more a) Q) → IfOk (and_then r more) Q
goes_on P Q (Ok a) more said step = step a said
goes_on P Q (Err fault) more said step = tt

pub passes : {A B : Type 0} (Q : B → Type 0) (r : Result A BodyFault) (more : A → Result B BodyFault) → ((a : A) → IfOk (more a) Q) → IfOk (and_then r more) Q
passes Q (Ok a) more step = step a
passes Q (Err fault) more step = tt

pub needed_so : {A : Type 0} (P : A → Type 0) (fault : BodyFault) (o : Option A) → IfSome o P → IfOk (needed fault o) P
needed_so P fault (Some a) is = is
needed_so P fault None is = tt

pub first_so : (P : Element → Type 0) (test : Element → Bool) (es : List Element) → AllByRecursion P es → IfSome (find test es) P
first_so P test [] good = tt
first_so P test (e ∷ es) good = by (test e) (first_so P test es good.1)
  where
    by : (b : Bool) → IfSome (find test es) P → IfSome (cond b (Some e) (find test es)) P
    by true rest = good.0
    by false rest = rest

pub child_good : (space name : List ℕ) (e : Element) → IsGood e → IfSome (first_called space name e.children) IsGood
child_good space name e good = first_so IsGood (is_called space name) (elements_in e.children) (elements_good e good)

-- ---- the expiry

abbrev pub CanStand : Option ℕ → Type 0
CanStand expires = IfSome expires (λ n. n ≤ LIMIT)

ahead_so : (z : ℤ) → CanStand (ahead_by z)
ahead_so (pos zero) = tt
ahead_so (pos (suc n)) = omega arith
ahead_so (negsuc n) = tt

until_so : (now : ℕ) (instant : Result ℤ ValueFault) → CanStand (until now instant)
until_so now (Ok z) = ahead_so (z -ℤ pos (now * 1_000_000))
until_so now (Err fault) = tt

limited_so : (ms : ℕ) (b : Bool) (ahead : Option ℕ) → nat_le ms LIMIT ≡ b → CanStand ahead → CanStand (expiry_of (cond b (Ok ms) (Err TooLarge)) ahead)
limited_so zero true ahead is more = tt
limited_so (suc ms) true ahead is more = grind (arith, nat_tests)
limited_so ms false ahead is more = omega arith

duration_so : (o : Option ℕ) (ahead : Option ℕ) → CanStand ahead → CanStand (expiry_of (within_limit o) ahead)
duration_so None ahead more = more
duration_so (Some ms) ahead more = limited_so ms (nat_le ms LIMIT) ahead refl more

expiry_so : (now : ℕ) (text : List ℕ) → CanStand (expiry_in now text)
unfolding expiry_in duration_in
expiry_so now text = duration_so (milliseconds_in (trimmed text)) (until now (instant_in text)) (until_so now (instant_in text))

pub expires_so : (now : ℕ) (o : Option Element) → IfOk (expires_of now o) CanStand
expires_so now None = tt
expires_so now (Some e) = by (expiry_in now (text_inside e)) (expiry_so now (text_inside e))
  where
    by : (o : Option ℕ) → CanStand o → IfOk (and_then (needed BadExpires o) (λ ms. Ok (Some ms))) CanStand
    by None is = tt
    by (Some ms) is = is

-- ---- the identifier

said_so : (o : Option Element) → IfSome o IsGood → IfSome (option_map said_in o) IsXmlText
said_so (Some e) good = said_in_good e good.0 good.1
said_so None good = tt

inner_so : (space name : List ℕ) (o : Option Element) → IfSome o IsGood → IfSome (option_and_then (λ (e : Element). first_called space name e.children) o) IsGood
inner_so space name (Some e) good = child_good space name e good
inner_so space name None good = tt

among_so : (name : List ℕ) (notify : Element) → IsGood notify → IfSome (identifier_among name notify) IsXmlText
among_so name notify good =
    let holder = first_called addressing name notify.children in
    said_so (option_and_then (λ (e : Element). first_called eventing (codes "Identifier") e.children) holder) (inner_so eventing (codes "Identifier") holder (child_good addressing name notify good))

either_so : (one other : Option (List ℕ)) → IfSome one IsXmlText → IfSome other IsXmlText → IfSome (option_or one other) IsXmlText
either_so (Some text) other is more = is
either_so None other is more = more

pub identifier_so : (notify : Element) → IsGood notify → IfSome (identifier_in notify) IsXmlText
identifier_so notify good = either_so (identifier_among (codes "ReferenceProperties") notify) (identifier_among (codes "ReferenceParameters") notify)
    (among_so (codes "ReferenceProperties") notify good) (among_so (codes "ReferenceParameters") notify good)

-- ---- trees

pub trees_good : (es : List Element) → AreGoodTrees es → AreGood es
trees_good [] good = tt
trees_good (e ∷ es) good = ((greatest_depth, good.0), trees_good es good.1)
