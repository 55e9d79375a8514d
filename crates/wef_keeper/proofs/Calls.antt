-- What each way in which a call may end means for the whole call: it opens its store, reads, and makes at most one commit.
use Rattle.std.proofs.Common.{◌≡◌, ℕ, ◌≤◌, Bool, true, false, cond, refl, sym, ap, ◌∙◌, subst, arith, inl, inr}
use Rattle.std.specs.List.{AllByRecursion}
use Rattle.std.specs.Prelude.{Option, Some, None, Result, Ok, Err, IfSome, OnSome, List, [], ◌∷◌, length, is_some, ◌⊎◌}
use Rattle.wef_base.specs.Counts.{Rose}
use Rattle.wef_keeper.specs.Access.{AnyFound, AnyOf, AnyRows, Finds, From, HasRead, IsReady, IsRefused, Leaves, LeavesPlanned, OpensAndReads, Reads, fails as store_fails, is_idle, is_planned, plan_with, tries_with}
use Rattle.wef_keeper.specs.Calls.{AllLeft, AnswersFault, ByPlan, Did, DidWith, DoesWith, Effect, FaultByPlan, FaultByTries, FaultReadied, IsCall, Looks, Makes, MayLeave, OfStore, OnFaultImages, Readied, TellsFault, UnlessOfStore, UnlessStores, WhereMade, fails, is_failure}
use Rattle.wef_keeper.specs.Keeping.{Follows, IsBeforeOrAfter, IsLawful, IsOneOf, Stays, Store, WhereTold, outcome, raised}
use Rattle.wef_keeper.specs.Rows.{Rows, applied}
use Rattle.wef_keeper.specs.declared.access.StoreFault.{StoreFault}
use Rattle.wef_keeper.specs.declared.access.StoreFault.TheVariants.{NoMemory, Failed}
use Rattle.wef_keeper.specs.declared.keeping.Plan.{Plan}
use Rattle.wef_keeper.specs.declared.keeping.Plan.TheVariants.{Done}
use Rattle.wef_keeper.specs.declared.keys.Change.{Change}
use Rattle.wef_keeper.proofs.ReadsOf.{only_opens, opens_reads}
use Rattle.wef_keeper.proofs.StayFormed.{all_weaker, done_formed, left_formed, narrowed_formed}
use Rattle.wef_keeper.proofs.Told.{follows_both, follows_self, follows_told, follows_with, told_any, told_both, told_map, told_still, told_swap}

-- ---- what an opening found

-- a fact of one of the images is a fact of any of them
pub any_of : (Holds : Rows → Type 0) (images : List Rows) (rows : Rows) → IsOneOf images rows → Holds rows → AnyOf images Holds
any_of Holds [] rows one holds = absurd one
any_of Holds (image ∷ []) rows one holds = subst Holds one holds
any_of Holds (image ∷ next ∷ images) rows one holds = elim one [ inl is ↦ inl (subst Holds is holds) | inr later ↦ inr (any_of Holds (next ∷ images) rows later holds) ]

-- a fact of all rows
any_at_all : (Holds : Rows → Type 0) → ((rows : Rows) → Holds rows) → (images : List Rows) → 1 ≤ length images → AnyOf images Holds
any_at_all Holds all [] some = absurd (omega arith)
any_at_all Holds all (image ∷ []) some = all image
any_at_all Holds all (image ∷ next ∷ images) some = inl (all image)

any_weaker : (P Q : Rows → Type 0) (images : List Rows) → ((rows : Rows) → P rows → Q rows) → AnyOf images P → AnyOf images Q
any_weaker P Q [] gives any = any
any_weaker P Q (image ∷ []) gives any = gives image any
any_weaker P Q (image ∷ next ∷ images) gives any = elim any [ inl holds ↦ inl (gives image holds) | inr later ↦ inr (any_weaker P Q (next ∷ images) gives later) ]

-- a fact of the rows that an opening found
any_found : (Holds : Rows → Type 0) (images : Option (List Rows)) (rows : Rows) → IfSome images (λ old. IsOneOf old rows) → Holds rows → AnyFound images Holds
any_found Holds None rows one holds = (rows, holds)
any_found Holds (Some old) rows one holds = any_of Holds old rows one holds

pub found_weaker : (P Q : Rows → Type 0) (images : Option (List Rows)) → ((rows : Rows) → P rows → Q rows) → AnyFound images P → AnyFound images Q
found_weaker P Q None gives found = (found.0, gives found.0 found.1)
found_weaker P Q (Some old) gives found = any_weaker P Q old gives found

-- a fact of what a call found and left gives another
pub from_weaker : (P Q : Rows → Rows → Type 0) (before now : Store) → ((found after : Rows) → P found after → Q found after) → From before now P → From before now Q
from_weaker P Q before now gives from =
    told_map now.rows (λ after. AnyFound before.images (λ found. P found after)) (λ after. AnyFound before.images (λ found. Q found after))
    (λ after. found_weaker (λ found. P found after) (λ found. Q found after) before.images (λ found. gives found after)) from

found_in : (images : Option (List Rows)) (mid now : Option Rows) (Holds : Rows → Rows → Type 0) → IfSome images (λ old. IfSome mid (IsOneOf old)) → Follows mid now Holds
    → IfSome now (λ after. AnyFound images (λ found. Holds found after))
found_in images mid None Holds finds follows = tt
found_in images None (Some after) Holds finds follows = absurd follows
found_in images (Some found) (Some after) Holds finds follows = any_found (λ found. Holds found after) images found finds follows

-- what follows of the rows that an opening found is what the call did
pub from_found : (before mid now : Store) (Holds : Rows → Rows → Type 0) → Finds before mid → Follows mid.rows now.rows Holds → From before now Holds
from_found before mid now Holds finds follows = found_in before.images mid.rows now.rows Holds finds follows

from_any : (images : Option (List Rows)) (now : Option Rows) (Told : Type 0) (Holds : Rows → Rows → Type 0) → IfSome images (λ left. (1 ≤ length left) × (length left ≤ 2)) → IfSome now (λ rows. Told)
    → ((found after : Rows) → Told → Holds found after) → IfSome now (λ after. AnyFound images (λ found. Holds found after))
from_any images None Told Holds few told all = tt
from_any None (Some after) Told Holds few told all = (after, all after after told)
from_any (Some old) (Some after) Told Holds few told all = any_at_all (λ found. Holds found after) (λ found. all found after told) old few.0

finds_in : (images : Option (List Rows)) (mid now : Option Rows) → IfSome images (λ old. IfSome mid (IsOneOf old)) → Stays mid now → IfSome images (λ old. IfSome now (IsOneOf old))
finds_in images mid now finds stays = told_map images (λ old. IfSome mid (IsOneOf old)) (λ old. IfSome now (IsOneOf old)) (λ old finds. told_still mid now (IsOneOf old) stays finds) finds

-- reads find what the opening found
pub finds_still : (before mid now : Store) → Finds before mid → HasRead mid now → Finds before now
finds_still before mid now finds read = finds_in before.images mid.rows now.rows finds read.1

-- ---- images

-- after reads alone each image is one that was there
narrow_images : {F : Type 0} (effect : Rows → Effect F) (old all : List Rows) → AllByRecursion (IsOneOf old) all → AllByRecursion (λ image. AnyOf old (MayLeave effect image)) all
narrow_images effect old all narrows =
    all_weaker (IsOneOf old) (λ image. AnyOf old (MayLeave effect image)) (λ image one. any_of (MayLeave effect image) old image one (inl refl)) all narrows

-- an opening that failed tells only what was told
unfound_images : {F : Type 0} (effect : Rows → Effect F) (images left : Option (List Rows)) → IfSome images (λ old. IfSome left (AllByRecursion (IsOneOf old))) → (is_some images ≡ false → is_some left ≡ false)
    → IfSome left (AllLeft images effect)
unfound_images effect images None narrows untold = tt
unfound_images effect None (Some all) narrows untold = let no : true ≡ false = untold refl in cc
unfound_images effect (Some old) (Some all) narrows untold = narrow_images effect old all narrows

-- after a read that failed the only image is that of the rows that were read
read_images : {F : Type 0} (effect : Rows → Effect F) (images left : Option (List Rows)) (rows : Option Rows) → IfSome images (λ old. IfSome left (AllByRecursion (IsOneOf old)))
    → IfSome left (λ all. WhereTold rows (λ stand. all ≡ stand ∷ [])) → IfSome left (AllLeft images effect)
read_images effect images None rows narrows only = tt
read_images effect None (Some all) None narrows only = absurd only
read_images effect None (Some all) (Some stand) narrows only = (stand, subst (AllByRecursion (λ image. MayLeave effect image stand)) (sym only) (inl refl, tt))
read_images effect (Some old) (Some all) rows narrows only = narrow_images effect old all narrows

-- after a failed commit it may be one with the changes
left_images : {F : Type 0} (effect : Rows → Effect F) (changes : List Change) (images : Option (List Rows)) (mid : Option Rows) (left : Option (List Rows)) → IfSome images (λ old. IfSome mid (IsOneOf old))
    → Follows mid left (λ found all. AllByRecursion (IsBeforeOrAfter changes found) all) → IfSome mid (λ rows. effect rows ≡ Ok changes) → IfSome left (AllLeft images effect)
left_images effect changes images mid None finds follows made = tt
left_images effect changes images None (Some all) finds follows made = absurd follows
left_images {F = F} effect changes images (Some found) (Some all) finds follows made = by images finds
  where
    may_leave : (image : Rows) → (image ≡ found) ⊎ (image ≡ applied changes found) → MayLeave effect image found
    may_leave image either = elim either [ inl is ↦ inl is | inr is ↦ inr (subst (λ (e : Effect F). Makes e found image) (sym made) is) ]

    by : (images : Option (List Rows)) → IfSome images (λ old. IsOneOf old found) → AllLeft images effect all
    by None one = (found, all_weaker (IsBeforeOrAfter changes found) (λ image. MayLeave effect image found) may_leave all follows)
    by (Some old) one = all_weaker (IsBeforeOrAfter changes found) (λ image. AnyOf old (MayLeave effect image)) (λ image either. any_of (MayLeave effect image) old found one (may_leave image either)) all follows

-- ---- a call that is refused as it reads

refused_answer : {F : Type 0} (kind : Option StoreFault) (fault : F) (effect : Effect F) (found : Rows) → TellsFault kind fault effect → AnswersFault kind fault effect found found
refused_answer (Some NoMemory) fault effect found tells = refl
refused_answer (Some Failed) fault effect found tells = tt
refused_answer None fault effect found tells = (tells, refl)

refused_images : {F : Type 0} (kind : Option StoreFault) (effect : Rows → Effect F) (before now : Store) → IfSome before.images (λ old. IfSome now.images (AllByRecursion (IsOneOf old)))
    → IfSome now.images (λ all. WhereTold now.rows (λ stand. all ≡ stand ∷ [])) → OnFaultImages kind effect before now
refused_images (Some NoMemory) effect before now narrows only = tt
refused_images (Some Failed) effect before now narrows only = read_images effect before.images now.images now.rows narrows only
refused_images None effect before now narrows only = tt

-- no read fails by plan over rows of their form
refused_plan : {F : Type 0} (kind : Option StoreFault) (AreFormed : Rows → Type 0) (plan : Option Plan) (effect : Effect F) (found : Rows) (now : Store) → now.plan ≡ plan → IfSome plan (λ planned. AreFormed found → is_failure kind ≡ false)
    → IfSome plan (λ planned. FaultByPlan kind AreFormed planned effect found found now)
refused_plan kind AreFormed None effect found now same sure = tt
refused_plan (Some NoMemory) AreFormed (Some planned) effect found now same sure = same
refused_plan (Some Failed) AreFormed (Some planned) effect found now same sure = λ formed. let no : true ≡ false = sure formed in cc
refused_plan None AreFormed (Some planned) effect found now same sure = same

refused_tries : (kind : Option StoreFault) (before now : ℕ) → now ≡ before → FaultByTries kind before now
refused_tries (Some NoMemory) before now same = same
refused_tries (Some Failed) before now same = inl same
refused_tries None before now same = same

refused_ready : (kind : Option StoreFault) (now : Store) → IsReady now → FaultReadied kind now
refused_ready (Some NoMemory) now ready = ready.1
refused_ready (Some Failed) now ready = tt
refused_ready None now ready = ready

-- what it did: nothing, with the rows that are there now
refused_did : {T F : Type 0} (of_store : OfStore F) (AreFormed : Rows → Type 0) (effect : Rows → Effect F) (value : Rows → T) (fault : F) (before now : Store)
    → OpensAndReads AreFormed (is_failure (of_store fault)) before now → IfSome now.rows (λ rows. TellsFault (of_store fault) fault (effect rows))
    → Follows now.rows now.rows (λ found after. Did of_store AreFormed effect value (Err fault) before now found after)
refused_did of_store AreFormed effect value fault before now opens tells =
    let opened = opens.0 in
    let kind = of_store fault in
    let sure = told_swap before.plan now.rows (λ planned rows. AreFormed rows → is_failure kind ≡ false) opens.2 in
    let did = λ (found after : Rows). Did of_store AreFormed effect value (Err fault) before now found after in
    follows_self now.rows did
    (told_both now.rows (λ rows. TellsFault kind fault (effect rows)) (λ rows. IfSome before.plan (λ planned. AreFormed rows → is_failure kind ≡ false)) (λ rows. did rows rows) tells sure
    (λ rows tells sure. record {
      answer = refused_answer kind fault (effect rows) rows tells;
      planned = refused_plan kind AreFormed before.plan (effect rows) rows now opened.2 sure;
      tries = refused_tries kind before.tries now.tries opened.1;
      formed = λ _ formed. formed;
    }))

-- no commit began, and the rows are those that the opening found
refused_call : {T F : Type 0} (of_store : OfStore F) (AreFormed : Rows → Type 0) (effect : Rows → Effect F) (value : Rows → T) (fault : F) (before now : Store) → Finds before now
    → OpensAndReads AreFormed (is_failure (of_store fault)) before now → FaultReadied (of_store fault) now → OnFaultImages (of_store fault) effect before now
    → IfSome now.rows (λ rows. TellsFault (of_store fault) fault (effect rows)) → IsCall of_store AreFormed effect value (Err fault) before now
refused_call of_store AreFormed effect value fault before now finds opens ready images tells =
    let opened = opens.0 in
    record {
      did = from_found before now now (λ found after. Did of_store AreFormed effect value (Err fault) before now found after) finds (refused_did of_store AreFormed effect value fault before now opens tells);
      images = images;
      once = refused_tries (of_store fault) before.tries now.tries opened.1;
      cause = opens.1;
      faults = opened.3;
      ready = ready;
      formed = narrowed_formed AreFormed before.images now.images opened.0;
      untold = opened.7;
      opened = opened.5;
    }

-- a call that wants memory
unmade_call : {T F : Type 0} (of_store : OfStore F) (AreFormed : Rows → Type 0) (effect : Rows → Effect F) (value : Rows → T) (fault : F) (before now : Store) → of_store fault ≡ Some NoMemory → Finds before now
    → OpensAndReads AreFormed false before now → now.doubt ≡ false → IsCall of_store AreFormed effect value (Err fault) before now
unmade_call of_store AreFormed effect value fault before now is finds opens calm =
    refused_call of_store AreFormed effect value fault before now finds (subst (λ (kind : Option StoreFault). OpensAndReads AreFormed (is_failure kind) before now) (sym is) opens)
    (subst (λ (kind : Option StoreFault). FaultReadied kind now) (sym is) calm) (subst (λ (kind : Option StoreFault). OnFaultImages kind effect before now) (sym is) tt)
    (told_any now.rows (λ rows. TellsFault (of_store fault) fault (effect rows)) (λ rows. subst (λ (kind : Option StoreFault). TellsFault kind fault (effect rows)) (sym is) tt))

-- ---- an opening that isn't done

unfailed : (kind : Option StoreFault) → kind ≡ Some Failed → is_failure kind ≡ false → ⊥
unfailed kind is calm = let bad : true ≡ false = sym (ap is_failure is) ∙ calm in cc

-- rows that weren't told aren't told then
stays_unfound : (opened : Bool) (images now : Option (List Rows)) (rows : Option Rows) (opened' : Bool) → opened' ≡ opened → is_some now ≡ is_some rows → OnSome rows (opened' ≡ true)
    → (opened ≡ true → is_some images ≡ false → is_some rows ≡ false) → is_some images ≡ false → is_some now ≡ false
stays_unfound true images now rows opened' same both tells stays untold = both ∙ stays refl untold
stays_unfound false images now None opened' same both tells stays untold = both
stays_unfound false images now (Some told) opened' same both tells stays untold = let no : false ≡ true = sym same ∙ tells in cc

-- the store failed
unfound_call : {T F : Type 0} (of_store : OfStore F) (AreFormed : Rows → Type 0) (effect : Rows → Effect F) (value : Rows → T) (fault : F) (before now : Store) → of_store fault ≡ Some Failed → IsLawful before → IsLawful now
    → OpensAndReads AnyRows true before now → now.opened ≡ before.opened → IsCall of_store AreFormed effect value (Err fault) before now
unfound_call {T = T} of_store AreFormed effect value fault before now is lawful lawful' opens same =
    let opened = opens.0 in
    let few = lawful.few in
    let untold = stays_unfound before.opened before.images now.images now.rows now.opened same lawful'.both lawful'.tells opened.7 in
    let formed = only_opens AreFormed true before now opens in
    let never = told_map now.rows (λ rows. IfSome before.plan (λ planned. AnyRows rows → true ≡ false)) (λ rows. IfSome before.plan (λ planned. ⊥))
    (λ rows. told_map before.plan (λ planned. AnyRows rows → true ≡ false) (λ planned. ⊥) (λ planned no. let bad : true ≡ false = no tt in cc))
    (told_swap before.plan now.rows (λ planned rows. AnyRows rows → true ≡ false) opens.2) in
    record {
      did = from_any before.images now.rows (IfSome before.plan (λ planned. ⊥)) (λ found after. Did of_store AreFormed effect value (Err fault) before now found after) few never
          (λ found after never. record {
            answer = subst (λ (kind : Option StoreFault). AnswersFault kind fault (effect found) found after) (sym is) tt;
            planned = told_map before.plan (λ planned. ⊥) (λ planned. FaultByPlan (of_store fault) AreFormed planned (effect found) found after now) (λ planned no. absurd no) never;
            tries = subst (λ (kind : Option StoreFault). FaultByTries kind before.tries now.tries) (sym is) (inl opened.1);
            formed = λ no. absurd (unfailed (of_store fault) is no);
          });
      images = subst (λ (kind : Option StoreFault). OnFaultImages kind effect before now) (sym is) (unfound_images effect before.images now.images opened.0 untold);
      once = subst (λ (kind : Option StoreFault). FaultByTries kind before.tries now.tries) (sym is) (inl opened.1);
      cause = subst (λ (kind : Option StoreFault). is_failure kind ≡ true → IfSome now.rows (λ rows. AreFormed rows → Rose before.faults now.faults)) (sym is) formed.1;
      faults = opened.3;
      ready = subst (λ (kind : Option StoreFault). FaultReadied kind now) (sym is) tt;
      formed = narrowed_formed AreFormed before.images now.images opened.0;
      untold = opened.7;
      opened = opened.5;
    }

-- ---- a call that commits

once_idle : (idle : Bool) (before : ℕ) → ((cond idle before (raised before)) ≡ before) ⊎ ((cond idle before (raised before)) ≡ raised before)
once_idle true before = inl refl
once_idle false before = inr refl

-- what isn't told isn't told after what follows from it
untold_after : {X Y : Type 0} (mid : Option X) (now : Option Y) (Holds : X → Y → Type 0) → Follows mid now Holds → is_some mid ≡ false → is_some now ≡ false
untold_after mid None Holds follows untold = refl
untold_after None (Some y) Holds follows untold = absurd follows
untold_after (Some x) (Some y) Holds follows untold = cc

-- what it did with the rows that were read, once its changes are committed
done_did : {T F : Type 0} (of_store : OfStore F) (AreFormed : Rows → Type 0) (effect : Rows → Effect F) (value : Rows → T) (changes : List Change) (answer : T) (before mid now : Store) → ((rows : Rows) → AreFormed rows → AreFormed (applied changes rows))
    → OpensAndReads AreFormed false before mid → IfSome mid.rows (λ rows. effect rows ≡ Ok changes) → IfSome mid.rows (λ rows. answer ≡ value rows)
    → Leaves changes (Ok tt) mid now → IfSome mid.plan (λ planned. LeavesPlanned changes planned (Ok tt) mid now)
    → Follows mid.rows now.rows (λ found after. Did of_store AreFormed effect value (Ok answer) before now found after)
done_did {T = T} {F = F} of_store AreFormed effect value changes answer before mid now keeps opens made answers leaves planned =
    let opened = opens.0 in
    let count : now.tries ≡ tries_with changes before.tries = leaves.2 ∙ ap (tries_with changes) opened.1 in
    let goes : IfSome before.plan (λ planned. LeavesPlanned changes planned (Ok tt) mid now) = subst (λ (o : Option Plan). IfSome o (λ planned. LeavesPlanned changes planned (Ok tt) mid now)) opened.2 planned in
    let told = told_both mid.rows (λ rows. effect rows ≡ Ok changes) (λ rows. answer ≡ value rows) (λ rows. (effect rows ≡ Ok changes) × (answer ≡ value rows)) made answers (λ rows made is. (made, is)) in
    follows_with mid.rows now.rows (λ found after. after ≡ applied changes found) (λ found after. Did of_store AreFormed effect value (Ok answer) before now found after)
    (λ rows. (effect rows ≡ Ok changes) × (answer ≡ value rows)) leaves.1 told
    (λ found after is told. record {
      answer = (subst (λ (e : Effect F). Makes e found after) (sym told.0) is, told.1);
      planned = told_map before.plan (λ planned. LeavesPlanned changes planned (Ok tt) mid now) (λ planned. ByPlan of_store AreFormed planned (Ok answer) (effect found) found after now)
          (λ planned goes. subst (λ (e : Effect F). WhereMade e (λ made. (is_planned made planned ≡ true) × (now.plan ≡ Some (plan_with made planned)))) (sym told.0) (goes.0, goes.1)) goes;
      tries = subst (λ (e : Effect F). WhereMade e (λ made. now.tries ≡ tries_with made before.tries)) (sym told.0) count;
      formed = λ _ formed. subst AreFormed (sym is) (keeps found formed);
    })

done_call : {T F : Type 0} (of_store : OfStore F) (AreFormed : Rows → Type 0) (effect : Rows → Effect F) (value : Rows → T) (changes : List Change) (answer : T) (before mid now : Store) → ((rows : Rows) → AreFormed rows → AreFormed (applied changes rows))
    → IsLawful now → Finds before mid
    → OpensAndReads AreFormed false before mid → IfSome mid.rows (λ rows. effect rows ≡ Ok changes) → IfSome mid.rows (λ rows. answer ≡ value rows)
    → Leaves changes (Ok tt) mid now → IfSome mid.plan (λ planned. LeavesPlanned changes planned (Ok tt) mid now) → mid.faults ≤ now.faults → IsCall of_store AreFormed effect value (Ok answer) before now
done_call of_store AreFormed effect value changes answer before mid now keeps lawful finds opens made answers leaves planned higher =
    let opened = opens.0 in
    let only = lawful.only leaves.0.1 in
    let low : before.faults ≤ mid.faults = opened.3 in
    let count : now.tries ≡ tries_with changes before.tries = leaves.2 ∙ ap (tries_with changes) opened.1 in
    record {
      did = from_found before mid now (λ found after. Did of_store AreFormed effect value (Ok answer) before now found after) finds
          (done_did of_store AreFormed effect value changes answer before mid now keeps opens made answers leaves planned);
      images = tt;
      once = subst (λ (n : ℕ). (n ≡ before.tries) ⊎ (n ≡ raised before.tries)) (sym count) (once_idle (is_idle changes) before.tries);
      cause = λ no. cc;
      faults = omega arith;
      ready = leaves.0;
      formed = done_formed AreFormed changes keeps before.images mid.rows now.rows now.images finds leaves.1 only;
      untold = λ was untold. untold_after mid.rows now.rows (λ found after. after ≡ applied changes found) leaves.1 (opened.7 was untold);
      opened = λ _. leaves.0.0;
    }

-- rows are told where images are, and those follow from what was told before
follows_images : (mid : Option Rows) (left : Option (List Rows)) (now : Option Rows) (Holds : Rows → List Rows → Type 0) → is_some left ≡ is_some now → Follows mid left Holds → Follows mid now (λ found after. Unit {0})
follows_images mid left None Holds both follows = tt
follows_images mid None (Some after) Holds both follows = let no : false ≡ true = both in cc
follows_images None (Some left) (Some after) Holds both follows = absurd follows
follows_images (Some found) (Some left) (Some after) Holds both follows = tt

failed_call : {T F : Type 0} (of_store : OfStore F) (AreFormed : Rows → Type 0) (effect : Rows → Effect F) (value : Rows → T) (fault : F) (changes : List Change) (before mid now : Store) → ((rows : Rows) → AreFormed rows → AreFormed (applied changes rows))
    → of_store fault ≡ Some Failed → IsLawful now → Finds before mid → OpensAndReads AreFormed false before mid → IfSome mid.rows (λ rows. effect rows ≡ Ok changes)
    → Leaves changes (Err Failed) mid now → IfSome mid.plan (λ planned. LeavesPlanned changes planned (Err Failed) mid now) → mid.faults ≤ now.faults
    → IsCall of_store AreFormed effect value (Err fault) before now
failed_call {T = T} {F = F} of_store AreFormed effect value fault changes before mid now keeps is lawful finds opens made leaves planned higher =
    let opened = opens.0 in
    let both = lawful.both in
    let low : before.faults ≤ mid.faults = opened.3 in
    let higher_than : Rose mid.faults now.faults = leaves.3 in
    let rose : Rose before.faults now.faults = omega arith in
    let count : now.tries ≡ raised before.tries = leaves.2 ∙ ap raised opened.1 in
    let went : Plan → Rows → Rows → Type 0 = λ planned found after. (is_planned changes planned ≡ false) × (now.plan ≡ Some Done) × (after ≡ outcome planned changes found) in
    let goes : IfSome before.plan (λ planned. LeavesPlanned changes planned (Err Failed) mid now) = subst (λ (o : Option Plan). IfSome o (λ planned. LeavesPlanned changes planned (Err Failed) mid now)) opened.2 planned in
    let each = told_map before.plan (λ planned. LeavesPlanned changes planned (Err Failed) mid now) (λ planned. Follows mid.rows now.rows (went planned))
    (λ planned goes. follows_both mid.rows now.rows (λ found after. after ≡ outcome planned changes found) (λ found after. after ≡ outcome planned changes found) (went planned) goes.2 goes.2 (λ found after left _. (goes.0, goes.1, left))) goes in
    let follows = follows_told before.plan mid.rows now.rows went (follows_images mid.rows now.images now.rows (λ found all. AllByRecursion (IsBeforeOrAfter changes found) all) both leaves.1) each in
    let did = λ (found after : Rows). Did of_store AreFormed effect value (Err fault) before now found after in
    record {
      did = from_found before mid now did finds
          (follows_with mid.rows now.rows (λ found after. IfSome before.plan (λ planned. went planned found after)) did (λ rows. effect rows ≡ Ok changes) follows made
          (λ found after went_so made. record {
            answer = subst (λ (kind : Option StoreFault). AnswersFault kind fault (effect found) found after) (sym is) tt;
            planned = told_map before.plan (λ planned. went planned found after) (λ planned. FaultByPlan (of_store fault) AreFormed planned (effect found) found after now)
                (λ planned went_so. subst (λ (kind : Option StoreFault). FaultByPlan kind AreFormed planned (effect found) found after now) (sym is)
                (λ formed. subst (λ (e : Effect F). WhereMade e (λ made. (is_planned made planned ≡ false) × (now.plan ≡ Some Done) × (after ≡ outcome planned made found))) (sym made) went_so)) went_so;
            tries = subst (λ (kind : Option StoreFault). FaultByTries kind before.tries now.tries) (sym is) (inr count);
            formed = λ no. absurd (unfailed (of_store fault) is no);
          }));
      images = subst (λ (kind : Option StoreFault). OnFaultImages kind effect before now) (sym is) (left_images effect changes before.images mid.rows now.images finds leaves.1 made);
      once = subst (λ (kind : Option StoreFault). FaultByTries kind before.tries now.tries) (sym is) (inr count);
      cause = λ _. told_any now.rows (λ rows. AreFormed rows → Rose before.faults now.faults) (λ rows formed. rose);
      faults = omega arith;
      ready = subst (λ (kind : Option StoreFault). FaultReadied kind now) (sym is) tt;
      formed = left_formed AreFormed changes keeps before.images mid.rows now.images finds leaves.1;
      untold = λ was untold. sym both ∙ untold_after mid.rows now.images (λ found all. AllByRecursion (IsBeforeOrAfter changes found) all) leaves.1 (opened.7 was untold);
      opened = λ _. leaves.0;
    }

-- ---- the whole call, by where it ends

-- it isn't opened
pub not_opened : {T F : Type 0} (of_store : OfStore F) (AreFormed : Rows → Type 0) (effect : Rows → Effect F) (value : Rows → T) (kind : StoreFault) (fault : F) (before now : Store) → of_store fault ≡ Some kind
    → IsLawful before → IsLawful now → (store_fails {T = Unit {0}} (Err kind) ≡ false → Finds before now) → OpensAndReads AnyRows (store_fails {T = Unit {0}} (Err kind)) before now → IsRefused {T = Unit {0}} (Err kind) before now
    → IsCall of_store AreFormed effect value (Err fault) before now
not_opened of_store AreFormed effect value NoMemory fault before now is lawful lawful' finds opens calm =
    unmade_call of_store AreFormed effect value fault before now is (finds refl) (only_opens AreFormed false before now opens) (opens.0.6 calm)
not_opened of_store AreFormed effect value Failed fault before now is lawful lawful' finds opens same = unfound_call of_store AreFormed effect value fault before now is lawful lawful' opens same

-- it is refused as it reads
pub refused : {T F : Type 0} (of_store : OfStore F) (AreFormed : Rows → Type 0) (effect : Rows → Effect F) (value : Rows → T) (fault : F) (before opened now : Store) → IsLawful now → Finds before opened
    → OpensAndReads AnyRows false before opened → Reads AreFormed (is_failure (of_store fault)) opened now → IfSome now.rows (λ rows. TellsFault (of_store fault) fault (effect rows))
    → IsCall of_store AreFormed effect value (Err fault) before now
refused of_store AreFormed effect value fault before opened now lawful finds opens reads tells =
    let whole = opens_reads AreFormed (is_failure (of_store fault)) before opened now opens.0 reads in
    refused_call of_store AreFormed effect value fault before now (finds_still before opened now finds reads.0) whole (refused_ready (of_store fault) now reads.0.0)
    (refused_images (of_store fault) effect before now whole.0.0 (lawful.only reads.0.0.1)) tells

-- its changes aren't committed
pub not_committed : {T F : Type 0} (of_store : OfStore F) (AreFormed : Rows → Type 0) (effect : Rows → Effect F) (value : Rows → T) (kind : StoreFault) (fault : F) (changes : List Change) (before opened mid now : Store)
    → ((rows : Rows) → AreFormed rows → AreFormed (applied changes rows)) → of_store fault ≡ Some kind → IsLawful now → Finds before opened → OpensAndReads AnyRows false before opened → Reads AreFormed false opened mid → IfSome mid.rows (λ rows. effect rows ≡ Ok changes)
    → Leaves changes (Err kind) mid now → IfSome mid.plan (λ planned. LeavesPlanned changes planned (Err kind) mid now) → mid.faults ≤ now.faults → IsCall of_store AreFormed effect value (Err fault) before now
not_committed of_store AreFormed effect value NoMemory fault changes before opened mid now keeps is lawful finds opens reads made leaves planned higher =
    let found = finds_still before opened mid finds reads.0 in
    let mid_opens = opens_reads AreFormed false before opened mid opens.0 reads in
    let read : Reads AreFormed false mid now = (
      leaves,
      (λ no. cc),
      told_any mid.plan (λ planned. IfSome now.rows (λ rows. AreFormed rows → false ≡ false)) (λ planned. told_any now.rows (λ rows. AreFormed rows → false ≡ false) (λ rows formed. refl)),
    ) in
    unmade_call of_store AreFormed effect value fault before now is (finds_still before mid now found leaves) (opens_reads AreFormed false before mid now mid_opens.0 read) leaves.0.1
not_committed of_store AreFormed effect value Failed fault changes before opened mid now keeps is lawful finds opens reads made leaves planned higher =
    failed_call of_store AreFormed effect value fault changes before mid now keeps is lawful (finds_still before opened mid finds reads.0) (opens_reads AreFormed false before opened mid opens.0 reads) made leaves planned higher

-- they are
pub committed : {T F : Type 0} (of_store : OfStore F) (AreFormed : Rows → Type 0) (effect : Rows → Effect F) (value : Rows → T) (changes : List Change) (answer : T) (before opened mid now : Store)
    → ((rows : Rows) → AreFormed rows → AreFormed (applied changes rows)) → IsLawful now → Finds before opened → OpensAndReads AnyRows false before opened → Reads AreFormed false opened mid → IfSome mid.rows (λ rows. effect rows ≡ Ok changes) → IfSome mid.rows (λ rows. answer ≡ value rows)
    → Leaves changes (Ok tt) mid now → IfSome mid.plan (λ planned. LeavesPlanned changes planned (Ok tt) mid now) → mid.faults ≤ now.faults → IsCall of_store AreFormed effect value (Ok answer) before now
committed of_store AreFormed effect value changes answer before opened mid now keeps lawful finds opens reads made answers leaves planned higher =
    done_call of_store AreFormed effect value changes answer before mid now keeps lawful (finds_still before opened mid finds reads.0) (opens_reads AreFormed false before opened mid opens.0 reads) made answers leaves planned higher

-- ---- the whole call, with a fact of the rows that its opening found

unless_stores : (kind : Option StoreFault) (Fact : Type 0) → Fact → UnlessStores kind Fact
unless_stores (Some kind) Fact holds = tt
unless_stores None Fact holds = holds

-- a fact holds, also unless the store refuses the call
pub unless_any : {T F : Type 0} (of_store : OfStore F) (result : Result T F) (Fact : Type 0) → Fact → UnlessOfStore of_store result Fact
unless_any of_store (Ok answer) Fact holds = holds
unless_any of_store (Err fault) Fact holds = unless_stores (of_store fault) Fact holds

-- a fact of the rows that were read, which gives one by what the call did with them
with_fact : {T F : Type 0} (of_store : OfStore F) (AreFormed : Rows → Type 0) (effect : Rows → Effect F) (value : Rows → T) (Fact : Result T F → Rows → Rows → Type 0) (result : Result T F) (Read : Rows → Type 0) (before mid now : Store) → Finds before mid
    → Follows mid.rows now.rows (λ found after. Did of_store AreFormed effect value result before now found after) → IfSome mid.rows Read
    → ((found after : Rows) → Did of_store AreFormed effect value result before now found after → Read found → Fact result found after) → DoesWith of_store AreFormed effect value Fact result before now
with_fact of_store AreFormed effect value Fact result Read before mid now finds follows read gives =
    let did = λ (found after : Rows). Did of_store AreFormed effect value result before now found after in
    let with = λ (found after : Rows). DidWith of_store AreFormed effect value Fact result before now found after in
    from_found before mid now with finds (follows_with mid.rows now.rows did with Read follows read (λ found after did read. record { did = did; fact = gives found after did read }))

-- the fact is one of all rows
pub any_with : {T F : Type 0} (of_store : OfStore F) (AreFormed : Rows → Type 0) (effect : Rows → Effect F) (value : Rows → T) (Fact : Result T F → Rows → Rows → Type 0) (result : Result T F) (before now : Store)
    → IsCall of_store AreFormed effect value result before now → ((found after : Rows) → Fact result found after) → DoesWith of_store AreFormed effect value Fact result before now
any_with of_store AreFormed effect value Fact result before now call gives =
    from_weaker (λ found after. Did of_store AreFormed effect value result before now found after) (λ found after. DidWith of_store AreFormed effect value Fact result before now found after) before now
    (λ found after did. record { did = did; fact = gives found after }) call.did

-- it is refused as it reads
pub refused_with : {T F : Type 0} (of_store : OfStore F) (AreFormed : Rows → Type 0) (effect : Rows → Effect F) (value : Rows → T) (Fact : Result T F → Rows → Rows → Type 0) (fault : F) (before opened now : Store) → Finds before opened
    → OpensAndReads AnyRows false before opened → Reads AreFormed (is_failure (of_store fault)) opened now → IfSome now.rows (λ rows. TellsFault (of_store fault) fault (effect rows)) → IfSome now.rows (λ rows. Fact (Err fault) rows rows)
    → DoesWith of_store AreFormed effect value Fact (Err fault) before now
refused_with of_store AreFormed effect value Fact fault before opened now finds opens reads tells read =
    let did = λ (found after : Rows). Did of_store AreFormed effect value (Err fault) before now found after in
    let with = λ (found after : Rows). DidWith of_store AreFormed effect value Fact (Err fault) before now found after in
    let follows = refused_did of_store AreFormed effect value fault before now (opens_reads AreFormed (is_failure (of_store fault)) before opened now opens.0 reads) tells in
    from_found before now now with (finds_still before opened now finds reads.0)
    (follows_both now.rows now.rows did (Fact (Err fault)) with follows (follows_self now.rows (Fact (Err fault)) read) (λ found after did fact. record { did = did; fact = fact }))

-- its changes are committed
pub committed_with : {T F : Type 0} (of_store : OfStore F) (AreFormed : Rows → Type 0) (effect : Rows → Effect F) (value : Rows → T) (Fact : Result T F → Rows → Rows → Type 0) (Read : Rows → Type 0) (changes : List Change) (answer : T) (before opened mid now : Store)
    → ((rows : Rows) → AreFormed rows → AreFormed (applied changes rows)) → Finds before opened → OpensAndReads AnyRows false before opened → Reads AreFormed false opened mid → IfSome mid.rows (λ rows. effect rows ≡ Ok changes) → IfSome mid.rows (λ rows. answer ≡ value rows)
    → Leaves changes (Ok tt) mid now → IfSome mid.plan (λ planned. LeavesPlanned changes planned (Ok tt) mid now) → IfSome mid.rows Read
    → ((found after : Rows) → Did of_store AreFormed effect value (Ok answer) before now found after → Read found → Fact (Ok answer) found after) → DoesWith of_store AreFormed effect value Fact (Ok answer) before now
committed_with of_store AreFormed effect value Fact Read changes answer before opened mid now keeps finds opens reads made answers leaves planned read gives =
    with_fact of_store AreFormed effect value Fact (Ok answer) Read before mid now (finds_still before opened mid finds reads.0)
    (done_did of_store AreFormed effect value changes answer before mid now keeps (opens_reads AreFormed false before opened mid opens.0 reads) made answers leaves planned) read gives

-- ---- a call that only reads

-- the parts of what it does, each for itself
pub looks_by : {T F : Type 0} (of_store : OfStore F) (AreFormed : Rows → Type 0) (result : Result T F) (before now : Store) → OpensAndReads AreFormed (fails of_store result) before now
    → (fails of_store result ≡ false → Finds before now) → Readied of_store result now → Looks of_store AreFormed result before now
looks_by of_store AreFormed result before now opened found ready = record { opened = opened; found = found; ready = ready }

readied : {T F : Type 0} (of_store : OfStore F) (result : Result T F) (now : Store) → IsReady now → Readied of_store result now
readied of_store (Ok answer) now ready = ready
readied of_store (Err fault) now ready = refused_ready (of_store fault) now ready

-- it isn't opened
pub not_looked : {T F : Type 0} (of_store : OfStore F) (AreFormed : Rows → Type 0) (kind : StoreFault) (fault : F) (before now : Store) → of_store fault ≡ Some kind
    → (store_fails {T = Unit {0}} (Err kind) ≡ false → Finds before now) → OpensAndReads AnyRows (store_fails {T = Unit {0}} (Err kind)) before now → IsRefused {T = Unit {0}} (Err kind) before now
    → Looks {T = T} of_store AreFormed (Err fault) before now
not_looked of_store AreFormed NoMemory fault before now is finds opens calm = record {
  opened = subst (λ (kind : Option StoreFault). OpensAndReads AreFormed (is_failure kind) before now) (sym is) (only_opens AreFormed false before now opens);
  found = λ _. finds refl;
  ready = subst (λ (kind : Option StoreFault). FaultReadied kind now) (sym is) (opens.0.6 calm);
}
not_looked of_store AreFormed Failed fault before now is finds opens calm = record {
  opened = subst (λ (kind : Option StoreFault). OpensAndReads AreFormed (is_failure kind) before now) (sym is) (only_opens AreFormed true before now opens);
  found = λ no. let bad : true ≡ false = subst (λ (kind : Option StoreFault). is_failure kind ≡ false) is no in cc;
  ready = subst (λ (kind : Option StoreFault). FaultReadied kind now) (sym is) tt;
}

-- it is opened, and then reads
pub looked : {T F : Type 0} (of_store : OfStore F) (AreFormed : Rows → Type 0) (result : Result T F) (before opened now : Store) → Finds before opened → OpensAndReads AnyRows false before opened
    → Reads AreFormed (fails of_store result) opened now → Looks of_store AreFormed result before now
looked of_store AreFormed result before opened now finds opens reads = record {
  opened = opens_reads AreFormed (fails of_store result) before opened now opens.0 reads;
  found = λ _. finds_still before opened now finds reads.0;
  ready = readied of_store result now reads.0.0;
}
