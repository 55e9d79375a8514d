-- A plain event of number 0 with a number is the plain event of this number.
use Rattle.std.proofs.Common.{◌≡◌, ℕ, ◌<◌, ◌≤◌, Bool, true, false, cond, List, [], ◌∷◌, ◌++◌, length, nat_le, nat_lt, refl, ap, sym, ◌∙◌, arith}
use Rattle.std.specs.Prelude.{Some, None, Result, IfOk, codes, is_some}
use Rattle.std.specs.Fmt.{decimal}
use Rattle.std.specs.declared.result.Result.TheVariants.{Ok, Err}
use Rattle.std.proofs.lemmas.Bool.Decides.{nat_tests}
use Rattle.std.proofs.lemmas.Fmt.{decimal_digit, decimal_nonempty}
use Rattle.wef_base.specs.Names.{same}
use Rattle.wef_base.specs.declared.numbers.TheConstants.{MAX}
use Rattle.wef_base.specs.declared.tree.Charset.TheVariants.{Utf8}
use Rattle.wef_base.specs.declared.tree.Element.{Element}
use Rattle.wef_base.specs.declared.tree.Node.{Node, Chars}
use Rattle.wef_base.specs.declared.tree.Node.TheVariants.{Element as Child}
use Rattle.wef_tree_reading.specs.Documents.{tree_of}
use Rattle.wef_xml.specs.Spaces.{is_empty}
use Rattle.wef_event.specs.Events.{Event, event_limit, event_of, event_or_none, unless_long}
use Rattle.wef_event.specs.Numbering.{changed_here, new_field, numbered, numbered_by, numbered_children, numbered_root, numbered_system, record_id, with_first_changed, with_number, with_only}
use Rattle.wef_event.specs.PlainEvent.{MakesEvent, event_space, plain_text, plain_tree}
use Rattle.wef_event.specs.Unnumbered.{NewEventsAreNumbered, NewEventsFit, new_event, plain_numbered, plain_numbered_text}
use Rattle.wef_event.specs.declared.records.EventFault.{EventFault}
use Rattle.wef_event.specs.declared.unnumbered.PlainEvent.{PlainEvent}
use Rattle.wef_event.proofs.Children.{named_otherwise, named_so}
use Rattle.wef_event.proofs.Made.{tree_again}
use Rattle.wef_event.proofs.NumberedTrees.{good_digits}
use Rattle.wef_event.proofs.PlainFields.{event_data, fields, from_channel, from_level, from_number, leaf, number_found, says_some, system, tree_says}
use Rattle.wef_event.proofs.PlainGood.{plain_good}
use Rattle.wef_event.proofs.PlainTexts.{plain_text_is}
use Rattle.wef_event.proofs.Sizes.{fits_by_length, plain_length}

-- ---- its tree

-- an element that has the name is the first
changed_first : (name : List ℕ) (f : Element → Element) (e : Element) (ns : List Node) → same e.name name ≡ true → with_first_changed name f (Child e ∷ ns) ≡ Child (f e) ∷ ns
changed_first name f e ns is = ap (λ o. changed_here f o (Child e) ns (with_first_changed name f ns)) (named_so name e is)

-- and one that hasn't leaves it to those behind
changed_behind : (name : List ℕ) (f : Element → Element) (e : Element) (ns : List Node) → same e.name name ≡ false → with_first_changed name f (Child e ∷ ns) ≡ Child e ∷ with_first_changed name f ns
changed_behind name f e ns other = ap (λ o. changed_here f o (Child e) ns (with_first_changed name f ns)) (named_otherwise name e other)

-- the digits of a number are some
some_digits : (n : ℕ) → n ≤ MAX → is_empty (decimal n) ≡ false
some_digits n small = (good_digits n small).some

-- the field with the digits of a number
field_is : (n : ℕ) → n ≤ MAX → with_only (decimal n) (leaf (codes "EventRecordID") (decimal 0)) ≡ leaf (codes "EventRecordID") (decimal n)
field_is n small =
    ap (λ (b : Bool). record { space = event_space; name = codes "EventRecordID"; attributes = []; children = cond b [] (Chars (decimal n) ∷ []) }) (sym (some_digits n small))

fields_are : (channel : List ℕ) (n id level : ℕ) → n ≤ MAX
    → numbered_children event_space (decimal n) (fields channel 0 id level) ≡ fields channel n id level
fields_are channel n id level small =
    ap (λ o. cond (is_some o) changed (fields channel 0 id level ++ Child (new_field event_space (decimal n)) ∷ [])) (number_found channel 0 id level)
    ∙ changed_behind record_id (with_only (decimal n)) (leaf (codes "EventID") (decimal id)) (from_level channel 0 level) refl
    ∙ ap (λ ns. Child (leaf (codes "EventID") (decimal id)) ∷ ns)
    (changed_behind record_id (with_only (decimal n)) (leaf (codes "Level") (decimal level)) (from_number channel 0) refl
    ∙ ap (λ ns. Child (leaf (codes "Level") (decimal level)) ∷ ns)
    (changed_first record_id (with_only (decimal n)) (leaf (codes "EventRecordID") (decimal 0)) (from_channel channel) refl
    ∙ ap (λ e. Child e ∷ from_channel channel) (field_is n small)))
  where
    changed : List Node
    changed = with_first_changed record_id (with_only (decimal n)) (fields channel 0 id level)

-- its tree with a number is that of the plain event
tree_is : (channel : List ℕ) (n id level : ℕ) (word : List ℕ) → n ≤ MAX
    → numbered_root (decimal n) (plain_tree channel 0 id level word) ≡ plain_tree channel n id level word
tree_is channel n id level word small =
    ap (λ ns. record { space = event_space; name = codes "Event"; attributes = []; children = ns })
    (changed_first (codes "System") (numbered_system (decimal n)) (system channel 0 id level) (Child (event_data word) ∷ []) refl
    ∙ ap (λ ns. Child (record { space = event_space; name = codes "System"; attributes = []; children = ns }) ∷ Child (event_data word) ∷ []) (fields_are channel n id level small))

-- ---- its event

unless_past : (channel : List ℕ) (n : ℕ) (text : List ℕ)
    → event_or_none (unless_long channel n text) ≡ cond (nat_lt event_limit (length text)) None (Some (record { channel = channel; number = n; text = text }))
unless_past channel n text = by (nat_lt event_limit (length text))
  where
    made : Event
    made = record { channel = channel; number = n; text = text }

    by : (b : Bool) → event_or_none (cond b (Err EventFault.TooLong) (Ok made)) ≡ cond b None (Some made)
    by true = refl
    by false = refl

pub new_is_plain : NewEventsAreNumbered
unfolding numbered with_number
new_is_plain event n named utf8 word_utf8 some small =
    let channel = event.channel in
    let old = plain_tree channel 0 event.id event.level event.word in
    let new = plain_tree channel n event.id event.level event.word in
    ap (λ (text : List ℕ). event_or_none (numbered_by n (tree_of Utf8 text))) (sym (plain_text_is channel 0 event.id event.level event.word))
    ∙ ap (λ o. event_or_none (numbered_by n o)) (tree_again old (plain_good channel event.word 0 event.id event.level named utf8 word_utf8 event.characters))
    ∙ ap (λ root. event_or_none (event_of true root)) (tree_is channel n event.id event.level event.word small)
    ∙ ap event_or_none (tree_says true channel n event.id event.level event.word named small (says_some n some))
    ∙ ap (λ text. event_or_none (unless_long channel n text)) (plain_text_is channel n event.id event.level event.word)
    ∙ unless_past channel n (plain_text channel n event.id event.level event.word)

-- what is made without a number is the new event
pub made_so : (event : PlainEvent) (result : Result Event EventFault) → MakesEvent result (plain_numbered event 0) → IfOk result (λ made. made ≡ new_event event)
made_so event (Err fault) makes = tt
made_so event (Ok made) makes = by (nat_lt event_limit (length (plain_numbered_text event 0))) makes
  where
    by : (b : Bool) → cond b None (Some (new_event event)) ≡ Some made → made ≡ new_event event
    by true e = let bad : ⊥ = cc in absurd bad
    by false e = cc

-- ---- its length

one_digit : length (decimal 0) ≡ 1
one_digit = ap length (decimal_digit 0 (omega arith))

some_fit : (limit shorter longer : ℕ) → shorter ≤ longer → nat_le longer limit ≡ true → nat_le shorter limit ≡ true
some_fit limit shorter longer h fits = grind (arith, nat_tests)

pub new_fits : NewEventsFit
new_fits event n small fits =
    let zero_is = plain_length event.channel 0 event.id event.level event.word in
    let long = plain_length event.channel n event.id event.level event.word in
    let some : 0 < length (decimal n) = decimal_nonempty n (omega arith) in
    let one = one_digit in
    let shorter : length (plain_numbered_text event 0) ≤ length (plain_numbered_text event n) = omega arith in
    fits_by_length event 0 _ refl ∙ some_fit 1048576 _ _ shorter (sym (fits_by_length event n _ refl) ∙ fits)
