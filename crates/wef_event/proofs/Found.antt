-- The event of a root, by what was found in it.
use Rattle.std.proofs.Common.{◌≡◌, ℕ, nat_lt, Bool, true, false, cond, List, length, refl, ap, ◌∙◌}
use Rattle.std.specs.Prelude.{Option, Some, None, Result}
use Rattle.std.specs.declared.result.Result.TheVariants.{Ok, Err}
use Rattle.wef_base.specs.declared.tree.Element.{Element}
use Rattle.wef_event.specs.Events.{Event, event_limit, event_of, is_event_root, number_or, text_of_tree, unless_long, with_channel_found, with_number_found}
use Rattle.wef_event.specs.Paths.{channel_in, number_in}
use Rattle.wef_event.specs.Reading.{short_text}
use Rattle.wef_event.specs.declared.records.EventFault.{EventFault}

pub no_root : (needed : Bool) (node : Element) → is_event_root node ≡ false → event_of needed node ≡ Err (EventFault.BadEvent 0)
unfolding event_of
no_root needed node root = λ i. cond (root i) (with_channel_found needed node (channel_in node)) (Err (EventFault.BadEvent 0))

-- the event where the root and the channel are known
found : (needed : Bool) (node : Element) (o : Option (List ℕ)) → is_event_root node ≡ true → channel_in node ≡ o → event_of needed node ≡ with_channel_found needed node o
unfolding event_of
found needed node o root channel = λ i. cond (root i) (with_channel_found needed node (channel i)) (Err (EventFault.BadEvent 0))

pub no_channel : (needed : Bool) (node : Element) → is_event_root node ≡ true → channel_in node ≡ None → event_of needed node ≡ Err EventFault.NoChannel
no_channel needed node root channel = found needed node None root channel

-- a number is refused only where it isn't there
refused : (needed : Bool) (m : Option ℕ) (fault : EventFault) → number_or needed m ≡ Err fault → number_or needed m ≡ Err EventFault.NoRecordId
refused needed (Some n) fault e = let bad : ⊥ = cc in absurd bad
refused true None fault e = refl
refused false None fault e = let bad : ⊥ = cc in absurd bad

pub no_number :
    (needed : Bool) (node : Element) (c : List ℕ) (fault : EventFault) → is_event_root node ≡ true → channel_in node ≡ Some c →
    number_or needed (number_in node) ≡ Err fault → event_of needed node ≡ Err EventFault.NoRecordId
no_number needed node c fault root channel number =
    found needed node (Some c) root channel ∙ ap (with_number_found node c) (refused needed (number_in node) fault number)

-- a text that is too long makes no event, and another one does
by_text : (c : List ℕ) (n : ℕ) (text : List ℕ) → unless_long c n text ≡ elim (short_text text) [ None ↦ Err EventFault.TooLong | Some t ↦ Ok (record { channel = c; number = n; text = t }) ]
by_text c n text = by (nat_lt event_limit (length text))
  where
    by : (b : Bool) → ◌≡◌ {A = Result Event EventFault} (cond b (Err EventFault.TooLong) (Ok (record { channel = c; number = n; text = text })))
        (elim (cond b None (Some text)) [ None ↦ Err EventFault.TooLong | Some t ↦ Ok (record { channel = c; number = n; text = t }) ])
    by true = refl
    by false = refl

-- the event where all but the length of its text is known
with_text :
    (needed : Bool) (node : Element) (c : List ℕ) (n : ℕ) (o : Option (List ℕ)) → is_event_root node ≡ true → channel_in node ≡ Some c →
    number_or needed (number_in node) ≡ Ok n → short_text (text_of_tree node) ≡ o →
    event_of needed node ≡ elim o [ None ↦ Err EventFault.TooLong | Some t ↦ Ok (record { channel = c; number = n; text = t }) ]
with_text needed node c n o root channel number text =
    found needed node (Some c) root channel ∙ ap (with_number_found node c) number ∙ by_text c n (text_of_tree node)
    ∙ ap (λ (x : Option (List ℕ)). elim x [ None ↦ Err EventFault.TooLong | Some t ↦ Ok (record { channel = c; number = n; text = t }) ]) text

pub too_long :
    (needed : Bool) (node : Element) (c : List ℕ) (n : ℕ) → is_event_root node ≡ true → channel_in node ≡ Some c →
    number_or needed (number_in node) ≡ Ok n → short_text (text_of_tree node) ≡ None → event_of needed node ≡ Err EventFault.TooLong
too_long needed node c n root channel number text = with_text needed node c n None root channel number text

pub is_there :
    (needed : Bool) (node : Element) (c : List ℕ) (n : ℕ) (text : List ℕ) → is_event_root node ≡ true → channel_in node ≡ Some c →
    number_or needed (number_in node) ≡ Ok n → short_text (text_of_tree node) ≡ Some text →
    event_of needed node ≡ Ok (record { channel = c; number = n; text = text })
is_there needed node c n text root channel number short = with_text needed node c n (Some text) root channel number short

-- a number that is given where it is needed is given where it isn't
pub given_anyhow : (needed : Bool) (m : Option ℕ) (n : ℕ) → number_or needed m ≡ Ok n → number_or false m ≡ Ok n
given_anyhow needed (Some k) n e = e
given_anyhow false None n e = e
given_anyhow true None n e = let bad : ⊥ = cc in absurd bad
