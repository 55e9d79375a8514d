-- The element of a fault is that fault.
use Rattle.std.proofs.Common.{◌≡◌, ℕ, Bool, true, false, ◌||◌, cond, List, [], ◌∷◌, refl, ap, ◌∙◌}
use Rattle.std.specs.Prelude.{Some, None, codes}
use Rattle.std.specs.List.{find, list_any}
use Rattle.std.specs.Option.{option_and_then, option_map}
use Rattle.std.specs.Str.{chars}
use Rattle.std.proofs.Math.Utf8.{encode}
use Rattle.wef_base.specs.Names.{trimmed}
use Rattle.wef_base.specs.declared.tree.Element.{Element}
use Rattle.wef_elements.specs.Children.{is_called}
use Rattle.wef_elements.specs.Texts.{said_in}
use Rattle.wef_elements.proofs.Again.{elements_again, said_again}
use Rattle.wef_ids.specs.Faults.{fault_text}
use Rattle.wef_ids.specs.declared.FaultName.{FaultName}
use Rattle.wef_ids.specs.declared.FaultName.TheVariants as the
use Rattle.wef_envelope.specs.Faults.{behind_last, code_in, code_text, fault_in, fault_in_code, fault_of, fault_said, fault_tree, is_colon, is_known, name_in, prefix_by, reason_text, subcode_in, value, value_in}
use Rattle.wef_envelope.specs.Spaces.{soap}
use Rattle.wef_envelope.specs.Written.{part}

-- without a colon all characters stand behind the last one
pub where_none : (cs : List ℕ) → cond (list_any is_colon cs) (behind_last cs) cs ≡ behind_last cs
where_none [] = refl
where_none (c ∷ cs) = by (is_colon c) (list_any is_colon cs)
  where
    by : (b d : Bool) → cond (b || d) (cond d (behind_last cs) (cond b cs (c ∷ cs))) (c ∷ cs) ≡ cond d (behind_last cs) (cond b cs (c ∷ cs))
    by true d = refl
    by false true = refl
    by false false = refl

-- ---- parts

value_first : (name v : List ℕ) (es : List Element) → trimmed v ≡ v → value_in (part name (value v ∷ es)) ≡ Some v
unfolding soap
value_first name v es is =
    ap (λ xs. option_map said_in (find (is_called soap (codes "Value")) xs)) (elements_again (value v ∷ es)) ∙ ap Some (said_again soap (codes "Value") v is)

subcode_found : (v p : List ℕ) → trimmed p ≡ p → subcode_in (part (codes "Code") (value v ∷ part (codes "Subcode") (value p ∷ []) ∷ [])) ≡ Some p
unfolding soap
subcode_found v p is =
    ap (λ xs. option_and_then value_in (find (is_called soap (codes "Subcode")) xs)) (elements_again (value v ∷ part (codes "Subcode") (value p ∷ []) ∷ []))
    ∙ value_first (codes "Subcode") p [] is

subcode_missing : (v : List ℕ) → subcode_in (part (codes "Code") (value v ∷ [])) ≡ None
unfolding soap
subcode_missing v = ap (λ xs. option_and_then value_in (find (is_called soap (codes "Subcode")) xs)) (elements_again (value v ∷ []))

code_found : (es : List Element) (reason : Element) → fault_in (part (codes "Fault") (part (codes "Code") es ∷ reason ∷ [])) ≡ fault_in_code (part (codes "Code") es)
unfolding soap
code_found es reason = ap (λ xs. option_and_then fault_in_code (find (is_called soap (codes "Code")) xs)) (elements_again (part (codes "Code") es ∷ reason ∷ []))

with_subcode : (v p : List ℕ) (reason : Element) → trimmed v ≡ v → trimmed p ≡ p →
    fault_in (part (codes "Fault") (part (codes "Code") (value v ∷ part (codes "Subcode") (value p ∷ []) ∷ []) ∷ reason ∷ [])) ≡ Some (fault_said (Some p) v)
with_subcode v p reason is below =
    code_found (value v ∷ part (codes "Subcode") (value p ∷ []) ∷ []) reason
    ∙ (λ i. option_map (fault_said (subcode_found v p below i)) (value_first (codes "Code") v (part (codes "Subcode") (value p ∷ []) ∷ []) is i))

without_subcode : (v : List ℕ) (reason : Element) → trimmed v ≡ v → fault_in (part (codes "Fault") (part (codes "Code") (value v ∷ []) ∷ reason ∷ [])) ≡ Some (fault_said None v)
without_subcode v reason is = code_found (value v ∷ []) reason ∙ (λ i. option_map (fault_said (subcode_missing v i)) (value_first (codes "Code") v [] is i))

abbrev reason : FaultName → Element
reason name = part (codes "Reason") (reason_text name ∷ [])

-- ---- the law

pub faults_are_read : (name : FaultName) → is_known name ≡ true → fault_in (fault_tree (fault_of name)) ≡ Some (fault_of name)
unfolding fault_tree prefix_by fault_text code_text code_in name_in chars encode
faults_are_read the.DeliveryModeRequestedUnavailable known = with_subcode (codes "s:Sender") (codes "e:DeliveryModeRequestedUnavailable") (reason the.DeliveryModeRequestedUnavailable) refl refl
faults_are_read the.FilteringRequestedUnavailable known = with_subcode (codes "s:Sender") (codes "e:FilteringRequestedUnavailable") (reason the.FilteringRequestedUnavailable) refl refl
faults_are_read the.InvalidExpirationTime known = with_subcode (codes "s:Sender") (codes "e:InvalidExpirationTime") (reason the.InvalidExpirationTime) refl refl
faults_are_read the.InvalidMessage known = with_subcode (codes "s:Sender") (codes "e:InvalidMessage") (reason the.InvalidMessage) refl refl
faults_are_read the.UnableToRenew known = with_subcode (codes "s:Receiver") (codes "e:UnableToRenew") (reason the.UnableToRenew) refl refl
faults_are_read the.ActionNotSupported known = with_subcode (codes "s:Sender") (codes "a:ActionNotSupported") (reason the.ActionNotSupported) refl refl
faults_are_read the.DestinationUnreachable known = with_subcode (codes "s:Sender") (codes "a:DestinationUnreachable") (reason the.DestinationUnreachable) refl refl
faults_are_read the.MessageInformationHeaderRequired known = with_subcode (codes "s:Sender") (codes "a:MessageInformationHeaderRequired") (reason the.MessageInformationHeaderRequired) refl refl
faults_are_read the.InvalidBookmark known = with_subcode (codes "s:Sender") (codes "w:InvalidBookmark") (reason the.InvalidBookmark) refl refl
faults_are_read the.EncodingLimit known = with_subcode (codes "s:Sender") (codes "w:EncodingLimit") (reason the.EncodingLimit) refl refl
faults_are_read the.InternalError known = with_subcode (codes "s:Receiver") (codes "w:InternalError") (reason the.InternalError) refl refl
faults_are_read the.InvalidEnumerationContext known = with_subcode (codes "s:Receiver") (codes "n:InvalidEnumerationContext") (reason the.InvalidEnumerationContext) refl refl
faults_are_read the.MustUnderstand known = without_subcode (codes "s:MustUnderstand") (reason the.MustUnderstand) refl
faults_are_read (the.Other text) known = let bad : ⊥ = cc in absurd bad
