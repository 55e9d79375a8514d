-- Faults as they stand in a Body (SOAP 1.2, 5.4): a code, and below it the name of what went wrong.
use Rattle.std.specs.Prelude.{◌≡◌, ℕ, suc, ◌==◌, Bool, true, false, List, [], ◌∷◌, ◌++◌, codes, encode_utf8_all, unwrap_or, Option, Some, None, Result, if◌then◌else◌}
use Rattle.std.specs.List.{list_any}
use Rattle.std.specs.Option.{option_and_then, option_map}
use Rattle.std.specs.Str.{chars}
use Rattle.std.specs.declared.result.Result.TheVariants.{Ok, Err}
use Rattle.wef_base.specs.Names.{same}
use Rattle.wef_base.specs.declared.tree.Attribute.{Attribute}
use Rattle.wef_base.specs.declared.tree.Element.{Element}
use Rattle.wef_elements.specs.Children.{first_called, with_text}
use Rattle.wef_elements.specs.Texts.{only_text, said_in}
use Rattle.wef_ids.specs.Faults.{fault_text}
use Rattle.wef_ids.specs.declared.FaultName.{FaultName}
use Rattle.wef_ids.specs.declared.FaultName.TheVariants as the
use Rattle.wef_xml.specs.Good.{IsGoodElement}
use Rattle.wef_xml.specs.Spaces.{xml_space}
use Rattle.wef_envelope.specs.Envelopes.{is_part}
use Rattle.wef_envelope.specs.Spaces.{soap}
use Rattle.wef_envelope.specs.Written.{part}
use Rattle.wef_envelope.specs.declared.actions.TheConstants.{ADDRESSING_FAULT, ENUMERATION_FAULT, EVENTING_FAULT, MANAGEMENT_FAULT}
use Rattle.wef_envelope.specs.declared.envelopes.EnvelopeFault.{EnvelopeFault}
use Rattle.wef_envelope.specs.declared.envelopes.EnvelopeFault.TheVariants.{NoMemory, NotSoap, MustUnderstand, HeaderRequired, RepeatedHeader}
use Rattle.wef_envelope.specs.declared.faults.Fault.{Fault}
use Rattle.wef_envelope.specs.declared.faults.FaultCode.{FaultCode}
use Rattle.wef_envelope.specs.declared.faults.FaultCode.TheVariants as of
use Rattle.wef_envelope.specs.declared.faults.Standard.{Standard}
use Rattle.wef_envelope.specs.declared.faults.Standard.TheVariants as standard

-- ---- the table of names

-- who is at fault, and the standard that has the name
abbrev pub row_of : FaultName → FaultCode × Option Standard
row_of the.DeliveryModeRequestedUnavailable = (of.Sender, Some standard.Eventing)
row_of the.FilteringRequestedUnavailable = (of.Sender, Some standard.Eventing)
row_of the.InvalidExpirationTime = (of.Sender, Some standard.Eventing)
row_of the.InvalidMessage = (of.Sender, Some standard.Eventing)
row_of the.UnableToRenew = (of.Receiver, Some standard.Eventing)
row_of the.ActionNotSupported = (of.Sender, Some standard.Addressing)
row_of the.DestinationUnreachable = (of.Sender, Some standard.Addressing)
row_of the.MessageInformationHeaderRequired = (of.Sender, Some standard.Addressing)
row_of the.InvalidBookmark = (of.Sender, Some standard.Management)
row_of the.EncodingLimit = (of.Sender, Some standard.Management)
row_of the.InternalError = (of.Receiver, Some standard.Management)
row_of the.InvalidEnumerationContext = (of.Receiver, Some standard.Enumeration)
row_of the.MustUnderstand = (of.MustUnderstand, Some standard.Soap)
row_of (the.Other text) = (of.Receiver, None)

abbrev pub code_of : FaultName → FaultCode
code_of name = (row_of name).0

abbrev pub standard_of : FaultName → Option Standard
standard_of name = (row_of name).1

-- the prefix of a standard's names
unfoldable pub prefix_by : Option Standard → List ℕ
prefix_by (Some standard.Soap) = codes "s"
prefix_by (Some standard.Addressing) = codes "a"
prefix_by (Some standard.Eventing) = codes "e"
prefix_by (Some standard.Management) = codes "w"
prefix_by (Some standard.Enumeration) = codes "n"
prefix_by None = []

-- the action of a message that has a fault, by the standard of the fault's name
abbrev pub action_by : Option Standard → List ℕ
action_by (Some standard.Soap) = ADDRESSING_FAULT.now
action_by (Some standard.Addressing) = ADDRESSING_FAULT.now
action_by (Some standard.Eventing) = EVENTING_FAULT.now
action_by (Some standard.Management) = MANAGEMENT_FAULT.now
action_by (Some standard.Enumeration) = ENUMERATION_FAULT.now
action_by None = MANAGEMENT_FAULT.now

abbrev pub action_of : FaultName → List ℕ
action_of name = action_by (standard_of name)

-- a name of the table
abbrev pub is_known : FaultName → Bool
is_known (the.Other text) = false
is_known _ = true

-- a fault as the table has it
abbrev pub fault_of : FaultName → Fault
fault_of name = record { code = code_of name; name = name }

-- ---- reading

-- characters behind the last colon; all of them where there is none
abbrev pub is_colon : ℕ → Bool
is_colon c = c == 58

abbrev pub behind_last : List ℕ → List ℕ
behind_last [] = []
behind_last (c ∷ cs) = if list_any is_colon cs then behind_last cs else (if is_colon c then cs else c ∷ cs)

-- a name without its prefix
abbrev pub local_of : List ℕ → List ℕ
local_of text = encode_utf8_all (behind_last (chars text))

-- the code of a local name; an unknown one counts as the receiver's
unfoldable pub code_in : List ℕ → FaultCode
code_in local = if same local (codes "Sender") then of.Sender else (if same local (codes "MustUnderstand") then of.MustUnderstand else of.Receiver)

-- the name that is spelt so
unfoldable pub name_in : List ℕ → FaultName
name_in local =
    if same local (codes "DeliveryModeRequestedUnavailable") then the.DeliveryModeRequestedUnavailable
    else (if same local (codes "FilteringRequestedUnavailable") then the.FilteringRequestedUnavailable
    else (if same local (codes "InvalidExpirationTime") then the.InvalidExpirationTime
    else (if same local (codes "InvalidMessage") then the.InvalidMessage
    else (if same local (codes "UnableToRenew") then the.UnableToRenew
    else (if same local (codes "ActionNotSupported") then the.ActionNotSupported
    else (if same local (codes "DestinationUnreachable") then the.DestinationUnreachable
    else (if same local (codes "MessageInformationHeaderRequired") then the.MessageInformationHeaderRequired
    else (if same local (codes "InvalidBookmark") then the.InvalidBookmark
    else (if same local (codes "EncodingLimit") then the.EncodingLimit
    else (if same local (codes "InternalError") then the.InternalError
    else (if same local (codes "InvalidEnumerationContext") then the.InvalidEnumerationContext
    else (if same local (codes "MustUnderstand") then the.MustUnderstand
    else the.Other local))))))))))))

-- what the child Value of an element says
abbrev pub value_in : Element → Option (List ℕ)
value_in e = option_map said_in (first_called soap (codes "Value") e.children)

-- what the Subcode of a code says
abbrev pub subcode_in : Element → Option (List ℕ)
subcode_in code = option_and_then value_in (first_called soap (codes "Subcode") code.children)

-- the fault of a code's value, and of what its Subcode says
abbrev pub fault_said : Option (List ℕ) → List ℕ → Fault
fault_said below value = record { code = code_in (local_of value); name = name_in (local_of (unwrap_or below value)) }

-- the fault of a code
abbrev pub fault_in_code : Element → Option Fault
fault_in_code code = option_map (fault_said (subcode_in code)) (value_in code)

-- the fault that an element is: one called Fault, with a Code that has a Value
abbrev pub fault_in : Element → Option Fault
fault_in e = if is_part (codes "Fault") e then option_and_then fault_in_code (first_called soap (codes "Code") e.children) else None

-- What is read of an element is the fault that it is, but for want of memory.
abbrev pub ReadsFault : Result Fault EnvelopeFault → Option Fault → Type 0
ReadsFault (Ok fault) given = given ≡ Some fault
ReadsFault (Err NotSoap) given = given ≡ None
ReadsFault (Err NoMemory) given = Unit {0}
ReadsFault (Err (MustUnderstand name)) given = ⊥
ReadsFault (Err (HeaderRequired name)) given = ⊥
ReadsFault (Err (RepeatedHeader name)) given = ⊥

-- ---- writing

unfoldable pub code_text : FaultCode → List ℕ
code_text of.Sender = codes "s:Sender"
code_text of.Receiver = codes "s:Receiver"
code_text of.MustUnderstand = codes "s:MustUnderstand"

abbrev pub value : List ℕ → Element
value text = with_text soap (codes "Value") text

-- the name with its prefix
abbrev pub prefixed : FaultName → List ℕ
prefixed name = prefix_by (standard_of name) ++ codes ":" ++ fault_text name

-- a Subcode, but for MustUnderstand, whose code is its name
abbrev pub has_subcode : FaultName → Bool
has_subcode the.MustUnderstand = false
has_subcode _ = true

abbrev pub subcode_of : FaultName → List Element
subcode_of name = if has_subcode name then part (codes "Subcode") (value (prefixed name) ∷ []) ∷ [] else []

unfoldable pub language : Attribute
language = record { space = xml_space; name = codes "lang"; value = codes "en-US" }

abbrev pub reason_text : FaultName → Element
reason_text name = record { space = soap; name = codes "Text"; attributes = language ∷ []; children = only_text (fault_text name) }

-- the element of a fault
unfoldable pub fault_tree : Fault → Element
fault_tree f =
    part (codes "Fault") (
    part (codes "Code") (value (code_text f.code) ∷ subcode_of f.name) ∷
    part (codes "Reason") (reason_text f.name ∷ []) ∷ [])

-- A fault as the table has it is what its element is.
abbrev pub FaultsAreRead : Type 0
FaultsAreRead = (name : FaultName) → is_known name ≡ true → fault_in (fault_tree (fault_of name)) ≡ Some (fault_of name)

-- The element of such a fault is a good tree, and goes four elements deep.
abbrev pub FaultsAreGood : Type 0
FaultsAreGood = (name : FaultName) (room : ℕ) → is_known name ≡ true → IsGoodElement (fault_tree (fault_of name)) (suc (suc (suc (suc room))))
