-- The parts of a subscription document by their names, and what they say. Each part is the first child of its name in the
-- document's namespace; other elements don't matter, nor does the order.
use Rattle.std.specs.Prelude.{ℕ, zero, suc, nat_le, Bool, true, ◌&&◌, List, [], codes, Option, Some, None, Result, if◌then◌else◌}
use Rattle.std.specs.Option.{option_and_then, option_map}
use Rattle.std.specs.declared.result.Result.TheVariants.{Ok, Err}
use Rattle.wef_base.specs.Names.{same, subscription_name}
use Rattle.wef_base.specs.declared.names.ValueFault.{ValueFault}
use Rattle.wef_base.specs.declared.names.ValueFault.TheVariants.{TooLarge}
use Rattle.wef_base.specs.declared.numbers.TheConstants.{MAX}
use Rattle.wef_base.specs.declared.tree.Element.{Element}
use Rattle.wef_elements.specs.Children.{first_called}
use Rattle.wef_elements.specs.Texts.{said_in, text_inside}
use Rattle.wef_elements.specs.Values.{number_said, value_of}
use Rattle.wef_eventing.specs.declared.subscriptions.SubKind.{SubKind}
use Rattle.wef_eventing.specs.declared.subscriptions.SubKind.TheVariants.{BySource, ByCollector}
use Rattle.wef_times.specs.Durations.{duration_in}
use Rattle.wef_documents.specs.Steps.{and_then, needed}
use Rattle.wef_documents.specs.declared.children.TheConstants.{SPACE}
use Rattle.wef_documents.specs.declared.faults.DocumentFault.{DocumentFault}
use Rattle.wef_documents.specs.declared.faults.DocumentFault.TheVariants.{BadDocument}
use Rattle.wef_documents.specs.declared.faults.Part.{Part}
use Rattle.wef_documents.specs.declared.faults.Part.TheVariants as the
use Rattle.wef_documents.specs.declared.limits.Limits.{Limits}

-- the namespace of Windows' subscription documents
unfoldable pub space : List ℕ
space = SPACE.now

-- the first child of this name
abbrev pub child : List ℕ → Element → Option Element
child name e = first_called space name e.children

-- the first child of this name, where the element is there
abbrev pub inside : List ℕ → Option Element → Option Element
inside name parent = option_and_then (child name) parent

-- the value of an attribute without a namespace, where the element is there and has it
abbrev pub attribute : List ℕ → Option Element → Option (List ℕ)
attribute name e = option_and_then (λ (e : Element). value_of [] name e.attributes) e

-- ---- the name, the kind and two texts that may be absent

-- its name
abbrev pub name_in : Element → Result (List ℕ) DocumentFault
name_in root = needed (BadDocument the.SubscriptionId) (option_and_then (λ e. subscription_name (text_inside e)) (child (codes "SubscriptionId") root))

-- who begins it
abbrev pub kind_said : List ℕ → Option SubKind
kind_said text = if same text (codes "SourceInitiated") then Some BySource else (if same text (codes "CollectorInitiated") then Some ByCollector else None)

abbrev pub kind_in : Element → Result SubKind DocumentFault
kind_in root = needed (BadDocument the.SubscriptionType) (option_and_then (λ e. kind_said (said_in e)) (child (codes "SubscriptionType") root))

-- whether a text is absent, or this one
abbrev pub is_absent_or : List ℕ → Option (List ℕ) → Bool
is_absent_or text None = true
is_absent_or text (Some said) = same said text

-- a subscription that isn't enabled is refused
abbrev pub is_enabled : Element → Bool
is_enabled root = is_absent_or (codes "true") (option_map said_in (child (codes "Enabled") root))

-- the sources push their events; Windows' word for batches
abbrev pub is_pushed : Element → Bool
is_pushed root = is_absent_or (codes "Push") (attribute (codes "Mode") (child (codes "Delivery") root))

-- ---- numbers

-- a number within bounds
abbrev pub between : ℕ → ℕ → ℕ → Option ℕ
between least greatest n = if nat_le least n && nat_le n greatest then Some n else None

-- the number that a part says, which must be within bounds; what is usual where it isn't there
abbrev pub number_in : Part → ℕ → ℕ → ℕ → Option (List ℕ) → Result ℕ DocumentFault
number_in part usual least greatest None = Ok usual
number_in part usual least greatest (Some text) = needed (BadDocument part) (option_and_then (between least greatest) (number_said text))

-- how many items a batch holds
abbrev pub items_in : Element → Result ℕ DocumentFault
items_in root = number_in the.MaxItems 20 1 10_000 (option_map text_inside (inside (codes "MaxItems") (inside (codes "Batching") (child (codes "Delivery") root))))

-- how long a source may be silent, in milliseconds; 15 minutes where it isn't said
abbrev pub heartbeat_in : Element → Result ℕ DocumentFault
heartbeat_in root = number_in the.Heartbeat 900_000 1 86_400_000 (attribute (codes "Interval") (inside (codes "Heartbeat") (inside (codes "PushSettings") (child (codes "Delivery") root))))

-- how many bytes a batch holds; an element of this project's
abbrev pub bytes_in : Element → Result ℕ DocumentFault
bytes_in root = number_in the.MaxEnvelopeSize 512_000 8_192 4_194_304 (option_map text_inside (child (codes "MaxEnvelopeSize") root))

-- its version; an element of this project's
abbrev pub version_in : Element → Result ℕ DocumentFault
version_in root = number_in the.Version 1 1 MAX (option_map text_inside (child (codes "Version") root))

-- ---- the expiry

-- an hour
abbrev pub usual_expiry : ℕ
usual_expiry = 3_600_000

-- A duration above 0, which must be within the limit of durations. Whatever else is said there, as the date at which Windows
-- stops, is passed over.
abbrev pub expires_by : Result ℕ ValueFault → Result ℕ DocumentFault
expires_by (Ok zero) = Ok usual_expiry
expires_by (Ok (suc ms)) = Ok (suc ms)
expires_by (Err TooLarge) = Err (BadDocument the.Expires)
expires_by (Err fault) = Ok usual_expiry

-- how long it holds without a renewal, in milliseconds
abbrev pub expires_said : Option (List ℕ) → Result ℕ DocumentFault
expires_said None = Ok usual_expiry
expires_said (Some text) = expires_by (duration_in text)

abbrev pub expires_in : Element → Result ℕ DocumentFault
expires_in root = expires_said (option_map text_inside (child (codes "Expires") root))

-- ---- all of these, in the order in which they are judged

abbrev pub limits_in : Element → Result Limits DocumentFault
limits_in root =
    and_then (items_in root) (λ max_items.
    and_then (heartbeat_in root) (λ heartbeat.
    and_then (bytes_in root) (λ max_bytes.
    and_then (expires_in root) (λ expires.
    Ok (record { max_items = max_items; heartbeat = heartbeat; max_bytes = max_bytes; expires = expires })))))
