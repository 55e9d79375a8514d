-- The headers that are known. They are told by namespace and local name, so their order and prefixes don't count.
use Rattle.std.specs.Prelude.{ℕ, ◌==◌, Bool, false, List, codes, Option, Some, None, if◌then◌else◌}
use Rattle.std.specs.List.{find}
use Rattle.wef_base.specs.Names.{same}
use Rattle.wef_base.specs.declared.tree.Element.{Element}
use Rattle.wef_elements.specs.Children.{is_called}
use Rattle.wef_envelope.specs.Spaces.{addressing, eventing, machine, management, windows}
use Rattle.wef_envelope.specs.declared.headers.Header.{Header}
use Rattle.wef_envelope.specs.declared.headers.Header.TheVariants as the
use Rattle.wef_envelope.specs.declared.headers.TheConstants.{NAMED}

unfoldable pub space_of : Header → List ℕ
space_of the.To = addressing
space_of the.Resource = management
space_of the.ReplyTo = addressing
space_of the.Action = addressing
space_of the.MessageId = addressing
space_of the.Relates = addressing
space_of the.Machine = machine
space_of the.MaxSize = management
space_of the.Identifier = eventing
space_of the.Bookmark = management
space_of the.AckRequested = management
space_of the.From = addressing
space_of the.FaultTo = addressing
space_of the.Locale = management
space_of the.OperationTimeout = management
space_of the.SelectorSet = management
space_of the.OptionSet = management
space_of the.Private = windows

unfoldable pub name_of : Header → List ℕ
name_of the.To = codes "To"
name_of the.Resource = codes "ResourceURI"
name_of the.ReplyTo = codes "ReplyTo"
name_of the.Action = codes "Action"
name_of the.MessageId = codes "MessageID"
name_of the.Relates = codes "RelatesTo"
name_of the.Machine = codes "MachineID"
name_of the.MaxSize = codes "MaxEnvelopeSize"
name_of the.Identifier = codes "Identifier"
name_of the.Bookmark = codes "Bookmark"
name_of the.AckRequested = codes "AckRequested"
name_of the.From = codes "From"
name_of the.FaultTo = codes "FaultTo"
name_of the.Locale = codes "Locale"
name_of the.OperationTimeout = codes "OperationTimeout"
name_of the.SelectorSet = codes "SelectorSet"
name_of the.OptionSet = codes "OptionSet"
name_of the.Private = codes ""

-- two headers are one where their numbers are
abbrev pub number_of : Header → ℕ
number_of the.To = 0
number_of the.Resource = 1
number_of the.ReplyTo = 2
number_of the.Action = 3
number_of the.MessageId = 4
number_of the.Relates = 5
number_of the.Machine = 6
number_of the.MaxSize = 7
number_of the.Identifier = 8
number_of the.Bookmark = 9
number_of the.AckRequested = 10
number_of the.From = 11
number_of the.FaultTo = 12
number_of the.Locale = 13
number_of the.OperationTimeout = 14
number_of the.SelectorSet = 15
number_of the.OptionSet = 16
number_of the.Private = 17

-- whether an element has the namespace and the local name of a header
abbrev pub is_of : Element → Header → Bool
is_of e header = is_called (space_of header) (name_of header) e

-- whether an element is of the namespace of Windows, all of whose headers are known
abbrev pub is_private : Element → Bool
is_private e = same windows e.space

-- the header that an element is; none where it isn't known
unfoldable pub header_of : Element → Option Header
header_of e = if is_private e then Some the.Private else find (is_of e) NAMED.now

abbrev pub is_header : Header → Option Header → Bool
is_header header None = false
is_header header (Some other) = number_of header == number_of other

-- the first header of a kind
abbrev pub first : Header → List Element → Option Element
first header headers = find (λ e. is_header header (header_of e)) headers
