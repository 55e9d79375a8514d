-- How a run ends: the status and the message of each ending; and what is told of a stream over a run.
use Rattle.std.specs.Prelude.{◌≡◌, ◌⊎◌, ℕ, Bool, true, false, List, [], ◌∷◌, ◌++◌, Option, codes}
use Rattle.std.specs.Fmt.{decimal}
use Rattle.std.specs.Io.KnownBytes.{Appends, Keeps}
use Rattle.wef_base.specs.Counts.{Rose}
use Rattle.wef_commands.specs.Streams.{WritesPart}
use Rattle.wef_documents.specs.declared.faults.Part.{Part}
use Rattle.wef_documents.specs.declared.faults.Part.TheVariants as part
use Rattle.wef_lines.specs.Printed.{name_line}
use Rattle.wef_commands.specs.declared.ending.Ending.{Ending}
use Rattle.wef_commands.specs.declared.ending.Ending.TheVariants.{Done, BadCommand, BadLine, TooLong, BadPlace, BadElement, InputFailed, OutputFailed, ListeningFailed, LinkFailed, NoMemory, StoreFailed, Unknown, Already, Exists, TooMany, Full, Spent}

abbrev pub status_of : Ending → ℕ
status_of Done = 0
status_of BadCommand = 2
status_of (BadLine k) = 3
status_of TooLong = 3
status_of (BadPlace k) = 3
status_of (BadElement part) = 3
status_of StoreFailed = 4
status_of InputFailed = 5
status_of OutputFailed = 5
status_of ListeningFailed = 5
status_of LinkFailed = 5
status_of NoMemory = 6
status_of (Unknown u) = 7
status_of (Already u) = 7
status_of (Exists u) = 8
status_of TooMany = 8
status_of Full = 8
status_of Spent = 8

-- what it is that isn't understood
unfoldable pub not_understood : List ℕ → List ℕ → List ℕ
not_understood word what = word ++ what ++ codes ": not understood" ++ 10 ∷ []

-- a part of a subscription document by its local name
unfoldable pub part_name : Part → List ℕ
part_name part.Subscription = codes "Subscription"
part_name part.SubscriptionId = codes "SubscriptionId"
part_name part.SubscriptionType = codes "SubscriptionType"
part_name part.Enabled = codes "Enabled"
part_name part.Delivery = codes "Delivery"
part_name part.MaxItems = codes "MaxItems"
part_name part.Heartbeat = codes "Heartbeat"
part_name part.MaxEnvelopeSize = codes "MaxEnvelopeSize"
part_name part.Expires = codes "Expires"
part_name part.Query = codes "Query"
part_name part.Address = codes "Address"
part_name part.Version = codes "Version"

-- the line that is written to the stream of messages
unfoldable pub message_of : Ending → List ℕ
message_of Done = []
message_of BadCommand = codes "usage: wef COMMAND" ++ 10 ∷ []
message_of (BadLine k) = not_understood (codes "line ") (decimal k)
message_of TooLong = codes "schedule too long" ++ 10 ∷ []
message_of (BadPlace k) = not_understood (codes "place ") (decimal k)
message_of (BadElement part) = not_understood (codes "element ") (part_name part)
message_of StoreFailed = codes "store failed" ++ 10 ∷ []
message_of InputFailed = codes "input failed" ++ 10 ∷ []
message_of OutputFailed = codes "output failed" ++ 10 ∷ []
message_of ListeningFailed = codes "listening failed" ++ 10 ∷ []
message_of LinkFailed = codes "link failed" ++ 10 ∷ []
message_of NoMemory = codes "no memory" ++ 10 ∷ []
message_of (Unknown u) = name_line (codes "unknown") u
message_of (Already u) = name_line (codes "already") u
message_of (Exists u) = name_line (codes "exists") u
message_of TooMany = codes "too many" ++ 10 ∷ []
message_of Full = codes "full" ++ 10 ∷ []
message_of Spent = codes "spent" ++ 10 ∷ []

-- whether its message is made in memory
abbrev pub is_made : Ending → Bool
is_made (BadLine k) = true
is_made (BadPlace k) = true
is_made (BadElement part) = true
is_made (Unknown u) = true
is_made (Already u) = true
is_made (Exists u) = true
is_made _ = false

-- One object of the outside over a call: its bytes before and after it, where they are told, and its counts of faults.
pub record Told : Type 0 where
  pub before : Option (List ℕ)
  pub after : Option (List ℕ)
  pub faults_before : ℕ
  pub faults_after : ℕ

-- that of an object, by what is told of its bytes and its faults, and how it was and is
abbrev pub told_of : {S : Type 0} → (S → Option (List ℕ)) → (S → ℕ) → S → S → Told
told_of bytes faults old new = record { before = bytes old; after = bytes new; faults_before = faults old; faults_after = faults new }

-- The object's count of faults rose.
abbrev pub HasFailed : Told → Type 0
HasFailed told = Rose told.faults_before told.faults_after

-- Nothing was written.
abbrev pub IsUnwritten : Told → Type 0
IsUnwritten out = Keeps out.before out.after

-- The text was written; or the object failed, and a part of the text from its beginning was.
abbrev pub WroteText : Told → List ℕ → Type 0
WroteText object text = Appends object.before object.after text ⊎ (HasFailed object × WritesPart object.before object.after text)

-- The message of an ending was written, as far as the stream of messages took it.
abbrev pub WroteMessage : Ending → Told → Type 0
WroteMessage ending err = WroteText err (message_of ending)

-- The second ending is told for the first: it is the same. In place of one whose message is made in memory, want of memory may be
-- told.
abbrev pub IsToldAs : Ending → Ending → Type 0
IsToldAs ending told = (told ≡ ending) ⊎ ((is_made ending ≡ true) × (told ≡ NoMemory))
