-- What is written for a Subscribe is read as it, and is a good tree.
use Rattle.std.specs.Prelude.{◌≡◌, ℕ, suc, ◌≤◌, true, List, [], ◌∷◌, IfSome}
use Rattle.std.specs.List.{AllByRecursion}
use Rattle.std.specs.Str.{IsUtf8}
use Rattle.std.specs.declared.result.Result.TheVariants.{Ok}
use Rattle.wef_bookmark.specs.Entries.{AreEntries}
use Rattle.wef_bookmark.specs.Nodes.{AreTexts}
use Rattle.wef_envelope.specs.Laws.{IsTrimmed}
use Rattle.wef_eventing.specs.Addresses.{is_address, is_delivery}
use Rattle.wef_eventing.specs.Kept.{HasKeptName}
use Rattle.wef_eventing.specs.Sending.{HasXmlTexts}
use Rattle.wef_eventing.specs.declared.offers.Subscribe.{Subscribe}
use Rattle.wef_query.specs.Laws.{IsWritable}
use Rattle.wef_times.specs.declared.durations.TheConstants.{LIMIT}
use Rattle.wef_xml.specs.Good.{IsGoodElement}
use Rattle.wef_subscribes.specs.Subscribes.{subscribe_in}
use Rattle.wef_subscribes.specs.Written.{subscribe_element}

-- a text that is an address
abbrev pub IsAddress : List ℕ → Type 0
IsAddress text = is_address text ≡ true

-- a number within bounds
abbrev pub IsWithin : ℕ → ℕ → ℕ → Type 0
IsWithin least greatest n = (least ≤ n) × (n ≤ greatest)

-- A wish that reads back: where events go leads to a subscription, texts are without spaces at both ends, the queries can be
-- read again, the limits are within their bounds, and the bookmark has numbers of records.
pub record IsPlainSubscribe (s : Subscribe) : Type 0 where
  pub notify_to : is_delivery s.notify_to ≡ true
  pub end_to : IfSome s.end_to IsAddress
  pub identifier : IfSome s.identifier IsTrimmed
  pub query : IsWritable s.query.items
  pub max_items : IsWithin 1 10_000 s.max_items
  pub max_bytes : IsWithin 8_192 4_194_304 s.max_bytes
  pub heartbeat : IsWithin 1 86_400_000 s.heartbeat
  pub expires : IfSome s.expires (IsWithin 1 LIMIT)
  pub from : AreEntries s.from

-- What is written for a wish is read as it.
abbrev pub WrittenIsRead : Type 0
WrittenIsRead = (now : ℕ) (s : Subscribe) → IsPlainSubscribe s → subscribe_in now (subscribe_element s ∷ []) ≡ Ok s

-- an entry of a bookmark whose channel's name is UTF-8
abbrev pub IsTextEntry : List ℕ × ℕ → Type 0
IsTextEntry entry = IsUtf8 entry.0

-- What is kept by the types of a wish's parts: its channels have names, and so do the entries of its bookmark.
pub record IsKeptSubscribe (s : Subscribe) : Type 0 where
  pub query : AllByRecursion HasKeptName s.query.items
  pub entries : AreEntries s.from
  pub names : AreTexts s.from

-- a wish whose texts can stand in a message
abbrev pub CanStand : Subscribe → Type 0
CanStand s = HasXmlTexts s × IsKeptSubscribe s

-- What is written for such a wish is a good tree of five elements in one another at most.
abbrev pub WrittenIsGood : Type 0
WrittenIsGood = (s : Subscribe) (room : ℕ) → CanStand s → IsGoodElement (subscribe_element s) (suc (suc (suc (suc (suc room)))))
