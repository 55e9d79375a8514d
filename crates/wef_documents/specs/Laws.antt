-- What is written for a subscription is read as it, and is a good tree.
use Rattle.std.specs.Prelude.{◌≡◌, ℕ, ◌≤◌, Bool, true, ◌&&◌, not, List, [], ◌∷◌, ◌++◌, length, Some, ◌<◌}
use Rattle.std.specs.List.{AllByRecursion}
use Rattle.std.specs.Str.{IsUtf8, chars}
use Rattle.std.specs.declared.result.Result.TheVariants.{Ok}
use Rattle.wef_base.specs.Names.{source_name, subscription_name, trimmed}
use Rattle.wef_base.specs.declared.numbers.TheConstants.{MAX}
use Rattle.wef_eventing.specs.Kept.{HasKeptName}
use Rattle.wef_eventing.specs.Sending.{AreXmlQueries}
use Rattle.wef_eventing.specs.declared.subscriptions.SourceAt.{SourceAt}
use Rattle.wef_eventing.specs.declared.subscriptions.SubKind.{SubKind}
use Rattle.wef_eventing.specs.declared.subscriptions.SubKind.TheVariants.{BySource, ByCollector}
use Rattle.wef_eventing.specs.declared.subscriptions.Subscription.{Subscription}
use Rattle.wef_query.specs.Laws.{IsWritable}
use Rattle.wef_times.specs.declared.durations.TheConstants.{LIMIT}
use Rattle.wef_xml.specs.Good.{IsGoodTree, IsXmlText}
use Rattle.wef_documents.specs.Addresses.{has_port, machine_of}
use Rattle.wef_documents.specs.Bytes.{document_in}
use Rattle.wef_documents.specs.Reading.{subscription_in}
use Rattle.wef_documents.specs.Sources.{has_source}
use Rattle.wef_documents.specs.Written.{document_element, document_text}

-- a number within bounds
abbrev pub IsWithin : ℕ → ℕ → ℕ → Type 0
IsWithin least greatest n = (least ≤ n) × (n ≤ greatest)

-- A source that reads back: its address has a port and no spaces at its ends, and the name is the one of the machine there.
pub record IsPlainSource (s : SourceAt) : Type 0 where
  pub address : trimmed s.address ≡ s.address
  pub port : has_port (chars s.address) ≡ true
  pub name : source_name (machine_of s.address) ≡ Some s.name

-- no two sources have one name; some stand before all of these
abbrev pub differ_behind : List SourceAt → List SourceAt → Bool
differ_behind before [] = true
differ_behind before (s ∷ more) = not (has_source s.name before) && differ_behind (before ++ s ∷ []) more

-- the sources of a subscription of this kind: one or more where the collector begins, and else none
abbrev pub ArePlainSources : SubKind → List SourceAt → Type 0
ArePlainSources BySource sources = sources ≡ []
ArePlainSources ByCollector sources = (0 < length sources) × (differ_behind [] sources ≡ true) × AllByRecursion IsPlainSource sources

-- A subscription that reads back: its queries can be read again, its numbers are within their limits, and its sources are those
-- of their addresses.
pub record IsPlain (s : Subscription) : Type 0 where
  pub query : IsWritable s.query.items
  pub max_items : IsWithin 1 10_000 s.max_items
  pub max_bytes : IsWithin 8_192 4_194_304 s.max_bytes
  pub heartbeat : IsWithin 1 86_400_000 s.heartbeat
  pub expires : IsWithin 1 LIMIT s.expires
  pub sources : ArePlainSources s.kind s.sources
  pub version : IsWithin 1 MAX s.version

-- an address of what XML allows
abbrev pub HasXmlAddress : SourceAt → Type 0
HasXmlAddress s = IsXmlText s.address

-- A subscription whose texts hold characters that XML allows; names do so by themselves.
pub record HasXmlTexts (s : Subscription) : Type 0 where
  pub query : AreXmlQueries s.query.items
  pub sources : AllByRecursion HasXmlAddress s.sources

-- What the types of a subscription's names keep: they are UTF-8, and read back as themselves.
pub record HasKeptNames (s : Subscription) : Type 0 where
  pub utf8 : IsUtf8 s.name
  pub name : subscription_name s.name ≡ Some s.name
  pub query : AllByRecursion HasKeptName s.query.items

-- What is written for a subscription is read as it.
pub record WrittenIsRead : Type 0 where
  pub tree : (s : Subscription) → HasKeptNames s → IsPlain s → subscription_in (document_element s) ≡ Ok s
  pub text : (s : Subscription) → HasKeptNames s → HasXmlTexts s → IsPlain s → document_in (document_text s) ≡ Some s

-- It is a good tree.
abbrev pub WrittenIsGood : Type 0
WrittenIsGood = (s : Subscription) → HasKeptNames s → HasXmlTexts s → IsGoodTree (document_element s)
