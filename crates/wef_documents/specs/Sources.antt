-- The sources that a collector subscribes at.
use Rattle.std.specs.Prelude.{ℕ, Bool, List, [], ◌∷◌, ◌++◌, codes, Option, Some, None, Result, if◌then◌else◌}
use Rattle.std.specs.List.{list_any}
use Rattle.std.specs.declared.result.Result.TheVariants.{Ok, Err}
use Rattle.wef_base.specs.Names.{same}
use Rattle.wef_base.specs.declared.tree.Element.{Element}
use Rattle.wef_base.specs.declared.tree.Node.{Node}
use Rattle.wef_elements.specs.Children.{elements_in, is_called}
use Rattle.wef_elements.specs.Texts.{said_in}
use Rattle.wef_eventing.specs.declared.subscriptions.SourceAt.{SourceAt}
use Rattle.wef_eventing.specs.declared.subscriptions.SubKind.{SubKind}
use Rattle.wef_eventing.specs.declared.subscriptions.SubKind.TheVariants.{BySource, ByCollector}
use Rattle.wef_documents.specs.Addresses.{source_of}
use Rattle.wef_documents.specs.Steps.{and_then, needed}
use Rattle.wef_documents.specs.Values.{child, space}
use Rattle.wef_documents.specs.declared.faults.DocumentFault.{DocumentFault}
use Rattle.wef_documents.specs.declared.faults.DocumentFault.TheVariants.{BadDocument}
use Rattle.wef_documents.specs.declared.faults.Part.TheVariants as the

-- the element Address of an element EventSource; other elements, and those without an address, are passed over
abbrev pub address_at : Element → Option Element
address_at e = if is_called space (codes "EventSource") e then child (codes "Address") e else None

-- whether one of some sources has a name
abbrev pub has_source : List ℕ → List SourceAt → Bool
has_source name sources = list_any (λ (s : SourceAt). same name s.name) sources

-- a source behind others. Of two of one name the first stands.
abbrev pub with_source : List SourceAt → SourceAt → List SourceAt
with_source sources s = if has_source s.name sources then sources else sources ++ s ∷ []

-- sources with the one at an address, which must be good
abbrev pub with_address : List SourceAt → Option Element → Result (List SourceAt) DocumentFault
with_address sources None = Ok sources
with_address sources (Some address) = and_then (needed (BadDocument the.Address) (source_of (said_in address))) (λ s. Ok (with_source sources s))

-- sources with those that elements say, in order
abbrev pub sources_from : List SourceAt → List Element → Result (List SourceAt) DocumentFault
sources_from sources [] = Ok sources
sources_from sources (e ∷ es) = and_then (with_address sources (address_at e)) (λ more. sources_from more es)

-- the nodes in an element, where it is there
abbrev pub nodes_of : Option Element → List Node
nodes_of None = []
nodes_of (Some e) = e.children

-- there must be one
abbrev pub some_source : List SourceAt → Result (List SourceAt) DocumentFault
some_source [] = Err (BadDocument the.Address)
some_source (s ∷ sources) = Ok (s ∷ sources)

-- the sources in the element EventSources
abbrev pub sources_in : Element → Result (List SourceAt) DocumentFault
sources_in root = and_then (sources_from [] (elements_in (nodes_of (child (codes "EventSources") root)))) (λ sources. some_source sources)

-- those of a subscription of this kind; where the sources begin, none is named
abbrev pub sources_of : SubKind → Element → Result (List SourceAt) DocumentFault
sources_of BySource root = Ok []
sources_of ByCollector root = sources_in root
