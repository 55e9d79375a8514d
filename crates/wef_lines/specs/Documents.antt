-- What texts say that are documents: a list of queries, or an event.
use Rattle.std.specs.Prelude.{Bool, false, List, ℕ, Option, Some, None, Result}
use Rattle.std.specs.Option.{option_and_then}
use Rattle.std.specs.declared.result.Result.TheVariants.{Ok, Err}
use Rattle.wef_base.specs.declared.tree.Charset.TheVariants.{Utf8}
use Rattle.wef_event.specs.Events.{Event, event_of, event_or_none, is_found}
use Rattle.wef_query.specs.Reading.{query_in}
use Rattle.wef_query.specs.declared.QueryList.{QueryList}
use Rattle.wef_query.specs.declared.reading.QueryFault.{QueryFault}
use Rattle.wef_tree_reading.specs.Documents.{tree_of}

abbrev pub list_or_none : Result QueryList QueryFault → Option QueryList
list_or_none (Ok list) = Some list
list_or_none (Err fault) = None

-- the list of queries that a text says, where it says one
unfoldable pub list_in : List ℕ → Option QueryList
list_in text = option_and_then (λ root. list_or_none (query_in root)) (tree_of Utf8 text)

-- the event that a text says, where it says one; it has the number 0 where the text says none
unfoldable pub new_event_in : List ℕ → Option Event
new_event_in text = option_and_then (λ root. event_or_none (event_of false root)) (tree_of Utf8 text)

-- whether an event is the one that its text says
unfoldable pub is_new_event : Event → Bool
is_new_event event = is_found event (new_event_in event.text)
