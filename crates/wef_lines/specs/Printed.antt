-- What the lines of names and of events print.
use Rattle.std.specs.Prelude.{ℕ, List, [], ◌∷◌, ◌++◌, codes}
use Rattle.std.specs.Fmt.{decimal}
use Rattle.std.specs.List.{flat_map}
use Rattle.wef_base.specs.Printed.{printed}
use Rattle.wef_event.specs.Events.{Event}

-- a word and a name
unfoldable pub name_line : List ℕ → List ℕ → List ℕ
name_line word name = word ++ 32 ∷ printed name ++ 10 ∷ []

-- `event N TEXT`
unfoldable pub event_line : Event → List ℕ
event_line event = codes "event " ++ decimal event.number ++ 32 ∷ event.text ++ 10 ∷ []

-- events, and at last `end`
unfoldable pub events_text : List Event → List ℕ
events_text events = flat_map event_line events ++ codes "end" ++ 10 ∷ []
