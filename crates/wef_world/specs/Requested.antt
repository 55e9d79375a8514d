-- What becomes of a request that the collector has for a source, and of what it waits for.
use Rattle.std.specs.Option.{option_map}
use Rattle.std.specs.Prelude.{◌≡◌, ℕ, List, [], Option, Some, None, codes}
use Rattle.wef_collector.specs.Asking.{CanBeRequested}
use Rattle.wef_collector.specs.declared.asking.Request.{Request}
use Rattle.wef_lines.specs.Printed.{name_line}
use Rattle.wef_machine.specs.Leasing.{request_message, request_word}
use Rattle.wef_machine.specs.Printed.{collector_name, sent_line}
use Rattle.wef_machine.specs.States.{State, address_of, with_message}
use Rattle.wef_machine.specs.Steps.{closed_line}
use Rattle.wef_places.specs.declared.places.Used.{Used}
use Rattle.wef_places.specs.declared.places.Used.TheVariants.{Closed, Answered}
use Rattle.wef_requests.specs.Requests.{IsAsking, IsPlainRequest}

-- a world after the collector looked for its next request: it is sent, where something is due
abbrev pub with_requested : State → Used (Option Request) → State
with_requested state (Closed how) = state
with_requested state (Answered None) = state
with_requested state (Answered (Some r)) = with_message state (request_message r)

-- and what is printed, by the number that a message gets
abbrev pub requested_line : ℕ → Used (Option Request) → List ℕ
requested_line n (Closed how) = closed_line how
requested_line n (Answered None) = name_line (codes "nothing") collector_name
requested_line n (Answered (Some r)) = sent_line n (request_word r.body) r.source.name r.sub

-- its number, where it is sent
abbrev pub requested_number : ℕ → Used (Option Request) → Option ℕ
requested_number n (Closed how) = None
requested_number n (Answered due) = option_map (λ (r : Request). n) due

-- A request that can be sent: it can be written and read again, and goes to where a source of that name is found.
pub record CanBeSent (r : Request) : Type 0 where
  pub written : CanBeRequested r
  pub plain : IsPlainRequest r
  pub asks : IsAsking r.body
  pub address : r.source.address ≡ address_of r.source.name

-- so is the one that the collector has
abbrev pub CanBeSentAs : Used (Option Request) → Type 0
CanBeSentAs (Answered (Some r)) = CanBeSent r
CanBeSentAs _ = Unit {0}

-- what is printed of a collector that waits for no answer any longer
abbrev pub forgot_line : Used Unit → List ℕ
forgot_line (Closed how) = closed_line how
forgot_line (Answered done) = []
