-- Addresses in a Subscribe.
use Rattle.std.specs.Prelude.{ℕ, Bool, List, codes, Option, Some, None, Result, if◌then◌else◌}
use Rattle.std.specs.Option.{option_and_then, option_map, option_or}
use Rattle.std.specs.declared.result.Result.TheVariants.{Ok}
use Rattle.wef_base.specs.declared.tree.Element.{Element}
use Rattle.wef_elements.specs.Children.{first_called}
use Rattle.wef_elements.specs.Texts.{said_in}
use Rattle.wef_envelope.specs.Envelopes.{address_in}
use Rattle.wef_envelope.specs.Spaces.{addressing, eventing}
use Rattle.wef_eventing.specs.Addresses.{is_address, is_delivery}
use Rattle.wef_subscribes.specs.Steps.{needed}
use Rattle.wef_subscribes.specs.declared.faults.BodyFault.{BodyFault}
use Rattle.wef_subscribes.specs.declared.faults.BodyFault.TheVariants.{BadBody}
use Rattle.wef_subscribes.specs.declared.faults.Part.TheVariants as the

-- a text that passes a test
abbrev pub passing : (List ℕ → Bool) → List ℕ → Option (List ℕ)
passing test text = if test text then Some text else None

-- where events go: the address in NotifyTo, which leads to a subscription
abbrev pub target_in : Element → Result (List ℕ) BodyFault
target_in notify = needed (BadBody the.NotifyTo) (option_and_then (passing is_delivery) (address_in notify))

-- where the end is told: the address in EndTo, if there is one
abbrev pub end_in : Option Element → Result (Option (List ℕ)) BodyFault
end_in None = Ok None
end_in (Some e) = needed (BadBody the.EndTo) (option_map (λ text. Some text) (option_and_then (passing is_address) (address_in e)))

-- what the Identifier among reference properties or parameters says
abbrev pub identifier_among : List ℕ → Element → Option (List ℕ)
identifier_among name reference = option_map said_in (option_and_then (λ (e : Element). first_called eventing (codes "Identifier") e.children) (first_called addressing name reference.children))

-- the identifier that a reference has messages bear: that of the properties, or where none is there that of the parameters
abbrev pub identifier_in : Element → Option (List ℕ)
identifier_in reference = option_or (identifier_among (codes "ReferenceProperties") reference) (identifier_among (codes "ReferenceParameters") reference)
