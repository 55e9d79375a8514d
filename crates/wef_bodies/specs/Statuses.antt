-- Why a source ended a subscription, as texts (WS-Eventing, 3.5).
use Rattle.std.specs.Prelude.{ℕ, List, Option, Some, None, if◌then◌else◌}
use Rattle.wef_base.specs.Names.{same}
use Rattle.wef_eventing.specs.declared.subscriptions.EndStatus.{EndStatus}
use Rattle.wef_eventing.specs.declared.subscriptions.EndStatus.TheVariants as status
use Rattle.wef_bodies.specs.Spaces.{delivery_failure, source_canceling, source_shutting_down}

-- the text that says a status
abbrev pub status_text : EndStatus → List ℕ
status_text status.DeliveryFailure = delivery_failure
status_text status.SourceShuttingDown = source_shutting_down
status_text status.SourceCanceling = source_canceling

-- the status that a text says
abbrev pub status_of : List ℕ → Option EndStatus
status_of text =
    if same delivery_failure text then Some status.DeliveryFailure
    else (if same source_shutting_down text then Some status.SourceShuttingDown
    else (if same source_canceling text then Some status.SourceCanceling
    else None))
