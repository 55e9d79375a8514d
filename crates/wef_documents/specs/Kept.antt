-- Subscriptions as they are kept, each by its document under its name.
use Rattle.std.specs.Prelude.{ℕ, List, Option, Some, None, if◌then◌else◌}
use Rattle.std.specs.Option.{option_and_then}
use Rattle.wef_base.specs.Names.{same}
use Rattle.wef_eventing.specs.declared.subscriptions.Subscription.{Subscription}
use Rattle.wef_documents.specs.Bytes.{document_in}

-- the subscription, where it has this name
abbrev pub of_name : List ℕ → Subscription → Option Subscription
of_name name s = if same s.name name then Some s else None

-- the subscription that a text keeps under a name: the text is its document
unfoldable pub read_kept : List ℕ → List ℕ → Option Subscription
read_kept name body = option_and_then (of_name name) (document_in body)
