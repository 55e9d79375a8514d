-- The namespaces of what batches and bookmarks are made of.
use Rattle.std.specs.Prelude.{ℕ, List}
use Rattle.wef_xml.specs.declared.messages.TheConstants.{MANAGEMENT, PROFILE}

unfoldable pub management : List ℕ
management = MANAGEMENT.now

unfoldable pub profile : List ℕ
profile = PROFILE.now
