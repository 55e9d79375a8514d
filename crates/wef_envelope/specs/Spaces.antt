-- The namespaces of messages.
use Rattle.std.specs.Prelude.{◌≡◌, ℕ, List, [], ◌∷◌, codes}
use Rattle.wef_xml.specs.Prefixes.{nine}
use Rattle.wef_xml.specs.declared.messages.TheConstants.{SOAP, ADDRESSING, EVENTING, ENUMERATION, MANAGEMENT, WINDOWS, SUBSCRIPTION, MACHINE, PROFILE}

unfoldable pub soap : List ℕ
soap = SOAP.now

unfoldable pub addressing : List ℕ
addressing = ADDRESSING.now

unfoldable pub eventing : List ℕ
eventing = EVENTING.now

unfoldable pub enumeration : List ℕ
enumeration = ENUMERATION.now

unfoldable pub management : List ℕ
management = MANAGEMENT.now

unfoldable pub windows : List ℕ
windows = WINDOWS.now

unfoldable pub subscription : List ℕ
subscription = SUBSCRIPTION.now

unfoldable pub machine : List ℕ
machine = MACHINE.now

unfoldable pub profile : List ℕ
profile = PROFILE.now

-- The nine prefixes that a written message declares stand for these.
abbrev pub HavePrefixes : Type 0
HavePrefixes =
    nine ≡
    record { prefix = codes "s"; space = soap } ∷
    record { prefix = codes "a"; space = addressing } ∷
    record { prefix = codes "e"; space = eventing } ∷
    record { prefix = codes "n"; space = enumeration } ∷
    record { prefix = codes "w"; space = management } ∷
    record { prefix = codes "p"; space = windows } ∷
    record { prefix = codes "m"; space = subscription } ∷
    record { prefix = codes "i"; space = machine } ∷
    record { prefix = codes "u"; space = profile } ∷ []
