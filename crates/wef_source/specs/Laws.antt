-- What is true of sources, whatever they hold.
use Rattle.std.specs.Prelude.{◌≡◌, IfSome}
use Rattle.std.specs.FinMap as map
use Rattle.wef_source.specs.Sessions.{acknowledged, settled}
use Rattle.wef_building.specs.declared.sessions.Outstanding.{Outstanding}
use Rattle.wef_building.specs.declared.sessions.Session.{Session}

-- A session whose heartbeat is acknowledged waits for nothing any more. All else of it stays, its positions too: what it waited for
-- has read no channel.
abbrev pub HeardBeatsMoveNothing : Type 0
HeardBeatsMoveNothing = (s : Session) → IfSome s.outstanding (λ (o : Outstanding). o.to ≡ map.empty) → acknowledged s ≡ settled s
