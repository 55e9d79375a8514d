-- What the counts of faults say of the ends of `request` and `serve`.
use Rattle.std.specs.Prelude.{ℕ, suc, List, Option, map}
use Rattle.wef_base.specs.Counts.{Rose}
use Rattle.wef_commands.specs.Endings.{Told}
use Rattle.wef_commands.specs.declared.ending.Ending.TheVariants as ends
use Rattle.wef_keeper.specs.Keeping.{Store}
use Rattle.wef_ports.specs.Telling as ports
use Rattle.wef_running.specs.Collecting.{RoseBy, failed_among}
use Rattle.wef_serving.specs.declared.ends.ConnectionEnd.{ConnectionEnd}
use Rattle.wef_subscribing.specs.Requesting.{RequestEnds}
use Rattle.wef_subscribing.specs.Serving.{Listening, Round, ServeEnds, ServesAll}

-- They say that their link failed only where its count of faults rose in the run.
pub record FailedLinksAreCounted : Type 0 where
  pub request :
      (host : List ℕ) (count : ℕ) (out : Told) (clock : Option ℕ) (link link' : ports.Told) (before now : Store) →
      RequestEnds host count ends.LinkFailed out clock link link' before now → Rose link.faults link'.faults
  pub serve :
      (address : List ℕ) (count : ℕ) (out : Told) (clock : Option ℕ) (front front' link link' : ports.Told) (before now : Store) →
      ServeEnds address count ends.LinkFailed out clock front front' link link' before now → Rose link.faults link'.faults

-- how the connections of rounds ended
abbrev pub ends_of : List Round → List ConnectionEnd
ends_of rounds = map (λ (r : Round). r.end) rounds

-- Once it listens, `serve` says that its front failed only where the front's count of faults rose by more than the number of
-- connections that failed.
abbrev pub FailedFrontsAreCounted : Type 0
FailedFrontsAreCounted =
    (clock : Option ℕ) (told : List ℕ) (count : ℕ) (out : Told) (before now : Listening) (all : ServesAll clock told count ends.ListeningFailed out before now) →
    RoseBy (suc (failed_among (ends_of all.rounds))) before.front.faults now.front.faults
