-- What the ending of a run says of the words, of what was read and written, of the connections, and of the store.
use Rattle.std.specs.Prelude.{◌≡◌, ℕ, ◌⊎◌, List, Option, Some, None}
use Rattle.std.specs.Io.KnownBytes.{Keeps}
use Rattle.wef_keeper.specs.Keeping.{Store}
use Rattle.wef_ports.specs.Telling as ports
use Rattle.wef_commands.specs.Adding.{AddEnds}
use Rattle.wef_commands.specs.Calling.{IsUndone}
use Rattle.wef_commands.specs.Checking.{CheckEnds}
use Rattle.wef_commands.specs.Endings.{IsUnwritten, Told}
use Rattle.wef_commands.specs.Listing.{ListEnds}
use Rattle.wef_commands.specs.Removing.{RemoveEnds}
use Rattle.wef_commands.specs.Writing.{WriteEnds}
use Rattle.wef_commands.specs.Showing.{EventsEnds, ShowEnds}
use Rattle.wef_commands.specs.Statuses.{StatusEnds}
use Rattle.wef_commands.specs.declared.ending.Ending.{Ending}
use Rattle.wef_commands.specs.declared.ending.Ending.TheVariants as ends
use Rattle.wef_running.specs.Collecting.{CollectEnds}
use Rattle.wef_running.specs.Forwarding.{ForwardEnds}
use Rattle.wef_serving.specs.Serving.{IsMoment}
use Rattle.wef_subscribing.specs.Requesting.{RequestEnds}
use Rattle.wef_subscribing.specs.Serving.{ServeEnds}
use Rattle.wef_cli.specs.Making.{MadeEnds}
use Rattle.wef_cli.specs.Replaying.{ReplayEnds}
use Rattle.wef_command_line.specs.declared.command.Command.{Command}
use Rattle.wef_command_line.specs.declared.command.Command.TheVariants as the

-- What is told of the connections, before a run and after it, and the moment of the clock: the front takes connections, and the
-- link makes them.
pub record Peers : Type 0 where
  pub front_before : ports.Told
  pub front_after : ports.Told
  pub link_before : ports.Told
  pub link_after : ports.Told
  pub moment : Option ℕ

-- No connection was taken or made.
abbrev pub AreUnused : Peers → Type 0
AreUnused peers = (peers.front_after ≡ peers.front_before) × (peers.link_after ≡ peers.link_before)

-- the words are no command line, or memory was wanting to read them
abbrev pub IsNoCommand : Ending → Type 0
IsNoCommand ends.BadCommand = Unit {0}
IsNoCommand ends.NoMemory = Unit {0}
IsNoCommand _ = ⊥

-- There is no command, and nothing is done.
abbrev pub IsNotBegun : Ending → Told → Told → Peers → Store → Store → Type 0
IsNotBegun ending input out peers before now =
    IsNoCommand ending × Keeps input.before input.after × IsUnwritten out × (now ≡ before) × AreUnused peers

-- `status` at a moment of the clock, which is read once
abbrev pub StatusEndsAt : Option ℕ → List ℕ → Ending → Told → Store → Store → Type 0
StatusEndsAt clock u ending out before now = (moment : ℕ) × IsMoment clock moment × StatusEnds u moment ending out before now

-- `BadCommand` comes exactly where the words are no command line, and then nothing is read, written, connected or asked of the
-- store. The store is that of the keeper that is handed in before, and of the one that is handed back now.
abbrev pub RunEnds : Option Command → Ending → Told → Told → Peers → Store → Store → Type 0
RunEnds None ending input out peers before now = IsNotBegun ending input out peers before now
RunEnds (Some the.Replay) ending input out peers before now = ReplayEnds ending input out × (now ≡ before) × AreUnused peers
RunEnds (Some (the.Made seed size)) ending input out peers before now =
    Keeps input.before input.after × MadeEnds seed size ending out × (now ≡ before) × AreUnused peers
RunEnds (Some the.Add) ending input out peers before now = AddEnds ending input out before now × AreUnused peers
RunEnds (Some (the.Remove u)) ending input out peers before now = Keeps input.before input.after × RemoveEnds u ending out before now × AreUnused peers
RunEnds (Some the.List) ending input out peers before now =
    Keeps input.before input.after × (IsUndone ending out before now ⊎ ListEnds ending out before now) × AreUnused peers
RunEnds (Some the.Check) ending input out peers before now = CheckEnds ending input out × (now ≡ before) × AreUnused peers
RunEnds (Some (the.Collect address connections)) ending input out peers before now =
    Keeps input.before input.after × CollectEnds address connections ending out peers.moment peers.front_before peers.front_after before now × (peers.link_after ≡ peers.link_before)
RunEnds (Some the.Write) ending input out peers before now = WriteEnds ending input out before now × AreUnused peers
RunEnds (Some (the.Forward address source deliveries)) ending input out peers before now =
    Keeps input.before input.after
    × ((IsUndone ending out before now × (peers.link_after ≡ peers.link_before)) ⊎ ForwardEnds address source deliveries ending out peers.moment peers.link_before peers.link_after before now)
    × (peers.front_after ≡ peers.front_before)
RunEnds (Some (the.Request address requests)) ending input out peers before now =
    Keeps input.before input.after
    × ((IsUndone ending out before now × (peers.link_after ≡ peers.link_before)) ⊎ RequestEnds address requests ending out peers.moment peers.link_before peers.link_after before now)
    × (peers.front_after ≡ peers.front_before)
RunEnds (Some (the.Serve address source connections)) ending input out peers before now =
    Keeps input.before input.after × ServeEnds address connections ending out peers.moment peers.front_before peers.front_after peers.link_before peers.link_after before now
RunEnds (Some the.Show) ending input out peers before now =
    Keeps input.before input.after × (IsUndone ending out before now ⊎ ShowEnds ending out before now) × AreUnused peers
RunEnds (Some (the.Events u s c)) ending input out peers before now = Keeps input.before input.after × EventsEnds u s c ending out before now × AreUnused peers
RunEnds (Some (the.Status u)) ending input out peers before now =
    Keeps input.before input.after × (IsUndone ending out before now ⊎ StatusEndsAt peers.moment u ending out before now) × AreUnused peers
