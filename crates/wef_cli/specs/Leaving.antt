-- What a run leaves of the rows that stood before it, whatever its ending: any rows that an opening may find after it.
use Rattle.std.specs.Prelude.{◌≡◌, ◌⊎◌, Option, Some, None}
use Rattle.wef_collector.specs.Calls.{add_effect, end_effect}
use Rattle.wef_eventing.specs.declared.subscriptions.Subscription.{Subscription}
use Rattle.wef_keeper.specs.Keeping.{IsLawful, MayFind, Store}
use Rattle.wef_keeper.specs.Rows.{Rows}
use Rattle.wef_commands.specs.Adding.{HasDocument}
use Rattle.wef_commands.specs.Endings.{Told}
use Rattle.wef_commands.specs.Laws.{AreWritten, CallsAtMost, Stand, StartsAtMost}
use Rattle.wef_commands.specs.declared.ending.Ending.{Ending}
use Rattle.wef_running.specs.ByRows.{CollectSays, ForwardSays}
use Rattle.wef_subscribing.specs.ByRows.{RequestSays, ServeSays}
use Rattle.wef_cli.specs.Runs.{Peers, RunEnds}
use Rattle.wef_command_line.specs.declared.command.Command.{Command}
use Rattle.wef_command_line.specs.declared.command.Command.TheVariants as the

-- What a command that ended so has done to the rows that stood before it, and to those that an opening finds after it.
abbrev pub Says : Command → Ending → Told → Told → Peers → Store → Store → Rows → Rows → Type 0
Says the.Replay ending input out peers before now found last = last ≡ found
Says (the.Made seed size) ending input out peers before now found last = last ≡ found
Says the.Check ending input out peers before now found last = last ≡ found
Says the.Add ending input out peers before now found last = (last ≡ found) ⊎ ((s : Subscription) × HasDocument s input × CallsAtMost (λ rows. add_effect rows s) found last)
Says (the.Remove u) ending input out peers before now found last = CallsAtMost (λ rows. end_effect rows u) found last
Says the.List ending input out peers before now found last = StartsAtMost found last
Says the.Show ending input out peers before now found last = StartsAtMost found last
Says (the.Events u s c) ending input out peers before now found last = StartsAtMost found last
Says (the.Status u) ending input out peers before now found last = StartsAtMost found last
Says the.Write ending input out peers before now found last = (last ≡ found) ⊎ AreWritten input found last
Says (the.Collect address count) ending input out peers before now found last =
    CollectSays address count ending out peers.moment peers.front_before peers.front_after before now found last
Says (the.Forward address s count) ending input out peers before now found last =
    (last ≡ found) ⊎ ForwardSays address s count ending out peers.moment peers.link_before peers.link_after now found last
Says (the.Request address count) ending input out peers before now found last =
    (last ≡ found) ⊎ RequestSays address count ending out peers.moment peers.link_before peers.link_after found last
Says (the.Serve address s count) ending input out peers before now found last =
    ServeSays address count ending out peers.moment peers.front_before peers.front_after peers.link_before peers.link_after now found last

-- of words that are no command line nothing is done
abbrev pub SaysOf : Option Command → Ending → Told → Told → Peers → Store → Store → Rows → Rows → Type 0
SaysOf None ending input out peers before now found last = last ≡ found
SaysOf (Some command) ending input out peers before now found last = Says command ending input out peers before now found last

-- so it is of every command, where the store tells the rows before it and what an opening may find after it
abbrev pub RunsLeave : Type 0
RunsLeave =
    (command : Option Command) (ending : Ending) (input out : Told) (peers : Peers) (before now : Store) → RunEnds command ending input out peers before now → IsLawful now
    → (found last : Rows) → Stand before found → MayFind now last → SaysOf command ending input out peers before now found last
