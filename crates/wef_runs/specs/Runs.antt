-- Runs of commands over one store, one after the other: which deeds a run did, by the account of what it left.
use Rattle.std.proofs.Common.{inl, inr}
use Rattle.std.specs.Prelude.{◌≡◌, ◌⊎◌, ℕ, List, [], ◌∷◌, ◌++◌, Option, Some, None, Result, Ok, Err}
use Rattle.wef_cli.specs.Leaving.{Says}
use Rattle.wef_cli.specs.Runs.{Peers}
use Rattle.wef_command_line.specs.declared.command.Command.{Command}
use Rattle.wef_command_line.specs.declared.command.Command.TheVariants as the
use Rattle.wef_collector.specs.Boots.{memory_begun}
use Rattle.wef_collector.specs.Memories.{waiting_for}
use Rattle.wef_collector.specs.declared.asking.Request.{Request}
use Rattle.wef_collector.specs.declared.memories.Memory.{Memory}
use Rattle.wef_collector_serving.specs.ByRows.{AnswersBy, Kept, LeavesBy}
use Rattle.wef_commands.specs.Endings.{Told}
use Rattle.wef_commands.specs.Laws.{started}
use Rattle.wef_commands.specs.declared.ending.Ending.{Ending}
use Rattle.wef_commands.specs.declared.ending.Ending.TheVariants as ends
use Rattle.wef_front_collector.specs.HeardResponses as responses
use Rattle.wef_front_collector.specs.HeardResponses.{response_told}
use Rattle.wef_keeper.specs.Keeping.{Store}
use Rattle.wef_keeper.specs.Rows.{Rows}
use Rattle.wef_machine.specs.Collecting.{reply_id}
use Rattle.wef_ports.specs.Telling as ports
use Rattle.wef_requesting.specs.ByRows as requesting
use Rattle.wef_requesting.specs.ByRows.{OutcomesOver, RequestsOver, SendsOver}
use Rattle.wef_requesting.specs.declared.requesting.Outcome.{Outcome}
use Rattle.wef_requesting.specs.declared.requesting.RequestFault.{RequestFault}
use Rattle.wef_requesting.specs.declared.requesting.RequestFault.TheVariants as faults
use Rattle.wef_requesting.specs.declared.requesting.Sent.{Sent}
use Rattle.wef_running.specs.ByRows.{AreServedBy, CollectSays, begun}
use Rattle.wef_running.specs.ByRows.{none_by, one_by}
use Rattle.wef_running.specs.Collecting.{ListeningEndsBy, ServingEndsBy, TellingEndsBy}
use Rattle.wef_connections.specs.Opening.{with_address}
use Rattle.wef_running.specs.Collecting.{listening_line}
use Rattle.wef_serving.specs.Serving.{AnswersAt, LeavesAt, Responds, RespondsInTurn}
use Rattle.wef_serving.specs.Serving.{to_none, to_one_more}
use Rattle.wef_serving.specs.declared.ends.ConnectionEnd.{ConnectionEnd}
use Rattle.wef_subscribing.specs.ByRows.{IsAsking, IsRequestedOver, RequestSays}
use Rattle.wef_subscribing.specs.Requesting.{AreRequestedBy, EndsAtBy, StopsBy}
use Rattle.wef_runs.specs.Deeds.{AreDone, Deed, IsCut}
use Rattle.wef_runs.specs.Deeds.{Starts, Adds, Ends, Answers, Leaves, Requests, Takes}

-- ---- the deeds of `collect`

module _ (final : Rows) (clock : Option ℕ) where
  -- of a request: none where it wasn't heard
  abbrev pub deeds_of_request : {k l : Kept} → Responds (AnswersAt clock (AnswersBy final)) (LeavesAt clock LeavesBy) k l → List Deed
  deeds_of_request (request, inl (moment, told, inl same)) = []
  deeds_of_request (request, inl (moment, told, inr (heard, hears, left))) = Leaves heard moment ∷ []
  deeds_of_request {k} (request, inr (answer, (moment, told, (heard, hears, is)))) = Answers request.host heard moment (reply_id k.memory) is.said ∷ []

  abbrev pub deeds_in_turn : {k l : Kept} → RespondsInTurn (AnswersAt clock (AnswersBy final)) (LeavesAt clock LeavesBy) k l → List Deed
  deeds_in_turn (to_none k) = []
  deeds_in_turn (to_one_more k l m before last) = deeds_in_turn before ++ deeds_of_request last

  -- of connections
  abbrev pub deeds_of_connections : {f g : ports.Told} {k l : Kept} {es : List ConnectionEnd} → AreServedBy final clock f k es g l → List Deed
  deeds_of_connections (none_by f k) = []
  deeds_of_connections (one_by f g h k l m e es is more) = deeds_in_turn is.answered ++ deeds_of_connections more

  -- of all that are served, by how that ends
  abbrev pub deeds_served : (told : List ℕ) (count : ℕ) (ending : Ending) (out : Told) (f g : ports.Told) (k l : Kept) → ServingEndsBy (AreServedBy final clock) told count ending out f k g l → List Deed
  deeds_served told count ends.Done out f g k l (es, all, are) = deeds_of_connections are.served
  deeds_served told count ends.ListeningFailed out f g k l (es, few, h, are, refuses, rose, counted) = deeds_of_connections are.served
  deeds_served told count ends.NoMemory out f g k l last = deeds_of_connections last.served
  deeds_served told count ends.OutputFailed out f g k l (failed, bytes, last) = deeds_of_connections last.served
  deeds_served told count ending out f g k l none = []

  abbrev pub deeds_told : (told : List ℕ) (count : ℕ) (ending : Ending) (out : Told) (f g : ports.Told) (k l : Kept) → TellingEndsBy (AreServedBy final clock) told count ending out f k g l → List Deed
  deeds_told told count ending out f g k l (inl untold) = []
  deeds_told told count ending out f g k l (inr serves) = deeds_served told count ending out f g k l serves

  abbrev pub deeds_listening : (address : List ℕ) (count : ℕ) (ending : Ending) (out : Told) (f g : ports.Told) (k l : Kept) → ListeningEndsBy (AreServedBy final clock) address count ending out f k g l → List Deed
  deeds_listening address count ending out f g k l (inl unheard) = []
  deeds_listening address count ending out f g k l (inr tells) = deeds_told (listening_line address) count ending out (with_address address f) g k l tells

-- ---- the deeds of `request`

-- of what came back to a collector: none where nothing did, or it is no answer
abbrev pub deeds_answered : Memory → ℕ → Option responses.Told → List Deed
deeds_answered memory moment None = []
deeds_answered memory moment (Some t) = Takes (waiting_for memory t.0.value) t.1 moment ∷ []

abbrev pub deeds_back : Memory → ℕ → Option (List ℕ) → List Deed
deeds_back memory moment None = []
deeds_back memory moment (Some envelope) = deeds_answered memory moment (response_told moment envelope)

module _ (r : Request) (moment : ℕ) (before now : requesting.Kept) where
  -- once a request is sent
  abbrev pub deeds_behind : (result : Result Outcome RequestFault) → OutcomesOver r moment before now result → List Deed
  deeds_behind (Ok outcome) (envelope, made, heard) = deeds_back before.memory moment envelope
  deeds_behind (Err faults.StoreFailed) (envelope, made, heard) = deeds_back before.memory moment envelope
  deeds_behind (Err faults.LinkFailed) broken = []
  deeds_behind (Err faults.NoMemory) (inl broken) = []
  deeds_behind (Err faults.NoMemory) (inr (None, made, none)) = []
  deeds_behind (Err faults.NoMemory) (inr (Some envelope, made, inl same)) = []
  deeds_behind (Err faults.NoMemory) (inr (Some envelope, made, inr (relates, answer, told, takes))) = Takes (waiting_for before.memory relates.value) answer moment ∷ []

-- what is kept of a collector that was just started over rows, and asks over a link
abbrev pub asking : Rows → ports.Told → requesting.Kept
asking found link = record { rows = started found; memory = memory_begun found; link = link }

module _ (host : List ℕ) where
  -- of one request
  abbrev pub deeds_sent : (moment : ℕ) (r : Request) (result : Result Outcome RequestFault) (before now : requesting.Kept) → SendsOver host moment r before now result → List Deed
  deeds_sent moment r result before now is = Requests host r moment ∷ deeds_behind r moment (record { rows = is.rows; memory = is.memory; link = before.link }) now result is.outcomes

  abbrev pub deeds_next : (moment : ℕ) (result : Result (Option Sent) RequestFault) (before now : requesting.Kept) → RequestsOver host moment before now result → List Deed
  deeds_next moment (Ok None) before now none = []
  deeds_next moment (Ok (Some sent)) before now is = deeds_sent moment sent.request (Ok sent.outcome) before now is
  deeds_next moment (Err fault) before now (inl none) = []
  deeds_next moment (Err fault) before now (inr (r, is)) = deeds_sent moment r (Err fault) before now is

  module _ (clock : Option ℕ) where
    abbrev pub deeds_requested : (result : Result (Option Sent) RequestFault) (before now : requesting.Kept) → IsRequestedOver clock host result before now → List Deed
    deeds_requested result before now is = deeds_next is.moment result before now is.requests

    -- of several
    abbrev pub deeds_of_sent : (xs : List Sent) (before now : requesting.Kept) → AreRequestedBy (IsRequestedOver clock host) xs before now → List Deed
    deeds_of_sent [] before now same = []
    deeds_of_sent (x ∷ xs) before now (mid, is, more) = deeds_requested (Ok (Some x)) before mid is ++ deeds_of_sent xs mid now more

    abbrev pub deeds_at_end : (text : List ℕ) (ending : Ending) (out : Told) (before now : requesting.Kept) → EndsAtBy (IsRequestedOver clock host) text ending out before now → List Deed
    deeds_at_end text ending out before now (inl (fault, is, ended, told)) = deeds_requested (Err fault) before now is
    deeds_at_end text ending out before now (inr (sent, is, untold)) = deeds_requested (Ok (Some sent)) before now is

    abbrev pub deeds_stopping : (left : ℕ) (text : List ℕ) (ending : Ending) (out : Told) (before now : requesting.Kept) → StopsBy (IsRequestedOver clock host) left text ending out before now → List Deed
    deeds_stopping left text ending out before now (inl (none, done)) = []
    deeds_stopping left text ending out before now (inr (some, ends)) = deeds_at_end text ending out before now ends

-- ---- the deeds of a run

-- what a run did to the rows that stood before it, once the rows behind it are known: of a command over the store of a collector
module _ (ending : Ending) (input out : Told) (peers : Peers) (before now : Store) (found last : Rows) where
  abbrev pub deeds_collected : (address : List ℕ) (count : ℕ) → CollectSays address count ending out peers.moment peers.front_before peers.front_after before now found last → List Deed
  deeds_collected address count (inl refused) = Starts ∷ []
  deeds_collected address count (inr is) = Starts ∷ deeds_listening last peers.moment address count ending out peers.front_before peers.front_after (begun found) (record { rows = last; memory = is.memory; errors = is.errors }) is.listens

  abbrev pub deeds_asking : (host : List ℕ) (count : ℕ) → IsAsking host count ending out peers.moment peers.link_before peers.link_after found last → List Deed
  deeds_asking host count is =
      deeds_of_sent host peers.moment is.asks.sent (asking found peers.link_before) is.asks.mid is.asks.are_sent
      ++ deeds_stopping host peers.moment _ _ ending out is.asks.mid (record { rows = last; memory = is.memory; link = peers.link_after }) is.asks.stops

  abbrev pub deeds_asked : (host : List ℕ) (count : ℕ) → (last ≡ found) ⊎ RequestSays host count ending out peers.moment peers.link_before peers.link_after found last → List Deed
  deeds_asked host count (inl same) = []
  deeds_asked host count (inr (inl refused)) = Starts ∷ []
  deeds_asked host count (inr (inr is)) = Starts ∷ deeds_asking host count is

  abbrev pub deeds_by : (command : Command) → Says command ending input out peers before now found last → List Deed
  deeds_by the.Add (inl same) = []
  deeds_by the.Add (inr (s, document, inl same)) = []
  deeds_by the.Add (inr (s, document, inr left)) = Starts ∷ Adds s ∷ []
  deeds_by (the.Remove u) (inl same) = []
  deeds_by (the.Remove u) (inr left) = Starts ∷ Ends u ∷ []
  deeds_by the.List says = Starts ∷ []
  deeds_by the.Show says = Starts ∷ []
  deeds_by (the.Events u s c) says = Starts ∷ []
  deeds_by (the.Status u) says = Starts ∷ []
  deeds_by (the.Collect address count) says = deeds_collected address count says
  deeds_by (the.Request address count) says = deeds_asked address count says
  deeds_by command says = []

-- the commands over the store of a collector
abbrev pub OfCollector : Command → Type 0
OfCollector the.Add = Unit {0}
OfCollector (the.Remove u) = Unit {0}
OfCollector the.List = Unit {0}
OfCollector the.Show = Unit {0}
OfCollector (the.Events u s c) = Unit {0}
OfCollector (the.Status u) = Unit {0}
OfCollector (the.Collect address count) = Unit {0}
OfCollector (the.Request address count) = Unit {0}
OfCollector _ = ⊥

-- The account of a run of a command that has ended: what it did to the rows that stood before it, for rows that may be found behind it,
-- and what is told of it.
pub record Account (command : Command) (found last : Rows) : Type 0 where
  pub ending : Ending
  pub input : Told
  pub out : Told
  pub peers : Peers
  pub before : Store
  pub now : Store
  pub says : Says command ending input out peers before now found last

abbrev pub deeds_of : {command : Command} {found last : Rows} → Account command found last → List Deed
deeds_of {command} {found} {last} is = deeds_by is.ending is.input is.out is.peers is.before is.now found last command is.says

-- Runs of a collector's commands over one store, each from rows that may be found behind the one before it, and the deeds that were
-- done whole in them.
pub data HaveRun : Rows → List Deed → Rows → Type 0 where
  none_run : (rows : Rows) → HaveRun rows [] rows
  -- one more has ended
  one_ended : (found mid last : Rows) (done : List Deed) (command : Command) (run : Account command mid last) → HaveRun found done mid → OfCollector command
      → HaveRun found (done ++ deeds_of run) last
  -- one more was killed in a deed of a run as it would have ended: those before the deed are done, and of this one at most its commit
  one_killed : (found mid left last whole : Rows) (done front rest : List Deed) (deed : Deed) (command : Command) (run : Account command mid whole) → HaveRun found done mid → OfCollector command
      → deeds_of run ≡ front ++ deed ∷ rest → AreDone front mid left → IsCut deed left last → HaveRun found (done ++ front) last
