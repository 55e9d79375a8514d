-- What `serve` did, by its account: the acts of its source, and that the batches among them fit its history.
use Rattle.std.proofs.Common.{inl, inr}
use Rattle.std.specs.Prelude.{ℕ, List, [], ◌∷◌, ◌++◌, Option, Some, None, Ok, Err}
use Rattle.std.specs.List.{AllByRecursion}
use Rattle.wef_cli.specs.Runs.{Peers}
use Rattle.wef_command_line.specs.declared.command.Command.TheVariants as the
use Rattle.wef_commands.specs.Endings.{Told}
use Rattle.wef_commands.specs.declared.ending.Ending.{Ending}
use Rattle.wef_commands.specs.declared.writing.TheConstants.{LOG_CAPACITY}
use Rattle.wef_forwarding.specs.declared.forwarding.Exchange.{Exchange}
use Rattle.wef_keeper.specs.Keeping.{Store}
use Rattle.wef_keeper.specs.Rows.{Rows}
use Rattle.wef_running.specs.ByRows.{IsSentOver}
use Rattle.wef_running.specs.Collecting.{listening_line}
use Rattle.wef_running.specs.Forwarding.{Running}
use Rattle.wef_serving.specs.Serving.{AnswersAt, LeavesAt, Responds, RespondsInTurn}
use Rattle.wef_serving.specs.Serving.{to_none, to_one_more}
use Rattle.wef_source.specs.Machine.{start_of}
use Rattle.wef_source.specs.Sessions.{names_of}
use Rattle.wef_source_log.specs.Answers.{next_boot}
use Rattle.wef_source_log.specs.Histories.{Histories}
use Rattle.wef_source_log.specs.LogWindow.{IsWindow}
use Rattle.wef_source_serving.specs.Answers.{Answers, KnownSource}
use Rattle.wef_source_serving.specs.Answers as serving
use Rattle.wef_subscribing.specs.ByRows.{ServeSays}
use Rattle.wef_subscribing.specs.Serving.{AreDeliveredBy, AreRounds, DeliversAllBy, DeliveryStopsBy, IsRound, Listening, ListeningEndsBy, Round, RoundFailsBy, ServesAllBy, ServingStopsBy, TellingEndsBy, left_by, listening_at}
use Rattle.wef_subscribing.specs.Serving.{no_round, one_round}
use Rattle.wef_runs.specs.Acts.{Act, BeginWithin}
use Rattle.wef_runs.specs.Acts.{Replies, Leaves}
use Rattle.wef_runs.specs.Forwarded.{HasForwarded, acts_of_end, acts_of_one}
use Rattle.wef_runs.specs.Runs.{Account}

-- ---- what collectors ask

module _ (clock : Option ℕ) where
  -- what is made of a request: nothing where it wasn't heard
  abbrev pub acts_of_request : {k l : KnownSource} → Responds (AnswersAt clock Answers) (LeavesAt clock serving.Leaves) k l → List Act
  acts_of_request (request, inl (moment, told, (inl same, stored))) = []
  acts_of_request (request, inl (moment, told, (inr (heard, hears, may), stored))) = Leaves heard moment ∷ []
  acts_of_request (request, inr (answer, (moment, told, ((heard, hears, is), stored)))) = Replies heard moment ∷ []

  abbrev pub acts_in_turn : {k l : KnownSource} → RespondsInTurn (AnswersAt clock Answers) (LeavesAt clock serving.Leaves) k l → List Act
  acts_in_turn (to_none k) = []
  acts_in_turn (to_one_more k l m before last) = acts_in_turn before ++ acts_of_request last

module _ (rows : Rows) (clock : Option ℕ) where
  -- ---- what is sent behind a connection

  abbrev pub acts_delivered : (names : List (List ℕ)) (xs : List (List ℕ × Exchange)) (before now : Running) → AreDeliveredBy (IsSentOver rows clock) names xs before now → List Act
  acts_delivered names [] before now same = []
  acts_delivered names (x ∷ xs) before now (first, (mid, sent, more)) = acts_of_one rows clock x.0 (Ok x.1) before mid sent ++ acts_delivered (left_by x.1 names) xs mid now more

  abbrev pub acts_at_stop : (o : Option (List ℕ)) (text : List ℕ) (ending : Ending) (out : Told) (before now : Running) → DeliveryStopsBy (IsSentOver rows clock) o text (Err ending) out before now → List Act
  acts_at_stop None text ending out before now none = []
  acts_at_stop (Some u) text ending out before now ends = acts_of_end rows clock (Some u) text ending out before now ends

  abbrev pub acts_delivering : (text : List ℕ) (ending : Ending) (out : Told) (before now : Running) → DeliversAllBy (IsSentOver rows clock) text (Err ending) out before now → List Act
  acts_delivering text ending out before now (inl unnamed) = []
  acts_delivering text ending out before now (inr is) = acts_delivered (names_of before.memory.sessions) is.sent before is.mid is.are_sent ++ acts_at_stop _ _ ending out is.mid now is.stops

  -- ---- connections

  abbrev pub acts_of_round : (before : Listening) (r : Round) (now : Listening) → IsRound (IsSentOver rows clock) clock before r now → List Act
  acts_of_round before r now is = acts_in_turn clock is.served.answered ++ acts_delivered (names_of is.mid.source.memory.sessions) r.sent is.mid.source now.source is.sent

  abbrev pub acts_of_rounds : {before now : Listening} {rs : List Round} → AreRounds (IsSentOver rows clock) clock before rs now → List Act
  acts_of_rounds (no_round x) = []
  acts_of_rounds (one_round x y z r rs is more) = acts_of_round x r y is ++ acts_of_rounds more

  abbrev pub acts_at_end : (number : ℕ) (text : List ℕ) (ending : Ending) (out : Told) (before now : Listening) → RoundFailsBy (IsSentOver rows clock) clock number text ending out before now → List Act
  acts_at_end number text ending out before now (inl refused) = []
  acts_at_end number text ending out before now (inr (e, mid, served, inl untold)) = acts_in_turn clock served.answered
  acts_at_end number text ending out before now (inr (e, mid, served, inr (tellable, front, delivers))) =
      acts_in_turn clock served.answered ++ acts_delivering _ ending out mid.source now.source delivers

  abbrev pub acts_stopping : (count : ℕ) (rounds : List Round) (text : List ℕ) (ending : Ending) (out : Told) (before now : Listening)
      → ServingStopsBy (IsSentOver rows clock) clock count rounds text ending out before now → List Act
  acts_stopping count rounds text ending out before now (inl all) = []
  acts_stopping count rounds text ending out before now (inr (few, fails)) = acts_at_end _ text ending out before now fails

  abbrev pub acts_of_all : (told : List ℕ) (count : ℕ) (ending : Ending) (out : Told) (before now : Listening) → ServesAllBy (IsSentOver rows clock) clock told count ending out before now → List Act
  acts_of_all told count ending out before now is = acts_of_rounds is.are_served ++ acts_stopping count is.rounds _ ending out is.mid now is.stops

  abbrev pub acts_telling : (told : List ℕ) (count : ℕ) (ending : Ending) (out : Told) (before now : Listening) → TellingEndsBy (IsSentOver rows clock) clock told count ending out before now → List Act
  acts_telling told count ending out before now (inl untold) = []
  acts_telling told count ending out before now (inr is) = acts_of_all told count ending out before now is

  abbrev pub acts_listening : (address : List ℕ) (count : ℕ) (ending : Ending) (out : Told) (before now : Listening)
      → ListeningEndsBy (IsSentOver rows clock) clock address count ending out before now → List Act
  acts_listening address count ending out before now (inl unheard) = []
  acts_listening address count ending out before now (inr tells) = acts_telling (listening_line address) count ending out (listening_at address before) now tells

-- ---- a run

-- what the source of a run did: nothing where it wasn't started
module _ (ending : Ending) (out : Told) (peers : Peers) (now : Store) (found last : Rows) where
  abbrev pub acts_served_by : (address : List ℕ) (count : ℕ)
      → ServeSays address count ending out peers.moment peers.front_before peers.front_after peers.link_before peers.link_after now found last → List Act
  acts_served_by address count (inl nothing) = []
  acts_served_by address count (inr (inl refused)) = []
  acts_served_by address count (inr (inr is)) =
      acts_listening last peers.moment address count ending out
      (record { front = peers.front_before; source = record { memory = start_of (next_boot found); store = is.started; link = peers.link_before } })
      (record { front = peers.front_after; source = record { memory = is.end; store = now; link = peers.link_after } }) is.serves

abbrev pub acts_served : {address s : List ℕ} {count : ℕ} {found last : Rows} → Account (the.Serve address s count) found last → List Act
acts_served {address} {s} {count} {found} {last} account = acts_served_by account.ending account.out account.peers account.now found last address count account.says

-- What is said of `forward` is said of `serve`, where the wishes that it heard begin within the histories.
abbrev pub ServesFit : Type 0
ServesFit =
    (address s : List ℕ) (count : ℕ) (found last : Rows) (account : Account (the.Serve address s count) found last) (all : Histories) (boot : ℕ) → IsWindow found all LOG_CAPACITY boot
    → AllByRecursion (BeginWithin all) (acts_served account) → HasForwarded all boot found last (acts_served account)
