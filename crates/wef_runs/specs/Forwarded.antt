-- What `forward` did, by its account: the acts of its source, and that the batches among them fit its history.
use Rattle.std.proofs.Common.{inl, inr}
use Rattle.std.specs.Prelude.{◌≡◌, ◌⊎◌, ℕ, ◌+◌, List, [], ◌∷◌, ◌++◌, Option, Some, None, Result, Ok, Err}
use Rattle.std.specs.List.{AllByRecursion}
use Rattle.wef_cli.specs.Runs.{Peers}
use Rattle.wef_command_line.specs.declared.command.Command.TheVariants as the
use Rattle.wef_commands.specs.Endings.{Told}
use Rattle.wef_commands.specs.declared.ending.Ending.{Ending}
use Rattle.wef_commands.specs.declared.writing.TheConstants.{LOG_CAPACITY}
use Rattle.wef_forwarding.specs.Asking.{Enumerates, HearsEnvelope}
use Rattle.wef_forwarding.specs.Forwarding.{Exchanges, Forwards}
use Rattle.wef_forwarding.specs.declared.exchanges.FrontFault.{FrontFault}
use Rattle.wef_forwarding.specs.declared.exchanges.FrontFault.TheVariants as fronts
use Rattle.wef_forwarding.specs.declared.forwarding.Exchange.{Exchange}
use Rattle.wef_forwarding.specs.declared.forwarding.Exchange.TheVariants as exchange
use Rattle.wef_front_source.specs.HeardReplies as hearing
use Rattle.wef_front_source.specs.HeardReplies.{Offered, offers_told, told}
use Rattle.wef_front_source.specs.declared.listening.Hears.{Hears}
use Rattle.wef_front_source.specs.declared.listening.Hears.TheVariants as hears
use Rattle.wef_keeper.specs.Keeping.{Store}
use Rattle.wef_keeper.specs.Rows.{Rows}
use Rattle.wef_ports.specs.Telling as ports
use Rattle.wef_running.specs.ByRows.{ForwardSays, IsSentOver}
use Rattle.wef_running.specs.Forwarding.{AreSentBy, AsksAndSendsBy, EndsBeforeBy, Plan, Running, SendsFromBy, behind}
use Rattle.wef_source.specs.Machine.{End, start_of}
use Rattle.wef_source.specs.declared.messages.Reply.{Reply}
use Rattle.wef_source.specs.declared.messages.Reply.TheVariants as replies
use Rattle.wef_source_log.specs.Answers.{next_boot}
use Rattle.wef_source_log.specs.Histories.{Histories}
use Rattle.wef_source_log.specs.LogWindow.{IsWindow}
use Rattle.wef_runs.specs.Acts.{Act, AreActed, BeginWithin, OfEach, Rises, SendsFitting}
use Rattle.wef_runs.specs.Acts.{Asks, Adopts, Sends, Beats, Moves, Refuses, Loses}
use Rattle.wef_runs.specs.Runs.{Account}

-- ---- the ask

-- what is made of a reply to an id
abbrev pub acts_of_reply : Option ℕ → Reply → List Act
acts_of_reply None reply = []
acts_of_reply (Some id) replies.Ack = Moves id ∷ []
acts_of_reply (Some id) (replies.Fault name) = Refuses id name ∷ []

-- what is made of what an envelope tells, a reply or else offers
abbrev pub acts_of_told : Option hearing.Told → Option Offered → Hears → ℕ → List Act
acts_of_told (Some t) o hears.Moved moment = acts_of_reply t.0.value t.1
acts_of_told (Some t) o hears.Refused moment = acts_of_reply t.0.value t.1
acts_of_told None (Some o) (hears.Adopted count) moment = Adopts o.0 o.1 moment ∷ []
acts_of_told t o heard moment = []

abbrev pub acts_of_envelope : (envelope : Option (List ℕ)) (moment : ℕ) (end end' : End) (count : Option ℕ) → HearsEnvelope envelope moment end end' count → List Act
acts_of_envelope None moment end end' count hears = []
acts_of_envelope (Some envelope) moment end end' count (heard, hears, is) = acts_of_told (told envelope) (offers_told moment envelope) heard moment

-- what asking does
abbrev pub acts_of_ask : (address s : List ℕ) (end end' : End) (moment : ℕ) (link link' : ports.Told) (result : Result (Option ℕ) FrontFault) → Enumerates address s end end' moment link link' result → List Act
acts_of_ask address s end end' moment link link' (Ok count) once = Asks ∷ acts_of_envelope once.ends.0 moment once.asking end' count once.ends.2
acts_of_ask address s end end' moment link link' (Err (fronts.Source fault)) refuses = []
acts_of_ask address s end end' moment link link' (Err fronts.NoMemory) (inl refuses) = []
acts_of_ask address s end end' moment link link' (Err fronts.NoMemory) (inr once) = Asks ∷ []
acts_of_ask address s end end' moment link link' (Err fronts.LinkFailed) once = Asks ∷ []

-- ---- messages

-- what is made of the answer to a message of an id that the session of a name sent
abbrev pub acts_of_answer : List ℕ → Option ℕ → Result (Option Reply) FrontFault → List Act
acts_of_answer u id (Ok (Some reply)) = acts_of_reply id reply
acts_of_answer u id (Ok None) = Loses u ∷ []
acts_of_answer u id (Err fault) = Loses u ∷ []

module _ (rows : Option Rows) (end end' : End) (u : List ℕ) (moment : ℕ) (link link' : ports.Told) where
  abbrev pub acts_of_exchange : (result : Result Exchange FrontFault) → Exchanges rows end end' u moment link link' result → List Act
  acts_of_exchange result (inl is) = Sends u moment ∷ acts_of_answer u is.delivery.id.value is.delivered.answer
  acts_of_exchange result (inr is) = Beats u moment ∷ acts_of_answer u is.beat.id.value is.beaten.answer

  -- what forwarding the next message of the session of a name does
  abbrev pub acts_forwarded : (result : Result Exchange FrontFault) → Forwards rows end end' u moment link link' result → List Act
  acts_forwarded (Ok exchange.Nothing) idles = []
  acts_forwarded (Ok (exchange.Acked count)) is = acts_of_exchange (Ok (exchange.Acked count)) (inl is)
  acts_forwarded (Ok exchange.Heard) is = acts_of_exchange (Ok exchange.Heard) (inr is)
  acts_forwarded (Ok exchange.Refused) is = acts_of_exchange (Ok exchange.Refused) is
  acts_forwarded (Ok exchange.Lost) is = acts_of_exchange (Ok exchange.Lost) is
  acts_forwarded (Err fronts.LinkFailed) is = acts_of_exchange (Err fronts.LinkFailed) is
  acts_forwarded (Err fronts.NoMemory) (inl refuses) = []
  acts_forwarded (Err fronts.NoMemory) (inr is) = acts_of_exchange (Err fronts.NoMemory) is
  acts_forwarded (Err (fronts.Source fault)) refuses = []

-- ---- all messages

module _ (rows : Rows) (clock : Option ℕ) where
  abbrev pub acts_of_one : (u : List ℕ) (result : Result Exchange FrontFault) (before now : Running) → IsSentOver rows clock u result before now → List Act
  acts_of_one u result before now (is, stand) = acts_forwarded now.store.rows before.memory now.memory u is.moment before.link now.link is.answer is.forwards

  abbrev pub acts_of_sent : (plan : Plan) (xs : List (List ℕ × Exchange)) (before now : Running) → AreSentBy (IsSentOver rows clock) plan xs before now → List Act
  acts_of_sent plan [] before now same = []
  acts_of_sent plan (x ∷ xs) before now (is, (mid, sent, more)) = acts_of_one x.0 (Ok x.1) before mid sent ++ acts_of_sent (behind x.1 plan) xs mid now more

  abbrev pub acts_of_end : (o : Option (List ℕ)) (text : List ℕ) (ending : Ending) (out : Told) (before now : Running) → EndsBeforeBy (IsSentOver rows clock) o text ending out before now → List Act
  acts_of_end None text ending out before now done = []
  acts_of_end (Some u) text ending out before now (inl (fault, sent, is, said)) = acts_of_one u (Err fault) before now sent
  acts_of_end (Some u) text ending out before now (inr (e, sent, untold)) = acts_of_one u (Ok e) before now sent

  abbrev pub acts_sending : (deliveries : ℕ) (ending : Ending) (out : Told) (before now : Running) → SendsFromBy (IsSentOver rows clock) deliveries ending out before now → List Act
  acts_sending deliveries ending out before now (inl untold) = []
  acts_sending deliveries ending out before now (inr all) = acts_of_sent _ all.sent before all.mid all.are_sent ++ acts_of_end _ _ ending out all.mid now all.stops

  abbrev pub acts_asking : (address s : List ℕ) (deliveries : ℕ) (ending : Ending) (out : Told) (before now : Running) → AsksAndSendsBy (IsSentOver rows clock) clock address s deliveries ending out before now → List Act
  acts_asking address s deliveries ending out before now (inl (fault, is, ended, unwritten)) =
      acts_of_ask address s before.memory now.memory is.moment before.link now.link (Err fault) is.asked
  acts_asking address s deliveries ending out before now (inr (count, mid, is, sends)) =
      acts_of_ask address s before.memory mid.memory is.moment before.link mid.link (Ok count) is.asked ++ acts_sending deliveries ending out mid now sends

-- ---- a run

-- what the source of a run did: nothing where it wasn't started
module _ (ending : Ending) (out : Told) (peers : Peers) (now : Store) (found last : Rows) where
  abbrev pub acts_begun : (address s : List ℕ) (count : ℕ) → ForwardSays address s count ending out peers.moment peers.link_before peers.link_after now found last → List Act
  acts_begun address s count (inl refused) = []
  acts_begun address s count (inr is) =
      acts_asking last peers.moment address s count ending out
      (record { memory = start_of (next_boot found); store = is.started; link = peers.link_before })
      (record { memory = is.end; store = now; link = peers.link_after }) is.sends

  abbrev pub acts_by : (address s : List ℕ) (count : ℕ)
      → (last ≡ found) ⊎ ForwardSays address s count ending out peers.moment peers.link_before peers.link_after now found last → List Act
  acts_by address s count (inl same) = []
  acts_by address s count (inr says) = acts_begun address s count says

abbrev pub acts_of : {address s : List ℕ} {count : ℕ} {found last : Rows} → Account (the.Forward address s count) found last → List Act
acts_of {address} {s} {count} {found} {last} account = acts_by account.ending account.out account.peers account.now found last address s count account.says

-- What a run did over the rows that are the window of a source's histories, where the offers that it took begin within these: each
-- batch that it sent fits the histories above where its session stood, and sessions rise by acknowledgements alone.
pub record HasForwarded (all : Histories) (boot : ℕ) (found last : Rows) (acts : List Act) : Type 0 where
  -- the histories stay, and the boot number is one greater, or where the source wasn't started, it may be
  pub window : IsWindow last all LOG_CAPACITY boot ⊎ IsWindow last all LOG_CAPACITY (boot + 1)
  pub end : End
  pub acted : AreActed last acts (start_of (next_boot found)) end
  pub fit : OfEach (SendsFitting last all LOG_CAPACITY) last acts (start_of (next_boot found)) end acted
  pub rise : OfEach Rises last acts (start_of (next_boot found)) end acted

abbrev pub ForwardsFit : Type 0
ForwardsFit =
    (address s : List ℕ) (count : ℕ) (found last : Rows) (account : Account (the.Forward address s count) found last) (all : Histories) (boot : ℕ) → IsWindow found all LOG_CAPACITY boot
    → AllByRecursion (BeginWithin all) (acts_of account) → HasForwarded all boot found last (acts_of account)
