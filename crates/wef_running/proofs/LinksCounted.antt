-- Where a run of `forward` says that its link failed, the link's count of faults rose in it.
use Rattle.std.proofs.Common.{◌≡◌, inl, inr, ℕ, ◌≤◌, List, [], ◌∷◌, ap, refl, subst, arith}
use Rattle.std.specs.Prelude.{Option, Some, None, Result, Ok, Err}
use Rattle.wef_base.specs.Counts.{Rose}
use Rattle.wef_commands.specs.Endings.{Told}
use Rattle.wef_commands.specs.Refusals.{source_ending}
use Rattle.wef_commands.specs.declared.ending.Ending.TheVariants as ends
use Rattle.wef_forwarding.specs.Exchanges.{Replied}
use Rattle.wef_forwarding.specs.Forwarding.{Ends, Exchanges, Forwards, IsExchanged}
use Rattle.wef_forwarding.specs.declared.exchanges.FrontFault.{FrontFault}
use Rattle.wef_forwarding.specs.declared.exchanges.FrontFault.TheVariants as fronts
use Rattle.wef_forwarding.specs.declared.exchanges.Request.{Request}
use Rattle.wef_forwarding.specs.declared.forwarding.Exchange.{Exchange}
use Rattle.wef_forwarding.specs.declared.forwarding.Exchange.TheVariants.{Nothing, Acked, Heard, Refused, Lost}
use Rattle.wef_ids.specs.declared.MessageId.{MessageId}
use Rattle.wef_keeper.specs.Rows.{Rows}
use Rattle.wef_ports.specs.Telling as ports
use Rattle.wef_source.specs.Machine.{End}
use Rattle.wef_building.specs.declared.faults.SourceFault.{SourceFault}
use Rattle.wef_building.specs.declared.faults.SourceFault.TheVariants as faults
use Rattle.wef_source.specs.declared.messages.Reply.{Reply}
use Rattle.wef_running.specs.ByRows.{FailedLinksAreCounted}
use Rattle.wef_running.specs.Forwarding.{AreSent, AsksAndSends, EndsBefore, IsAsked, IsSent, Plan, Running, SendsFrom, behind, front_ending, unless_gone}

-- ---- which fault it is

pub of_source : (fault : SourceFault) → ends.LinkFailed ≡ source_ending fault → ⊥
of_source faults.NoMemory is = cc
of_source faults.Failed is = cc
of_source faults.Full is = cc
of_source faults.TooLong is = cc
of_source faults.NotAsked is = cc
of_source faults.UnknownSubscription is = cc
of_source faults.Expired is = cc
of_source faults.Spent is = cc

pub of_link : (fault : FrontFault) → ends.LinkFailed ≡ front_ending fault → fault ≡ fronts.LinkFailed
of_link fronts.LinkFailed is = refl
of_link fronts.NoMemory is = cc
of_link (fronts.Source fault) is = absurd (of_source fault is)

-- ---- an exchange

itself : (before now : ports.Told) → now ≡ before → before.faults ≤ now.faults
itself before now same = let is : now.faults ≡ before.faults = ap (λ (link : ports.Told). link.faults) same in omega arith

module _ (before now : ports.Told) where
  replied_later : (r : Request) (id : MessageId) (answer : Result (Option Reply) FrontFault) → Replied r id answer before now → before.faults ≤ now.faults
  replied_later r id (Ok answer) (envelope, made, is) = made.later
  replied_later r id (Err fault) broken = broken.later

  exchanged_later : {r : Request} {id : MessageId} {acked : Exchange} {u : List ℕ} {mid end : End} {answer : Result Exchange FrontFault} → IsExchanged r id acked u before now mid end answer → before.faults ≤ now.faults
  exchanged_later {r} {id} exchanged = replied_later r id exchanged.answer exchanged.exchanged

  exchanges_later : (rows : Option Rows) (end end' : End) (u : List ℕ) (moment : ℕ) (answer : Result Exchange FrontFault) → Exchanges rows end end' u moment before now answer → before.faults ≤ now.faults
  exchanges_later rows end end' u moment answer (inl delivers) = exchanged_later delivers.delivered
  exchanges_later rows end end' u moment answer (inr beats) = exchanged_later beats.beaten

  forwards_later : (rows : Option Rows) (end end' : End) (u : List ℕ) (moment : ℕ) (answer : Result Exchange FrontFault) → Forwards rows end end' u moment before now answer → before.faults ≤ now.faults
  forwards_later rows end end' u moment (Ok Nothing) idles = itself before now idles.1
  forwards_later rows end end' u moment (Ok (Acked count)) delivers = exchanged_later delivers.delivered
  forwards_later rows end end' u moment (Ok Heard) beats = exchanged_later beats.beaten
  forwards_later rows end end' u moment (Ok Refused) exchanges = exchanges_later rows end end' u moment (Ok Refused) exchanges
  forwards_later rows end end' u moment (Ok Lost) exchanges = exchanges_later rows end end' u moment (Ok Lost) exchanges
  forwards_later rows end end' u moment (Err fronts.NoMemory) (inl refuses) = itself before now refuses.3
  forwards_later rows end end' u moment (Err fronts.NoMemory) (inr exchanges) = exchanges_later rows end end' u moment (Err fronts.NoMemory) exchanges
  forwards_later rows end end' u moment (Err fronts.LinkFailed) exchanges = exchanges_later rows end end' u moment (Err fronts.LinkFailed) exchanges
  forwards_later rows end end' u moment (Err (fronts.Source faults.NoMemory)) never = absurd never
  forwards_later rows end end' u moment (Err (fronts.Source faults.Failed)) refuses = itself before now refuses.3
  forwards_later rows end end' u moment (Err (fronts.Source faults.Full)) refuses = itself before now refuses.3
  forwards_later rows end end' u moment (Err (fronts.Source faults.TooLong)) refuses = itself before now refuses.3
  forwards_later rows end end' u moment (Err (fronts.Source faults.NotAsked)) refuses = itself before now refuses.3
  forwards_later rows end end' u moment (Err (fronts.Source faults.UnknownSubscription)) refuses = itself before now refuses.3
  forwards_later rows end end' u moment (Err (fronts.Source faults.Expired)) refuses = itself before now refuses.3
  forwards_later rows end end' u moment (Err (fronts.Source faults.Spent)) refuses = itself before now refuses.3

  -- one that failed in the link
  broken_rose : (r : Request) (id : MessageId) (acked : Exchange) (u : List ℕ) (mid end : End) (answer : Result (Option Reply) FrontFault) → Replied r id answer before now → Ends id acked u answer mid end (Err fronts.LinkFailed)
      → Rose before.faults now.faults
  broken_rose r id acked u mid end (Ok answer) replied ends = let no = ends.0 in cc
  broken_rose r id acked u mid end (Err fronts.LinkFailed) broken ends = broken.cause
  broken_rose r id acked u mid end (Err fronts.NoMemory) broken ends = let no = ends.0 in cc
  broken_rose r id acked u mid end (Err (fronts.Source fault)) broken ends = absurd broken.cause

  exchanged_rose : {r : Request} {id : MessageId} {acked : Exchange} {u : List ℕ} {mid end : End} → IsExchanged r id acked u before now mid end (Err fronts.LinkFailed) → Rose before.faults now.faults
  exchanged_rose {r} {id} {acked} {u} {mid} {end} exchanged = broken_rose r id acked u mid end exchanged.answer exchanged.exchanged exchanged.ends

  exchanges_rose : (rows : Option Rows) (end end' : End) (u : List ℕ) (moment : ℕ) → Exchanges rows end end' u moment before now (Err fronts.LinkFailed) → Rose before.faults now.faults
  exchanges_rose rows end end' u moment (inl delivers) = exchanged_rose delivers.delivered
  exchanges_rose rows end end' u moment (inr beats) = exchanged_rose beats.beaten

pub sent_later : (clock : Option ℕ) (u : List ℕ) (result : Result Exchange FrontFault) (before now : Running) → IsSent clock u result before now → before.link.faults ≤ now.link.faults
sent_later clock u result before now sent = forwards_later before.link now.link now.store.rows before.memory now.memory u sent.moment sent.answer sent.forwards

which_answer : (answer : Result Exchange FrontFault) → Err fronts.LinkFailed ≡ unless_gone answer → answer ≡ Err fronts.LinkFailed
which_answer (Ok exchange) is = cc
which_answer (Err fronts.LinkFailed) is = refl
which_answer (Err fronts.NoMemory) is = cc
which_answer (Err (fronts.Source faults.NoMemory)) is = cc
which_answer (Err (fronts.Source faults.Failed)) is = cc
which_answer (Err (fronts.Source faults.Full)) is = cc
which_answer (Err (fronts.Source faults.TooLong)) is = cc
which_answer (Err (fronts.Source faults.NotAsked)) is = cc
which_answer (Err (fronts.Source faults.UnknownSubscription)) is = cc
which_answer (Err (fronts.Source faults.Expired)) is = cc
which_answer (Err (fronts.Source faults.Spent)) is = cc

pub sent_rose : (clock : Option ℕ) (u : List ℕ) (before now : Running) → IsSent clock u (Err fronts.LinkFailed) before now → Rose before.link.faults now.link.faults
sent_rose clock u before now sent =
    let exchanges = subst (λ (answer : Result Exchange FrontFault). Forwards now.store.rows before.memory now.memory u sent.moment before.link now.link answer) (which_answer sent.answer sent.result_is) sent.forwards in
    exchanges_rose before.link now.link now.store.rows before.memory now.memory u sent.moment exchanges

-- ---- the run

all_later : (clock : Option ℕ) (plan : Plan) (xs : List (List ℕ × Exchange)) (before now : Running) → AreSent clock plan xs before now → before.link.faults ≤ now.link.faults
all_later clock plan [] before now same = itself before.link now.link (ap (λ (r : Running). r.link) same)
all_later clock plan (x ∷ xs) before now (is, (mid, sent, more)) =
    let here = sent_later clock x.0 (Ok x.1) before mid sent in
    let there = all_later clock (behind x.1 plan) xs mid now more in
    omega (arith, here, there)

stops_rose : (clock : Option ℕ) (o : Option (List ℕ)) (text : List ℕ) (out : Told) (before now : Running) → EndsBefore clock o text ends.LinkFailed out before now → Rose before.link.faults now.link.faults
stops_rose clock None text out before now (untold, same) = absurd untold
stops_rose clock (Some u) text out before now (inl (fault, sent, is, told)) = sent_rose clock u before now (subst (λ (f : FrontFault). IsSent clock u (Err f) before now) (of_link fault is) sent)
stops_rose clock (Some u) text out before now (inr (e, sent, untold)) = absurd untold

from_rose : (clock : Option ℕ) (deliveries : ℕ) (out : Told) (before now : Running) → SendsFrom clock deliveries ends.LinkFailed out before now → Rose before.link.faults now.link.faults
from_rose clock deliveries out before now (inl (untold, same)) = absurd untold
from_rose clock deliveries out before now (inr all) =
    let front = all_later clock _ all.sent before all.mid all.are_sent in
    let behind_it = stops_rose clock _ _ out all.mid now all.stops in
    omega (arith, front, behind_it)

asks_rose : (clock : Option ℕ) (address s : List ℕ) (deliveries : ℕ) (out : Told) (before now : Running) → AsksAndSends clock address s deliveries ends.LinkFailed out before now → Rose before.link.faults now.link.faults
asks_rose clock address s deliveries out before now (inl (fault, asked, is, unwritten)) =
    let broke = subst (λ (f : FrontFault). IsAsked clock address s (Err f) before now) (of_link fault is) asked in
    broke.asked.ends.0.cause
asks_rose clock address s deliveries out before now (inr (count, mid, asked, sends)) =
    let heard = asked.asked.ends in
    let front : before.link.faults ≤ mid.link.faults = heard.1.later in
    let behind_it = from_rose clock deliveries out mid now sends in
    omega (arith, front, behind_it)

pub failed_links_are_counted : FailedLinksAreCounted
failed_links_are_counted address s deliveries out clock link link' before now (inl (fault, start, refuses, is, unwritten, same)) = absurd (of_source fault is)
failed_links_are_counted address s deliveries out clock link link' before now (inr (boot, mid, start, (end, asks))) = asks_rose clock address s deliveries out _ _ asks
