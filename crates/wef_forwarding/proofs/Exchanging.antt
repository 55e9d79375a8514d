-- One exchange, step by step: no connection, a part of the request, or the request and what came back.
use Rattle.std.proofs.Common.{◌≡◌, ◌≤◌, ℕ, List, length, refl, sym, subst, ◌∙◌, inl, inr, arith}
use Rattle.std.proofs.Math.Seq.{take-length}
use Rattle.std.specs.Prelude.{Option, Some, None, Result, Ok, Err, IfErr, IfOk, IfSome, OnOk}
use Rattle.wef_base.specs.Counts.{Rose}
use Rattle.wef_connections.specs.Opening.{OnlyFails}
use Rattle.wef_http.specs.Messages.{RefusesResponse}
use Rattle.wef_http_heads.specs.Laws.{IsByBytes}
use Rattle.wef_http_heads.specs.declared.ends.HttpEnd.{HttpEnd}
use Rattle.wef_http_heads.specs.declared.ends.HttpEnd.TheVariants as end
use Rattle.wef_http.specs.Sending.{IsNotSent, Sends, SendsPart}
use Rattle.wef_ids.specs.declared.MessageId.{MessageId}
use Rattle.wef_ports.specs.Telling.{Told}
use Rattle.wef_forwarding.specs.Exchanges.{Brings, BrokeOff, Exchanged, IsCause, Replied, WasMade, brought_without, connected, fault_of, request_bytes}
use Rattle.wef_forwarding.specs.declared.exchanges.FrontFault.{FrontFault}
use Rattle.wef_forwarding.specs.declared.exchanges.FrontFault.TheVariants.{NoMemory, LinkFailed, Source}
use Rattle.wef_forwarding.specs.declared.exchanges.Request.{Request}

-- ---- what comes back

none_of : (e : HttpEnd) (t : Option (List ℕ)) → brought_without e ≡ Ok None → brought_without e ≡ Ok t → t ≡ None
none_of e t none is = cc

no_memory : (e : HttpEnd) → brought_without e ≡ Ok None → e ≡ end.NoMemory → ⊥
no_memory e none is = cc

no_port : (e : HttpEnd) → brought_without e ≡ Ok None → e ≡ end.ReadFault → ⊥
no_port e none is = cc

-- where no response was read for which the bytes are to blame, they bring nothing
brings_nothing : (e : HttpEnd) (t : Option (List ℕ)) (bytes : List ℕ) → brought_without e ≡ Ok t → (IsByBytes e → RefusesResponse bytes e) → Brings bytes t
brings_nothing end.NoMemory t bytes is refused = cc
brings_nothing end.ReadFault t bytes is refused = cc
brings_nothing end.End t bytes is refused = let by : IsByBytes end.End = (no_memory end.End refl, no_port end.End refl) in inr (end.End, by, refused by, none_of end.End t refl is)
brings_nothing end.BadHead t bytes is refused = let by : IsByBytes end.BadHead = (no_memory end.BadHead refl, no_port end.BadHead refl) in inr (end.BadHead, by, refused by, none_of end.BadHead t refl is)
brings_nothing end.Method t bytes is refused = let by : IsByBytes end.Method = (no_memory end.Method refl, no_port end.Method refl) in inr (end.Method, by, refused by, none_of end.Method t refl is)
brings_nothing end.Path t bytes is refused = let by : IsByBytes end.Path = (no_memory end.Path refl, no_port end.Path refl) in inr (end.Path, by, refused by, none_of end.Path t refl is)
brings_nothing end.NoLength t bytes is refused = let by : IsByBytes end.NoLength = (no_memory end.NoLength refl, no_port end.NoLength refl) in inr (end.NoLength, by, refused by, none_of end.NoLength t refl is)
brings_nothing end.TooLarge t bytes is refused = let by : IsByBytes end.TooLarge = (no_memory end.TooLarge refl, no_port end.TooLarge refl) in inr (end.TooLarge, by, refused by, none_of end.TooLarge t refl is)
brings_nothing end.Media t bytes is refused = let by : IsByBytes end.Media = (no_memory end.Media refl, no_port end.Media refl) in inr (end.Media, by, refused by, none_of end.Media t refl is)
brings_nothing end.Cut t bytes is refused = let by : IsByBytes end.Cut = (no_memory end.Cut refl, no_port end.Cut refl) in inr (end.Cut, by, refused by, none_of end.Cut t refl is)

pub nothing_brought : (e : HttpEnd) (result : Result (Option (List ℕ)) FrontFault) (coming : Option (List ℕ)) → result ≡ brought_without e → IfSome coming (λ bytes. IsByBytes e → RefusesResponse bytes e)
    → IfOk result (λ t. IfSome coming (λ bytes. Brings bytes t))
nothing_brought e (Err fault) coming is refused = tt
nothing_brought e (Ok t) None is refused = tt
nothing_brought e (Ok t) (Some bytes) is refused = brings_nothing e t bytes (sym is) refused

by_fault : (e : HttpEnd) (fault : FrontFault) (before now : Told) → brought_without e ≡ Err fault → (e ≡ end.ReadFault → Rose before.faults now.faults) → IsCause fault before now
by_fault e NoMemory before now is rose = tt
by_fault end.NoMemory LinkFailed before now is rose = cc
by_fault end.ReadFault LinkFailed before now is rose = rose refl
by_fault end.End LinkFailed before now is rose = cc
by_fault end.BadHead LinkFailed before now is rose = cc
by_fault end.Method LinkFailed before now is rose = cc
by_fault end.Path LinkFailed before now is rose = cc
by_fault end.NoLength LinkFailed before now is rose = cc
by_fault end.TooLarge LinkFailed before now is rose = cc
by_fault end.Media LinkFailed before now is rose = cc
by_fault end.Cut LinkFailed before now is rose = cc
by_fault end.NoMemory (Source fault) before now is rose = cc
by_fault end.ReadFault (Source fault) before now is rose = cc
by_fault end.End (Source fault) before now is rose = cc
by_fault end.BadHead (Source fault) before now is rose = cc
by_fault end.Method (Source fault) before now is rose = cc
by_fault end.Path (Source fault) before now is rose = cc
by_fault end.NoLength (Source fault) before now is rose = cc
by_fault end.TooLarge (Source fault) before now is rose = cc
by_fault end.Media (Source fault) before now is rose = cc
by_fault end.Cut (Source fault) before now is rose = cc

-- why it wasn't read
pub unread_cause : (e : HttpEnd) (result : Result (Option (List ℕ)) FrontFault) (before now : Told) → result ≡ brought_without e → (e ≡ end.ReadFault → Rose before.faults now.faults)
    → IfErr result (λ fault. IsCause fault before now)
unread_cause e (Ok t) before now is rose = tt
unread_cause e (Err fault) before now is rose = by_fault e fault before now (sym is) rose

-- why the request wasn't sent
pub unsent_cause : (e : HttpEnd) (before now : Told) → IsNotSent before now e → IsCause (fault_of e) before now
unsent_cause end.NoMemory before now cause = tt
unsent_cause end.ReadFault before now cause = cause
unsent_cause end.End before now cause = absurd cause
unsent_cause end.BadHead before now cause = absurd cause
unsent_cause end.Method before now cause = absurd cause
unsent_cause end.Path before now cause = absurd cause
unsent_cause end.NoLength before now cause = absurd cause
unsent_cause end.TooLarge before now cause = absurd cause
unsent_cause end.Media before now cause = absurd cause
unsent_cause end.Cut before now cause = absurd cause

-- ---- the link

-- for want of memory the link isn't used
pub unbegun : (r : Request) (now : Told) → BrokeOff r NoMemory now now
unbegun r now = record { broken = inl (refl, refl, refl, refl, refl, refl, refl); cause = tt; later = omega arith }

pub not_begun : (r : Request) (id : MessageId) (now : Told) → Replied r id (Err NoMemory) now now
not_begun r id now = unbegun r now

-- there is no connection
pub not_connected : (r : Request) (before now : Told) → OnlyFails before now → Rose before.faults now.faults → before.faults ≤ now.faults → Exchanged r (Err LinkFailed) before now
not_connected r before now same rose later = record { broken = inl same; cause = rose; later = later }

module _ (r : Request) (before opened now : Told) (opened_is : opened ≡ connected r before) (around : now.around ≡ opened.around) (later : opened.faults ≤ now.faults) where
  -- connecting counts no fault
  since : before.faults ≤ now.faults
  since = subst (λ (m : Told). m.faults ≤ now.faults) opened_is later

  cause_is : (fault : FrontFault) → IsCause fault opened now → IsCause fault before now
  cause_is NoMemory cause = tt
  cause_is LinkFailed cause = subst (λ (m : Told). Rose m.faults now.faults) opened_is cause
  cause_is (Source fault) cause = absurd cause

  -- it was broken off
  broken_off : (fault : FrontFault) → SendsPart opened now (request_bytes r) → IsCause fault opened now → BrokeOff r fault before now
  broken_off fault part cause = record {
    broken = inr (subst (λ (m : Told). SendsPart m now (request_bytes r)) opened_is part, around ∙ (λ i. (opened_is i).around));
    cause = cause_is fault cause;
    later = since;
  }

  -- it was made
  was_made : (envelope : Option (List ℕ)) → Sends opened now (request_bytes r) → IfSome opened.coming (λ bytes. Brings bytes envelope) → WasMade r envelope before now
  was_made envelope sent brought = record {
    sent = subst (λ (m : Told). Sends m now (request_bytes r)) opened_is sent;
    around = around ∙ (λ i. (opened_is i).around);
    brought = subst (λ (m : Told). IfSome m.coming (λ bytes. Brings bytes envelope)) opened_is brought;
    later = since;
  }

  pub ended : (result : Result (Option (List ℕ)) FrontFault) → OnOk result (Sends opened now (request_bytes r)) → SendsPart opened now (request_bytes r)
      → IfOk result (λ envelope. IfSome opened.coming (λ bytes. Brings bytes envelope)) → IfErr result (λ fault. IsCause fault opened now) → Exchanged r result before now
  ended (Ok envelope) sent part brought cause = was_made envelope sent brought
  ended (Err fault) sent part brought cause = broken_off fault part cause

-- of what was exchanged nothing is known for want of memory
pub unheard : (r : Request) (envelope : Option (List ℕ)) (before now : Told) → WasMade r envelope before now → BrokeOff r NoMemory before now
unheard r envelope before now made = record {
  broken = inr ((length (request_bytes r), subst (Sends (connected r before) now) (sym (take-length (request_bytes r))) made.sent), made.around);
  cause = tt;
  later = made.later;
}
