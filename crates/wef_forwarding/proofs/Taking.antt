-- What a source makes of the reply to a message, or of none.
use Rattle.std.proofs.Common.{◌≡◌, ℕ, Bool, true, false, cond, List, [], ◌∷◌, refl, ap, sym, ◌∙◌}
use Rattle.std.specs.Prelude.{Option, Some, None, Result, Ok, Err, OnOk, OnErr, IfErr, is_some}
use Rattle.wef_ids.specs.declared.MessageId.{MessageId}
use Rattle.wef_source.specs.Answers.{AnswersTo, Loses, RefusesAnswer, RefusesLost, waiting_for}
use Rattle.wef_source.specs.Machine.{End, lost_in}
use Rattle.wef_source.specs.Sessions.{first_where, is_named, settled, with_changed}
use Rattle.wef_building.specs.declared.faults.SourceFault.{SourceFault}
use Rattle.wef_building.specs.declared.faults.SourceFault.TheVariants.{NoMemory, Failed, Full, TooLong, NotAsked, UnknownSubscription, Expired, Spent}
use Rattle.wef_source.specs.declared.messages.Moved.{Moved}
use Rattle.wef_source.specs.declared.messages.Moved.TheVariants as moves
use Rattle.wef_source.specs.declared.messages.Reply.{Reply}
use Rattle.wef_source.specs.declared.messages.Reply.TheVariants as replies
use Rattle.wef_building.specs.declared.sessions.Session.{Session}
use Rattle.wef_forwarding.specs.Forwarding.{IsAwaited, outcome_of, replied_in}
use Rattle.wef_forwarding.specs.declared.forwarding.Exchange.{Exchange}
use Rattle.wef_forwarding.specs.declared.forwarding.Exchange.TheVariants.{Refused}

-- ---- the reply

-- what the source is behind a reply that it takes
pub replied : (end end' : End) (value : Option ℕ) (reply : Reply) (moved : Moved) → AnswersTo end end' value reply moved → end' ≡ replied_in end value reply
replied end end' None reply moved is = absurd is
replied end end' (Some id) replies.Ack moved is = is.1
replied end end' (Some id) (replies.Fault name) moved is = is.1

no_move : moves.Refused ≡ moves.Moved → ⊥
no_move e = cc

-- a session that goes on behind what it sent had an acknowledgement
pub moved_is : (acked : Exchange) (end end' : End) (value : Option ℕ) (reply : Reply) → AnswersTo end end' value reply moves.Moved → acked ≡ outcome_of acked (Some reply)
moved_is acked end end' None reply is = absurd is
moved_is acked end end' (Some id) replies.Ack is = refl
moved_is acked end end' (Some id) (replies.Fault name) is = absurd (no_move (sym is.0))

-- one that doesn't had a fault
pub refused_is : (acked : Exchange) (end end' : End) (value : Option ℕ) (reply : Reply) → AnswersTo end end' value reply moves.Refused → Refused ≡ outcome_of acked (Some reply)
refused_is acked end end' None reply is = absurd is
refused_is acked end end' (Some id) replies.Ack is = absurd (no_move is.0)
refused_is acked end end' (Some id) (replies.Fault name) is = refl

nobody : (found : Option Session) → found ≡ None → is_some found ≡ true → ⊥
nobody None none some = cc
nobody (Some session) none some = cc

-- a reply that is awaited isn't refused
pub not_refused : (fault : SourceFault) (end : End) (id : MessageId) → RefusesAnswer fault end id → IsAwaited end id → ⊥
not_refused NoMemory end id bad awaited = absurd bad
not_refused Failed end id bad awaited = absurd bad
not_refused Full end id bad awaited = absurd bad
not_refused TooLong end id bad awaited = absurd bad
not_refused NotAsked end id bad awaited = nobody (waiting_for end id.value) bad awaited
not_refused UnknownSubscription end id bad awaited = absurd bad
not_refused Expired end id bad awaited = absurd bad
not_refused Spent end id bad awaited = absurd bad

-- ---- no reply

-- where no session passes none is changed
none_changed : (test : Session → Bool) (change : Session → Session) (ss : List Session) → first_where test ss ≡ None → with_changed test change ss ≡ ss
none_changed test change [] none = refl
none_changed test change (s ∷ ss) none = by (test s) refl (none_changed test change ss)
  where
    at : Bool → Option Session
    at t = cond t (Some s) (first_where test ss)

    there : Some s ≡ None → with_changed test change (s ∷ ss) ≡ s ∷ ss
    there e = cc

    by : (b : Bool) → test s ≡ b → (first_where test ss ≡ None → with_changed test change ss ≡ ss) → with_changed test change (s ∷ ss) ≡ s ∷ ss
    by true is more = there (ap at (sym is) ∙ none)
    by false is more = ap (λ (t : Bool). cond t (change s ∷ ss) (s ∷ with_changed test change ss)) is ∙ ap (λ (all : List Session). s ∷ all) (more (ap at (sym is) ∙ none))

lost_nowhere : (fault : SourceFault) (end : End) (u : List ℕ) → RefusesLost fault end u → end ≡ lost_in end u
lost_nowhere NoMemory end u bad = absurd bad
lost_nowhere Failed end u bad = absurd bad
lost_nowhere Full end u bad = absurd bad
lost_nowhere TooLong end u bad = absurd bad
lost_nowhere NotAsked end u bad = absurd bad
lost_nowhere UnknownSubscription end u none = ap (λ (ss : List Session). record end { sessions = ss }) (sym (none_changed (is_named u) settled end.sessions none))
lost_nowhere Expired end u bad = absurd bad
lost_nowhere Spent end u bad = absurd bad

-- a session that gives up waits for nothing, whether it was there or not
pub lost_is : (result : Result (Unit {0}) SourceFault) (end end' : End) (u : List ℕ) → OnOk result (Loses end end' u) → IfErr result (λ fault. RefusesLost fault end u) → OnErr result (end' ≡ end) → end' ≡ lost_in end u
lost_is (Ok done) end end' u ok refused same = ok.1
lost_is (Err fault) end end' u ok refused same = same ∙ lost_nowhere fault end u refused
