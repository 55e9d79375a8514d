use Rattle.std.proofs.Common.{◌≡◌, ℕ, ◌+◌, ◌*◌, ◌<◌, ◌∙◌, ap, arith, false, refl, sym, subst, set, true, Some, None}
use Rattle.std.specs.Prelude.{Err}
use Rattle.std.specs.List.{position}
use Rattle.std.specs.Cmp.Lexicographic.{same_text}
use Rattle.std.proofs.lemmas.Result.{err_from_is_err_and}
use Rattle.wef_bookmark.specs.Order.{Marks}
use Rattle.wef_keeper.specs.Calls.{Looks}
use Rattle.wef_keeper.specs.Rows.{Rows}
use Rattle.wef_query.specs.Selected.{channels_of}
use Rattle.wef_source_log.specs.Forms.{AreFormed}
use Rattle.wef_source.specs.Answers.{Polls, RefusesPoll}
use Rattle.wef_building.specs.Faults.{source_store}
use Rattle.wef_source.specs.Machine.{End, is_spent, most_drawn, next_id}
use Rattle.wef_source.specs.Prepared.{MayDraw, Prepares, RefusesToPrepare, poll_of, read_by}
use Rattle.wef_building.specs.Reading.{ReadsAbove}
use Rattle.wef_source.specs.Serving.{AwaitBelow}
use Rattle.wef_source.specs.Sessions.{has_expired, is_named, sending, session_of}
use Rattle.wef_building.specs.declared.faults.SourceFault.TheVariants.{Expired, UnknownSubscription}
use Rattle.wef_source.specs.declared.messages.Poll.TheVariants.{Nothing}
use Rattle.wef_building.specs.declared.sessions.Session.{Session}
use Rattle.wef_building.proofs.Cases.{le_fails}
use Rattle.wef_source.proofs.Places.{changed_at, first_nowhere, passes_at, same_session, within_at}
use Rattle.wef_source.proofs.Polling.{answered, awaits, awaits_nothing, expired_sends, expired_there, looks_refused, may_refuse, may_send_there, never_sends, polls_nothing, polls_sent, refuses_poll, sends_addressed, sends_next, sends_nothing, sends_numbered, sends_remembered, sent_kept, session_at}
use Rattle.wef_building.proofs.Told.{any_told, if_told, opens_itself}
use Rattle.wef_source.proofs.DrawnIds.{sent_below}
use Rattle.wef_source.proofs.memories.Memory.poll.Goals as goal

-- no session has the name
pub returns-in_default : goal.returns-in_default
returns-in_default g c =
    let u = c.args.sub.now in
    let store = g.K.Keeper.store c.args.log.now.keeper in
    let none : position (is_named u) c.self.inside.sessions.items ≡ None = cc in
    let nowhere = ap (λ (e : End). session_of e.sessions u) (sym c.self.view_is) ∙ first_nowhere (is_named u) c.self.inside.sessions.items none in
    record {
      ok = any_told (λ (rows : Rows). Unit {0}) store.rows (λ rows. tt);
      refusal = any_told (λ (rows : Rows). session_of c.args.self.now.sessions u ≡ None) store.rows (λ rows. nowhere);
      sends = tt;
      numbered = tt;
      remembered = tt;
      addressed = tt;
      judged = any_told (λ (rows : Rows). Unit {0}) store.rows (λ rows. tt);
      listed = nowhere;
      err = refl;
      unexpired = tt;
      looks = never_sends (Looks source_store AreFormed (Err UnknownSubscription) store store) c.args.self.now u c.args.now nowhere;
      untouched = λ may. refl;
      reads = opens_itself AreFormed store (g.met.K.Keeper.lawful c.args.log.now.keeper);
    }

-- the session has expired
pub returns-then-has_expired : goal.returns-then-has_expired
returns-then-has_expired g c =
    let u = c.args.sub.now in
    let end = c.args.self.now in
    let s = c.index.result.now in
    let store = g.K.Keeper.store c.args.log.now.keeper in
    let at : position (is_named u) c.self.inside.sessions.items ≡ Some c.in-Some.place = cc in
    let found = session_at end u c.self.inside.sessions.items c.in-Some.place s (λ i. (c.self.view_is i).sessions) at c.index.ensures in
    let over : has_expired c.args.now s ≡ true = sym c.has_expired.ensures ∙ c.if-has_expired.true in
    let there = expired_there end u c.args.now true s found over in
    record {
      ok = any_told (λ (rows : Rows). Unit {0}) store.rows (λ rows. tt);
      refusal = any_told (λ (rows : Rows). RefusesPoll Expired rows end u c.args.now) store.rows (λ rows. there);
      sends = tt;
      numbered = tt;
      remembered = tt;
      addressed = tt;
      judged = any_told (λ (rows : Rows). Unit {0}) store.rows (λ rows. tt);
      listed = there;
      err = refl;
      unexpired = tt;
      looks = expired_sends (Looks source_store AreFormed (Err Expired) store store) end u c.args.now s found over;
      untouched = λ may. refl;
      reads = opens_itself AreFormed store (g.met.K.Keeper.lawful c.args.log.now.keeper);
    }

-- what the session sends isn't prepared
pub returns-in_err-outgoing : goal.returns-in_err-outgoing
returns-in_err-outgoing g c =
    let u = c.args.sub.now in
    let s = c.index-2.result.now in
    let fault = c.in_err-outgoing.field-0.0 in
    let before = g.K.Keeper.store c.args.log.now.keeper in
    let now = g.K.Keeper.store c.prepared.new.log.keeper in
    let prepared = c.in_err-outgoing.ensures in
    let at : position (is_named u) c.self.inside.sessions.items ≡ Some c.in-Some.place = cc in
    let found = session_at c.args.self.now u c.self.inside.sessions.items c.in-Some.place s (λ i. (c.self.view_is i).sessions) at c.index-2.ensures in
    let first = c.index.result.now in
    let one = same_session (is_named u) c.self.inside.sessions.items c.in-Some.place first s at c.index.ensures c.index-2.ensures in
    let on : has_expired c.args.now s ≡ false = subst (λ (x : Session). has_expired c.args.now x ≡ false) one (sym c.has_expired.ensures ∙ c.if-has_expired.false) in
    let p = err_from_is_err_and c.from_residual.result c.from_residual.ensures.1 in
    rw (p.1, p.2) (record {
      ok = any_told (λ (rows : Rows). Unit {0}) now.rows (λ rows. tt);
      refusal = if_told (λ (rows : Rows). RefusesToPrepare rows c.args.self.now s c.args.now fault) (λ (rows : Rows). RefusesPoll fault rows c.args.self.now u c.args.now) now.rows
          (λ rows h. refuses_poll rows c.args.self.now u s c.args.now fault found on h) prepared.refusal;
      sends = tt;
      numbered = tt;
      remembered = tt;
      addressed = tt;
      judged = any_told (λ (rows : Rows). Unit {0}) now.rows (λ rows. tt);
      listed = may_refuse c.args.self.now u c.args.now fault (may_send_there c.args.self.now u c.args.now s found on prepared.idle) prepared.listed;
      err = refl;
      unexpired = tt;
      looks = λ may. looks_refused fault before now (prepared.looks (awaits_nothing c.args.self.now u c.args.now s found may));
      untouched = λ may. prepared.untouched (awaits c.args.self.now u c.args.now s found on may);
      reads = prepared.reads;
    })

-- there is nothing to send
pub returns-in_default-2 : goal.returns-in_default-2
returns-in_default-2 g c =
    let u = c.args.sub.now in
    let end = c.args.self.now in
    let s = c.index-2.result.now in
    let before = g.K.Keeper.store c.args.log.now.keeper in
    let after = g.K.Keeper.store c.prepared.new.log.keeper in
    let account = c.in_ok-outgoing.ensures in
    let at : position (is_named u) c.self.inside.sessions.items ≡ Some c.in-Some.place = cc in
    let found = session_at end u c.self.inside.sessions.items c.in-Some.place s (λ i. (c.self.view_is i).sessions) at c.index-2.ensures in
    let first = c.index.result.now in
    let one = same_session (is_named u) c.self.inside.sessions.items c.in-Some.place first s at c.index.ensures c.index-2.ensures in
    let on : has_expired c.args.now s ≡ false = subst (λ (x : Session). has_expired c.args.now x ≡ false) one (sym c.has_expired.ensures ∙ c.if-has_expired.false) in
    let ok = if_told (λ (rows : Rows). Prepares rows end s c.args.now c.in_ok-outgoing.field-0) (λ (rows : Rows). Polls rows end end u c.args.now Nothing) after.rows
    (λ rows h. polls_nothing rows end u c.args.now s found (subst (Prepares rows end s c.args.now) c.in_default-2.is h)) account.ok in
    answered c.args.log.now c.prepared.new.log before after end end u c.args.now s c.in_ok-outgoing.field-0 Nothing found on ok (sends_nothing end u c.args.now s found) tt tt tt account

pub invariant_of-self : goal.invariant_of-self
invariant_of-self g c =
    let at : position (is_named c.args.sub.now) c.self.inside.sessions.items ≡ Some c.in-Some.place = cc in
    let draws = subst (MayDraw c.args.self.now c.index-2.result.now c.args.now) c.in-Some-2.is c.in_ok-outgoing.ensures.draws in
    let one = same_session (is_named c.args.sub.now) c.self.inside.sessions.items c.in-Some.place c.index-2.result.now c.index_mut.result.now at c.index-2.ensures c.index_mut.ensures.value in
    let changed = changed_at (is_named c.args.sub.now) (sending c.in-Some-2.outstanding c.args.now) c.self.inside.sessions.items c.in-Some.place c.index_mut.result.now c.send.new.session at c.index_mut.ensures.value c.send.ensures in
    let next = c.self.inside.boot * 18446744073709551616 + (c.self.inside.drawn + 1) in
    let further = c.self.inside.boot * 18446744073709551616 + (c.self.inside.drawn + 1 + 1) in
    let id : c.in-Some-2.outstanding.id ≡ next = (λ i. (draws.awaited i).id) ∙ ap next_id (sym c.self.view_is) in
    let to : read_by c.in-Some-2.outgoing ≡ c.in-Some-2.outstanding.to = λ i. (sym draws.awaited i).to in
    record {
      sessions = sent_kept c.args.sub.now c.args.now c.self.inside.sessions.items c.in-Some.place c.index_mut.result.now c.send.new.session c.in-Some-2.outstanding
          c.self.invariant.sessions (within_at (is_named c.args.sub.now) c.self.inside.sessions.items c.in-Some.place at) c.index_mut.ensures.value
          (subst (λ (b : Marks). ReadsAbove c.index_mut.result.now.positions (channels_of c.index_mut.result.now.query.items) b) to
          (subst (λ (s : Session). ReadsAbove s.positions (channels_of s.query.items) (read_by c.in-Some-2.outgoing)) one draws.reads)) c.send.ensures changed;
      drawn = subst (AwaitBelow further) (sym changed)
          (sent_below next further (is_named c.args.sub.now) c.in-Some-2.outstanding c.args.now (omega arith) (subst (λ (n : ℕ). n < further) (sym id) (omega arith)) c.self.inside.sessions.items c.self.invariant.drawn);
    }

pub overflow_add-self : goal.overflow_add-self
overflow_add-self g c =
    let draws = subst (MayDraw c.args.self.now c.index-2.result.now c.args.now) c.in-Some-2.is c.in_ok-outgoing.ensures.draws in
    let below : c.self.inside.drawn < most_drawn = le_fails most_drawn c.self.inside.drawn (ap is_spent c.self.view_is ∙ draws.left) in
    omega arith

-- something is sent
pub returns : goal.returns
returns g c =
    let u = c.args.sub.now in
    let end = c.args.self.now in
    let s = c.index-2.result.now in
    let outgoing = c.in-Some-2.outgoing in
    let outstanding = c.in-Some-2.outstanding in
    let before = g.K.Keeper.store c.args.log.now.keeper in
    let after = g.K.Keeper.store c.prepared.new.log.keeper in
    let account = c.in_ok-outgoing.ensures in
    let at : position (is_named u) c.self.inside.sessions.items ≡ Some c.in-Some.place = cc in
    let found = session_at end u c.self.inside.sessions.items c.in-Some.place s (λ i. (c.self.view_is i).sessions) at c.index-2.ensures in
    let inside : End = record { boot = c.self.inside.boot; drawn = c.self.inside.drawn; ask = c.self.inside.ask; sessions = c.self.inside.sessions.items } in
    let ss = set c.self.inside.sessions.items c.in-Some.place c.send.new.session in
    let draws = subst (MayDraw end s c.args.now) c.in-Some-2.is account.draws in
    let changed = changed_at (is_named u) (sending outstanding c.args.now) c.self.inside.sessions.items c.in-Some.place c.index_mut.result.now c.send.new.session at c.index_mut.ensures.value c.send.ensures in
    let name = same_text s.name u (sym (passes_at (is_named u) c.self.inside.sessions.items c.in-Some.place s at c.index-2.ensures)) in
    let end' : End = record inside { drawn = inside.drawn + 1; sessions = ss } in
    let first = c.index.result.now in
    let one = same_session (is_named u) c.self.inside.sessions.items c.in-Some.place first s at c.index.ensures c.index-2.ensures in
    let on : has_expired c.args.now s ≡ false = subst (λ (x : Session). has_expired c.args.now x ≡ false) one (sym c.has_expired.ensures ∙ c.if-has_expired.false) in
    let ok = if_told (λ (rows : Rows). Prepares rows end s c.args.now c.in_ok-outgoing.field-0) (λ (rows : Rows). Polls rows end end' u c.args.now (poll_of outgoing)) after.rows
    (λ rows h. polls_sent inside end u c.args.now s outgoing outstanding ss c.self.view_is found changed rows name (subst (Prepares rows end s c.args.now) c.in-Some-2.is h)) account.ok in
    rw c.into_poll.ensures
    (answered c.args.log.now c.prepared.new.log before after end end' u c.args.now s c.in_ok-outgoing.field-0 (poll_of outgoing) found on ok
    (sends_next inside end u c.args.now s outgoing outstanding ss c.self.view_is found changed draws)
    (sends_numbered inside end u c.args.now s outgoing outstanding ss c.self.view_is found changed draws)
    (sends_remembered inside end u c.args.now s outgoing outstanding ss c.self.view_is found changed draws)
    (sends_addressed inside end u c.args.now s outgoing outstanding ss c.self.view_is found changed draws) account)
