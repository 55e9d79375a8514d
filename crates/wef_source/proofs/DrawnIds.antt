-- A session awaits at most the answer to an id that was drawn.
use Rattle.std.proofs.Common.{◌≡◌, sym, subst, ℕ, ◌<◌, ◌≤◌, Bool, true, false, cond, List, [], ◌∷◌, arith}
use Rattle.std.specs.Cmp.Lexicographic.{slice_cmp}
use Rattle.std.specs.List.{filter}
use Rattle.std.specs.Ordering.{nat_cmp}
use Rattle.std.specs.Prelude.{Option, Some, None}
use Rattle.std.specs.declared.cmp.Ordering.{Ordering}
use Rattle.std.specs.declared.cmp.Ordering.TheVariants.{Less, Equal, Greater}
use Rattle.wef_eventing.specs.Addresses.{subscription_in}
use Rattle.wef_eventing.specs.declared.offers.Offer.{Offer}
use Rattle.wef_eventing.specs.declared.offers.Subscribe.{Subscribe}
use Rattle.wef_ids.specs.declared.FaultName.{FaultName}
use Rattle.wef_source.specs.Machine.{is_unreachable}
use Rattle.wef_source.specs.Serving.{AwaitBelow, AwaitsBelow}
use Rattle.wef_source.specs.Sessions.{answered, moved_by, placed, prolonged, sending, session_from, settled, with_changed, with_offered, with_offers, with_session, waits_for, without}
use Rattle.wef_source.specs.declared.serving.Answer.{Answer}
use Rattle.wef_source.specs.declared.serving.Answer.TheVariants.{Taken, Refused}
use Rattle.wef_building.specs.declared.sessions.Outstanding.{Outstanding}
use Rattle.wef_building.specs.declared.sessions.Session.{Session}

-- ---- changes

pub changed_below : (next : ℕ) (test : Session → Bool) (change : Session → Session) → ((s : Session) → AwaitsBelow next s → AwaitsBelow next (change s))
    → (ss : List Session) → AwaitBelow next ss → AwaitBelow next (with_changed test change ss)
changed_below next test change keeps [] all = tt
changed_below next test change keeps (s ∷ ss) all = by (test s) (changed_below next test change keeps ss all.1)
  where
    by : (b : Bool) → AwaitBelow next (with_changed test change ss) → AwaitBelow next (cond b (change s ∷ ss) (s ∷ with_changed test change ss))
    by true more = (keeps s all.0, all.1)
    by false more = (all.0, more)

pub without_below : (next : ℕ) (test : Session → Bool) (ss : List Session) → AwaitBelow next ss → AwaitBelow next (without test ss)
without_below next test [] all = tt
without_below next test (s ∷ ss) all = by (test s) (without_below next test ss all.1)
  where
    by : (b : Bool) → AwaitBelow next (without test ss) → AwaitBelow next (cond b ss (s ∷ without test ss))
    by true more = all.1
    by false more = (all.0, more)

pub filtered_below : (next : ℕ) (test : Session → Bool) (ss : List Session) → AwaitBelow next ss → AwaitBelow next (filter test ss)
filtered_below next test [] all = tt
filtered_below next test (s ∷ ss) all = by (test s) (filtered_below next test ss all.1)
  where
    by : (b : Bool) → AwaitBelow next (filter test ss) → AwaitBelow next (cond b (s ∷ filter test ss) (filter test ss))
    by true more = (all.0, more)
    by false more = more

pub prolonged_below : (next expiry : ℕ) (s : Session) → AwaitsBelow next s → AwaitsBelow next (prolonged expiry s)
prolonged_below next expiry s below = below

pub settled_below : (next : ℕ) (s : Session) → AwaitsBelow next s → AwaitsBelow next (settled s)
settled_below next s below = tt

moved_below : (next : ℕ) (o : Option Outstanding) (s : Session) → AwaitsBelow next (moved_by o s)
moved_below next None s = tt
moved_below next (Some o) s = tt

pub answered_below : (next : ℕ) (answer : Answer) (s : Session) → AwaitsBelow next s → AwaitsBelow next (answered answer s)
answered_below next Taken s below = moved_below next s.outstanding s
answered_below next Refused s below = tt

-- after a fault a session waits for nothing, or is gone
pub refused_below : (next id : ℕ) (fault : FaultName) (ss : List Session) → AwaitBelow next ss
    → AwaitBelow next (cond (is_unreachable fault) (without (waits_for id) ss) (with_changed (waits_for id) settled ss))
refused_below next id fault ss all = by (is_unreachable fault)
  where
    by : (b : Bool) → AwaitBelow next (cond b (without (waits_for id) ss) (with_changed (waits_for id) settled ss))
    by true = without_below next (waits_for id) ss all
    by false = changed_below next (waits_for id) settled (settled_below next) ss all

-- a session that awaits nothing awaits no id
pub idle_below : (next : ℕ) (s : Session) → s.outstanding ≡ None → AwaitsBelow next s
idle_below next s idle = subst (λ (o : Option Outstanding). AwaitsBelow next (record s { outstanding = o })) (sym idle) tt

-- ---- the next id

pub later_below : (next further : ℕ) → next ≤ further → (ss : List Session) → AwaitBelow next ss → AwaitBelow further ss
later_below next further more [] all = tt
later_below next further more (s ∷ ss) all = (by s.outstanding all.0, later_below next further more ss all.1)
  where
    by : (o : Option Outstanding) → AwaitsBelow next (record s { outstanding = o }) → AwaitsBelow further (record s { outstanding = o })
    by None below = tt
    by (Some o) below = omega arith

-- sessions of which one sent a delivery of an id
pub sent_below : (next further : ℕ) (test : Session → Bool) (o : Outstanding) (now : ℕ) → next ≤ further → o.id < further → (ss : List Session) → AwaitBelow next ss
    → AwaitBelow further (with_changed test (sending o now) ss)
sent_below next further test o now more drawn ss all = changed_below further test (sending o now) (λ s below. drawn) ss (later_below next further more ss all)

-- ---- offers

placed_below : (next : ℕ) (r : Ordering) (new s : Session) (ss rest : List Session) → AwaitsBelow next new → AwaitBelow next (s ∷ ss) → AwaitBelow next rest → AwaitBelow next (placed r new s ss rest)
placed_below next Less new s ss rest one all more = (one, all)
placed_below next Equal new s ss rest one all more = (one, all.1)
placed_below next Greater new s ss rest one all more = (all.0, more)

pub with_below : (next : ℕ) (ss : List Session) (new : Session) → AwaitBelow next ss → AwaitsBelow next new → AwaitBelow next (with_session ss new)
with_below next [] new all one = (one, tt)
with_below next (s ∷ ss) new all one = placed_below next (slice_cmp nat_cmp new.name s.name) new s ss (with_session ss new) one all (with_below next ss new all.1 one)

offered_below : (next now : ℕ) (ss : List Session) (subscribe : Subscribe) (u : Option (List ℕ)) → AwaitBelow next ss → AwaitBelow next (with_offered now ss subscribe u)
offered_below next now ss subscribe None all = all
offered_below next now ss subscribe (Some u) all = with_below next ss (session_from now subscribe u) all tt

pub offers_below : (next now : ℕ) (ss : List Session) (offers : List Offer) → AwaitBelow next ss → AwaitBelow next (with_offers now ss offers)
offers_below next now ss [] all = all
offers_below next now ss (offer ∷ offers) all =
    offers_below next now (with_offered now ss offer.subscribe (subscription_in offer.subscribe.notify_to)) offers (offered_below next now ss offer.subscribe (subscription_in offer.subscribe.notify_to) all)
