-- What happens to sessions keeps what is true of each.
use Rattle.std.proofs.Common.{◌≡◌, ℕ, ◌==◌, Bool, true, false, cond, List, [], ◌∷◌, refl, ap, sym, ◌∙◌, subst, arith}
use Rattle.std.proofs.lemmas.Option.{none-some, same_Some}
use Rattle.std.proofs.lemmas.Bool.Decides.{nat_tests}
use Rattle.std.specs.Prelude.{Option, Some, None, max}
use Rattle.std.specs.Cmp.Lexicographic.{slice_cmp}
use Rattle.std.specs.List.{AllByRecursion, filter}
use Rattle.std.specs.Ordering.{nat_cmp}
use Rattle.std.specs.declared.cmp.Ordering.{Ordering}
use Rattle.std.specs.declared.cmp.Ordering.TheVariants.{Less, Equal, Greater}
use Rattle.wef_base.specs.Names.{same}
use Rattle.wef_bookmark.proofs.Joining.{joined_number, raised_number}
use Rattle.wef_bookmark.specs.Order.{Marks, joined, number_at, raised}
use Rattle.wef_ids.specs.declared.MessageId.{MessageId}
use Rattle.wef_eventing.specs.Addresses.{subscription_in}
use Rattle.wef_eventing.specs.declared.offers.Offer.{Offer}
use Rattle.wef_eventing.specs.declared.offers.Subscribe.{Subscribe}
use Rattle.wef_keeper.specs.Rows.{Rows}
use Rattle.wef_query.specs.Selected.{channels_of}
use Rattle.wef_source.specs.Machine.{lease_of}
use Rattle.wef_source.specs.Sessions.{acknowledged, first_where, is_outstanding, moved_by, placed, prolonged, session_from, session_leased, settled, until, waits_for, with_changed, with_channels, with_offered, with_offers, with_session, without}
use Rattle.wef_building.specs.declared.sessions.Lease.{Lease}
use Rattle.wef_building.specs.declared.sessions.Outstanding.{Outstanding}
use Rattle.wef_building.specs.declared.sessions.Session.{Session}
use Rattle.wef_machine.specs.declared.messages.Message.{Message}
use Rattle.wef_machine.specs.declared.messages.Message.TheVariants.{Ask, Offers, Events, Beat, Ack, Fault, Request, Response, Ended}
use Rattle.wef_safety.specs.Kept.{AreTerms, IsAckKept, IsBehind, IsLeaseTold, IsOffered, IsServed, WaitsFor, request_id}
use Rattle.wef_safety.specs.Safe.{IsAcknowledged, WasSent, own_id, read_by, source_of}
use Rattle.wef_safety.proofs.Moves.{AreOne}
use Rattle.wef_safety.proofs.Sent.{all_map}

-- ---- lists of sessions

pub all_changed : (P : Session → Type 0) (test : Session → Bool) (change : Session → Session) → ((s : Session) → test s ≡ true → P s → P (change s)) →
    (ss : List Session) → AllByRecursion P ss → AllByRecursion P (with_changed test change ss)
all_changed P test change keeps [] all = tt
all_changed P test change keeps (s ∷ ss) all = by_test (test s) refl (all_changed P test change keeps ss all.1)
  where
    by_test : (t : Bool) → test s ≡ t → AllByRecursion P (with_changed test change ss) → AllByRecursion P (cond t (change s ∷ ss) (s ∷ with_changed test change ss))
    by_test true is rest = (keeps s is all.0, all.1)
    by_test false is rest = (all.0, rest)

pub all_without : (P : Session → Type 0) (test : Session → Bool) (ss : List Session) → AllByRecursion P ss → AllByRecursion P (without test ss)
all_without P test [] all = tt
all_without P test (s ∷ ss) all =
    elim (test s) as (λ t. AllByRecursion P (cond t ss (s ∷ without test ss))) [
      | true ↦ all.1
      | false ↦ (all.0, all_without P test ss all.1)
    ]

pub all_filtered : (P : Session → Type 0) (test : Session → Bool) (ss : List Session) → AllByRecursion P ss → AllByRecursion P (filter test ss)
all_filtered P test [] all = tt
all_filtered P test (s ∷ ss) all =
    elim (test s) as (λ t. AllByRecursion P (cond t (s ∷ filter test ss) (filter test ss))) [
      | true ↦ (all.0, all_filtered P test ss all.1)
      | false ↦ all_filtered P test ss all.1
    ]

all_placed : (P : Session → Type 0) (o : Ordering) (new s : Session) (ss rest : List Session) → P new → P s → AllByRecursion P ss → AllByRecursion P rest →
    AllByRecursion P (placed o new s ss rest)
all_placed P Less new s ss rest is_new is all all' = (is_new, (is, all))
all_placed P Equal new s ss rest is_new is all all' = (is_new, all)
all_placed P Greater new s ss rest is_new is all all' = (is, all')

pub all_with_session : (P : Session → Type 0) (ss : List Session) (new : Session) → P new → AllByRecursion P ss → AllByRecursion P (with_session ss new)
all_with_session P [] new is_new all = (is_new, tt)
all_with_session P (s ∷ ss) new is_new all =
    all_placed P (slice_cmp nat_cmp new.name s.name) new s ss (with_session ss new) is_new all.0 all.1 (all_with_session P ss new is_new all.1)

-- the first that passes is one of them
pub first_is : (P : Session → Type 0) (test : Session → Bool) (ss : List Session) (s : Session) → first_where test ss ≡ Some s → AllByRecursion P ss → P s
first_is P test [] s e all = absurd (none-some s e)
first_is P test (x ∷ ss) s e all = by_test (test x) e (λ is. first_is P test ss s is all.1)
  where
    by_test : (t : Bool) → cond t (Some x) (first_where test ss) ≡ Some s → (first_where test ss ≡ Some s → P s) → P s
    by_test true is rest = subst P (same_Some x s is) all.0
    by_test false is rest = rest is

-- the first that passes does pass
pub first_passes : (test : Session → Bool) (ss : List Session) (s : Session) → first_where test ss ≡ Some s → test s ≡ true
first_passes test [] s e = absurd (none-some s e)
first_passes test (x ∷ ss) s e = by_test (test x) refl e (λ is. first_passes test ss s is)
  where
    by_test : (t : Bool) → test x ≡ t → cond t (Some x) (first_where test ss) ≡ Some s → (first_where test ss ≡ Some s → test s ≡ true) → test s ≡ true
    by_test true passes is rest = subst (λ (y : Session). test y ≡ true) (same_Some x s is) passes
    by_test false passes is rest = rest is

-- the first that passes is changed, and nothing else
pub all_first_changed : (P Q : Session → Type 0) (test : Session → Bool) (change : Session → Session) (ss : List Session) (s : Session) → first_where test ss ≡ Some s →
    ((x : Session) → P x → Q x) → Q (change s) → AllByRecursion P ss → AllByRecursion Q (with_changed test change ss)
all_first_changed P Q test change [] s e stays is all = tt
all_first_changed P Q test change (x ∷ ss) s e stays is all = by_test (test x) e (λ there. all_first_changed P Q test change ss s there stays is all.1)
  where
    by_test : (t : Bool) → cond t (Some x) (first_where test ss) ≡ Some s → (first_where test ss ≡ Some s → AllByRecursion Q (with_changed test change ss)) →
        AllByRecursion Q (cond t (change x ∷ ss) (x ∷ with_changed test change ss))
    by_test true there rest = (subst (λ (y : Session). Q (change y)) (sym (same_Some x s there)) is, all_map P Q stays ss all.1)
    by_test false there rest = (stays x all.0, rest there)

-- ---- a session that begins

raised_by_none : (b : Marks) (c q : List ℕ) → number_at (raised b c 0) q ≡ number_at b q
raised_by_none b c q = raised_number b c 0 q ∙ either (same q c) (number_at b q)
  where
    either : (t : Bool) (n : ℕ) → cond t (max n 0) n ≡ n
    either true n = omega arith
    either false n = refl

pub with_channels_number : (b : Marks) (cs : List (List ℕ)) (q : List ℕ) → number_at (with_channels b cs) q ≡ number_at b q
with_channels_number b [] q = refl
with_channels_number b (c ∷ cs) q = with_channels_number (raised b c 0) cs q ∙ raised_by_none b c q

session_begins : (rows : Rows) (messages : List Message) (s : List ℕ) (now : ℕ) (subscribe : Subscribe) (u : List ℕ) → subscription_in subscribe.notify_to ≡ Some u →
    IsOffered rows s subscribe → IsServed rows messages s (session_from now subscribe u)
session_begins rows messages s now subscribe u leads offered =
    let at : offered.u ≡ u = same_Some offered.u u (sym offered.terms.to_subscription ∙ leads) in
    record {
      terms = subst (λ (v : List ℕ). AreTerms rows v s subscribe.notify_to subscribe.identifier subscribe.query subscribe.max_items subscribe.max_bytes) at offered.terms;
      positions = λ c.
          let same_number = with_channels_number subscribe.from (channels_of subscribe.query.items) c in
          let behind = subst (λ (v : List ℕ). IsBehind rows v s subscribe.from) at offered.from c in
          omega arith;
      outstanding = tt;
      told = tt;
    }

-- so does one that a collector begins: its end is told where its batches go, if at all
pub leased_begins : (rows : Rows) (messages : List Message) (s : List ℕ) (now id : ℕ) (wish : Subscribe) (u : List ℕ) → subscription_in wish.notify_to ≡ Some u →
    IsOffered rows s wish → IsServed rows messages s (session_leased now wish (lease_of id wish now) u)
leased_begins rows messages s now id wish u leads offered =
    let begun = session_begins rows messages s now wish u leads offered in
    record { terms = begun.terms; positions = begun.positions; outstanding = tt; told = offered.told }

pub all_offered : (rows : Rows) (messages : List Message) (s : List ℕ) (now : ℕ) (ss : List Session) (offers : List Offer) →
    AllByRecursion (λ (offer : Offer). IsOffered rows s offer.subscribe) offers → AllByRecursion (IsServed rows messages s) ss →
    AllByRecursion (IsServed rows messages s) (with_offers now ss offers)
all_offered rows messages s now ss [] are all = all
all_offered rows messages s now ss (offer ∷ offers) are all =
    all_offered rows messages s now (with_offered now ss offer.subscribe (subscription_in offer.subscribe.notify_to)) offers are.1
    (by_address (subscription_in offer.subscribe.notify_to) refl)
  where
    by_address : (o : Option (List ℕ)) → subscription_in offer.subscribe.notify_to ≡ o → AllByRecursion (IsServed rows messages s) (with_offered now ss offer.subscribe o)
    by_address None leads = all
    by_address (Some u) leads =
        all_with_session (IsServed rows messages s) ss (session_from now offer.subscribe u) (session_begins rows messages s now offer.subscribe u leads are.0) all

-- ---- sessions that are answered

pub settled_served : (rows : Rows) (messages : List Message) (s : List ℕ) (session : Session) → IsServed rows messages s session → IsServed rows messages s (settled session)
settled_served rows messages s session served = record { terms = served.terms; positions = served.positions; outstanding = tt; told = served.told }

pub equal_numbers : (a b : ℕ) → a == b ≡ true → a ≡ b
equal_numbers a b e = grind (arith, nat_tests, e)

false_true : false ≡ true → ⊥
false_true e = cc

joined_behind : (rows : Rows) (u s : List ℕ) (a b : Marks) → IsBehind rows u s a → IsBehind rows u s b → IsBehind rows u s (joined a b)
joined_behind rows u s a b behind more c =
    let is = joined_number a b c in
    let first = behind c in
    let second = more c in
    omega arith

-- what a session sends is a request
session_requests : (m : Message) (reads : List ℕ × Marks) → read_by m ≡ Some reads → request_id m ≡ (own_id m).value
session_requests (Ask s id) reads e = absurd (none-some reads e)
session_requests (Offers s id relates offers) reads e = absurd (none-some reads e)
session_requests (Events s delivery) reads e = refl
session_requests (Beat s beat) reads e = refl
session_requests (Ack s id relates) reads e = absurd (none-some reads e)
session_requests (Fault s id relates fault) reads e = absurd (none-some reads e)
session_requests (Request s id identifier body) reads e = absurd (none-some reads e)
session_requests (Response s id relates answer) reads e = absurd (none-some reads e)
session_requests (Ended s note) reads e = absurd (none-some reads e)

-- the message that a session waits for is the one that an acknowledgement of its id is for
pub acknowledged_message : (rows : Rows) (messages : List Message) (s : List ℕ) (relates : MessageId) (id own : ℕ) (m : Message) → AreOne messages → (is : IsAcknowledged rows messages s relates) →
    WasSent messages m → source_of m ≡ s → request_id m ≡ Some own → own ≡ id → relates.value ≡ Some id → m ≡ is.message
acknowledged_message rows messages s relates id own m one is was from drawn same at =
    one m is.message id was is.was_sent (from ∙ sym is.of_source) (drawn ∙ ap Some same)
    (session_requests is.message (is.address, is.to) is.reads ∙ ap (λ (i : MessageId). i.value) (sym is.id) ∙ at)

-- an acknowledgement of what a session waits for moves it no further than what is kept
pub acknowledged_served : (rows : Rows) (messages : List Message) (s : List ℕ) (relates : MessageId) (id : ℕ) (session : Session) → AreOne messages →
    IsAckKept rows messages s relates → relates.value ≡ Some id → waits_for id session ≡ true → IsServed rows messages s session →
    IsServed rows messages s (acknowledged session)
acknowledged_served rows messages s relates id session one kept at waits served = by_outstanding session.outstanding waits served.outstanding
  where
    by_outstanding : (o : Option Outstanding) → is_outstanding id o ≡ true → WaitsFor messages s session.notify_to o → IsServed rows messages s (moved_by o session)
    by_outstanding None passes waited = absurd (false_true passes)
    by_outstanding (Some outstanding) passes waited =
        let is = kept.is in
        let own : outstanding.id ≡ id = equal_numbers outstanding.id id passes in
        let message : waited.0 ≡ is.message = acknowledged_message rows messages s relates id outstanding.id waited.0 one is waited.1 waited.2 waited.3 own at in
        let reads = same_Some (is.address, is.to) (session.notify_to, outstanding.to) (sym is.reads ∙ ap read_by (sym message) ∙ waited.4) in
        let to : is.to ≡ outstanding.to = ap (λ (x : List ℕ × Marks). x.1) reads in
        let leads = ap (λ (x : List ℕ × Marks). subscription_in x.0) reads ∙ served.terms.to_subscription in
        let path : is.u ≡ session.name = same_Some is.u session.name (sym is.to_subscription ∙ leads) in
        record {
          terms = served.terms;
          positions = joined_behind rows session.name s session.positions outstanding.to served.positions
              (subst (λ (x : List ℕ × Marks). IsBehind rows x.0 s x.1) (λ i. (path i, to i)) kept.behind);
          outstanding = tt;
          told = served.told;
        }

-- ---- a session that goes on

until_told : (expiry : ℕ) (address : List ℕ) (lease : Option Lease) → IsLeaseTold address lease → IsLeaseTold address (until expiry lease)
until_told expiry address None told = tt
until_told expiry address (Some lease) told = told

pub prolonged_served : (rows : Rows) (messages : List Message) (s : List ℕ) (expiry : ℕ) (session : Session) → IsServed rows messages s session →
    IsServed rows messages s (prolonged expiry session)
prolonged_served rows messages s expiry session served = record {
  terms = served.terms;
  positions = served.positions;
  outstanding = served.outstanding;
  told = until_told expiry session.notify_to session.lease served.told;
}
