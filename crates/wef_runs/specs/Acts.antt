-- What a source does at once to what it remembers while it runs, over rows that stay: and what is true of the batches that it sends.
use Rattle.std.specs.Prelude.{◌≡◌, ◌⊎◌, ℕ, true, false, List, [], ◌∷◌, Some, Contains}
use Rattle.std.specs.List.{AllByRecursion}
use Rattle.wef_bookmark.specs.Order.{joined}
use Rattle.wef_building.specs.Building.{built}
use Rattle.wef_building.specs.Fits.{Fits}
use Rattle.wef_building.specs.Laws.{AreWithin}
use Rattle.wef_building.specs.declared.sessions.Lease.{Lease}
use Rattle.wef_building.specs.declared.sessions.Outstanding.{Outstanding}
use Rattle.wef_building.specs.declared.sessions.Session.{Session}
use Rattle.wef_eventing.specs.Addresses.{subscription_in}
use Rattle.wef_eventing.specs.declared.offers.Offer.{Offer}
use Rattle.wef_front_source.specs.Replies.{MayHaveReplied, answered_in}
use Rattle.wef_front_source.specs.Steps.{done_by, said_by}
use Rattle.wef_front_source.specs.declared.hearing.Asked.{Asked}
use Rattle.wef_front_source.specs.declared.hearing.Asked.TheVariants.{Begin}
use Rattle.wef_front_source.specs.declared.hearing.Heard.{Heard}
use Rattle.wef_ids.specs.Ids.{ids_agree}
use Rattle.wef_ids.specs.declared.FaultName.{FaultName}
use Rattle.wef_ids.specs.declared.MessageId.{MessageId}
use Rattle.wef_keeper.specs.Rows.{Rows}
use Rattle.wef_source.specs.Answers.{WhereThere}
use Rattle.wef_source.specs.Machine.{End, acknowledged_in, adopted, asked, beaten, has_caught_up, is_idle, is_spent, lost_in, refused_in, sent}
use Rattle.wef_source.specs.Sessions.{session_from, session_leased, session_of}
use Rattle.wef_source_log.specs.Histories.{Histories}

-- ---- acts

pub data Act : Type 0 where
  -- it asks for its subscriptions
  Asks : Act
  -- it takes offers that answer an ask, at a moment
  Adopts : MessageId → List Offer → (moment : ℕ) → Act
  -- the session of a name sends its next batch, at a moment, or a heartbeat
  Sends : (u : List ℕ) → (moment : ℕ) → Act
  Beats : (u : List ℕ) → (moment : ℕ) → Act
  -- the message of an id is acknowledged, or refused
  Moves : (id : ℕ) → Act
  Refuses : (id : ℕ) → FaultName → Act
  -- nobody knows what became of what the session of a name sent
  Loses : (u : List ℕ) → Act
  -- what a collector asks is heard at a moment, and answered; or there is no memory to answer it
  Replies : Heard → (moment : ℕ) → Act
  Leaves : Heard → (moment : ℕ) → Act

-- What an act makes of what is remembered, by the definitions of a source.
abbrev pub IsActed : Rows → Act → End → End → Type 0
IsActed rows Asks end next = (is_spent end ≡ false) × (next ≡ asked end)
IsActed rows (Adopts relates offers moment) end next = (ids_agree end.ask relates.value ≡ true) × (next ≡ adopted end offers moment)
IsActed rows (Sends u moment) end next =
    WhereThere (session_of end.sessions u) (λ session. (is_idle moment rows session ≡ false) × (has_caught_up rows session ≡ false) × (is_spent end ≡ false) × (next ≡ sent rows end session moment))
IsActed rows (Beats u moment) end next =
    WhereThere (session_of end.sessions u) (λ session. (is_idle moment rows session ≡ false) × (has_caught_up rows session ≡ true) × (is_spent end ≡ false) × (next ≡ beaten end session moment))
IsActed rows (Moves id) end next = next ≡ acknowledged_in end id
IsActed rows (Refuses id fault) end next = next ≡ refused_in end id fault
IsActed rows (Loses u) end next = next ≡ lost_in end u
IsActed rows (Replies heard moment) end next = next ≡ answered_in (done_by end heard.asked moment) (said_by end heard.asked moment)
IsActed rows (Leaves heard moment) end next = MayHaveReplied end heard moment next

-- acts, one after the other
abbrev pub AreActed : Rows → List Act → End → End → Type 0
AreActed rows [] end last = last ≡ end
AreActed rows (act ∷ acts) end last = (next : End) × IsActed rows act end next × AreActed rows acts next last

-- ---- what is true of them

-- a fact of each act, by what was remembered before it and behind it
abbrev pub OfEach : (Act → End → End → Type 0) → (rows : Rows) (acts : List Act) (end last : End) → AreActed rows acts end last → Type 0
OfEach Holds rows [] end last same = Unit {0}
OfEach Holds rows (act ∷ acts) end last (next, acted, more) = Holds act end next × OfEach Holds rows acts next last more

-- a batch that is sent fits a source's histories above where its session stands
abbrev pub SendsFitting : Rows → Histories → ℕ → Act → End → End → Type 0
SendsFitting rows all capacity (Sends u moment) end next =
    WhereThere (session_of end.sessions u) (λ session. Fits session.query session.max_bytes all capacity session.positions (built rows session))
SendsFitting rows all capacity act end next = Unit {0}

-- A session was raised: the message that it waited for was acknowledged, and it goes on behind what that read.
pub record IsRaised (id : ℕ) (before session : Session) : Type 0 where
  pub outstanding : Outstanding
  pub waited : before.outstanding ≡ Some outstanding
  pub same_id : outstanding.id ≡ id
  pub positions : session.positions ≡ joined before.positions outstanding.to

abbrev pub MayRaise : Act → Session → Session → Type 0
MayRaise (Moves id) before session = IsRaised id before session
MayRaise act before session = ⊥

-- A session stood before an act, at the same positions, or the act raised it.
pub record HasStood (act : Act) (end : End) (session : Session) : Type 0 where
  pub before : Session
  pub is_one : Contains end.sessions before
  pub same_name : session.name ≡ before.name
  pub stands : (session.positions ≡ before.positions) ⊎ MayRaise act before session

-- a session began with the wish of a collector, where its address says
abbrev pub BeginsWith : Asked → ℕ → Session → Type 0
BeginsWith (Begin wish) moment session = (lease : Lease) × (subscription_in wish.notify_to ≡ Some session.name) × (session ≡ session_leased moment wish lease session.name)
BeginsWith asked moment session = ⊥

-- a session began with an offer, or with a wish
abbrev pub MayBegin : Act → Session → Type 0
MayBegin (Adopts relates offers moment) session =
    (offer : Offer) × Contains offers offer × (subscription_in offer.subscribe.notify_to ≡ Some session.name) × (session ≡ session_from moment offer.subscribe session.name)
MayBegin (Replies heard moment) session = BeginsWith heard.asked moment session
MayBegin (Leaves heard moment) session = BeginsWith heard.asked moment session
MayBegin act session = ⊥

-- each session behind an act stood before it or began with it: so positions rise by acknowledgements alone
abbrev pub Rises : Act → End → End → Type 0
Rises act end next = AllByRecursion (λ session. HasStood act end session ⊎ MayBegin act session) next.sessions

-- ---- premises

-- a wish begins within a source's histories
abbrev pub WishesWithin : Histories → Asked → Type 0
WishesWithin all (Begin wish) = AreWithin wish.from all
WishesWithin all asked = Unit {0}

-- so do offers that are taken, and wishes that are heard
abbrev pub BeginWithin : Histories → Act → Type 0
BeginWithin all (Adopts relates offers moment) = AllByRecursion (λ (offer : Offer). AreWithin offer.subscribe.from all) offers
BeginWithin all (Replies heard moment) = WishesWithin all heard.asked
BeginWithin all (Leaves heard moment) = WishesWithin all heard.asked
BeginWithin all act = Unit {0}
