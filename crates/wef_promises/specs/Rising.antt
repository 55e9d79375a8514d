-- Where sessions stand: each begins at the bookmark that was kept when its offer, or the collector's own wish, was sent, rises
-- by acknowledged batches alone, and sends batches that lie above where it stands. It is said of the moves that were done, the last first, from
-- a world in which nothing has happened: each line is one, but `settle`, which is many.
use Rattle.std.specs.Prelude.{◌≡◌, ℕ, ◌<◌, true, List, [], ◌∷◌, ◌++◌, Option, Some, None, ◌⊎◌, Contains}
use Rattle.std.specs.List.{AllByRecursion, filter}
use Rattle.wef_batch.specs.declared.items.Batch.{Batch}
use Rattle.wef_bookmark.specs.Order.{Marks, joined, number_at}
use Rattle.wef_bodies.specs.declared.bodies.Body.{Body}
use Rattle.wef_bodies.specs.declared.bodies.Body.TheVariants as body
use Rattle.wef_collector_rows.specs.Bookmarks.{bookmark_of}
use Rattle.wef_ids.specs.declared.MessageId.{MessageId}
use Rattle.wef_eventing.specs.Addresses.{subscription_in}
use Rattle.wef_eventing.specs.declared.offers.Offer.{Offer}
use Rattle.wef_eventing.specs.declared.offers.Subscribe.{Subscribe}
use Rattle.wef_replay.specs.declared.lines.Line.{Line}
use Rattle.wef_replay.specs.declared.lines.Line.TheVariants as lines
use Rattle.wef_building.specs.Fits.{event_at, ranges_in}
use Rattle.wef_source.specs.Machine.{End}
use Rattle.wef_source.specs.Sessions.{is_named}
use Rattle.wef_building.specs.Wanted.{in_ranges}
use Rattle.wef_source.specs.declared.messages.Delivery.{Delivery}
use Rattle.wef_building.specs.declared.sessions.Session.{Session}
use Rattle.wef_machine.specs.Deliveries.{message_at, number_back}
use Rattle.wef_safety.specs.Safe.{WasSent}
use Rattle.wef_machine.specs.States.{Slot, State, slot_of, start}
use Rattle.wef_machine.specs.Steps.{AreAdmitted, step}
use Rattle.wef_machine.specs.Turns.{lose_step, release_step}
use Rattle.wef_machine.specs.declared.messages.Message.{Message}
use Rattle.wef_machine.specs.declared.messages.Message.TheVariants.{Ask, Offers, Events, Beat, Ack, Fault, Request, Response, Ended}

-- A move is what a line does, or what settling does beside what lines do: the collector gives up its leases, or no source waits for an
-- answer any longer.
pub data Move : Type 0 where
  Does : Line → Move
  Releases : Move
  Loses : Move

-- the state behind a move
abbrev pub moved : Move → State → State
moved (Does line) state = step line state
moved Releases state = release_step state
moved Loses state = lose_step state

-- the state that moves leave
abbrev pub state_after : List Move → State
state_after [] = start
state_after (move ∷ past) = moved move (state_after past)

-- the message that a move delivers
abbrev pub delivered : Move → State → Option Message
delivered (Does (lines.Deliver k seen)) state = message_at state k
delivered (Does (lines.Back n)) state = message_at state (number_back state n)
delivered _ state = None

-- A move sends a message in a state: it is one of those that there are then behind those that were sent before.
pub record Sends (move : Move) (state : State) (m : Message) : Type 0 where
  -- what the move sends
  pub more : List Message
  pub are : (moved move state).messages ≡ state.messages ++ more
  pub is_one : WasSent more m

-- A message was sent by one of the moves done, in the state that the earlier of them had left.
pub record WasSentAt (past : List Move) (m : Message) (earlier : List Move) : Type 0 where
  pub move : Move
  pub later : List Move
  pub are : past ≡ later ++ move ∷ earlier
  pub sends : Sends move (state_after earlier) m

-- In a state the source runs, and has a session of the subscription's name that stands at these positions.
pub record StandsAt (state : State) (u s : List ℕ) (positions : Marks) : Type 0 where
  pub slot : Slot
  pub declared : slot_of state s ≡ Some slot
  pub end : End
  pub runs : slot.place.memory ≡ Some end
  pub session : Session
  pub is_one : Contains end.sessions session
  pub name : session.name ≡ u
  pub is_there : session.positions ≡ positions

-- no other session of the source has its name
abbrev pub IsAlone : {state : State} {u s : List ℕ} {positions : Marks} → StandsAt state u s positions → Type 0
IsAlone at = filter (is_named at.session.name) at.end.sessions ≡ at.session ∷ []

-- a wish to a source begins at the bookmark that the collector's rows have in a state
abbrev pub BeginsAt : State → List ℕ → Subscribe → Type 0
BeginsAt state s wish = (u : List ℕ) → subscription_in wish.notify_to ≡ Some u → wish.from ≡ bookmark_of state.collector.rows u s

-- A message to a source says a wish: it offers it to the source, or the collector asks the source for it.
abbrev pub Wishes : List ℕ → Subscribe → Message → Type 0
Wishes s wish (Offers r id relates offers) = (r ≡ s) × ((offer : Offer) × Contains offers offer × (offer.subscribe ≡ wish))
Wishes s wish (Request r id identifier asks) = (r ≡ s) × (asks ≡ body.Subscribe wish)
Wishes s wish _ = ⊥

-- A move began a session at these positions: it delivered a message with a wish of the subscription, and they are where that
-- begins.
pub record HasBegun (past : List Move) (move : Move) (u s : List ℕ) (positions : Marks) : Type 0 where
  -- the message that was delivered
  pub message : Message
  pub delivers : delivered move (state_after past) ≡ Some message
  -- its wish of the subscription
  pub wish : Subscribe
  pub is_one : Wishes s wish message
  pub to_subscription : subscription_in wish.notify_to ≡ Some u
  -- it begins at the bookmark of the very state in which the message was sent
  pub earlier : List Move
  pub was_sent : WasSentAt past message earlier
  pub from : wish.from ≡ bookmark_of (state_after earlier).collector.rows u s
  -- there the session stands
  pub is_there : (c : List ℕ) → number_at positions c ≡ number_at wish.from c

-- A move raised a session from some positions to others: it delivered the acknowledgement of a batch that the session had
-- sent, and each channel's position is the greater of its own and that of the batch's bookmark.
pub record WasRaised (move : Move) (state : State) (u s : List ℕ) (before positions : Marks) : Type 0 where
  pub delivery : Delivery
  pub was_sent : WasSent state.messages (Events s delivery)
  pub to_subscription : subscription_in delivery.notify_to ≡ Some u
  pub reply : MessageId
  pub delivers : delivered move state ≡ Some (Ack s reply delivery.id)
  pub is_there : positions ≡ joined before delivery.batch.to

-- How a session came to stand at positions: the last of the moves done began it there; or it was there before that move,
-- had come so to where it stood, and was left there or raised to here by an acknowledged batch.
abbrev pub HasRisen : List Move → List ℕ → List ℕ → Marks → Type 0
HasRisen [] u s positions = ⊥
HasRisen (move ∷ past) u s positions =
    HasBegun past move u s positions
    ⊎ ((before : Marks) × StandsAt (state_after past) u s before × HasRisen past u s before
    × ((before ≡ positions) ⊎ WasRaised move (state_after past) u s before positions))

-- What a batch says of a channel lies above a number.
pub record IsAbove (b : ℕ) (c : List ℕ) (batch : Batch) : Type 0 where
  pub events : (n : ℕ) (text : List ℕ) → event_at c n batch.items ≡ Some text → b < n
  pub ranges : (n : ℕ) → in_ranges (ranges_in c batch.items) n ≡ true → b < n

-- A delivery of a source lies above where the one session of its subscription stood as it was sent, which had risen so.
pub record StandsAbove (earlier : List Move) (s : List ℕ) (delivery : Delivery) : Type 0 where
  pub u : List ℕ
  pub to_subscription : subscription_in delivery.notify_to ≡ Some u
  pub positions : Marks
  pub stood : StandsAt (state_after earlier) u s positions
  pub alone : IsAlone stood
  pub risen : HasRisen earlier u s positions
  pub above : (c : List ℕ) → IsAbove (number_at positions c) c delivery.batch

-- what the collector asks a source for begins so, where it is a wish
abbrev pub BodyBeginsAt : State → List ℕ → Body → Type 0
BodyBeginsAt state s (body.Subscribe wish) = BeginsAt state s wish
BodyBeginsAt state s _ = Unit {0}

-- what is true of a message, by the moves that were done before it was sent
abbrev pub IsSentRisen : List Move → Message → Type 0
IsSentRisen earlier (Ask s id) = Unit {0}
IsSentRisen earlier (Offers s id relates offers) = AllByRecursion (λ (offer : Offer). BeginsAt (state_after earlier) s offer.subscribe) offers
IsSentRisen earlier (Events s delivery) = StandsAbove earlier s delivery
IsSentRisen earlier (Beat s beat) = Unit {0}
IsSentRisen earlier (Ack s id relates) = Unit {0}
IsSentRisen earlier (Fault s id relates fault) = Unit {0}
IsSentRisen earlier (Request s id identifier asks) = BodyBeginsAt (state_after earlier) s asks
IsSentRisen earlier (Response s id relates answer) = Unit {0}
IsSentRisen earlier (Ended s note) = Unit {0}

-- A message was sent by one of the moves done, and is so by the state in which it was sent.
pub record IsMessageRisen (past : List Move) (m : Message) : Type 0 where
  pub earlier : List Move
  pub was_sent : WasSentAt past m earlier
  pub is : IsSentRisen earlier m

-- It is so of all sessions and all messages that there are once moves are done, and no source has two sessions of one name.
pub record AreAllRisen (past : List Move) : Type 0 where
  pub alone : (u s : List ℕ) (positions : Marks) (at : StandsAt (state_after past) u s positions) → IsAlone at
  pub sessions : (u s : List ℕ) (positions : Marks) → StandsAt (state_after past) u s positions → HasRisen past u s positions
  pub sent : (m : Message) → WasSent (state_after past).messages m → IsMessageRisen past m

-- ---- what lines do

-- a move is one of settling: what a line does that asks, requests or polls, or that delivers the message which was sent last, or one that no
-- line does
abbrev pub IsOfSettling : Move → Type 0
IsOfSettling (Does (lines.Ask s)) = Unit {0}
IsOfSettling (Does lines.Request) = Unit {0}
IsOfSettling (Does (lines.Poll s u)) = Unit {0}
IsOfSettling (Does (lines.Back n)) = n ≡ 0
IsOfSettling (Does _) = ⊥
IsOfSettling Releases = Unit {0}
IsOfSettling Loses = Unit {0}

-- these are the moves of a line, the last first: its own alone, or such as settle
abbrev pub AreMovesOf : Line → List Move → Type 0
AreMovesOf lines.Settle moves = AllByRecursion IsOfSettling moves
AreMovesOf line moves = moves ≡ Does line ∷ []

-- it is so behind moves, and behind each of some more, the last first
abbrev pub AreAllRisenBehind : List Move → List Move → Type 0
AreAllRisenBehind past [] = AreAllRisen past
AreAllRisenBehind past (move ∷ moves) = AreAllRisen (move ∷ moves ++ past) × AreAllRisenBehind past moves

-- A line is done by moves of its own behind others: they leave what it leaves, and it is so behind each of them.
pub record IsDone (past : List Move) (line : Line) : Type 0 where
  -- the last first
  pub moves : List Move
  pub are : AreMovesOf line moves
  pub leaves : state_after (moves ++ past) ≡ step line (state_after past)
  pub risen : AreAllRisenBehind past moves

-- each of some lines is, one after the other
abbrev pub AreDone : List Move → List Line → Type 0
AreDone past [] = AreAllRisen past
AreDone past (line ∷ more) = (done : IsDone past line) × AreDone (done.moves ++ past) more

-- A good schedule is done by moves of its lines. In every state behind one a source has one session of a name at most, and each session
-- stands where a move began it, at the bookmark that was kept when its offer, or the collector's own wish, was sent, or where acknowledged
-- batches have raised it since; and each batch that was sent lies above where its session stood as it was sent.
abbrev pub SessionsRise : Type 0
SessionsRise = (schedule : List Line) → AreAdmitted start schedule → AreDone [] schedule
