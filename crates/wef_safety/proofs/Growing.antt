-- What is true of offers, sessions and messages stays so while rows, sources and messages grow.
use Rattle.std.proofs.Common.{◌≡◌, ℕ, ◌<◌, ◌≤◌, Bool, cond, not, ◌&&◌, List, [], ◌++◌, nat_le, refl, ap, sym, ◌∙◌, subst, arith, length-append, append-nil}
use Rattle.std.specs.Prelude.{Option, Some, None}
use Rattle.std.specs.FinMap as finite
use Rattle.wef_batch.specs.Reach.{reach}
use Rattle.wef_batch.specs.declared.items.Batch.{Batch}
use Rattle.wef_batch.specs.declared.items.Item.{Item}
use Rattle.wef_bodies.specs.declared.bodies.Body.{Body}
use Rattle.wef_bodies.specs.declared.bodies.Body.TheVariants as body
use Rattle.wef_bookmark.specs.Order.{Marks, number_at}
use Rattle.wef_collector_rows.specs.Bookmarks.{bookmark_at}
use Rattle.wef_ids.specs.declared.MessageId.{MessageId}
use Rattle.wef_eventing.specs.declared.offers.Offer.{Offer}
use Rattle.wef_eventing.specs.declared.offers.Subscribe.{Subscribe}
use Rattle.wef_eventing.specs.declared.subscriptions.Subscription.{Subscription}
use Rattle.wef_keeper.specs.Rows.{Rows}
use Rattle.wef_query.specs.declared.QueryList.{QueryList}
use Rattle.wef_source_log.specs.Histories.{Histories, History, history}
use Rattle.wef_building.specs.Fits.{Fits, FitsChannel, ranges_in}
use Rattle.wef_source.specs.Machine.{End}
use Rattle.wef_building.specs.Wanted.{Range, in_ranges, selected_at, wanted}
use Rattle.wef_source.specs.declared.messages.Delivery.{Delivery}
use Rattle.wef_building.specs.declared.sessions.Outstanding.{Outstanding}
use Rattle.wef_building.specs.declared.sessions.Session.{Session}
use Rattle.wef_collector.specs.Laws.{IsReached}
use Rattle.wef_pairs.specs.Pairs.{subscription_at}
use Rattle.wef_machine.specs.States.{Slot, Slots}
use Rattle.wef_machine.specs.declared.messages.Message.{Message}
use Rattle.wef_machine.specs.declared.messages.Message.TheVariants.{Ask, Offers, Events, Beat, Ack, Fault, Request, Response, Ended}
use Rattle.wef_pairs.proofs.Numbered.{lt_tested}
use Rattle.wef_pairs.proofs.Takes.{lost_longer}
use Rattle.wef_pairs.proofs.WantedEvents.{wanted_longer}
use Rattle.wef_safety.specs.Kept.{AreTerms, IsAckKept, IsAskedFor, IsBehind, IsDelivery, IsMessageKept, IsOffered, IsOnPath, IsRunningKept, IsServed, IsSourceKept, WaitsFor, WasDrawn, WhereDeclared, last_id}
use Rattle.wef_safety.specs.Laws.{FittingRises}
use Rattle.wef_safety.specs.Safe.{IsReachedBy, WasSent}
use Rattle.wef_safety.proofs.Sent.{all_map}

-- Later rows keep each subscription, and no bookmark falls.
pub record RowsGrow (rows rows' : Rows) : Type 0 where
  pub known : (u : List ℕ) (about : Subscription) → subscription_at rows u ≡ Some about → subscription_at rows' u ≡ Some about
  pub bookmarks : (u s c : List ℕ) → bookmark_at rows u s c ≤ bookmark_at rows' u s c

-- Later histories begin with the earlier ones.
pub record HistoriesGrow (all all' : Histories) : Type 0 where
  pub channels : (c : List ℕ) → (more : History) × (history all' c ≡ history all c ++ more)

-- A source's capacity stays, and it has written and drawn at least as much.
pub record SlotGrows (slot slot' : Slot) : Type 0 where
  pub capacity : slot.capacity ≡ slot'.capacity
  pub histories : HistoriesGrow slot.histories slot'.histories
  pub drawn : last_id slot slot.place.memory ≤ last_id slot' slot'.place.memory

abbrev pub SourcesGrow : Slots → Slots → Type 0
SourcesGrow sources sources' = (s : List ℕ) (slot : Slot) → finite.get sources s ≡ Some slot → WhereDeclared (finite.get sources' s) (SlotGrows slot)

abbrev pub MessagesGrow : List Message → List Message → Type 0
MessagesGrow messages messages' = (m : Message) → WasSent messages m → WasSent messages' m

pub same_rows : (rows : Rows) → RowsGrow rows rows
same_rows rows = record { known = λ u about e. e; bookmarks = λ u s c. omega arith }

pub same_histories : (all : Histories) → HistoriesGrow all all
same_histories all = record { channels = λ c. ([], sym (append-nil (history all c))) }

pub same_slot : (slot : Slot) → SlotGrows slot slot
same_slot slot = record { capacity = refl; histories = same_histories slot.histories; drawn = omega arith }

declared_by : (o : Option Slot) (slot : Slot) (P : Slot → Type 0) → o ≡ Some slot → P slot → WhereDeclared o P
declared_by o slot P e holds = subst (λ (x : Option Slot). WhereDeclared x P) (sym e) holds

pub same_sources : (sources : Slots) → SourcesGrow sources sources
same_sources sources s slot e = declared_by (finite.get sources s) slot (SlotGrows slot) e (same_slot slot)

pub same_messages : (messages : List Message) → MessagesGrow messages messages
same_messages messages m was = was

-- ---- histories that grow

channel_longer : (query : QueryList) (max_bytes : ℕ) (c : List ℕ) (records more : History) (capacity b : ℕ) (items : List Item) (t : Option ℕ) →
    FitsChannel query max_bytes c records capacity b items t → FitsChannel query max_bytes c (records ++ more) capacity b items t
channel_longer query max_bytes c records more capacity b items None fits = tt
channel_longer query max_bytes c records more capacity b items (Some t) fits = record {
  within = omega (arith, length-append records more, fits.within);
  exact = λ n above. fits.exact n above ∙ sym (wanted_longer query c records more b t (ranges_in c items) fits.within n);
  lost = λ n is. lost_longer query max_bytes c records more capacity n (fits.lost n is);
}

pub fits_longer : (query : QueryList) (max_bytes : ℕ) (all all' : Histories) (capacity : ℕ) (b : Marks) (batch : Batch) →
    HistoriesGrow all all' → Fits query max_bytes all capacity b batch → Fits query max_bytes all' capacity b batch
fits_longer query max_bytes all all' capacity b batch grows fits = record {
  well_formed = fits.well_formed;
  no_loose = fits.no_loose;
  others = fits.others;
  channels = λ c listed.
      subst (λ (records : History). FitsChannel query max_bytes c records capacity (number_at b c) batch.items (reach c batch)) (sym ((grows.channels c).1))
      (channel_longer query max_bytes c (history all c) ((grows.channels c).0) capacity (number_at b c) batch.items (reach c batch) (fits.channels c listed));
}

-- ---- bookmarks that rise

wanted_above : (query : QueryList) (c : List ℕ) (records : History) (b more t : ℕ) (ranges : List Range) (n : ℕ) → b ≤ more → more < n →
    wanted query c records b t ranges n ≡ wanted query c records more t ranges n
wanted_above query c records b more t ranges n less above =
    ap (λ (x : Bool). cond (x && nat_le n t && not (in_ranges ranges n)) (selected_at query c records n) None) (lt_tested b n (omega arith) ∙ sym (lt_tested more n above))

channel_above : (query : QueryList) (max_bytes : ℕ) (c : List ℕ) (records : History) (capacity b more : ℕ) (items : List Item) (t : Option ℕ) → b ≤ more →
    FitsChannel query max_bytes c records capacity b items t → FitsChannel query max_bytes c records capacity more items t
channel_above query max_bytes c records capacity b more items None less fits = tt
channel_above query max_bytes c records capacity b more items (Some t) less fits = record {
  within = fits.within;
  exact = λ n above. fits.exact n (omega arith) ∙ wanted_above query c records b more t (ranges_in c items) n less above;
  lost = fits.lost;
}

pub fitting_rises : FittingRises
fitting_rises query max_bytes all capacity b more batch less fits = record {
  well_formed = fits.well_formed;
  no_loose = fits.no_loose;
  others = fits.others;
  channels = λ c listed. channel_above query max_bytes c (history all c) capacity (number_at b c) (number_at more c) batch.items (reach c batch) (less c) (fits.channels c listed);
}

-- ---- facts that stay

pub behind_grows : (rows rows' : Rows) (u s : List ℕ) (b : Marks) → RowsGrow rows rows' → IsBehind rows u s b → IsBehind rows' u s b
behind_grows rows rows' u s b grows behind c = let more = grows.bookmarks u s c in let less = behind c in omega arith

reached_grows : (rows rows' : Rows) (u s : List ℕ) (about : Subscription) (batch : Batch) → RowsGrow rows rows' → IsReached rows u s about batch → IsReached rows' u s about batch
reached_grows rows rows' u s about batch grows within c t listed reached =
    let more = grows.bookmarks u s c in let less = within c t listed reached in omega arith

-- what a message reads stays kept
reached_by_grows : (rows rows' : Rows) (u s : List ℕ) (about : Subscription) (m : Message) → RowsGrow rows rows' → IsReachedBy rows u s about m → IsReachedBy rows' u s about m
reached_by_grows rows rows' u s about (Ask r id) grows within = tt
reached_by_grows rows rows' u s about (Offers r id relates offers) grows within = tt
reached_by_grows rows rows' u s about (Events r delivery) grows within = reached_grows rows rows' u s about delivery.batch grows within
reached_by_grows rows rows' u s about (Beat r beat) grows within = tt
reached_by_grows rows rows' u s about (Ack r id relates) grows within = tt
reached_by_grows rows rows' u s about (Fault r id relates fault) grows within = tt
reached_by_grows rows rows' u s about (Request r id identifier asks) grows within = tt
reached_by_grows rows rows' u s about (Response r id relates answer) grows within = tt
reached_by_grows rows rows' u s about (Ended r note) grows within = tt

pub terms_grow : (rows rows' : Rows) (u s address : List ℕ) (identifier : Option (List ℕ)) (query : QueryList) (max_items max_bytes : ℕ) → RowsGrow rows rows' →
    AreTerms rows u s address identifier query max_items max_bytes → AreTerms rows' u s address identifier query max_items max_bytes
terms_grow rows rows' u s address identifier query max_items max_bytes grows terms = record {
  about = terms.about;
  known = grows.known u terms.about terms.known;
  at = terms.at;
  host = terms.host;
  address_is = terms.address_is;
  to_subscription = terms.to_subscription;
  to_source = terms.to_source;
  identifier_is = terms.identifier_is;
  query_is = terms.query_is;
  max_items_is = terms.max_items_is;
  max_bytes_is = terms.max_bytes_is;
}

pub offered_grows : (rows rows' : Rows) (s : List ℕ) (subscribe : Subscribe) → RowsGrow rows rows' → IsOffered rows s subscribe → IsOffered rows' s subscribe
offered_grows rows rows' s subscribe grows offered = record {
  u = offered.u;
  terms = terms_grow rows rows' offered.u s subscribe.notify_to subscribe.identifier subscribe.query subscribe.max_items subscribe.max_bytes grows offered.terms;
  from = behind_grows rows rows' offered.u s subscribe.from grows offered.from;
  told = offered.told;
}

asked_for_grows : (rows rows' : Rows) (s : List ℕ) (asks : Body) → RowsGrow rows rows' → IsAskedFor rows s asks → IsAskedFor rows' s asks
asked_for_grows rows rows' s body.Enumerate grows is = tt
asked_for_grows rows rows' s (body.Offers offers) grows is = tt
asked_for_grows rows rows' s (body.Subscribe wish) grows is = (offered_grows rows rows' s wish grows is.0, is.1)
asked_for_grows rows rows' s (body.Subscribed identifier expires) grows is = tt
asked_for_grows rows rows' s (body.Renew expires) grows is = is
asked_for_grows rows rows' s (body.Renewed expires) grows is = tt
asked_for_grows rows rows' s body.GetStatus grows is = tt
asked_for_grows rows rows' s (body.StatusIs expires) grows is = tt
asked_for_grows rows rows' s body.Unsubscribe grows is = tt
asked_for_grows rows rows' s body.Unsubscribed grows is = tt
asked_for_grows rows rows' s (body.Ended identifier status) grows is = tt

waits_grow : (messages messages' : List Message) (s address : List ℕ) (outstanding : Option Outstanding) → MessagesGrow messages messages' →
    WaitsFor messages s address outstanding → WaitsFor messages' s address outstanding
waits_grow messages messages' s address None more waits = tt
waits_grow messages messages' s address (Some outstanding) more waits = (waits.0, more _ waits.1, waits.2, waits.3, waits.4)

pub served_grows : (rows rows' : Rows) (messages messages' : List Message) (s : List ℕ) (session : Session) → RowsGrow rows rows' → MessagesGrow messages messages' →
    IsServed rows messages s session → IsServed rows' messages' s session
served_grows rows rows' messages messages' s session grows more served = record {
  terms = terms_grow rows rows' session.name s session.notify_to session.identifier session.query session.max_items session.max_bytes grows served.terms;
  positions = behind_grows rows rows' session.name s session.positions grows served.positions;
  outstanding = waits_grow messages messages' s session.notify_to session.outstanding more served.outstanding;
  told = served.told;
}

running_grows : (rows rows' : Rows) (messages messages' : List Message) (s : List ℕ) (slot : Slot) (end : Option End) → RowsGrow rows rows' → MessagesGrow messages messages' →
    IsRunningKept rows messages s slot end → IsRunningKept rows' messages' s slot end
running_grows rows rows' messages messages' s slot None grows more kept = tt
running_grows rows rows' messages messages' s slot (Some end) grows more kept = (
  record {
    boot = kept.0.boot;
    drawn = kept.0.drawn;
    in_order = kept.0.in_order;
    sessions = all_map (IsServed rows messages s) (IsServed rows' messages' s) (λ session. served_grows rows rows' messages messages' s session grows more) end.sessions kept.0.sessions;
  },
  kept.1,
)

pub source_grows : (rows rows' : Rows) (messages messages' : List Message) (s : List ℕ) (slot : Slot) → RowsGrow rows rows' → MessagesGrow messages messages' →
    IsSourceKept rows messages s slot → IsSourceKept rows' messages' s slot
source_grows rows rows' messages messages' s slot grows more kept = record {
  name = kept.name;
  capacity = kept.capacity;
  greatest = kept.greatest;
  window = kept.window;
  formed = kept.formed;
  events = kept.events;
  running = running_grows rows rows' messages messages' s slot slot.place.memory grows more kept.running;
}

drawn_grows : (slot slot' : Slot) (id : Option ℕ) → SlotGrows slot slot' → WasDrawn slot id → WasDrawn slot' id
drawn_grows slot slot' None grows drawn = drawn
drawn_grows slot slot' (Some id) grows drawn = let more = grows.drawn in omega arith

delivery_grows : (rows rows' : Rows) (s : List ℕ) (slot slot' : Slot) (delivery : Delivery) → RowsGrow rows rows' → SlotGrows slot slot' →
    IsDelivery rows s slot delivery → IsDelivery rows' s slot' delivery
delivery_grows rows rows' s slot slot' delivery grows more is = record {
  u = is.u;
  about = is.about;
  known = grows.known is.u is.about is.known;
  to_subscription = is.to_subscription;
  to_source = is.to_source;
  above = is.above;
  behind = behind_grows rows rows' is.u s is.above grows is.behind;
  fits = subst (λ (capacity : ℕ). Fits is.about.query is.about.max_bytes slot'.histories capacity is.above delivery.batch) more.capacity
      (fits_longer is.about.query is.about.max_bytes slot.histories slot'.histories slot.capacity is.above delivery.batch more.histories is.fits);
  sound = is.sound;
  drawn = drawn_grows slot slot' delivery.id.value more is.drawn;
}

path_grows : (rows rows' : Rows) (s : List ℕ) (slot slot' : Slot) (address : List ℕ) (id : MessageId) → RowsGrow rows rows' → SlotGrows slot slot' →
    IsOnPath rows s slot address id → IsOnPath rows' s slot' address id
path_grows rows rows' s slot slot' address id grows more is = record {
  u = is.u;
  about = is.about;
  known = grows.known is.u is.about is.known;
  to_subscription = is.to_subscription;
  to_source = is.to_source;
  drawn = drawn_grows slot slot' id.value more is.drawn;
}

acknowledged_grows : (rows rows' : Rows) (messages messages' : List Message) (s : List ℕ) (relates : MessageId) → RowsGrow rows rows' → MessagesGrow messages messages' →
    IsAckKept rows messages s relates → IsAckKept rows' messages' s relates
acknowledged_grows rows rows' messages messages' s relates grows more kept =
    let is = kept.is in
    record {
      is = record {
        message = is.message;
        was_sent = more _ is.was_sent;
        of_source = is.of_source;
        id = is.id;
        address = is.address;
        to = is.to;
        reads = is.reads;
        u = is.u;
        about = is.about;
        known = grows.known is.u is.about is.known;
        to_subscription = is.to_subscription;
        to_source = is.to_source;
        reached = reached_by_grows rows rows' is.u s is.about is.message grows is.reached;
      };
      behind = behind_grows rows rows' is.u s is.to grows kept.behind;
    }

-- a fact of a declared source that stays while the source grows
declared_grows : (o o' : Option Slot) (P Q : Slot → Type 0) → ((slot : Slot) → o ≡ Some slot → WhereDeclared o' (SlotGrows slot)) →
    ((slot slot' : Slot) → SlotGrows slot slot' → P slot → Q slot') → WhereDeclared o P → WhereDeclared o' Q
declared_grows None o' P Q grows stays holds = absurd holds
declared_grows (Some slot) o' P Q grows stays holds = under o' (grows slot refl)
  where
    under : (x : Option Slot) → WhereDeclared x (SlotGrows slot) → WhereDeclared x Q
    under None more = more
    under (Some slot') more = stays slot slot' more holds

pub message_grows : (rows rows' : Rows) (sources sources' : Slots) (messages messages' : List Message) (m : Message) →
    RowsGrow rows rows' → SourcesGrow sources sources' → MessagesGrow messages messages' →
    IsMessageKept rows sources messages m → IsMessageKept rows' sources' messages' m
message_grows rows rows' sources sources' messages messages' (Ask s id) grows wider more is =
    declared_grows (finite.get sources s) (finite.get sources' s) (λ slot. WasDrawn slot id.value) (λ slot. WasDrawn slot id.value) (wider s)
    (λ slot slot' sg. drawn_grows slot slot' id.value sg) is
message_grows rows rows' sources sources' messages messages' (Offers s id relates offers) grows wider more is =
    all_map (λ (offer : Offer). IsOffered rows s offer.subscribe) (λ (offer : Offer). IsOffered rows' s offer.subscribe)
    (λ offer. offered_grows rows rows' s offer.subscribe grows) offers is
message_grows rows rows' sources sources' messages messages' (Events s delivery) grows wider more is =
    declared_grows (finite.get sources s) (finite.get sources' s) (λ slot. IsDelivery rows s slot delivery) (λ slot. IsDelivery rows' s slot delivery) (wider s)
    (λ slot slot' sg. delivery_grows rows rows' s slot slot' delivery grows sg) is
message_grows rows rows' sources sources' messages messages' (Beat s beat) grows wider more is =
    declared_grows (finite.get sources s) (finite.get sources' s) (λ slot. IsOnPath rows s slot beat.notify_to beat.id) (λ slot. IsOnPath rows' s slot beat.notify_to beat.id) (wider s)
    (λ slot slot' sg. path_grows rows rows' s slot slot' beat.notify_to beat.id grows sg) is
message_grows rows rows' sources sources' messages messages' (Ack s id relates) grows wider more is = acknowledged_grows rows rows' messages messages' s relates grows more is
message_grows rows rows' sources sources' messages messages' (Fault s id relates fault) grows wider more is = tt
message_grows rows rows' sources sources' messages messages' (Request s id identifier asks) grows wider more is = asked_for_grows rows rows' s asks grows is
message_grows rows rows' sources sources' messages messages' (Response s id relates answer) grows wider more is = is
message_grows rows rows' sources sources' messages messages' (Ended s note) grows wider more is =
    declared_grows (finite.get sources s) (finite.get sources' s) (λ slot. IsOnPath rows s slot note.end_to note.id) (λ slot. IsOnPath rows' s slot note.end_to note.id) (wider s)
    (λ slot slot' sg. path_grows rows rows' s slot slot' note.end_to note.id grows sg) is
