-- What the collector answers to the bytes of an ask is what the machine says of the ask.
use Rattle.std.proofs.Common.{◌≡◌, ℕ, zero, suc, ◌+◌, true, false, List, length, refl, ap, sym, ◌∙◌, subst, arith}
use Rattle.std.specs.List.{AllByRecursion}
use Rattle.std.specs.Prelude.{Some, Result, Ok, Err, IfErr, codes, min}
use Rattle.wef_base.specs.declared.tree.Charset.TheVariants.{Utf8}
use Rattle.wef_collector.specs.Calls.{no_effect}
use Rattle.wef_collector.specs.Memories.{drawn_in}
use Rattle.wef_collector.specs.Offers.{offers}
use Rattle.wef_collector.specs.declared.collector.Collector.{Collector}
use Rattle.wef_collector.specs.declared.memories.Memory.{Memory}
use Rattle.wef_collector_rows.specs.Forms.{AreFormed}
use Rattle.wef_collector_rows.specs.declared.faults.CollectorFault as the_fault
use Rattle.wef_collector_rows.specs.declared.faults.CollectorFault.TheVariants as faults
use Rattle.wef_envelope.specs.Laws.{IsSpelt}
use Rattle.wef_eventing.specs.declared.offers.Offer.{Offer}
use Rattle.wef_front.proofs.EnumeratesAreHeard.{enumerates_are_heard}
use Rattle.wef_front.proofs.OffersAreHeard.{offers_are_read}
use Rattle.wef_front.proofs.OneIsHeard.{one_is_heard}
use Rattle.wef_front_collector.specs.Heard.{Hears}
use Rattle.wef_front.specs.Replies.{CanBeAnswered, offers_bytes}
use Rattle.wef_front_collector.specs.Replies.{IsAnswer, IsSpeltFor, answer_of, ids_after, memory_behind}
use Rattle.wef_front.specs.Sent.{CanBeAsked, Wish}
use Rattle.wef_front_source.specs.Sending.{enumerate_bytes}
use Rattle.wef_front_collector.specs.Steps.{CallsFor, IsFailure, said_with}
use Rattle.wef_http_heads.specs.declared.answers.Answer.{Answer}
use Rattle.wef_front_collector.specs.declared.hearing.Asked.TheVariants.{Enumerate}
use Rattle.wef_front_collector.specs.declared.hearing.Heard.{Heard}
use Rattle.wef_front_collector.specs.declared.saying.Said.TheVariants as says
use Rattle.wef_http_heads.specs.declared.targets.Target.TheVariants.{Manager}
use Rattle.wef_ids.proofs.PlainIds.{id_text_good}
use Rattle.wef_ids.specs.Ids.{next_id, with_drawn}
use Rattle.wef_ids.specs.declared.MessageId.{MessageId}
use Rattle.wef_ids.specs.declared.ids.Ids.{Ids}
use Rattle.wef_keeper.specs.Rows.{Rows}
use Rattle.wef_keeper.specs.declared.mem_keeper.MemKeeper.{MemKeeper}
use Rattle.wef_machine.specs.Collecting.{collector_opened, reply_id}
use Rattle.wef_machine.specs.States as machine
use Rattle.wef_machine.specs.States.{host}
use Rattle.wef_machine.specs.declared.messages.Message.{Message}
use Rattle.wef_machine.specs.declared.messages.Message.TheVariants as sent
use Rattle.wef_places.proofs.Settled.{told_by}
use Rattle.wef_places.specs.Collected.{collector_of}
use Rattle.wef_places.specs.Places.{end_in, running_with}
use Rattle.wef_places.specs.declared.places.Placed.{Placed}
use Rattle.wef_deliveries.proofs.Answered.{running_place}
use Rattle.wef_messages.proofs.Said.{answered_is}
use Rattle.wef_deliveries.specs.Answered.{CanOffer, HasOffered}
use Rattle.wef_messages.specs.Bytes.{AreOffers, answered}
use Rattle.wef_messages.specs.Messages.{offers_message}
use Rattle.wef_deliveries.specs.Outcomes.{asked_by, asked_of}
use Rattle.wef_deliveries.specs.declared.taken.Taken.{Taken}

-- ---- what is heard

-- what is heard of an ask
abbrev pub wish_heard : Wish → Heard
wish_heard wish = record { relates = Some wish.id; asked = Enumerate wish.source }

pub wish_heard_is : (wish : Wish) (heard : Heard) → CanBeAsked wish → Hears Manager Utf8 (enumerate_bytes host wish.source wish.id) heard → heard ≡ wish_heard wish
wish_heard_is wish heard can hears =
    one_is_heard Manager Utf8 (enumerate_bytes host wish.source wish.id) heard (wish_heard wish) hears
    (enumerates_are_heard host wish.source wish.id (omega arith, refl) can.utf8 can.named can.spelt can.id)

-- ---- ids that are drawn

one_more : (drawn k : ℕ) → min (min (drawn + suc k) 18446744073709551615 + 1) 18446744073709551615 ≡ min (drawn + suc (suc k)) 18446744073709551615
one_more drawn k = omega arith

drawn_behind : (n k : ℕ) (ids : Ids) → ids_after n (with_drawn (suc k) ids) ≡ with_drawn (suc (n + k)) ids
drawn_behind zero k ids = let same : k ≡ 0 + k = omega arith in ap (λ (m : ℕ). with_drawn (suc m) ids) same
drawn_behind (suc n) k ids =
    let same : n + suc k ≡ suc n + k = omega arith in
    ap (λ (m : ℕ). ids_after n (record ids { drawn = m })) (one_more ids.drawn k) ∙ drawn_behind n (suc k) ids ∙ ap (λ (m : ℕ). with_drawn (suc m) ids) same

-- so many draws one after the other are that many at once
drawn_at_once : (n : ℕ) (ids : Ids) → ids_after (suc n) ids ≡ with_drawn (n + 1) ids
drawn_at_once n ids =
    let one : suc 0 ≡ 1 = refl in
    let same : suc (n + 0) ≡ n + 1 = omega arith in
    drawn_behind n 0 ids ∙ ap (λ (m : ℕ). with_drawn m ids) same

-- ---- what is offered

-- What an ask left and gave.
pub record Offered (wish : Wish) (memory memory_now : Memory) (rows rows_now : Rows) (answer : Answer) : Type 0 where
  pub rows_stay : rows_now ≡ rows
  pub memory_is : memory_now ≡ drawn_in (length (offers rows wish.source host) + 1) memory
  pub gave : HasOffered wish memory (offers rows wish.source host) answer

module _ (wish : Wish) (end end' : Collector MemKeeper) (now : ℕ) (answer : Answer) (can : CanBeAsked wish) (formed : AreFormed end.keeper.rows)
    (is : IsAnswer host (wish_heard wish) Utf8 now answer end.memory end'.memory (told_by end.keeper) (told_by end'.keeper)) where
  by_done : (done : Result (List Offer) the_fault.CollectorFault) → CallsFor (λ rows. offers rows wish.source host) no_effect done (told_by end.keeper) (told_by end'.keeper) → IfErr done IsFailure
      → is.said ≡ said_with says.Offers done → Offered wish end.memory end'.memory end.keeper.rows end'.keeper.rows answer
  by_done (Ok list) call answered said =
      let list_is : list ≡ offers end.keeper.rows wish.source host = call.did.answer.1 in
      let said_is : is.said ≡ says.Offers (offers end.keeper.rows wish.source host) = said ∙ ap says.Offers list_is in
      record {
        rows_stay = call.did.answer.0;
        memory_is = is.drawn ∙ ap (memory_behind end.memory) said_is ∙ (λ i. record end.memory { ids = drawn_at_once (length (offers end.keeper.rows wish.source host)) end.memory.ids i });
        gave = record {
          asked = can;
          written = is.written ∙ ap (answer_of end.memory.ids Utf8 (Some wish.id)) said_is;
          spelt = subst (IsSpeltFor end.memory.ids) said_is is.spelt;
        };
      }
  by_done (Err faults.Failed) call answered said = let never : true ≡ false = (call.did.planned formed).0 in absurd (no never)
    where
      no : true ≡ false → ⊥
      no e = cc
  by_done (Err faults.NoMemory) call answered said = absurd answered
  by_done (Err faults.Exists) call answered said = absurd answered
  by_done (Err faults.TooMany) call answered said = absurd answered
  by_done (Err faults.Full) call answered said = absurd answered
  by_done (Err faults.NoSubscription) call answered said = absurd answered
  by_done (Err faults.Ended) call answered said = absurd answered
  by_done (Err faults.NotWellFormed) call answered said = absurd answered
  by_done (Err faults.NotAsked) call answered said = absurd answered

  pub ask_answered : Offered wish end.memory end'.memory end.keeper.rows end'.keeper.rows answer
  ask_answered = by_done is.stepped.0 is.stepped.1 is.stepped.2 is.stepped.3

-- ---- the message

-- the bytes that are written for offers are those of an answer with offers
can_be_answered : (wish : Wish) (memory : Memory) (rows : Rows) (answer : Answer) → HasOffered wish memory (offers rows wish.source host) answer → CanOffer rows wish.source
    → CanBeAnswered (reply_id memory) wish.id (offers rows wish.source host)
can_be_answered wish memory rows answer gave can = record {
  id = gave.spelt.0;
  id_text = id_text_good (next_id memory.ids);
  relates = gave.asked.spelt;
  relates_text = gave.asked.id;
  nested = subst (λ (nested : List MessageId). AllByRecursion IsSpelt nested) (sym (offers_are_read.nested memory.ids (offers rows wish.source host))) gave.spelt.1;
  plain = can.0;
  stand = can.1;
}

bytes_of : (wish : Wish) (memory : Memory) (rows : Rows) (answer : Answer) → HasOffered wish memory (offers rows wish.source host) answer → answer.body ≡ offers_bytes (reply_id memory) wish.id (offers rows wish.source host)
bytes_of wish memory rows answer gave = ap (λ (a : Answer). a.body) gave.written ∙ offers_are_read.written memory.ids wish.id (offers rows wish.source host)

pub offers_written : (wish : Wish) (memory : Memory) (rows : Rows) (answer : Answer) → HasOffered wish memory (offers rows wish.source host) answer → CanOffer rows wish.source → AreOffers answer.body
offers_written wish memory rows answer gave can = record {
  said = record { id = reply_id memory; relates = wish.id; offers = offers rows wish.source host };
  can_be_answered = can_be_answered wish memory rows answer gave can;
  bytes_are = bytes_of wish memory rows answer gave;
}

pub offers_say : (wish : Wish) (memory : Memory) (rows : Rows) (answer : Answer) → HasOffered wish memory (offers rows wish.source host) answer → CanOffer rows wish.source
    → answered answer.body ≡ record { id = reply_id memory; relates = wish.id; offers = offers rows wish.source host }
offers_say wish memory rows answer gave can =
    ap answered (bytes_of wish memory rows answer gave) ∙ answered_is (reply_id memory) wish.id (offers rows wish.source host) (can_be_answered wish memory rows answer gave can)

-- ---- the collector in its place

-- what is known of an opened collector that runs
record Runs (c : machine.Collector) (end : Collector MemKeeper) : Type 0 where
  rows : end.keeper.rows ≡ (collector_opened c).rows
  memory : Some end.memory ≡ (collector_opened c).memory

runs_so : (c : machine.Collector) (placed : Placed (Collector MemKeeper)) (end : Collector MemKeeper) → collector_of placed ≡ collector_opened c → Some end ≡ end_in placed.place → Runs c end
runs_so c placed end opened there =
    let runs : running_with placed.armed end ≡ placed = sym (λ i. record { place = running_place placed.place end there i; armed = placed.armed }) in
    record {
      rows = ap (λ (p : Placed (Collector MemKeeper)). (collector_of p).rows) runs ∙ ap (λ (p : machine.Collector). p.rows) opened;
      memory = ap (λ (p : Placed (Collector MemKeeper)). (collector_of p).memory) runs ∙ ap (λ (p : machine.Collector). p.memory) opened;
    }

-- what it offers can be written
can_offer : (c : machine.Collector) (end : Collector MemKeeper) (wish : Wish) (s : List ℕ) → Runs c end → wish.source ≡ s → CanOffer (collector_opened c).rows s → CanOffer end.keeper.rows wish.source
can_offer c end wish s runs own can = subst (λ (p : Rows × List ℕ). CanOffer p.0 p.1) (sym (λ i. (runs.rows i, own i))) can

pub ask_written : (c : machine.Collector) (placed : Placed (Collector MemKeeper)) (end : Collector MemKeeper) (wish : Wish) (s : List ℕ) (answer : Answer) → collector_of placed ≡ collector_opened c → Some end ≡ end_in placed.place
    → wish.source ≡ s → CanOffer (collector_opened c).rows s → HasOffered wish end.memory (offers end.keeper.rows wish.source host) answer → AreOffers answer.body
ask_written c placed end wish s answer opened there own can gave =
    offers_written wish end.memory end.keeper.rows answer gave (can_offer c end wish s (runs_so c placed end opened there) own can)

pub ask_taken : (c : machine.Collector) (placed : Placed (Collector MemKeeper)) (end : Collector MemKeeper) (wish : Wish) (s : List ℕ) (answer : Answer) (word : List ℕ) (message : Message) → collector_of placed ≡ collector_opened c
    → Some end ≡ end_in placed.place → wish.source ≡ s → CanOffer (collector_opened c).rows s → HasOffered wish end.memory (offers end.keeper.rows wish.source host) answer → word ≡ codes "offers"
    → message ≡ offers_message s (answered answer.body) → ◌≡◌ {A = Taken} (record { word = word; answer = Some message }) (asked_of c s wish.id)
ask_taken c placed end wish s answer word message opened there own can gave said is =
    let runs = runs_so c placed end opened there in
    let says = offers_say wish end.memory end.keeper.rows answer gave (can_offer c end wish s runs own can) in
    (λ i. record { word = said i; answer = Some ((is ∙ ap (offers_message s) says ∙ (λ j. sent.Offers s (reply_id end.memory) wish.id (offers (runs.rows j) (own j) host))) i) })
    ∙ ap (asked_by c s wish.id) runs.memory
