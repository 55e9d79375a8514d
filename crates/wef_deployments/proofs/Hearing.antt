-- What is kept of a world stays kept behind each deed of the collector, by what the lines of schedules keep.
use Rattle.std.proofs.Common.{◌≡◌, inl, inr, ℕ, ◌+◌, ◌≤◌, ◌==◌, Bool, true, false, cond, List, [], ◌∷◌, ◌++◌, ap, sym, refl, subst, ◌∙◌, arith, append-nil}
use Rattle.std.proofs.lemmas.Bool.Decides.{nat_tests}
use Rattle.std.proofs.lemmas.Option.{none-some, same_Some}
use Rattle.std.proofs.lemmas.Str.{is_utf8-from_IsUtf8}
use Rattle.std.specs.Cmp.Lexicographic.{slice_cmp}
use Rattle.std.specs.FinMap as finite
use Rattle.std.specs.List.{AllByRecursion}
use Rattle.std.specs.Ordering.{nat_cmp}
use Rattle.std.specs.Option.{option_map}
use Rattle.std.specs.Prelude.{IfSome, Option, Some, None, Ok, Err, unwrap_or}
use Rattle.wef_base.specs.Names.{subscription_name}
use Rattle.wef_base.specs.declared.moments.TheConstants.{LAST_MOMENT}
use Rattle.wef_batch.specs.WellFormed.{is_in, is_well_formed}
use Rattle.wef_batch.specs.declared.items.Batch.{Batch}
use Rattle.wef_collector.proofs.FormedRows.{heard_row}
use Rattle.wef_collector.proofs.Hearing.{each_heard}
use Rattle.wef_collector.specs.Asking.{body_for, identifier_of, next_request, request_for, waiting_of, wants_by}
use Rattle.wef_collector.specs.Boots.{boot_of, memory_begun}
use Rattle.wef_collector.specs.Calls as calls
use Rattle.wef_collector.specs.Calls.{add_effect, end_by, end_effect, hear_by, take_by, take_effect, unread_by}
use Rattle.wef_collector.specs.FormsStay.{IsSoundBatch}
use Rattle.wef_collector.specs.Memories.{waiting_for}
use Rattle.wef_collector.specs.Offers.{offers, subscribe_from}
use Rattle.wef_collector.specs.Responses.{lease_changes, leasing_effect, leasing_of, waiting_effect}
use Rattle.wef_collector.specs.Taken.{batch_changes, heard_changes, put, taken}
use Rattle.wef_collector.specs.declared.asking.Request as asking
use Rattle.wef_collector.specs.declared.memories.Memory.{Memory}
use Rattle.wef_collector.specs.declared.responses.Leasing.{Leasing}
use Rattle.wef_collector.specs.declared.responses.Response.{Response}
use Rattle.wef_collector_leases.specs.Changes.{end_lease}
use Rattle.wef_collector_leases.specs.Next.{next_due}
use Rattle.wef_collector_leases.specs.declared.leases.Wants.{Wants}
use Rattle.wef_collector_leases.specs.declared.leases.Wants.TheVariants.{Subscribes, Renews, Unsubscribes}
use Rattle.wef_collector_leases.specs.declared.next.Due.{Due}
use Rattle.wef_collector_leases.specs.declared.waiting.Waiting.{Waiting}
use Rattle.wef_collector_rows.specs.Answers.{channels_read, is_known, is_there}
use Rattle.wef_collector_rows.specs.Bookmarks.{bookmark_of}
use Rattle.wef_collector_rows.specs.Keys.{heard_key, subscription_key}
use Rattle.wef_collector_rows.specs.Standing.{is_full, standing}
use Rattle.wef_collector_rows.specs.declared.faults.CollectorFault.{CollectorFault}
use Rattle.wef_collector_rows.specs.declared.faults.CollectorFault.TheVariants as faults
use Rattle.wef_collector_rows.specs.declared.standings.Standing.{Standing}
use Rattle.wef_collector_rows.specs.declared.standings.Standing.TheVariants as stands
use Rattle.wef_collector_serving.specs.ByRows.{Goes}
use Rattle.wef_commands.specs.Laws.{StartsAtMost, started}
use Rattle.wef_documents.specs.Written.{document_text}
use Rattle.wef_eventing.proofs.AddressesBack.{addresses_read_back}
use Rattle.wef_eventing.specs.Addresses.{IsHost, subscription_in}
use Rattle.wef_eventing.specs.declared.offers.Offer.{Offer}
use Rattle.wef_eventing.specs.declared.subscriptions.Subscription.{Subscription}
use Rattle.wef_front_collector.specs.Replies.{rows_by}
use Rattle.wef_front_collector.specs.Steps.{batch_said, effect_in, said_by, said_where}
use Rattle.wef_front_collector.specs.declared.hearing.Asked.{Asked}
use Rattle.wef_front_collector.specs.declared.hearing.Asked.TheVariants as asks
use Rattle.wef_front_collector.specs.declared.hearing.Asked.TheVariants.{Refused, Enumerate, Unread, Take, Heartbeat, UnreadEnd}
use Rattle.wef_front_collector.specs.declared.saying.Said.{Said}
use Rattle.wef_front_collector.specs.declared.saying.Said.TheVariants as said
use Rattle.wef_front_source.specs.Sending.{IsPlainText}
use Rattle.wef_ids.specs.IdTexts.{id_of_value}
use Rattle.wef_ids.specs.Ids.{next_id}
use Rattle.wef_ids.specs.declared.FaultName.{FaultName}
use Rattle.wef_ids.specs.declared.FaultName.TheVariants.{InvalidMessage}
use Rattle.wef_ids.specs.declared.MessageId.{MessageId}
use Rattle.wef_ids.specs.declared.ids.Ids.{Ids}
use Rattle.wef_keeper.specs.Calls.{Makes, MayLeave}
use Rattle.wef_keeper.specs.Rows.{Rows, applied}
use Rattle.wef_keeper.specs.declared.keys.Change.{Change}
use Rattle.wef_machine.specs.Answering.{answers_by}
use Rattle.wef_machine.specs.Collecting.{reply_id, with_call}
use Rattle.wef_machine.specs.Deliveries.{BatchEffect, batch_effect, batch_effect_by, effect_at}
use Rattle.wef_machine.specs.Leasing.{response_by}
use Rattle.wef_machine.specs.States as machine
use Rattle.wef_machine.specs.States.{Slot, Slots, State, slot_of, with_foreign}
use Rattle.wef_machine.specs.declared.messages.Message.{Message}
use Rattle.wef_machine.specs.declared.messages.Message.TheVariants.{Ack, Beat, Events, Offers, Request}
use Rattle.wef_pairs.specs.Pairs.{about_of, subscription_at}
use Rattle.wef_replay.proofs.GoodNames.{kept_is_one}
use Rattle.wef_replay.specs.Good.{is_source, is_subscription}
use Rattle.wef_safety.proofs.Aside.{IsAsideKept, KeptWith, booted_aside, changes_kept, kept_aside, kept_by_booting}
use Rattle.wef_safety.proofs.CollectorSteps.{batch_keeps, end_keeps, events_keep, foreign_kept, is_foreign, subscribe_keeps}
use Rattle.wef_safety.proofs.DueRequests.{due_is_asked, due_waits, next_has}
use Rattle.wef_safety.proofs.LeaseRows.{HaveNames, ended}
use Rattle.wef_safety.proofs.LeaseSteps.{response_keeps}
use Rattle.wef_safety.proofs.LowerFacts.{lower, source_named, subscription_named}
use Rattle.wef_safety.proofs.Moves.{declared_at, kept_reply}
use Rattle.wef_safety.proofs.Offering.{all_offers, reads_source, reads_subscription}
use Rattle.wef_safety.proofs.RowMoves.{AreRowsKept, IsChangeKept, known_name, subscription_by_taking, taking_covers, taking_reaches}
use Rattle.wef_safety.proofs.Sent.{sent_before}
use Rattle.wef_safety.specs.Kept.{AreAddressed, IsAckKept, IsAsked, IsAskedFor, IsBehind, IsDelivery, IsKept, IsMessageKept, IsOffered, IsOnPath, IsSaid, IsWorldKept, request_id}
use Rattle.wef_safety.specs.Safe.{WasSent}
use Rattle.wef_source.specs.declared.messages.Delivery.{Delivery}
use Rattle.wef_runs.proofs.Taken.{cut_stays, done_as_cut}
use Rattle.wef_runs.specs.Deeds.{Deed, Does, IsCut, IsDue, IsRead, IsSoundAsked, Stay}
use Rattle.wef_runs.specs.Deeds.{Starts, Adds, Ends, Answers, Leaves, Requests, Takes}
use Rattle.wef_deployments.specs.Hearing.{DeedsKeep, HearsAsked, HearsBatch, HearsBeat, Hears, IsToAsked, WasBeaten, WasDelivered, after_cut, after_deed, messages_said, named_by, to_declared, with_rows, with_stranger}

-- ---- worlds at a moment, and lines whose commit is kept but stops the collector

-- what is kept says of the moment that a row may keep it, and no more
at_moment : {rows : Rows} {foreign : List (List ℕ)} {slots : Slots} {messages : List Message} {m : ℕ} (n : ℕ) → n ≤ LAST_MOMENT → IsWorldKept rows foreign slots messages m → IsWorldKept rows foreign slots messages n
at_moment n soon kept = record {
  pairs = kept.pairs;
  apart = kept.apart;
  keys = kept.keys;
  formed = kept.formed;
  sources = kept.sources;
  messages = kept.messages;
  requests = kept.requests;
  soon = soon;
}

-- a world at a moment, in which the next commit is kept and stops the collector, so that nobody answers
abbrev stopping : State → ℕ → State
stopping state n = record state { collector = record { rows = state.collector.rows; memory = None; armed = Some (record { after = true; stops = true }) }; moment = n }

-- such a world behind a call has its changes
called : (F : Type 0) (state : State) (n : ℕ) (changes : List Change) → IsKept state → IsKept (with_call {F = F} (stopping state n) (Ok changes)) → KeptWith state (applied changes state.collector.rows)
called F state n [] kept after = kept
called F state n (change ∷ changes) kept after = at_moment state.moment kept.soon after

-- also behind one that would be answered
answered : (state : State) (n : ℕ) (changes : List Change) (ack : Bool) (s : List ℕ) (id relates : MessageId) → IsKept state → IsKept (answers_by (stopping state n) (Ok changes) ack s id relates)
    → KeptWith state (applied changes state.collector.rows)
answered state n [] ack s id relates kept after = kept
answered state n (change ∷ changes) ack s id relates kept after = at_moment state.moment kept.soon after

-- ---- requests of the collector

number_self : (n : ℕ) → n == n ≡ true
number_self n = grind (arith, nat_tests)

-- What is due is asked for as the lines of schedules ask, but at any host.
module _ (rows : Rows) (keys : AreRowsKept rows) where
  -- a source may be asked for this, under names that read back
  abbrev IsWellAsked : asking.Request → Type 0
  IsWellAsked r = IsAskedFor rows r.source.name r.body × IsAsked (waiting_of r)

  well_asked : (waiting : List Waiting) (ids : Ids) (moment : ℕ) → IfSome (next_request rows waiting ids machine.host moment) IsWellAsked
  well_asked waiting ids moment =
      next_has IsWellAsked rows waiting ids moment keys (λ due is. (due_is_asked rows due keys is, due_waits rows (id_of_value (next_id ids)) due is))

  module _ (host : List ℕ) where
    -- a wish for another host
    offered_at : (s : List ℕ) (about : Subscription) → IsHost host → is_source s ≡ true
        → IsOffered rows s (subscribe_from (bookmark_of rows about.name s) s machine.host about (Some about.expires)) → IsOffered rows s (subscribe_from (bookmark_of rows about.name s) s host about (Some about.expires))
    offered_at s about is_host good offered =
        let terms = offered.terms in
        let at : offered.u ≡ about.name = sym (same_Some about.name offered.u terms.identifier_is) in
        let named = subst (λ (v : List ℕ). is_subscription v ≡ true) at (known_name rows offered.u terms.about keys terms.known) in
        let name = reads_subscription about.name named in
        let source = reads_source s good in
        let back = addresses_read_back host about.name s name.0 name.1 source.0 source.1 in
        record {
          u = about.name;
          terms = record {
            about = terms.about;
            known = subst (λ (v : List ℕ). subscription_at rows v ≡ Some terms.about) at terms.known;
            at = host;
            host = is_host;
            address_is = refl;
            to_subscription = back.0;
            to_source = back.1;
            identifier_is = refl;
            query_is = terms.query_is;
            max_items_is = terms.max_items_is;
            max_bytes_is = terms.max_bytes_is;
          };
          from = subst (λ (v : List ℕ). IsBehind rows v s (bookmark_of rows about.name s)) at offered.from;
          told = refl;
        }

    asked_at : (s : List ℕ) (about : Subscription) → IsHost host → is_source s ≡ true → (wants : Wants) → IsAskedFor rows s (body_for rows machine.host about s wants) → IsAskedFor rows s (body_for rows host about s wants)
    asked_at s about is_host good Subscribes (offered, lasting) = (offered_at s about is_host good offered, lasting)
    asked_at s about is_host good (Renews identifier) lasting = lasting
    asked_at s about is_host good (Unsubscribes identifier) none = none

    waits_at : (about : Subscription) (s : List ℕ) (wants : Wants) → IfSome (identifier_of (wants_by (identifier_of wants) (body_for rows machine.host about s wants))) IsPlainText
        → IfSome (identifier_of (wants_by (identifier_of wants) (body_for rows host about s wants))) IsPlainText
    waits_at about s Subscribes plain = plain
    waits_at about s (Renews identifier) plain = plain
    waits_at about s (Unsubscribes identifier) plain = plain

    -- a request that is due may be sent to a source of a good name, and waits under names that read back
    record IsDueWell (r : asking.Request) : Type 0 where
      may : IsHost host → is_source r.source.name ≡ true → IsAskedFor rows r.source.name r.body
      waits : IsAsked (waiting_of r)

    due_well : (r : asking.Request) (moment : ℕ) → IsDue rows host r moment → IsDueWell r
    due_well r moment (waiting, ids, is) = by (next_due rows waiting moment) is (well_asked waiting ids moment)
      where
        by : (o : Option Due) → Some r ≡ option_map (request_for rows host (id_of_value (next_id ids))) o
            → IfSome (option_map (request_for rows machine.host (id_of_value (next_id ids))) o) IsWellAsked → IsDueWell r
        by None is well = absurd (none-some r (sym is))
        by (Some due) is (asked, waits) =
            subst IsDueWell (same_Some (request_for rows host (id_of_value (next_id ids)) due) r (sym is)) (record {
              may = λ is_host good. asked_at due.source.name due.subscription is_host good due.wants asked;
              waits = record { subscription = waits.subscription; source = waits.source; identifier = waits_at due.subscription due.source.name due.wants waits.identifier };
            })

-- rows that a call makes are kept
abbrev KeepsBy : State → Rows → calls.Effect → Type 0
KeepsBy state last e = Makes e state.collector.rows last → KeptWith state last

as_made : (state : State) (rows last : Rows) → last ≡ rows → KeptWith state rows → KeptWith state last
as_made state rows last is kept = subst (KeptWith state) (sym is) kept

module _ (state : State) (kept : IsKept state) (last : Rows) where
  abbrev rows : Rows
  rows = state.collector.rows

  same_kept : last ≡ rows → KeptWith state last
  same_kept same = as_made state rows last same kept

  -- ---- subscriptions, and a start

  start_keeps : StartsAtMost rows last → KeptWith state last
  start_keeps (inl same) = same_kept same
  start_keeps (inr (room, is)) =
      as_made state (started rows) last is
      (kept_aside state (started rows) kept (booted_aside rows (boot_of rows + 1)) (kept_by_booting rows (boot_of rows + 1) kept.keys) (lower.formed_booted rows room kept.formed))

  add_keeps : (s : Subscription) → IsRead (Adds s) → AreAddressed s → KeepsBy state last (add_effect rows s)
  add_keeps s (names, back) addressed = by (is_there rows s.name) (is_full rows) (subscribe_keeps lower (stopping state state.moment) s kept good back addressed)
    where
      good : is_subscription s.name ≡ true
      good = kept_is_one s.name (subscription_name s.name) (is_utf8-from_IsUtf8 s.name names.utf8) names.name

      changes : List Change
      changes = put (subscription_key s.name) 0 (document_text s) ∷ []

      by : (there full : Bool) → IsKept (with_call (stopping state state.moment) (cond there (Err faults.Exists) (cond full (Err faults.TooMany) (Ok changes))))
          → KeepsBy state last (cond there (Err faults.Exists) (cond full (Err faults.TooMany) (Ok changes)))
      by true full after = λ made. absurd made
      by false true after = λ made. absurd made
      by false false after = λ made. as_made state (applied changes rows) last made (called CollectorFault state state.moment changes kept after)

  end_keeps_so : (u : List ℕ) → KeepsBy state last (end_effect rows u)
  end_keeps_so u = by (standing rows u) (end_keeps lower (stopping state state.moment) u kept)
    where
      by : (o : Standing) → IsKept (with_call (stopping state state.moment) (end_by o rows u)) → KeepsBy state last (end_by o rows u)
      by stands.Unknown after = λ made. absurd made
      by (stands.Ended about) after = λ made. absurd made
      by (stands.Live about) after = λ made. as_made state _ last made (called CollectorFault state state.moment (calls.ended rows u) kept after)

  -- ---- a heartbeat, and the end of a lease

  heard_put : (u s : List ℕ) (n : ℕ) → IsChangeKept (put (heard_key u s) n [])
  heard_put u s n = record {
    name = λ kind. absurd (omega arith);
    subscription = λ kind. absurd (omega arith);
    sources = λ kind. absurd (omega arith);
    bookmark = λ kind. absurd (omega arith);
    channel = λ kind. absurd (omega arith);
    lease = λ kind. absurd (omega arith);
  }

  hear_keeps : (u s : List ℕ) (n : ℕ) → is_source s ≡ true → n ≤ LAST_MOMENT → KeepsBy state last (hear_by (standing rows u) rows u s n)
  hear_keeps u s n good soon = by (standing rows u) refl
    where
      names : (about : Subscription) → standing rows u ≡ stands.Live about → HaveNames u s
      names about live = record { subscription = subscription_named u (known_name rows u about kept.keys (ap about_of live)); source = source_named s good }

      by : (o : Standing) → standing rows u ≡ o → KeepsBy state last (hear_by o rows u s n)
      by stands.Unknown stood = λ made. absurd made
      by (stands.Ended about) stood = λ made. absurd made
      by (stands.Live about) stood = λ made.
          let have = names about stood in
          as_made state (applied (heard_changes rows u s n) rows) last made
          (changes_kept state (heard_changes rows u s n) kept
          (each_heard IsAsideKept rows u s n (record { aside = omega arith; kept = heard_put u s n; formed = heard_row u s n have.subscription have.source soon })))

  lease_keeps : (u s identifier : List ℕ) (known : Bool) → KeepsBy state last (cond known (Ok (end_lease rows u s identifier)) (Err faults.NoSubscription))
  lease_keeps u s identifier true = λ made. as_made state (applied (end_lease rows u s identifier) rows) last made (changes_kept state (end_lease rows u s identifier) kept (ended rows u s identifier))
  lease_keeps u s identifier false = λ made. absurd made

  -- ---- the answer to a request

  answer_committed : (n : ℕ) (id : Option ℕ) (changes : List Change) → IsKept (response_by (stopping state n) id (Ok changes)) → KeptWith state (applied changes state.collector.rows)
  answer_committed n id [] after = kept
  answer_committed n id (change ∷ changes) after = at_moment state.moment kept.soon after

  -- a collector that waits for the answer to this request alone
  abbrev waiting_alone : Waiting → Memory
  waiting_alone w = record { ids = (memory_begun state.collector.rows).ids; waiting = w ∷ [] }

  found_alone : (w : Waiting) → waiting_for (waiting_alone w) (Some w.id) ≡ Some w
  found_alone w = ap (λ (t : Bool). cond t (Some w) None) (number_self w.id)

  answer_keeps : (waits : Option Waiting) (answer : Response) (n : ℕ) → n ≤ LAST_MOMENT → IsSaid answer → IfSome waits IsAsked → KeepsBy state last (waiting_effect waits answer n rows)
  answer_keeps None answer n soon said asked = λ made. absurd made
  answer_keeps (Some w) answer n soon said asked =
      by (leasing_of answer w.wants n)
      (subst (λ (o : Option Waiting). IsKept (response_by (stopping state n) (Some w.id) (waiting_effect o answer n state.collector.rows))) (found_alone w)
      (response_keeps (stopping state n) (waiting_alone w) (id_of_value w.id) answer (at_moment n soon kept) said (subst (λ (o : Option Waiting). IfSome o IsAsked) (sym (found_alone w)) asked)))
    where
      by : (o : Option Leasing) → IsKept (response_by (stopping state n) (Some w.id) (leasing_effect state.collector.rows w o)) → KeepsBy state last (leasing_effect state.collector.rows w o)
      by None after = λ made. absurd made
      by (Some leasing) after = λ made.
          as_made state (applied (lease_changes state.collector.rows w.sub w.source leasing) state.collector.rows) last made
          (answer_committed n (Some w.id) (lease_changes state.collector.rows w.sub w.source leasing) after)

  -- ---- batches of declared sources

  delivered : (s u : List ℕ) (slot : Slot) (batch : Batch) (relates : Option MessageId) → slot_of state s ≡ Some slot → (was : WasDelivered state s u batch relates) → IsDelivery rows s slot was.delivery
  delivered s u slot batch relates there was = declared_at (slot_of state s) slot (λ (slot : Slot). IsDelivery rows s slot was.delivery) there (kept.messages (Events s was.delivery) was.was_sent)

  declared_batch : (s u : List ℕ) (slot : Slot) (n : ℕ) (delivery : Delivery) → slot_of state s ≡ Some slot → n ≤ LAST_MOMENT → WasSent state.messages (Events s delivery) → IsDelivery rows s slot delivery
      → subscription_in delivery.notify_to ≡ Some u → KeepsBy state last (take_effect rows u s delivery.batch n)
  declared_batch s u slot n delivery there soon was is leads = by_standing (standing rows u) refl served
    where
      now : State
      now = stopping state n

      id : MessageId
      id = reply_id (memory_begun rows)

      served : IsKept (answers_by (stopping state n) (batch_effect state.collector.rows u s delivery.batch n) delivery.batch.ack_wanted s (reply_id (memory_begun state.collector.rows)) delivery.id)
      served =
          subst (λ (x : Option (List ℕ) × Option (List ℕ)).
          IsKept (answers_by (stopping state n) (effect_at state.collector.rows x.0 x.1 (λ v r. batch_effect state.collector.rows v r delivery.batch n)) delivery.batch.ack_wanted s (reply_id (memory_begun state.collector.rows)) delivery.id))
          (λ i. (leads i, is.to_source i)) (events_keep lower (stopping state n) s slot (memory_begun state.collector.rows) delivery (at_moment n soon kept) there was is)

      by_form : (about : Subscription) (t : Bool)
          → IsKept (answers_by (stopping state n) (cond t (Ok (batch_changes state.collector.rows u s (channels_read about) delivery.batch n)) (Err InvalidMessage)) delivery.batch.ack_wanted s (reply_id (memory_begun state.collector.rows)) delivery.id)
          → KeepsBy state last (cond t (Ok (batch_changes state.collector.rows u s (channels_read about) delivery.batch n)) (Err faults.NotWellFormed))
      by_form about true after = λ made.
          as_made state _ last made (answered state n (batch_changes state.collector.rows u s (channels_read about) delivery.batch n) delivery.batch.ack_wanted s (reply_id (memory_begun state.collector.rows)) delivery.id kept after)
      by_form about false after = λ made. absurd made

      by_standing : (o : Standing) → standing state.collector.rows u ≡ o
          → IsKept (answers_by (stopping state n) (batch_effect_by state.collector.rows u s delivery.batch n (standing state.collector.rows u)) delivery.batch.ack_wanted s (reply_id (memory_begun state.collector.rows)) delivery.id)
          → KeepsBy state last (take_by o state.collector.rows u s delivery.batch n)
      by_standing stands.Unknown stood after = λ made. absurd made
      by_standing (stands.Ended about) stood after = λ made. absurd made
      by_standing (stands.Live about) stood after =
          by_form about (is_well_formed (channels_read about) delivery.batch)
          (subst (λ (o : Standing). IsKept (answers_by (stopping state n) (batch_effect_by state.collector.rows u s delivery.batch n o) delivery.batch.ack_wanted s (reply_id (memory_begun state.collector.rows)) delivery.id)) stood after)

  -- ---- batches of strangers

  stranger_batch : (s u : List ℕ) (n : ℕ) (batch : Batch) → slot_of state s ≡ None → n ≤ LAST_MOMENT → is_source s ≡ true → IsSoundBatch batch
      → Makes (take_effect rows u s batch n) rows last → KeptWith (with_foreign state s) last
  stranger_batch s u n batch none soon good sound = by_standing (standing rows u) refl taken_so
    where
      now : IsKept (with_foreign state s)
      now = foreign_kept state s kept none

      taken_so : IsKept (with_call (stopping (with_foreign state s) n) (batch_effect state.collector.rows u s batch n))
      taken_so = batch_keeps lower (stopping (with_foreign state s) n) u s batch (at_moment n soon now) (is_foreign state s) good sound

      formed_effect : Subscription → Bool → BatchEffect
      formed_effect about t = cond t (Ok (batch_changes state.collector.rows u s (channels_read about) batch n)) (Err InvalidMessage)

      by_form : (about : Subscription) (t : Bool)
          → IsKept (with_call (stopping (with_foreign state s) n) (formed_effect about t))
          → Makes {F = CollectorFault} (cond t (Ok (batch_changes state.collector.rows u s (channels_read about) batch n)) (Err faults.NotWellFormed)) state.collector.rows last → KeptWith (with_foreign state s) last
      by_form about true after = λ made. as_made (with_foreign state s) _ last made (called FaultName (with_foreign state s) n (batch_changes state.collector.rows u s (channels_read about) batch n) now after)
      by_form about false after = λ made. absurd made

      by_standing : (o : Standing) → standing state.collector.rows u ≡ o → IsKept (with_call (stopping (with_foreign state s) n) (batch_effect_by state.collector.rows u s batch n (standing state.collector.rows u)))
          → Makes (take_by o state.collector.rows u s batch n) state.collector.rows last → KeptWith (with_foreign state s) last
      by_standing stands.Unknown stood after = λ made. absurd made
      by_standing (stands.Ended about) stood after = λ made. absurd made
      by_standing (stands.Live about) stood after =
          by_form about (is_well_formed (channels_read about) batch)
          (subst (λ (o : Standing). IsKept (with_call (stopping (with_foreign state s) n) (batch_effect_by state.collector.rows u s batch n o))) stood after)

  -- ---- what was asked

  -- what a call makes of the rows, and of the names of strangers
  abbrev KeepsNamed : Asked → calls.Effect → Type 0
  KeepsNamed asked e = Makes e rows last → KeptWith (named_by asked state) last

  batch_made : (o : Option Slot) (u s : List ℕ) (batch : Batch) (n : ℕ) (relates : Option MessageId) → slot_of state s ≡ o → n ≤ LAST_MOMENT → IsSoundBatch batch → HearsBatch o state s u batch relates
      → Makes (take_effect rows u s batch n) rows last → KeptWith (with_stranger o state s) last
  batch_made None u s batch n relates there soon sound hears made = stranger_batch s u n batch there soon hears sound made
  batch_made (Some slot) u s batch n relates there soon sound was made =
      subst (λ (b : Batch). Makes (take_effect rows u s b n) rows last → KeptWith state last) was.batch_is
      (declared_batch s u slot n was.delivery there soon was.was_sent (delivered s u slot batch relates there was) was.to_subscription) made

  beat_named : (o : Option Slot) (s : List ℕ) (relates : Option MessageId) → slot_of state s ≡ o → HearsBeat o state s relates → is_source s ≡ true
  beat_named None s relates there hears = hears
  beat_named (Some slot) s relates there was = (kept.sources s slot there).name

  asked_made : (asked : Asked) (n : ℕ) (relates : Option MessageId) → n ≤ LAST_MOMENT → IsSoundAsked asked → HearsAsked state asked relates → KeepsNamed asked (effect_in asked n rows)
  asked_made (Refused name) n relates soon sound hears = λ made. same_kept made
  asked_made (Enumerate s) n relates soon sound hears = λ made. same_kept made
  asked_made (Unread u) n relates soon sound hears = by (standing rows u)
    where
      by : (o : Standing) → KeepsBy state last (unread_by o)
      by stands.Unknown = λ made. absurd made
      by (stands.Ended about) = λ made. absurd made
      by (stands.Live about) = λ made. absurd made
  asked_made (Take u s batch) n relates soon sound hears = λ made. batch_made (slot_of state s) u s batch n relates refl soon sound hears made
  asked_made (Heartbeat u s ack) n relates soon sound hears = hear_keeps u s n (beat_named (slot_of state s) s relates refl hears) soon
  asked_made (UnreadEnd u) n relates soon sound hears = by (is_known (standing rows u))
    where
      by : (known : Bool) → KeepsBy state last (cond known (Err faults.NotWellFormed) (Err faults.NoSubscription))
      by true = λ made. absurd made
      by false = λ made. absurd made
  asked_made (asks.Ended u s identifier) n relates soon sound hears = lease_keeps u s identifier (is_known (standing rows u))

  -- a name more of a stranger takes nothing away
  named_kept : (asked : Asked) → IsKept (named_by asked state)
  named_kept (Take u s batch) = by (slot_of state s) refl
    where
      by : (o : Option Slot) → slot_of state s ≡ o → IsKept (with_stranger o state s)
      by None none = foreign_kept state s kept none
      by (Some slot) there = kept
  named_kept (Refused name) = kept
  named_kept (Enumerate s) = kept
  named_kept (Unread u) = kept
  named_kept (Heartbeat u s ack) = kept
  named_kept (UnreadEnd u) = kept
  named_kept (asks.Ended u s identifier) = kept

  named_rows : (asked : Asked) → (named_by asked state).collector.rows ≡ state.collector.rows
  named_rows (Take u s batch) = by (slot_of state s)
    where
      by : (o : Option Slot) → (with_stranger o state s).collector.rows ≡ state.collector.rows
      by None = refl
      by (Some slot) = refl
  named_rows (Refused name) = refl
  named_rows (Enumerate s) = refl
  named_rows (Unread u) = refl
  named_rows (Heartbeat u s ack) = refl
  named_rows (UnreadEnd u) = refl
  named_rows (asks.Ended u s identifier) = refl

  asked_left : (asked : Asked) (n : ℕ) (relates : Option MessageId) → n ≤ LAST_MOMENT → IsSoundAsked asked → HearsAsked state asked relates → MayLeave (effect_in asked n) last rows → KeptWith (named_by asked state) last
  asked_left asked n relates soon sound hears (inl same) = subst (KeptWith (named_by asked state)) (named_rows asked ∙ sym same) (named_kept asked)
  asked_left asked n relates soon sound hears (inr made) = asked_made asked n relates soon sound hears made

  pub cut_keeps : (deed : Deed) → IsRead deed → IsToAsked deed → Hears state deed → IsCut deed rows last → IsKept (after_cut state deed last)
  cut_keeps Starts read to hears left = start_keeps left
  cut_keeps (Adds s) read to hears (inl same) = same_kept same
  cut_keeps (Adds s) read to hears (inr made) = add_keeps s read hears made
  cut_keeps (Ends u) read to hears (inl same) = same_kept same
  cut_keeps (Ends u) read to hears (inr made) = end_keeps_so u made
  cut_keeps (Answers host heard moment id said) read to hears left = asked_left heard.asked moment heard.relates read.0 read.2 hears left
  cut_keeps (Leaves heard moment) read to hears left = asked_left heard.asked moment heard.relates read.0 read.1 hears left
  cut_keeps (Requests host r moment) read to hears left = same_kept left.0
  cut_keeps (Takes waits answer moment) read to hears (inl same) = same_kept same
  cut_keeps (Takes waits answer moment) read to hears (inr made) = answer_keeps waits answer moment read.0 read.1 to made

  -- ---- what is said

  named_messages : (asked : Asked) → (named_by asked state).messages ≡ state.messages
  named_messages (Take u s batch) = by (slot_of state s)
    where
      by : (o : Option Slot) → (with_stranger o state s).messages ≡ state.messages
      by None = refl
      by (Some slot) = refl
  named_messages (Refused name) = refl
  named_messages (Enumerate s) = refl
  named_messages (Unread u) = refl
  named_messages (Heartbeat u s ack) = refl
  named_messages (UnreadEnd u) = refl
  named_messages (asks.Ended u s identifier) = refl

  -- a world with these messages more
  abbrev Says : Asked → List Message → Type 0
  Says asked more = IsKept (record (with_rows (named_by asked state) last) { messages = state.messages ++ more })

  silent : (asked : Asked) (more : List Message) → more ≡ [] → KeptWith (named_by asked state) last → Says asked more
  silent asked more none so =
      let then_named : State = named_by asked state in
      subst (λ (messages : List Message). IsWorldKept last then_named.foreign then_named.sources messages then_named.moment)
      (named_messages asked ∙ sym (append-nil state.messages) ∙ ap (λ (ms : List Message). state.messages ++ ms) (sym none)) so

  faults_silent : (asked : Asked) (relates : Option MessageId) (id : MessageId) (name : FaultName) → messages_said state asked relates id (said.Fault name) ≡ []
  faults_silent (Take u s batch) None id name = refl
  faults_silent (Take u s batch) (Some relates) id name = refl
  faults_silent (Heartbeat u s ack) None id name = refl
  faults_silent (Heartbeat u s ack) (Some relates) id name = refl
  faults_silent (Enumerate s) None id name = refl
  faults_silent (Enumerate s) (Some relates) id name = refl
  faults_silent (Refused other) relates id name = refl
  faults_silent (Unread u) relates id name = refl
  faults_silent (UnreadEnd u) relates id name = refl
  faults_silent (asks.Ended u s identifier) relates id name = refl

  -- it is an acknowledgement
  abbrev IsAckSaid : Said → Type 0
  IsAckSaid said.Ack = Unit {0}
  IsAckSaid said.Quiet = ⊥
  IsAckSaid (said.Offers list) = ⊥
  IsAckSaid (said.Fault name) = ⊥

  not_faulty : (name : FaultName) → said.Ack ≡ said.Fault name → ⊥
  not_faulty name is = subst IsAckSaid is tt

  -- the acknowledgement of a batch that was taken
  batch_acked : (s u : List ℕ) (slot : Slot) (n : ℕ) (id : MessageId) (delivery : Delivery) (about : Subscription) → WasSent state.messages (Events s delivery) → IsDelivery rows s slot delivery
      → subscription_in delivery.notify_to ≡ Some u → standing rows u ≡ stands.Live about → last ≡ applied (batch_changes rows u s (channels_read about) delivery.batch n) rows
      → IsAckKept last (state.messages ++ Ack s id delivery.id ∷ []) s delivery.id
  unfolding taken
  batch_acked s u slot n id delivery about was is leads live made =
      subst (λ (r : Rows). IsAckKept r (state.messages ++ Ack s id delivery.id ∷ []) s delivery.id) (sym made) (record {
        is = record {
          message = Events s delivery;
          was_sent = sent_before state.messages (Ack s id delivery.id) (Events s delivery) was;
          of_source = refl;
          id = refl;
          address = delivery.notify_to;
          to = delivery.batch.to;
          reads = refl;
          u = u;
          about = about;
          known = subscription_by_taking state.collector.rows u s (channels_read about) delivery.batch n u ∙ ap about_of live;
          to_subscription = leads;
          to_source = is.to_source;
          reached = taking_reaches state.collector.rows u s (channels_read about) delivery.batch n;
        };
        behind = taking_covers state.collector.rows u s (channels_read about) delivery.batch n
            (subst (λ (x : Subscription). (c : List ℕ) → is_in (channels_read x) c ≡ false → finite.get delivery.batch.to c ≡ None) same_about is.fits.others);
      })
    where
      at : is.u ≡ u
      at = same_Some is.u u (sym is.to_subscription ∙ leads)

      same_about : is.about ≡ about
      same_about = same_Some is.about about (sym is.known ∙ ap (subscription_at state.collector.rows) at ∙ ap about_of live)

  batch_acked_so : (s u : List ℕ) (slot : Slot) (n : ℕ) (id : MessageId) (delivery : Delivery) → WasSent state.messages (Events s delivery) → IsDelivery rows s slot delivery
      → subscription_in delivery.notify_to ≡ Some u → said.Ack ≡ said_where (batch_said delivery.batch.ack_wanted) tt (take_effect rows u s delivery.batch n) → last ≡ rows_by (take_effect rows u s delivery.batch n) rows
      → IsAckKept last (state.messages ++ Ack s id delivery.id ∷ []) s delivery.id
  batch_acked_so s u slot n id delivery was is leads says same = by (standing rows u) refl says same
    where
      by_form : (about : Subscription) → standing state.collector.rows u ≡ stands.Live about → (t : Bool)
          → said.Ack ≡ said_where (batch_said delivery.batch.ack_wanted) tt (cond t (Ok (batch_changes state.collector.rows u s (channels_read about) delivery.batch n)) (Err faults.NotWellFormed))
          → last ≡ rows_by (cond t (Ok (batch_changes state.collector.rows u s (channels_read about) delivery.batch n)) (Err faults.NotWellFormed)) state.collector.rows
          → IsAckKept last (state.messages ++ Ack s id delivery.id ∷ []) s delivery.id
      by_form about live true says made = batch_acked s u slot n id delivery about was is leads live made
      by_form about live false says made = absurd (not_faulty _ says)

      by : (o : Standing) → standing state.collector.rows u ≡ o → said.Ack ≡ said_where (batch_said delivery.batch.ack_wanted) tt (take_by o state.collector.rows u s delivery.batch n)
          → last ≡ rows_by (take_by o state.collector.rows u s delivery.batch n) state.collector.rows → IsAckKept last (state.messages ++ Ack s id delivery.id ∷ []) s delivery.id
      by stands.Unknown stood says made = absurd (not_faulty _ says)
      by (stands.Ended about) stood says made = absurd (not_faulty _ says)
      by (stands.Live about) stood says made = by_form about stood (is_well_formed (channels_read about) delivery.batch) says made

  -- and of a heartbeat: its subscription stays
  beat_acked : (s : List ℕ) (slot : Slot) (id relates : MessageId) (was : WasBeaten state s (Some relates)) → slot_of state s ≡ Some slot → Stay rows last → IsAckKept last (state.messages ++ Ack s id relates ∷ []) s relates
  beat_acked s slot id relates was there stay =
      let beat = was.beat in
      let path = declared_at (slot_of state s) slot (λ (slot : Slot). IsOnPath rows s slot beat.notify_to beat.id) there (kept.messages (Beat s beat) was.was_sent) in
      record {
        is = record {
          message = Beat s beat;
          was_sent = sent_before state.messages (Ack s id relates) (Beat s beat) was.was_sent;
          of_source = refl;
          id = same_Some relates beat.id was.relates_is;
          address = beat.notify_to;
          to = finite.empty;
          reads = refl;
          u = path.u;
          about = path.about;
          known = stay.known path.u path.about path.known;
          to_subscription = path.to_subscription;
          to_source = path.to_source;
          reached = tt;
        };
        behind = λ c. let none = ap (λ (o : Option ℕ). unwrap_or o 0) (finite.get-empty (slice_cmp nat_cmp) c) in omega arith;
      }

  -- what is said to a declared source that is no request
  says_to : (o : Option Slot) (m : Message) → request_id m ≡ None → KeptWith state last → ((slot : Slot) → o ≡ Some slot → IsMessageKept last state.sources (state.messages ++ m ∷ []) m)
      → IsWorldKept last state.foreign state.sources (state.messages ++ to_declared o m) state.moment
  says_to None m none so is = subst (λ (messages : List Message). IsWorldKept last state.foreign state.sources messages state.moment) (sym (append-nil state.messages)) so
  says_to (Some slot) m none so is = kept_reply (with_rows state last) m so none (is slot refl)

  batch_says : (o : Option Slot) (u s : List ℕ) (batch : Batch) (n : ℕ) (id relates : MessageId) → slot_of state s ≡ o → HearsBatch o state s u batch (Some relates)
      → said.Ack ≡ said_where (batch_said batch.ack_wanted) tt (take_effect rows u s batch n) → last ≡ rows_by (take_effect rows u s batch n) rows → KeptWith (with_stranger o state s) last
      → IsKept (record (with_rows (with_stranger o state s) last) { messages = state.messages ++ to_declared o (Ack s id relates) })
  batch_says None u s batch n id relates there hears says same so =
      subst (λ (messages : List Message). IsWorldKept last (with_foreign state s).foreign state.sources messages state.moment) (sym (append-nil state.messages)) so
  batch_says (Some slot) u s batch n id relates there was says same so =
      let is = delivered s u slot batch (Some relates) there was in
      let own : was.delivery.id ≡ relates = sym (same_Some relates was.delivery.id was.relates_is) in
      let acked = subst (λ (b : Batch). said.Ack ≡ said_where (batch_said b.ack_wanted) tt (take_effect rows u s b n) → last ≡ rows_by (take_effect rows u s b n) rows
      → IsAckKept last (state.messages ++ Ack s id was.delivery.id ∷ []) s was.delivery.id) was.batch_is (batch_acked_so s u slot n id was.delivery was.was_sent is was.to_subscription) says same in
      kept_reply (with_rows state last) (Ack s id relates) so refl (subst (λ (r : MessageId). IsAckKept last (state.messages ++ Ack s id r ∷ []) s r) own acked)

  -- the offers that are said
  abbrev list_of : Said → List Offer
  list_of (said.Offers list) = list
  list_of _ = []

  offers_say : (s host : List ℕ) (id relates : MessageId) (list : List Offer) → IsHost host → list ≡ offers rows s host → last ≡ rows → KeptWith state last
      → IsWorldKept last state.foreign state.sources (state.messages ++ to_declared (slot_of state s) (Offers s id relates list)) state.moment
  offers_say s host id relates list is_host are same so =
      says_to (slot_of state s) (Offers s id relates list) refl so (λ slot there.
      subst (AllByRecursion (λ (offer : Offer). IsOffered last s offer.subscribe)) (ap (λ (r : Rows). offers r s host) same ∙ sym are)
      (all_offers last s host is_host so.keys (so.sources s slot there).name))

  -- ---- deeds that are done

  abbrev Answered : (host : List ℕ) (asked : Asked) (relates : Option MessageId) (n : ℕ) (id : MessageId) (said : Said) → Type 0
  Answered host asked relates n id said =
      said ≡ said_by host asked rows (effect_in asked n rows) → last ≡ rows_by (effect_in asked n rows) rows → KeptWith (named_by asked state) last → Says asked (messages_said state asked relates id said)

  goes_keeps : (host : List ℕ) (asked : Asked) (relates : Option MessageId) (n : ℕ) (id : MessageId) (says : Said) → HearsAsked state asked relates → IsHost host → Stay rows last → Answered host asked relates n id says
  goes_keeps host (Refused name) relates n id says hears names stay is same so = silent (Refused name) _ refl so
  goes_keeps host (Unread u) relates n id says hears names stay is same so = silent (Unread u) _ refl so
  goes_keeps host (UnreadEnd u) relates n id says hears names stay is same so = silent (UnreadEnd u) _ refl so
  goes_keeps host (asks.Ended u s identifier) relates n id says hears names stay is same so = silent (asks.Ended u s identifier) _ refl so
  goes_keeps host (Enumerate s) None n id says hears names stay is same so = silent (Enumerate s) _ refl so
  goes_keeps host (Enumerate s) (Some relates) n id said.Ack hears names stay is same so = silent (Enumerate s) _ refl so
  goes_keeps host (Enumerate s) (Some relates) n id said.Quiet hears names stay is same so = silent (Enumerate s) _ refl so
  goes_keeps host (Enumerate s) (Some relates) n id (said.Fault name) hears names stay is same so = silent (Enumerate s) _ refl so
  goes_keeps host (Enumerate s) (Some relates) n id (said.Offers list) hears names stay is same so = offers_say s host id relates list names (ap list_of is) same so
  goes_keeps host (Take u s batch) None n id says hears names stay is same so = silent (Take u s batch) _ refl so
  goes_keeps host (Take u s batch) (Some relates) n id said.Quiet hears names stay is same so = silent (Take u s batch) _ refl so
  goes_keeps host (Take u s batch) (Some relates) n id (said.Offers list) hears names stay is same so = silent (Take u s batch) _ refl so
  goes_keeps host (Take u s batch) (Some relates) n id (said.Fault name) hears names stay is same so = silent (Take u s batch) _ refl so
  goes_keeps host (Take u s batch) (Some relates) n id said.Ack hears names stay is same so = batch_says (slot_of state s) u s batch n id relates refl hears is same so
  goes_keeps host (Heartbeat u s ack) None n id says hears names stay is same so = silent (Heartbeat u s ack) _ refl so
  goes_keeps host (Heartbeat u s ack) (Some relates) n id said.Quiet hears names stay is same so = silent (Heartbeat u s ack) _ refl so
  goes_keeps host (Heartbeat u s ack) (Some relates) n id (said.Offers list) hears names stay is same so = silent (Heartbeat u s ack) _ refl so
  goes_keeps host (Heartbeat u s ack) (Some relates) n id (said.Fault name) hears names stay is same so = silent (Heartbeat u s ack) _ refl so
  goes_keeps host (Heartbeat u s ack) (Some relates) n id said.Ack hears names stay is same so = by (slot_of state s) refl hears
    where
      by : (o : Option Slot) → slot_of state s ≡ o → HearsBeat o state s (Some relates) → IsWorldKept last state.foreign state.sources (state.messages ++ to_declared o (Ack s id relates)) state.moment
      by None there hears = says_to None (Ack s id relates) refl so (λ slot e. absurd (none-some slot e))
      by (Some slot) there was = kept_reply (with_rows state last) (Ack s id relates) so refl (beat_acked s slot id relates was there stay)

  pub done_keeps : (deed : Deed) → IsRead deed → IsToAsked deed → Hears state deed → Does deed rows last → IsKept (after_deed state deed last)
  done_keeps Starts read to hears does = silent_so (cut_keeps Starts read to hears does)
    where
      silent_so : KeptWith state last → IsWorldKept last state.foreign state.sources (state.messages ++ []) state.moment
      silent_so so = subst (λ (messages : List Message). IsWorldKept last state.foreign state.sources messages state.moment) (sym (append-nil state.messages)) so
  done_keeps (Adds s) read to hears does = subst (λ (messages : List Message). IsWorldKept last state.foreign state.sources messages state.moment) (sym (append-nil state.messages)) (cut_keeps (Adds s) read to hears does)
  done_keeps (Ends u) read to hears does = subst (λ (messages : List Message). IsWorldKept last state.foreign state.sources messages state.moment) (sym (append-nil state.messages)) (cut_keeps (Ends u) read to hears does)
  done_keeps (Takes waits answer moment) read to hears does =
      subst (λ (messages : List Message). IsWorldKept last state.foreign state.sources messages state.moment) (sym (append-nil state.messages)) (cut_keeps (Takes waits answer moment) read to hears does)
  done_keeps (Requests host r moment) read to is_host does =
      let well = due_well state.collector.rows kept.keys host r moment does.1 in
      says_to (slot_of state r.source.name) (Request r.source.name r.id r.identifier r.body) refl (same_kept does.0) (λ slot there.
      subst (λ (found : Rows). IsAskedFor found r.source.name r.body) (sym does.0) (well.may is_host (kept.sources r.source.name slot there).name))
  done_keeps (Leaves heard moment) read to hears does = silent heard.asked [] refl (asked_left heard.asked moment heard.relates read.0 read.1 hears does)
  done_keeps (Answers host heard moment id said) read to hears does = by does
    where
      so : KeptWith (named_by heard.asked state) last
      so = asked_left heard.asked moment heard.relates read.0 read.2 hears (done_as_cut (Answers host heard moment id said) rows last does)

      by : Goes host heard.asked moment said state.collector.rows last → Says heard.asked (messages_said state heard.asked heard.relates id said)
      by (inl (is, same)) = goes_keeps host heard.asked heard.relates moment id said hears read.1 (cut_stays rows last (Answers host heard moment id said) (done_as_cut (Answers host heard moment id said) rows last does)) is same so
      by (inr (is, may)) = silent heard.asked (messages_said state heard.asked heard.relates id said) (ap (messages_said state heard.asked heard.relates id) is ∙ faults_silent heard.asked heard.relates id _) so

pub deeds_keep : DeedsKeep
deeds_keep = record {
  done = λ state deed last kept read to hears does. done_keeps state kept last deed read to hears does;
  cut = λ state deed last kept read to hears left. cut_keeps state kept last deed read to hears left;
  asked = λ state host r moment kept due. (due_well state.collector.rows kept.keys host r moment due).waits;
}
