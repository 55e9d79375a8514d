-- What the collector does keeps what is kept: it is opened, subscriptions begin and end, and batches come; also where a
-- commit fails, whatever it leaves.
use Rattle.std.proofs.Common.{◌≡◌, ◌≢◌, ℕ, ◌+◌, ◌≤◌, Bool, true, false, ◌&&◌, cond, List, [], ◌∷◌, ◌++◌, refl, ap, sym, ◌∙◌, subst, nat_lt}
use Rattle.std.proofs.lemmas.Bool.{and_parts, cond_both}
use Rattle.std.proofs.lemmas.Option.{none-some, same_Some}
use Rattle.std.specs.Prelude.{Option, Some, None, Ok, Err}
use Rattle.std.specs.FinMap as finite
use Rattle.wef_base.specs.Names.{same}
use Rattle.wef_batch.specs.WellFormed.{is_in, is_well_formed}
use Rattle.wef_batch.specs.declared.items.Batch.{Batch}
use Rattle.wef_bookmark.specs.Order.{number_at}
use Rattle.wef_collector.proofs.Hits.{not_both, one_name, same_self}
use Rattle.wef_collector.specs.Boots.{boot_of, memory_begun}
use Rattle.wef_collector.specs.declared.memories.Memory.{Memory}
use Rattle.wef_collector_rows.specs.Bookmarks.{bookmark_at, bookmark_of}
use Rattle.wef_collector_rows.specs.Answers.{added_rows, channels_read, ended_rows, is_there}
use Rattle.wef_collector.specs.Calls.{Effect, boot_effect, end_by}
use Rattle.wef_collector_rows.specs.Keys.{boot_key, subscription_key}
use Rattle.wef_collector_rows.specs.Standing.{is_full, kept_body, standing}
use Rattle.wef_collector.specs.Taken.{batch_changes, put, taken}
use Rattle.wef_collector_rows.specs.declared.faults.CollectorFault.TheVariants as faults
use Rattle.wef_collector_rows.specs.declared.standings.Standing as state_of
use Rattle.wef_collector_rows.specs.declared.standings.Standing.TheVariants as stands
use Rattle.wef_ids.specs.declared.FaultName.{FaultName}
use Rattle.wef_ids.specs.declared.FaultName.TheVariants.{InvalidMessage, DestinationUnreachable, InternalError}
use Rattle.wef_ids.specs.declared.MessageId.{MessageId}
use Rattle.wef_documents.specs.Kept.{read_kept}
use Rattle.wef_documents.specs.Written.{document_text}
use Rattle.wef_eventing.specs.declared.subscriptions.Subscription.{Subscription}
use Rattle.wef_keeper.specs.Rows.{Rows, applied}
use Rattle.wef_keeper.specs.declared.keys.Change.{Change}
use Rattle.wef_replay.specs.Good.{is_among, is_source, is_subscription}
use Rattle.wef_source_log.specs.Histories.{history}
use Rattle.wef_source.specs.declared.messages.Delivery.{Delivery}
use Rattle.wef_machine.specs.Answering.{answer_by, answers_by, with_answer}
use Rattle.wef_machine.specs.Arming.{committed, fate}
use Rattle.wef_machine.specs.Collecting.{at_collector, collector_opened, reply_id, where_runs, with_call, with_opened, with_reply}
use Rattle.wef_machine.specs.Deliveries.{BatchEffect, batch_effect, batch_effect_by, effect_at, events_at}
use Rattle.wef_machine.specs.Places.{commits, opened_by, starts}
use Rattle.wef_pairs.specs.Pairs.{IsPairSafe, IsUntouched, about_of, settings_of, subscription_at}
use Rattle.wef_machine.specs.States.{Slot, State, slot_of, with_collector, with_foreign}
use Rattle.wef_machine.specs.Steps.{batch_at, end_at, subscribe_at}
use Rattle.wef_machine.specs.declared.arming.Armed.{Armed}
use Rattle.wef_machine.specs.declared.arming.Fate.{Fate}
use Rattle.wef_machine.specs.declared.arming.Fate.TheVariants.{Done, Failed, Stopped}
use Rattle.wef_machine.specs.declared.messages.Message.{Message}
use Rattle.wef_machine.specs.declared.messages.Message.TheVariants.{Ack, Events, Fault}
use Rattle.wef_query.specs.Order.{with_name}
use Rattle.wef_collector.specs.FormsStay.{IsSoundBatch}
use Rattle.wef_machine.proofs.Names.{among_with, not_among_with}
use Rattle.wef_pairs.proofs.Takes.{adding_spares, ending_spares, fitting_batches_are_safe, is_served, taking_spares, taking_spares_source, untouched_alike}
use Rattle.wef_safety.specs.Kept.{AreAddressed, IsAckKept, IsChannelKept, IsDelivery, IsKept, IsPairKept}
use Rattle.wef_safety.specs.Safe.{WasSent}
use Rattle.wef_safety.proofs.Aside.{KeptWith, booted_aside, bookmark_of_aside, kept_aside, kept_by_booting}
use Rattle.wef_safety.proofs.Growing.{same_rows}
use Rattle.wef_safety.proofs.KeptChannels.{known_channels}
use Rattle.wef_safety.proofs.Lower.{Lower}
use Rattle.wef_safety.proofs.Moves.{alike_pair, kept_reply, kept_rows, untouched_pair}
use Rattle.wef_safety.proofs.RowMoves.{adding_grows, ending_grows, kept_by_adding, kept_by_ending, kept_by_taking, subscription_by_adding, subscription_by_ending, subscription_by_taking, taking_covers, taking_grows, taking_reaches, unknown}
use Rattle.wef_safety.proofs.Sent.{sent_before}

other_name : (a b : List ℕ) → same a b ≡ false → a ≢ b
other_name a b other e = not_both (subst (λ (x : List ℕ). same a x ≡ true) e (same_self a)) other

-- ---- commits

-- what holds of the rows before a commit and of those with its changes holds of what the commit leaves
pub committed_both : (P : Rows → Type 0) (armed : Option Armed) (changes : List Change) (rows : Rows) → P rows → P (applied changes rows) → P (committed armed changes rows)
committed_both P armed [] rows before after = before
committed_both P None (change ∷ changes) rows before after = after
committed_both P (Some a) (change ∷ changes) rows before after = cond_both a.after (applied (change ∷ changes) rows) rows P (λ _. after) (λ _. before)

never : (stops : Bool) → cond stops Stopped Failed ≡ Done → ⊥
never true e = cc
never false e = cc

-- a commit that is done leaves its changes
pub done_leaves : (armed : Option Armed) (changes : List Change) (rows : Rows) → fate armed changes ≡ Done → committed armed changes rows ≡ applied changes rows
done_leaves armed [] rows done = refl
done_leaves None (change ∷ changes) rows done = refl
done_leaves (Some a) (change ∷ changes) rows done = absurd (never a.stops done)

pub called_kept : (state : State) (changes : List Change) → IsKept state → KeptWith state (applied changes state.collector.rows) → IsKept (with_collector state (commits state.collector changes))
called_kept state changes kept after = committed_both (KeptWith state) state.collector.armed changes state.collector.rows kept after

-- ---- an opening

-- a start makes the boot number greater
abbrev pub boot_changes : Rows → List Change
boot_changes rows = put boot_key (boot_of rows + 1) [] ∷ []

booted_kept : Lower → (state : State) → IsKept state → nat_lt (boot_of state.collector.rows) 9223372036854775807 ≡ true →
    KeptWith state (applied (boot_changes state.collector.rows) state.collector.rows)
booted_kept lower state kept room =
    let boot = boot_of state.collector.rows + 1 in
    kept_aside state (applied (put boot_key boot [] ∷ []) state.collector.rows) kept (booted_aside state.collector.rows boot) (kept_by_booting state.collector.rows boot kept.keys) (lower.formed_booted state.collector.rows room kept.formed)

starts_kept : Lower → (state : State) (memory : Memory) → IsKept state → IsKept (with_collector state (starts state.collector memory (boot_effect state.collector.rows)))
starts_kept lower state memory kept =
    cond_both (nat_lt (boot_of state.collector.rows) 9223372036854775807) (Ok (boot_changes state.collector.rows)) (Err faults.Full)
    (λ (effect : Effect). IsKept (with_collector state (starts state.collector memory effect)))
    (λ room. called_kept state (boot_changes state.collector.rows) kept (booted_kept lower state kept room)) (λ full. kept)

pub opened_kept : Lower → (state : State) → IsKept state → IsKept (with_opened state)
opened_kept lower state kept = by_memory state.collector.memory
  where
    by_memory : (memory : Option Memory) →
        IsKept (with_collector state (opened_by state.collector (memory_begun state.collector.rows) (boot_effect state.collector.rows) memory))
    by_memory None = starts_kept lower state (memory_begun state.collector.rows) kept
    by_memory (Some memory) = kept

-- an opening leaves each bookmark as it is
pub opened_bookmark : (state : State) (u s : List ℕ) → bookmark_of (with_opened state).collector.rows u s ≡ bookmark_of state.collector.rows u s
opened_bookmark state u s = by_memory state.collector.memory
  where
    by_memory : (memory : Option Memory) →
        bookmark_of (opened_by state.collector (memory_begun state.collector.rows) (boot_effect state.collector.rows) memory).rows u s ≡ bookmark_of state.collector.rows u s
    by_memory None =
        cond_both (nat_lt (boot_of state.collector.rows) 9223372036854775807) (Ok (boot_changes state.collector.rows)) (Err faults.Full)
        (λ (effect : Effect). bookmark_of (starts state.collector (memory_begun state.collector.rows) effect).rows u s ≡ bookmark_of state.collector.rows u s)
        (λ room. committed_both (λ (rows : Rows). bookmark_of rows u s ≡ bookmark_of state.collector.rows u s) state.collector.armed (boot_changes state.collector.rows)
        state.collector.rows refl
        (bookmark_of_aside (applied (boot_changes state.collector.rows) state.collector.rows) state.collector.rows u s (booted_aside state.collector.rows (boot_of state.collector.rows + 1))))
        (λ full. refl)
    by_memory (Some memory) = refl

-- What an opening leaves as it is.
pub record IsOpened (before after : State) : Type 0 where
  pub foreign : after.foreign ≡ before.foreign
  pub sources : after.sources ≡ before.sources
  pub messages : after.messages ≡ before.messages

-- what holds of the opened collector, and of what a line does there, holds of what the line does
pub at_collector_any : (state : State) (change : Memory → State → State) (Q : State → Type 0) → Q (with_opened state) →
    ((memory : Memory) → (with_opened state).collector.memory ≡ Some memory → Q (change memory (with_opened state))) → Q (at_collector state change)
at_collector_any state change Q closed done = by_memory (collector_opened state.collector).memory refl
  where
    by_memory : (memory : Option Memory) → (collector_opened state.collector).memory ≡ memory → Q (where_runs (with_opened state) memory change)
    by_memory None runs = closed
    by_memory (Some memory) runs = done memory runs

-- what a line does at the collector keeps all where it does so once the collector is open
pub at_collector_keeps : Lower → (state : State) (change : Memory → State → State) → IsKept state →
    ((now : State) (memory : Memory) → IsKept now → IsOpened state now → IsKept (change memory now)) → IsKept (at_collector state change)
at_collector_keeps lower state change kept keeps =
    let open_kept = opened_kept lower state kept in
    at_collector_any state change IsKept open_kept (λ memory runs. keeps (with_opened state) memory open_kept (record { foreign = refl; sources = refl; messages = refl }))

-- ---- subscriptions

no_subscription : (rows : Rows) (u s c : List ℕ) (slot : Option Slot) → IsPairKept rows u s c None slot → IsUntouched rows u s c
no_subscription rows u s c slot blank = blank

added_kept : Lower → (state : State) (about : Subscription) → IsKept state → is_subscription about.name ≡ true → read_kept about.name (document_text about) ≡ Some about → AreAddressed about →
    is_there state.collector.rows about.name ≡ false → KeptWith state (added_rows state.collector.rows about)
added_kept lower state about kept good all addressed none = kept_rows state (added_rows state.collector.rows about) state.foreign kept (adding_grows state.collector.rows about none)
    (λ v s c apart. by_name v s c apart (same about.name v) refl) kept.apart (kept_by_adding state.collector.rows about good all addressed kept.keys) (lower.formed_added state.collector.rows about good all kept.formed)
  where
    by_name : (v s c : List ℕ) → is_among state.foreign s ≡ false → (t : Bool) → same about.name v ≡ t →
        IsPairKept (added_rows state.collector.rows about) v s c (subscription_at (added_rows state.collector.rows about) v) (slot_of state s)
    by_name v s c apart true is =
        let own : subscription_at state.collector.rows v ≡ None = ap (subscription_at state.collector.rows) (sym (one_name about.name v is)) ∙ unknown state.collector.rows about.name none in
        let blank = no_subscription state.collector.rows v s c (slot_of state s)
        (subst (λ (o : Option Subscription). IsPairKept state.collector.rows v s c o (slot_of state s)) own (kept.pairs v s c apart)) in
        untouched_pair (added_rows state.collector.rows about) v s c (subscription_at (added_rows state.collector.rows about) v) (slot_of state s)
        (untouched_alike (added_rows state.collector.rows about) state.collector.rows v s c (adding_spares state.collector.rows about v s c) blank)
    by_name v s c apart false other =
        alike_pair (added_rows state.collector.rows about) state.collector.rows v s c (subscription_at (added_rows state.collector.rows about) v) (slot_of state s) (adding_spares state.collector.rows about v s c)
        (subst (λ (o : Option Subscription). IsPairKept state.collector.rows v s c o (slot_of state s))
        (sym (subscription_by_adding state.collector.rows about v (other_name about.name v other))) (kept.pairs v s c apart))

pub subscribe_keeps : Lower → (state : State) (about : Subscription) → IsKept state → is_subscription about.name ≡ true → read_kept about.name (document_text about) ≡ Some about → AreAddressed about →
    IsKept (subscribe_at about state)
subscribe_keeps lower state about kept good all addressed =
    let changes : List Change = put (subscription_key about.name) 0 (document_text about) ∷ [] in
    let effect : Effect = Ok changes in
    cond_both (is_there state.collector.rows about.name) (Err faults.Exists) (cond (is_full state.collector.rows) (Err faults.TooMany) effect) (λ (e : Effect). IsKept (with_call state e))
    (λ there. kept) (λ none. cond_both (is_full state.collector.rows) (Err faults.TooMany) effect (λ (e : Effect). IsKept (with_call state e))
    (λ full. kept) (λ room. called_kept state changes kept (added_kept lower state about kept good all addressed none)))

ended_kept : Lower → (state : State) (u : List ℕ) (about : Subscription) → IsKept state → standing state.collector.rows u ≡ stands.Live about → KeptWith state (ended_rows state.collector.rows u)
ended_kept lower state u about kept live = kept_rows state (ended_rows state.collector.rows u) state.foreign kept (ending_grows state.collector.rows u about live)
    (λ v s c apart.
    alike_pair (ended_rows state.collector.rows u) state.collector.rows v s c (subscription_at (ended_rows state.collector.rows u) v) (slot_of state s) (ending_spares state.collector.rows u v s c)
    (subst (λ (o : Option Subscription). IsPairKept state.collector.rows v s c o (slot_of state s)) (sym (subscription_by_ending state.collector.rows u about v live)) (kept.pairs v s c apart)))
    kept.apart (kept_by_ending state.collector.rows u about live kept.keys) (lower.formed_ended state.collector.rows u about live kept.formed)

pub end_keeps : Lower → (state : State) (u : List ℕ) → IsKept state → IsKept (end_at u state)
end_keeps lower state u kept = by_standing (standing state.collector.rows u) refl
  where
    by_standing : (found : state_of.Standing) → standing state.collector.rows u ≡ found → IsKept (with_call state (end_by found state.collector.rows u))
    by_standing stands.Unknown e = kept
    by_standing (stands.Ended about) e = kept
    by_standing (stands.Live about) e =
        called_kept state (put (subscription_key u) 1 (kept_body (finite.get state.collector.rows (subscription_key u))) ∷ []) kept (ended_kept lower state u about kept e)

-- ---- batches of foreign sources

-- one more foreign source, which isn't declared
pub foreign_kept : (state : State) (s : List ℕ) → IsKept state → slot_of state s ≡ None → IsKept (with_foreign state s)
foreign_kept state s kept none = kept_rows state state.collector.rows (with_name state.foreign s) kept (same_rows state.collector.rows)
    (λ v r c apart. kept.pairs v r c (not_among_with state.foreign s r apart).0)
    (λ r slot there. among_with state.foreign s r (kept.apart r slot there) (apart_name r slot there (same r s) refl)) kept.keys kept.formed
  where
    apart_name : (r : List ℕ) (slot : Slot) → slot_of state r ≡ Some slot → (t : Bool) → same r s ≡ t → same r s ≡ false
    apart_name r slot there true is = absurd (none-some slot (sym none ∙ ap (slot_of state) (sym (one_name r s is)) ∙ there))
    apart_name r slot there false is = is

-- a source is named by a `batch` line
abbrev IsForeign : State → List ℕ → Type 0
IsForeign state s = (r : List ℕ) → is_among state.foreign r ≡ false → s ≢ r

pub is_foreign : (state : State) (s : List ℕ) → IsForeign (with_foreign state s) s
is_foreign state s r apart e = other_name r s (not_among_with state.foreign s r apart).1 (sym e)

foreign_taken : Lower → (state : State) (u s : List ℕ) (about : Subscription) (batch : Batch) → IsKept state → IsForeign state s → is_source s ≡ true → IsSoundBatch batch →
    standing state.collector.rows u ≡ stands.Live about → is_well_formed (channels_read about) batch ≡ true → KeptWith state (taken state.collector.rows u s (channels_read about) batch state.moment)
foreign_taken lower state u s about batch kept foreign source sound live good =
    let channels = channels_read about in
    let rows = taken state.collector.rows u s channels batch state.moment in
    kept_rows state rows state.foreign kept (taking_grows state.collector.rows u s channels batch state.moment)
    (λ v r c apart.
    alike_pair rows state.collector.rows v r c (subscription_at rows v) (slot_of state r) (taking_spares_source state.collector.rows u s channels batch state.moment v r c (foreign r apart))
    (subst (λ (o : Option Subscription). IsPairKept state.collector.rows v r c o (slot_of state r)) (sym (subscription_by_taking state.collector.rows u s channels batch state.moment v)) (kept.pairs v r c apart)))
    kept.apart (kept_by_taking state.collector.rows u s channels batch state.moment (known_channels state.collector.rows u about (ap about_of live)) kept.keys)
    (lower.formed_taken state.collector.rows u s about batch state.moment live source good sound kept.soon kept.formed)

pub batch_keeps : Lower → (state : State) (u s : List ℕ) (batch : Batch) → IsKept state → IsForeign state s → is_source s ≡ true → IsSoundBatch batch → IsKept (batch_at u s batch state)
unfolding taken
batch_keeps lower state u s batch kept foreign source sound = by_standing (standing state.collector.rows u) refl
  where
    by_standing : (found : state_of.Standing) → standing state.collector.rows u ≡ found → IsKept (with_call state (batch_effect_by state.collector.rows u s batch state.moment found))
    by_standing stands.Unknown e = kept
    by_standing (stands.Ended about) e = kept
    by_standing (stands.Live about) e =
        let changes : List Change = batch_changes state.collector.rows u s (channels_read about) batch state.moment in
        let effect : BatchEffect = Ok changes in
        cond_both (is_well_formed (channels_read about) batch) effect (Err InvalidMessage) (λ (x : BatchEffect). IsKept (with_call state x))
        (λ good. called_kept state changes kept (foreign_taken lower state u s about batch kept foreign source sound e good)) (λ bad. kept)

-- ---- batches of declared sources

-- the pair that a fitting batch is for
served_pair : (state : State) (u s c : List ℕ) (slot : Slot) (delivery : Delivery) → IsKept state → slot_of state s ≡ Some slot →
    (is : IsDelivery state.collector.rows s slot delivery) → is.u ≡ u → is_in (channels_read is.about) c ≡ true →
    IsPairKept (taken state.collector.rows u s (channels_read is.about) delivery.batch state.moment) u s c (subscription_at state.collector.rows u) (slot_of state s)
served_pair state u s c slot delivery kept there is at listed =
    let known : subscription_at state.collector.rows u ≡ Some is.about = ap (subscription_at state.collector.rows) (sym at) ∙ is.known in
    let before : IsChannelKept state.collector.rows u s c is.about slot (is_in (channels_read is.about) c) =
    subst (λ (x : Option Subscription × Option Slot). IsPairKept state.collector.rows u s c x.0 x.1) (λ i. (known i, there i)) (kept.pairs u s c (kept.apart s slot there)) in
    let safe : IsPairSafe state.collector.rows u s c 0 (settings_of is.about) (history slot.histories c) slot.capacity = subst (IsChannelKept state.collector.rows u s c is.about slot) listed before in
    let rows = taken state.collector.rows u s (channels_read is.about) delivery.batch state.moment in
    let after = fitting_batches_are_safe state.collector.rows u s c 0 is.about slot.histories slot.capacity is.above delivery.batch state.moment listed safe is.fits
    (subst (λ (v : List ℕ). number_at is.above c ≤ bookmark_at state.collector.rows v s c) at (is.behind c)) in
    subst (λ (x : Option Subscription × Option Slot). IsPairKept rows u s c x.0 x.1) (λ i. (sym known i, sym there i))
    (subst (IsChannelKept rows u s c is.about slot) (sym listed) after.0)

taken_kept : Lower → (state : State) (s : List ℕ) (slot : Slot) (delivery : Delivery) → IsKept state → slot_of state s ≡ Some slot →
    (is : IsDelivery state.collector.rows s slot delivery) → standing state.collector.rows is.u ≡ stands.Live is.about → is_well_formed (channels_read is.about) delivery.batch ≡ true →
    KeptWith state (taken state.collector.rows is.u s (channels_read is.about) delivery.batch state.moment)
taken_kept lower state s slot delivery kept there is live good =
    kept_rows state rows state.foreign kept (taking_grows state.collector.rows is.u s (channels_read is.about) delivery.batch state.moment)
    (λ v r c apart.
    subst (λ (o : Option Subscription). IsPairKept rows v r c o (slot_of state r)) (sym (subscription_by_taking state.collector.rows is.u s (channels_read is.about) delivery.batch state.moment v))
    (by_pair v r c apart (is_served is.u s (channels_read is.about) v r c) refl))
    kept.apart
    (kept_by_taking state.collector.rows is.u s (channels_read is.about) delivery.batch state.moment (known_channels state.collector.rows is.u is.about is.known) kept.keys)
    (lower.formed_taken state.collector.rows is.u s is.about delivery.batch state.moment live (kept.sources s slot there).name good is.sound kept.soon kept.formed)
  where
    rows : Rows
    rows = taken state.collector.rows is.u s (channels_read is.about) delivery.batch state.moment

    by_pair : (v r c : List ℕ) → is_among state.foreign r ≡ false → (t : Bool) → is_served is.u s (channels_read is.about) v r c ≡ t →
        IsPairKept (taken state.collector.rows is.u s (channels_read is.about) delivery.batch state.moment) v r c (subscription_at state.collector.rows v) (slot_of state r)
    by_pair v r c apart true e =
        let parts = and_parts (same is.u v) (same s r && is_in (channels_read is.about) c) e in
        let more = and_parts (same s r) (is_in (channels_read is.about) c) parts.1 in
        subst (λ (x : List ℕ × List ℕ). IsPairKept (taken state.collector.rows is.u s (channels_read is.about) delivery.batch state.moment) x.0 x.1 c (subscription_at state.collector.rows x.0) (slot_of state x.1))
        (λ i. (one_name is.u v parts.0 i, one_name s r more.0 i)) (served_pair state is.u s c slot delivery kept there is refl more.1)
    by_pair v r c apart false e =
        alike_pair (taken state.collector.rows is.u s (channels_read is.about) delivery.batch state.moment) state.collector.rows v r c (subscription_at state.collector.rows v) (slot_of state r)
        (taking_spares state.collector.rows is.u s (channels_read is.about) delivery.batch state.moment v r c e) (kept.pairs v r c apart)

-- what the collector left of a batch that it took, and its acknowledgement
acked_kept : (state : State) (after : State) (s : List ℕ) (slot : Slot) (id : MessageId) (delivery : Delivery) → (is : IsDelivery state.collector.rows s slot delivery) →
    WasSent state.messages (Events s delivery) → IsKept after → after.messages ≡ state.messages →
    after.collector.rows ≡ taken state.collector.rows is.u s (channels_read is.about) delivery.batch state.moment → IsKept (with_reply 1 after (Ack s id delivery.id))
acked_kept state after s slot id delivery is was kept same_messages left =
    let channels = channels_read is.about in
    kept_reply after (Ack s id delivery.id) kept refl
    (subst (λ (x : Rows × List Message). IsAckKept x.0 (x.1 ++ Ack s id delivery.id ∷ []) s delivery.id) (λ i. (sym left i, sym same_messages i)) (record {
      is = record {
        message = Events s delivery;
        was_sent = sent_before state.messages (Ack s id delivery.id) (Events s delivery) was;
        of_source = refl;
        id = refl;
        address = delivery.notify_to;
        to = delivery.batch.to;
        reads = refl;
        u = is.u;
        about = is.about;
        known = subscription_by_taking state.collector.rows is.u s channels delivery.batch state.moment is.u ∙ is.known;
        to_subscription = is.to_subscription;
        to_source = is.to_source;
        reached = taking_reaches state.collector.rows is.u s channels delivery.batch state.moment;
      };
      behind = taking_covers state.collector.rows is.u s channels delivery.batch state.moment is.fits.others;
    }))

-- the collector's answer that it didn't take a message
pub fault_kept : (state : State) (s : List ℕ) (id relates : MessageId) (fault : FaultName) → IsKept state → IsKept (with_reply 1 state (Fault s id relates fault))
fault_kept state s id relates fault kept = kept_reply state (Fault s id relates fault) kept refl tt

-- what a commit leaves and answers keeps all, where what it leaves is kept, and so would an acknowledgement of what is done be
pub answered_kept : (state : State) (changes : List Change) (ack : Bool) (s : List ℕ) (id relates : MessageId) → IsKept (with_collector state (commits state.collector changes)) →
    (ack ≡ true → fate state.collector.armed changes ≡ Done → IsKept (with_reply 1 (with_collector state (commits state.collector changes)) (Ack s id relates))) →
    IsKept (answers_by state (Ok changes) ack s id relates)
answered_kept state changes ack s id relates kept acked = by_fate (fate state.collector.armed changes) refl
  where
    after : State
    after = with_collector state (commits state.collector changes)

    by_fate : (how : Fate) → fate state.collector.armed changes ≡ how → IsKept (with_answer (with_collector state (commits state.collector changes)) (answer_by how ack s id relates))
    by_fate Done e =
        cond_both ack (Some (Ack s id relates)) None (λ (answer : Option Message). IsKept (with_answer after answer)) (λ wanted. acked wanted e) (λ quiet. kept)
    by_fate Failed e = fault_kept after s id relates InternalError kept
    by_fate Stopped e = kept

-- a batch of a delivery changes the rows so
abbrev delivered_changes : (state : State) (s : List ℕ) (slot : Slot) (delivery : Delivery) → IsDelivery state.collector.rows s slot delivery → List Change
delivered_changes state s slot delivery is = batch_changes state.collector.rows is.u s (channels_read is.about) delivery.batch state.moment

pub events_keep : Lower → (state : State) (s : List ℕ) (slot : Slot) (memory : Memory) (delivery : Delivery) → IsKept state → slot_of state s ≡ Some slot → WasSent state.messages (Events s delivery) →
    IsDelivery state.collector.rows s slot delivery → IsKept (events_at s delivery memory state)
unfolding taken
events_keep lower state s slot memory delivery kept there was is =
    subst (λ (x : Option (List ℕ) × Option (List ℕ)).
    IsKept (answers_by state (effect_at state.collector.rows x.0 x.1 (λ u r. batch_effect state.collector.rows u r delivery.batch state.moment)) delivery.batch.ack_wanted s (reply_id memory) delivery.id))
    (λ i. (sym is.to_subscription i, sym is.to_source i)) (by_standing (standing state.collector.rows is.u) refl)
  where
    id : MessageId
    id = reply_id memory

    after : State
    after = with_collector state (commits state.collector (delivered_changes state s slot delivery is))

    done : standing state.collector.rows is.u ≡ stands.Live is.about → is_well_formed (channels_read is.about) delivery.batch ≡ true →
        IsKept (answers_by state (Ok (delivered_changes state s slot delivery is)) delivery.batch.ack_wanted s (reply_id memory) delivery.id)
    done live good =
        let changes : List Change = delivered_changes state s slot delivery is in
        let kept_after : IsKept after = called_kept state changes kept (taken_kept lower state s slot delivery kept there is live good) in
        answered_kept state changes delivery.batch.ack_wanted s id delivery.id kept_after
        (λ wanted e. acked_kept state after s slot id delivery is was kept_after refl (done_leaves state.collector.armed changes state.collector.rows e))

    by_form : standing state.collector.rows is.u ≡ stands.Live is.about →
        IsKept (answers_by state (batch_effect_by state.collector.rows is.u s delivery.batch state.moment (stands.Live is.about)) delivery.batch.ack_wanted s (reply_id memory) delivery.id)
    by_form live =
        let effect : BatchEffect = Ok (delivered_changes state s slot delivery is) in
        cond_both (is_well_formed (channels_read is.about) delivery.batch) effect (Err InvalidMessage)
        (λ (x : BatchEffect). IsKept (answers_by state x delivery.batch.ack_wanted s id delivery.id))
        (λ good. done live good) (λ bad. fault_kept state s id delivery.id InvalidMessage kept)

    by_standing : (found : state_of.Standing) → standing state.collector.rows is.u ≡ found →
        IsKept (answers_by state (batch_effect_by state.collector.rows is.u s delivery.batch state.moment found) delivery.batch.ack_wanted s (reply_id memory) delivery.id)
    by_standing stands.Unknown e = fault_kept state s id delivery.id DestinationUnreachable kept
    by_standing (stands.Ended about) e = fault_kept state s id delivery.id DestinationUnreachable kept
    by_standing (stands.Live about) e =
        let same_about : is.about ≡ about = same_Some is.about about (sym is.known ∙ ap about_of e) in
        subst (λ (x : Subscription).
        IsKept (answers_by state (batch_effect_by state.collector.rows is.u s delivery.batch state.moment (stands.Live x)) delivery.batch.ack_wanted s id delivery.id)) same_about
        (by_form (e ∙ ap (λ (x : Subscription). stands.Live x) (sym same_about)))
