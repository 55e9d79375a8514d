-- What is told behind a text that was written.
use Rattle.std.proofs.Common.{◌≡◌, ◌⊎◌, inl, inr, ℕ, suc, ◌<◌, ◌≤◌, List, length, [], ◌++◌, append_assoc, append-nil, sym, subst, take}
use Rattle.std.specs.Io.KnownBytes.{Appends}
use Rattle.std.specs.List.{flat_map}
use Rattle.std.specs.Prelude.{Option, Some, None, Result, Ok, Err, slice_get}
use Rattle.wef_commands.proofs.LinesWritten.{rose_later}
use Rattle.wef_commands.proofs.Written.{both}
use Rattle.wef_commands.specs.Endings.{Told}
use Rattle.wef_commands.specs.Writing.{IsUntold}
use Rattle.wef_commands.specs.declared.ending.Ending.{Ending}
use Rattle.wef_commands.specs.declared.ending.Ending.TheVariants as ends
use Rattle.wef_running.specs.Forwarding.{EndsAtBy, EndsDone, Running, Sending, done_line, line_of}
use Rattle.wef_running.specs.Collecting.{connection_line}
use Rattle.wef_serving.specs.declared.ends.ConnectionEnd.{ConnectionEnd}
use Rattle.wef_source.specs.Sessions.{names_of}
use Rattle.wef_subscribing.specs.Requesting as asked
use Rattle.wef_subscribing.specs.Requesting.{Requesting, StopsBy, request_line}
use Rattle.wef_subscribing.specs.Serving.{DeliversAllBy, DeliversEachBy, DeliveryStopsBy, Listening, RoundFailsBy, RoundStopsBy, ServesAllBy, ServingStopsBy, left_behind, rounds_text}

module _ (a b c : Option (List ℕ)) (f g h : ℕ) (front : List ℕ) (below : f ≤ g) (told : Appends a b front) where
  abbrev pub whole : Told
  whole = record { before = a; after = c; faults_before = f; faults_after = h }

  abbrev pub later : Told
  later = record { before = b; after = c; faults_before = g; faults_after = h }

  -- a text behind it
  pub tells_from : (text : List ℕ) → Appends b c text → Appends a c (front ++ text)
  tells_from text tells = both a b c front text told tells

  more : (text line : List ℕ) → Appends b c (text ++ line) → Appends a c ((front ++ text) ++ line)
  more text line tells = subst (Appends a c) (sym (append_assoc front text line)) (tells_from (text ++ line) tells)

  pub untold_from : (ending : Ending) (text line : List ℕ) → IsUntold ending later text line → IsUntold ending whole (front ++ text) line
  untold_from ends.OutputFailed text line (rose, (m, part)) = (rose_later f g h below rose, (m, more text (take m line) part))
  untold_from ends.NoMemory text line part = tells_from text part
  untold_from _ text line part = absurd part

  pub done_from : (ending : Ending) (text : List ℕ) → EndsDone text ending later → EndsDone (front ++ text) ending whole
  done_from ends.Done text tells = more text done_line tells
  done_from ends.OutputFailed text untold = untold_from ends.OutputFailed text done_line untold
  done_from ends.NoMemory text untold = untold_from ends.NoMemory text done_line untold
  done_from _ text untold = absurd untold

  -- ---- requests

  module _ {S : Type 0} (Requested : Requesting S) where
    asked_from : (ending : Ending) (text : List ℕ) (before now : S) → asked.EndsAtBy Requested text ending later before now → asked.EndsAtBy Requested (front ++ text) ending whole before now
    asked_from ending text before now (inl (fault, requested, is, tells)) = inl (fault, requested, is, tells_from text tells)
    asked_from ending text before now (inr (sent, requested, untold)) = inr (sent, requested, untold_from ending text (request_line sent) untold)

    pub stops_from : (left : ℕ) (ending : Ending) (text : List ℕ) (before now : S) → StopsBy Requested left text ending later before now → StopsBy Requested left (front ++ text) ending whole before now
    stops_from left ending text before now (inl (why, done)) = inl (why, done_from ending text done)
    stops_from left ending text before now (inr (some, at)) = inr (some, asked_from ending text before now at)

  -- ---- messages of sessions

  module _ (Sent : Sending) where
    sent_from : (u : List ℕ) (ending : Ending) (text : List ℕ) (before now : Running) → EndsAtBy Sent u text ending later before now → EndsAtBy Sent u (front ++ text) ending whole before now
    sent_from u ending text before now (inl (fault, sends, is, tells)) = inl (fault, sends, is, tells_from text tells)
    sent_from u ending text before now (inr (e, sends, untold)) = inr (e, sends, untold_from ending text (line_of (u, e)) untold)

    pub delivery_from : (o : Option (List ℕ)) (text : List ℕ) (done : Result Unit Ending) (before now : Running) → DeliveryStopsBy Sent o text done later before now → DeliveryStopsBy Sent o (front ++ text) done whole before now
    delivery_from None text (Ok done) before now (tells, same) = (tells_from text tells, same)
    delivery_from None text (Err ending) before now stops = absurd stops
    delivery_from (Some u) text (Ok done) before now stops = absurd stops
    delivery_from (Some u) text (Err ending) before now stops = sent_from u ending text before now stops

    pub each_from : (names : List (List ℕ)) (text : List ℕ) (done : Result Unit Ending) (before now : Running) → DeliversEachBy Sent names text done later before now → DeliversEachBy Sent names (front ++ text) done whole before now
    each_from names text done before now each = record {
      sent = each.sent;
      mid = each.mid;
      are_sent = each.are_sent;
      stops = subst (λ (t : List ℕ). DeliveryStopsBy Sent (slice_get (left_behind each.sent names) 0) t done whole each.mid now) (sym (append_assoc front text (flat_map line_of each.sent)))
          (delivery_from (slice_get (left_behind each.sent names) 0) (text ++ flat_map line_of each.sent) done each.mid now each.stops);
    }

    pub all_from : (text : List ℕ) (done : Result Unit Ending) (before now : Running) → DeliversAllBy Sent text done later before now → DeliversAllBy Sent (front ++ text) done whole before now
    all_from text done before now (inl (is, tells, same)) = inl (is, tells_from text tells, same)
    all_from text done before now (inr each) = inr (each_from (names_of before.memory.sessions) text done before now each)

    -- ---- connections

    stopped_from : (number : ℕ) (e : ConnectionEnd) (text : List ℕ) (ending : Ending) (before now : Listening) → RoundStopsBy Sent number e text ending later before now → RoundStopsBy Sent number e (front ++ text) ending whole before now
    stopped_from number e text ending before now (inl (untold, same)) = inl (untold_from ending text (connection_line number e) untold, same)
    stopped_from number e text ending before now (inr (tellable, same, all)) =
        inr (
          tellable,
          same,
          subst (λ (t : List ℕ). DeliversAllBy Sent t (Err ending) whole before.source now.source) (sym (append_assoc front text (connection_line number e)))
              (all_from (text ++ connection_line number e) (Err ending) before.source now.source all),
        )

    pub fails_from : (clock : Option ℕ) (number : ℕ) (text : List ℕ) (ending : Ending) (before now : Listening) → RoundFailsBy Sent clock number text ending later before now → RoundFailsBy Sent clock number (front ++ text) ending whole before now
    fails_from clock number text ending before now (inl (is, refused, same, tells)) = inl (is, refused, same, tells_from text tells)
    fails_from clock number text ending before now (inr (e, mid, served, stops)) = inr (e, mid, served, stopped_from number e text ending mid now stops)

    serving_from : (clock : Option ℕ) (count length_of : ℕ) (text : List ℕ) (ending : Ending) (before now : Listening)
        → ((length_of ≡ count) × (ending ≡ ends.Done) × (now ≡ before) × Appends b c text) ⊎ ((length_of < count) × RoundFailsBy Sent clock (suc length_of) text ending later before now)
        → ((length_of ≡ count) × (ending ≡ ends.Done) × (now ≡ before) × Appends a c (front ++ text)) ⊎ ((length_of < count) × RoundFailsBy Sent clock (suc length_of) (front ++ text) ending whole before now)
    serving_from clock count length_of text ending before now (inl (all, is, same, tells)) = inl (all, is, same, tells_from text tells)
    serving_from clock count length_of text ending before now (inr (below, fails)) = inr (below, fails_from clock (suc length_of) text ending before now fails)

    pub serves_from : (clock : Option ℕ) (told : List ℕ) (count : ℕ) (ending : Ending) (before now : Listening) → ServesAllBy Sent clock told count ending later before now → ServesAllBy Sent clock (front ++ told) count ending whole before now
    serves_from clock told count ending before now all = record {
      rounds = all.rounds;
      mid = all.mid;
      are_served = all.are_served;
      stops = subst (λ (t : List ℕ). ServingStopsBy Sent clock count all.rounds t ending whole all.mid now) (sym (append_assoc front told (rounds_text 1 all.rounds)))
          (serving_from clock count (length all.rounds) (told ++ rounds_text 1 all.rounds) ending all.mid now all.stops);
    }

    -- the same of connections that are served behind nothing else
    pub serves_from_none : (clock : Option ℕ) (count : ℕ) (ending : Ending) (before now : Listening) → ServesAllBy Sent clock [] count ending later before now → ServesAllBy Sent clock front count ending whole before now
    serves_from_none clock count ending before now all =
        subst (λ (t : List ℕ). ServesAllBy Sent clock t count ending whole before now) (append-nil front) (serves_from clock [] count ending before now all)

    -- and of messages
    pub all_from_none : (done : Result Unit Ending) (before now : Running) → DeliversAllBy Sent [] done later before now → DeliversAllBy Sent front done whole before now
    all_from_none done before now all = subst (λ (t : List ℕ). DeliversAllBy Sent t done whole before now) (append-nil front) (all_from [] done before now all)
