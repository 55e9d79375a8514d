-- Where the steps of a world are as they have to be, settling leaves nothing of a pair that is to be served.
use Rattle.std.proofs.Common.{◌≡◌, ℕ, zero, suc, ◌<◌, Bool, true, false, cond, List, [], ◌∷◌, inl, inr, refl, ap, sym, ◌∙◌, subst}
use Rattle.wef_machine.specs.Rounds.{turned}
use Rattle.wef_settling.specs.Settles.{AreKeeping, AreSettling, Facts, IsAmong, IsOwed, IsServing, SettlingSettles}
use Rattle.wef_machine.specs.Settling.{Steps, all_asked, all_served, and_also, asked, begun, is_ended, is_more, polled, polling, requested, served, settle}
use Rattle.wef_machine.specs.declared.verdicts.Verdict.{Verdict}
use Rattle.wef_machine.specs.declared.verdicts.Verdict.TheVariants.{More, Enough, Ended}
use Rattle.wef_settling.proofs.Keeping.{all_served_keeps, asked_keeps, begun_keeps, one_more, polls_keep, requested_keeps, served_keeps}
use Rattle.wef_settling.proofs.Turning.{next_bound, none_left}

module _ {W N : Type 0} (f : Steps W N) (a : Facts W N) (m : AreSettling W N f a) where
  -- ---- later worlds

  -- a world that comes after one, and keeps what each step keeps
  abbrev IsNext : W → W → Type 0
  IsNext v w = a.Kept w × a.Later v w

  goes_on : (v : W) → AreKeeping W N f (IsNext v)
  goes_on v = record {
    releases = λ w is. (m.keeping.releases w is.0, m.trans_later v w (f.release w) is.1 (m.released_later w is.0));
    loses = λ w is. (m.keeping.loses w is.0, m.trans_later v w (f.lose_all w) is.1 (m.lost_later w is.0));
    asks = λ s w is. (m.keeping.asks s w is.0, m.trans_later v w (f.ask s w).0 is.1 (m.asked_later s w is.0));
    requests = λ w is. (m.keeping.requests w is.0, m.trans_later v w (f.request w).0 is.1 (m.requested_later w is.0));
    polls = λ s u w is. (m.keeping.polls s u w is.0, m.trans_later v w (f.poll s u w).0 is.1 (m.polled_later s u w is.0));
  }

  itself : (w : W) → a.Kept w → IsNext w w
  itself w is = (is, m.refl_later w)

  asked_next : (ss : List N) (w : W) → a.Kept w → IsNext w (asked f ss w).0
  asked_next ss w is = asked_keeps f (IsNext w) (goes_on w) ss w (itself w is)

  requested_next : (n : ℕ) (w : W) → a.Kept w → IsNext w (turned f.request n w)
  requested_next n w is = requested_keeps f (IsNext w) (goes_on w) n w (itself w is)

  polls_next : (s u : N) (n : ℕ) (x : W × Verdict) → a.Kept x.0 → IsNext x.0 (turned (polling f s u) n x).0
  polls_next s u n x is = polls_keep f (IsNext x.0) (goes_on x.0) s u n x (itself x.0 is)

  served_next : (s : N) (us : List N) (w : W) → a.Kept w → IsNext w (served f s us w)
  served_next s us w is = served_keeps f (IsNext w) (goes_on w) s us w (itself w is)

  all_served_next : (ss : List N) (w : W) → a.Kept w → IsNext w (all_served f ss w)
  all_served_next ss w is = all_served_keeps f (IsNext w) (goes_on w) ss w (itself w is)

  owed_before : (v w : W) (s u : N) → a.Later v w → IsOwed a w s u → IsOwed a v s u
  owed_before v w s u later (inl own) = inl (m.own_before v w s u later own)
  owed_before v w s u later (inr lent) = inr (m.lent_before v w s u later lent)

  owed_after : (v w : W) (s u : N) → a.Later v w → IsOwed a v s u → IsOwed a w s u
  owed_after v w s u later (inl own) = inl (m.own_after v w s u later own)
  owed_after v w s u later (inr lent) = inr (m.lent_after v w s u later lent)

  -- ---- asks

  -- a source has the sessions that it is to begin
  abbrev HasOwn : N → W → Type 0
  HasOwn s w = (u : N) → a.Own w s u → a.Has w s u

  asks_leave : (ss : List N) (w : W) → a.Kept w → a.Roomy (asked f ss w).0 → (r : N) → HasOwn r w → HasOwn r (asked f ss w).0
  asks_leave [] w is roomy r has = has
  asks_leave (s ∷ ss) w is roomy r has =
      let next = (f.ask s w).0 in
      let kept = m.keeping.asks s w is in
      let here = m.roomy_before next (asked f ss next).0 (asked_next ss next kept).1 roomy in
      asks_leave ss next kept roomy r (λ u owed. let before = m.own_before w next r u (m.asked_later s w is) owed in m.ask_leaves s r u w is here before (has u before))

  -- Behind the asks of sources the work on each of them goes on, and each has its sessions.
  record AreAsked (ss : List N) (after : W × List N) : Type 0 where
    all : after.1 ≡ ss
    has : (s : N) → IsAmong s ss → HasOwn s after.0

  asks_give : (ss : List N) (w : W) → a.Kept w → ((s : N) → IsAmong s ss → IsAmong s (f.names w)) → a.Roomy (asked f ss w).0 → AreAsked ss (asked f ss w)
  asks_give [] w is there roomy = record { all = refl; has = λ s among. absurd among }
  asks_give (s ∷ ss) w is there roomy =
      let next = (f.ask s w).0 in
      let kept = m.keeping.asks s w is in
      let here = m.roomy_before next (asked f ss next).0 (asked_next ss next kept).1 roomy in
      let rest = asks_give ss next kept (λ r among. m.named_after w next r (m.asked_later s w is) (there r (inr among))) roomy in
      record {
        all = ap (λ (goes : Bool). and_also goes s (asked f ss next).1) (m.ask_goes s w is (there s (inl refl)) here) ∙ ap (λ (names : List N). s ∷ names) rest.all;
        has = λ r among. elim among [
          | inl own ↦ subst (λ (x : N). HasOwn x (asked f ss next).0) own (asks_leave ss next kept roomy s (λ u owed. m.ask_gives s u w is here owed))
          | inr other ↦ rest.has r other
        ];
      }

  asks_bare : (ss : List N) (w : W) → a.Kept w → a.Bare w → a.Bare (asked f ss w).0
  asks_bare [] w is bare = bare
  asks_bare (s ∷ ss) w is bare = asks_bare ss (f.ask s w).0 (m.keeping.asks s w is) (m.asked_bare s w is bare)

  -- ---- requests

  -- Behind the requests each session is there still, and each that the collector is to begin.
  record AreRequested (w after : W) : Type 0 where
    stay : (r u : N) → a.Has w r u → a.Has after r u
    give : (s u : N) → a.Lent after s u → a.Has after s u

  requests_give : (n : ℕ) (w : W) → a.Kept w → a.Leased w → f.left w < n → a.Roomy (turned f.request n w) → AreRequested w (turned f.request n w)
  requests_give zero w is leased less roomy = absurd (none_left (f.left w) less)
  requests_give (suc n) w is leased less roomy =
      by_test (f.request w).1 refl roomy (λ on room.
      let next = (f.request w).0 in
      let kept = m.keeping.requests w is in
      let here = m.roomy_before next (turned f.request n next) (requested_next n next kept).1 room in
      let fell = m.falling.requests_fall w is on in
      let rest = requests_give n next kept (m.requested_leased w is leased here) (next_bound (f.left next) (f.left w) n fell less) room in
      record { stay = λ r u has. rest.stay r u (m.request_leaves r u w is leased here has); give = rest.give })
    where
      by_test : (t : Bool) → (f.request w).1 ≡ t → a.Roomy (cond t (turned f.request n (f.request w).0) (f.request w).0) →
          ((f.request w).1 ≡ true → a.Roomy (turned f.request n (f.request w).0) → AreRequested w (turned f.request n (f.request w).0)) →
          AreRequested w (cond t (turned f.request n (f.request w).0) (f.request w).0)
      by_test true on room rest = rest on room
      by_test false off room rest = record { stay = λ r u has. m.request_leaves r u w is leased room has; give = λ s u lent. m.request_gives s u w is leased room off lent }

  -- ---- polls

  -- Behind the polls of a session the work on its source goes on, each pair is served or done still, and its own is done.
  record ArePolled (s v : N) (w : W) (after : W × Verdict) : Type 0 where
    goes : after.1 ≡ Ended → ⊥
    stay : (r u : N) → IsOwed a w r u → IsServing a w r u → IsServing a after.0 r u
    done : IsOwed a w s v → IsServing a w s v → a.Done after.0 s v

  polls_settle : (s v : N) (n : ℕ) (x : W × Verdict) → a.Kept x.0 → f.lag s v x.0 < n → a.Roomy (turned (polling f s v) n x).0 → ArePolled s v x.0 (turned (polling f s v) n x)
  polls_settle s v zero x is less roomy = absurd (none_left (f.lag s v x.0) less)
  polls_settle s v (suc n) x is less roomy =
      by_verdict (f.poll s v x.0).1 refl roomy (λ on room.
      let next = f.poll s v x.0 in
      let kept = m.keeping.polls s v x.0 is in
      let here = m.roomy_before next.0 (turned (polling f s v) n next).0 (polls_next s v n next kept).1 room in
      let fell = m.falling.polls_fall s v x.0 is on in
      let rest = polls_settle s v n next kept (next_bound (f.lag s v next.0) (f.lag s v x.0) n fell less) room in
      let later = m.polled_later s v x.0 is in
      record {
        goes = rest.goes;
        stay = λ r u owed serving. rest.stay r u (owed_after x.0 next.0 r u later owed) (m.poll_leaves s v r u x.0 is here owed serving);
        done = λ owed serving. rest.done (owed_after x.0 next.0 s v later owed) (m.poll_leaves s v s v x.0 is here owed serving);
      })
    where
      by_verdict : (verdict : Verdict) → (f.poll s v x.0).1 ≡ verdict → a.Roomy (cond (is_more verdict) (turned (polling f s v) n (f.poll s v x.0)) (f.poll s v x.0)).0 →
          ((f.poll s v x.0).1 ≡ More → a.Roomy (turned (polling f s v) n (f.poll s v x.0)).0 → ArePolled s v x.0 (turned (polling f s v) n (f.poll s v x.0))) →
          ArePolled s v x.0 (cond (is_more verdict) (turned (polling f s v) n (f.poll s v x.0)) (f.poll s v x.0))
      by_verdict More on room rest = rest on room
      by_verdict Enough off room rest = record {
        goes = m.poll_goes s v x.0 is room;
        stay = λ r u owed serving. m.poll_leaves s v r u x.0 is room owed serving;
        done = λ owed serving. m.poll_settles s v x.0 is room owed serving off;
      }
      by_verdict Ended off room rest = absurd (m.poll_goes s v x.0 is room off)

  -- ---- the sessions of a source

  -- Behind the polls of sessions each pair is served or done still, and theirs are done.
  record AreServed (s : N) (us : List N) (w after : W) : Type 0 where
    stay : (r u : N) → IsOwed a w r u → IsServing a w r u → IsServing a after r u
    done : (u : N) → IsAmong u us → IsOwed a w s u → IsServing a w s u → a.Done after s u

  is_over : (verdict : Verdict) → is_ended verdict ≡ true → verdict ≡ Ended
  is_over More over = cc
  is_over Enough over = cc
  is_over Ended over = refl

  sessions_settle : (s : N) (us : List N) (w : W) → a.Kept w → a.Roomy (served f s us w) → AreServed s us w (served f s us w)
  sessions_settle s [] w is roomy = record { stay = λ r u owed serving. serving; done = λ u among owed serving. absurd among }
  sessions_settle s (v ∷ us) w is roomy =
      by_test (is_ended (polled f s v w).1) refl roomy (λ room.
      let next = (polled f s v w).0 in
      let kept = polls_next s v (suc (f.lag s v w)) (w, Enough) is in
      let later = (served_next s us next kept.0).1 in
      let one = polls_settle s v (suc (f.lag s v w)) (w, Enough) is (one_more (f.lag s v w)) (m.roomy_before next (served f s us next) later room) in
      let rest = sessions_settle s us next kept.0 room in
      record {
        stay = λ r u owed serving. rest.stay r u (owed_after w next r u kept.1 owed) (one.stay r u owed serving);
        done = λ u among owed serving. elim among [
          | inl own ↦ subst (λ (x : N). a.Done (served f s us next) s x) own
              (m.done_after next (served f s us next) s v later
              (one.done (subst (λ (x : N). IsOwed a w s x) (sym own) owed) (subst (λ (x : N). IsServing a w s x) (sym own) serving)))
          | inr other ↦ rest.done u other (owed_after w next s u kept.1 owed) (one.stay s u owed serving)
        ];
      })
      (λ over room. (polls_settle s v (suc (f.lag s v w)) (w, Enough) is (one_more (f.lag s v w)) room).goes over)
    where
      by_test : (t : Bool) → is_ended (polled f s v w).1 ≡ t → a.Roomy (cond t (polled f s v w).0 (served f s us (polled f s v w).0)) →
          (a.Roomy (served f s us (polled f s v w).0) → AreServed s (v ∷ us) w (served f s us (polled f s v w).0)) →
          ((polled f s v w).1 ≡ Ended → a.Roomy (polled f s v w).0 → ⊥) →
          AreServed s (v ∷ us) w (cond t (polled f s v w).0 (served f s us (polled f s v w).0))
      by_test true over room rest never = absurd (never (is_over (polled f s v w).1 over) room)
      by_test false on room rest never = rest room

  -- ---- all sources

  all_settle : (ss : List N) (w : W) → a.Kept w → a.Roomy (all_served f ss w) → (s u : N) → IsAmong s ss → IsOwed a w s u → ((r : N) → IsOwed a w r u → IsServing a w r u) →
      a.Done (all_served f ss w) s u
  all_settle [] w is roomy s u among owed serving = absurd among
  all_settle (r ∷ ss) w is roomy s u among owed serving =
      let next = served f r (f.sessions w r) w in
      let kept = served_next r (f.sessions w r) w is in
      let later = (all_served_next ss next kept.0).1 in
      let one = sessions_settle r (f.sessions w r) w is (m.roomy_before next (all_served f ss next) later roomy) in
      elim among [
        | inl own ↦ subst (λ (x : N). a.Done (all_served f ss next) x u) own
            (m.done_after next (all_served f ss next) r u later (own_done one kept.1 (subst (λ (x : N). IsOwed a w x u) (sym own) owed) (serving r (subst (λ (x : N). IsOwed a w x u) (sym own) owed))))
        | inr other ↦ all_settle ss next kept.0 roomy s u other (owed_after w next s u kept.1 owed)
            (λ x owed_x. let before = owed_before w next x u kept.1 owed_x in one.stay x u before (serving x before))
      ]
    where
      own_done : AreServed r (f.sessions w r) w (served f r (f.sessions w r) w) → a.Later w (served f r (f.sessions w r) w) → IsOwed a w r u → IsServing a w r u →
          a.Done (served f r (f.sessions w r) w) r u
      own_done one later owed_r (inl has) = one.done u (m.has_listed w r u has) owed_r (inl has)
      own_done one later owed_r (inr done) = m.done_after w (served f r (f.sessions w r) w) r u later done

  -- ---- all of it

  -- a pair that is to be served has a source that is there
  named : (w : W) (s u : N) → a.Kept w → IsOwed a w s u → IsAmong s (f.names w)
  named w s u is (inl own) = m.own_named w s u is own
  named w s u is (inr lent) = m.lent_named w s u is lent

  -- each such pair is served once sources and the collector have asked
  all_serving : (before after last : W) → a.Kept after → a.Later before after → a.Later after last → ((r : N) → IsAmong r (f.names before) → HasOwn r after) → AreRequested after last →
      (r u : N) → IsOwed a last r u → IsServing a last r u
  all_serving before after last is first second asks requests r u (inl own) =
      let own_then = m.own_before after last r u second own in
      inl (requests.stay r u (asks r (m.named_before before after r first (m.own_named after r u is own_then)) u own_then))
  all_serving before after last is first second asks requests r u (inr lent) = inl (requests.give r u lent)

  settles : (w : W) → a.Kept w → a.Roomy (settle f w) → (s u : N) → IsOwed a (settle f w) s u → a.Done (settle f w) s u
  settles w is roomy s u owed =
      let begins = begun_keeps f a.Kept m.keeping w is in
      let before = begun f w in
      let names = f.names before in
      let after = (all_asked f w).0 in
      let kept_after = asked_next names before begins in
      let last = requested f after in
      let kept_last = requested_next (suc (f.left after)) after kept_after.0 in
      let end = all_served_next (all_asked f w).1 last kept_last.0 in
      let room_last = m.roomy_before last (settle f w) end.1 roomy in
      let room_after = m.roomy_before after last kept_last.1 room_last in
      let room_before = m.roomy_before before after kept_after.1 room_after in
      let released = m.keeping.releases w is in
      let room_released = m.roomy_before (f.release w) before (m.lost_later (f.release w) released) room_before in
      let bare = asks_bare names before begins (m.lost_bare (f.release w) (m.released_bare w is room_released)) in
      let asks = asks_give names before begins (λ r among. among) room_after in
      let requests = requests_give (suc (f.left after)) after kept_after.0 (m.bare_leased after kept_after.0 bare) (one_more (f.left after)) room_last in
      let owed_last = owed_before last (settle f w) s u end.1 owed in
      let among = m.named_before before last s (m.trans_later before after last kept_after.1 kept_last.1) (named last s u kept_last.0 owed_last) in
      all_settle (all_asked f w).1 last kept_last.0 roomy s u (subst (λ (ss : List N). IsAmong s ss) (sym asks.all) among) owed_last
      (λ r owed_r. all_serving before after last kept_after.0 kept_after.1 kept_last.1 asks.has requests r u owed_r)

pub settling_settles : (W N : Type 0) (a : Facts W N) → SettlingSettles W N a
settling_settles W N a f m w is roomy s u owed = settles f a m w is roomy s u owed
