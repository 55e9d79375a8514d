-- The batches of a source fit its histories, act by act, and its sessions rise by acknowledgements alone.
use Rattle.std.proofs.Common.{◌≡◌, ◌⊎◌, inl, inr, ℕ, ◌+◌, ◌<◌, ◌≤◌, Bool, true, false, cond, List, [], ◌∷◌, length, ap, sym, refl, subst, arith}
use Rattle.std.proofs.lemmas.Bool.{cond_both}
use Rattle.std.proofs.lemmas.List.Elements.{All-contains_itself, All-weaker, recursion_from_All}
use Rattle.std.specs.Cmp.Lexicographic.{slice_cmp}
use Rattle.std.specs.FinMap as finite
use Rattle.std.specs.Ordering.{nat_cmp}
use Rattle.std.specs.List.{AllByRecursion, filter}
use Rattle.std.specs.Prelude.{Contains, IfSome, Option, Some, None, unwrap_or}
use Rattle.wef_batch.specs.Reach.{last_in, reach_of}
use Rattle.wef_batch.specs.WellFormed.{is_in}
use Rattle.wef_batch.specs.declared.items.Batch.{Batch}
use Rattle.wef_batch.specs.declared.items.Item.{Item}
use Rattle.wef_bookmark.proofs.Joining.{joined_number}
use Rattle.wef_bookmark.specs.Order.{Marks, joined, number_at}
use Rattle.wef_building.specs.Building.{built}
use Rattle.wef_building.specs.Fits.{Fits, FitsChannel}
use Rattle.wef_building.specs.Laws.{AreWithin}
use Rattle.wef_building.specs.declared.sessions.Outstanding.{Outstanding}
use Rattle.wef_building.specs.declared.sessions.Session.{Session}
use Rattle.wef_eventing.specs.Addresses.{subscription_in}
use Rattle.wef_eventing.specs.declared.offers.Offer.{Offer}
use Rattle.wef_eventing.specs.declared.offers.Subscribe.{Subscribe}
use Rattle.wef_front_source.specs.Replies.{answered_in}
use Rattle.wef_front_source.specs.Steps.{begun_by, done_by, done_where, said_by}
use Rattle.wef_front_source.specs.declared.hearing.Asked.{Asked}
use Rattle.wef_front_source.specs.declared.hearing.Asked.TheVariants.{Refused, Begin, Manage}
use Rattle.wef_front_source.specs.declared.hearing.Wants.TheVariants as wants
use Rattle.wef_front_source.specs.declared.saying.Said.{Said}
use Rattle.wef_front_source.specs.declared.saying.Said.TheVariants as said
use Rattle.wef_ids.specs.declared.FaultName.{FaultName}
use Rattle.wef_ids.specs.declared.MessageId.{MessageId}
use Rattle.wef_keeper.specs.Rows.{Rows}
use Rattle.wef_query.specs.Selected.{channels_of}
use Rattle.wef_query.specs.declared.QueryList.{QueryList}
use Rattle.wef_safety.proofs.LowerFacts.{lower}
use Rattle.wef_safety.proofs.Sent.{all_map}
use Rattle.wef_safety.proofs.Sessions.{all_changed, all_filtered, all_with_session, all_without, equal_numbers, first_is, with_channels_number}
use Rattle.wef_source.specs.Answers.{WhereThere}
use Rattle.wef_source.specs.Machine.{End, acknowledged_in, adopted, drawn_in, has_caught_up, is_idle, is_spent, is_unreachable, lease_of, lost_in, next_id, refused_in, sent_to}
use Rattle.wef_source.specs.Sessions.{acknowledged, is_leased, is_leased_as, is_named, is_outstanding, moved_by, prolonged, sending, session_from, session_leased, session_of, settled, waits_for, with_changed, with_offered, with_offers, without}
use Rattle.wef_source_log.specs.Histories.{Histories, history}
use Rattle.wef_source_log.specs.LogWindow.{IsWindow}
use Rattle.wef_runs.specs.Acts as acts
use Rattle.wef_runs.specs.Acts.{Act, AreActed, BeginWithin, BeginsWith, HasStood, IsActed, IsRaised, MayBegin, MayRaise, OfEach, Rises, SendsFitting, WishesWithin}

-- ---- lists of sessions

-- what holds of each session, where it is one of them, by one after the other
each_of : (ss : List Session) → AllByRecursion (Contains ss) ss
each_of ss = recursion_from_All (Contains ss) ss (All-weaker (Contains ss) (Contains ss) (λ s is. is) ss (All-contains_itself ss))

-- the first that passes is changed, to what holds of it then
changed_to : (P Q : Session → Type 0) (test : Session → Bool) (change : Session → Session) → ((s : Session) → P s → Q s) → ((s : Session) → test s ≡ true → P s → Q (change s))
    → (ss : List Session) → AllByRecursion P ss → AllByRecursion Q (with_changed test change ss)
changed_to P Q test change stays changes [] all = tt
changed_to P Q test change stays changes (s ∷ ss) all = by_test (test s) refl (changed_to P Q test change stays changes ss all.1)
  where
    by_test : (t : Bool) → test s ≡ t → AllByRecursion Q (with_changed test change ss) → AllByRecursion Q (cond t (change s ∷ ss) (s ∷ with_changed test change ss))
    by_test true is rest = (changes s is all.0, all_map P Q stays ss all.1)
    by_test false is rest = (stays s all.0, rest)

-- each session behind offers is one that was there, or begins with one of them
offered : (P : Session → Type 0) (moment : ℕ) (offers : List Offer) → AllByRecursion (λ (offer : Offer). (u : List ℕ) → subscription_in offer.subscribe.notify_to ≡ Some u → P (session_from moment offer.subscribe u)) offers
    → (ss : List Session) → AllByRecursion P ss → AllByRecursion P (with_offers moment ss offers)
offered P moment [] begin ss all = all
offered P moment (offer ∷ offers) begin ss all = offered P moment offers begin.1 (with_offered moment ss offer.subscribe (subscription_in offer.subscribe.notify_to)) (by (subscription_in offer.subscribe.notify_to) refl)
  where
    by : (o : Option (List ℕ)) → subscription_in offer.subscribe.notify_to ≡ o → AllByRecursion P (with_offered moment ss offer.subscribe o)
    by None leads = all
    by (Some u) leads = all_with_session P ss (session_from moment offer.subscribe u) (begin.0 u leads) all

-- what a refusal leaves
refused_to : (P Q : Session → Type 0) (fault : FaultName) (id : ℕ) → ((s : Session) → P s → Q s) → ((s : Session) → P s → Q (settled s)) → (ss : List Session) → AllByRecursion P ss
    → AllByRecursion Q (cond (is_unreachable fault) (without (waits_for id) ss) (with_changed (waits_for id) settled ss))
refused_to P Q fault id stays settles ss all =
    cond_both (is_unreachable fault) _ _ (AllByRecursion Q) (λ ends. all_map P Q stays _ (all_without P (waits_for id) ss all)) (λ stands. changed_to P Q (waits_for id) settled stays (λ s passes is. settles s is) ss all)

-- ---- what a collector asks

-- each session behind what was asked is one that was there, maybe prolonged, or begins with the wish
module _ (P Q : Session → Type 0) (end : End) (asked : Asked) (moment : ℕ) (stays : (s : Session) → P s → Q s) (prolongs : (expiry : ℕ) (s : Session) → P s → Q (prolonged expiry s))
    (begins : (s : Session) → BeginsWith asked moment s → Q s) (all : AllByRecursion P end.sessions) where
  stay : AllByRecursion Q end.sessions
  stay = all_map P Q stays end.sessions all

  begun_to : (wish : Subscribe) → ((s : Session) → BeginsWith (Begin wish) moment s → Q s) → (o : Option (List ℕ)) → subscription_in wish.notify_to ≡ o → AllByRecursion Q (begun_by end wish moment o).sessions
  begun_to wish begins_so None leads = stay
  begun_to wish begins_so (Some u) leads =
      let lease = lease_of (next_id end) wish moment in
      all_with_session Q end.sessions (session_leased moment wish lease u) (begins_so (session_leased moment wish lease u) (lease, leads, refl)) stay

  done_to : (says : Said) → AllByRecursion Q (done_where says end asked moment).sessions
  done_to (said.Fault name) = stay
  done_to said.Spent = stay
  done_to (said.Done answer) = by asked begins
    where
      by : (asks : Asked) → ((s : Session) → BeginsWith asks moment s → Q s) → AllByRecursion Q (done_where (said.Done answer) end asks moment).sessions
      by (Refused name) begins_so = stay
      by (Manage identifier (wants.Renew expires)) begins_so =
          changed_to P Q (is_leased_as identifier) (prolonged (moment + expires)) stays (λ s passes is. prolongs (moment + expires) s is) end.sessions all
      by (Manage identifier wants.GetStatus) begins_so = stay
      by (Manage identifier wants.Unsubscribe) begins_so = all_map P Q stays _ (all_without P (is_leased_as identifier) end.sessions all)
      by (Manage identifier (wants.Unread name)) begins_so = stay
      by (Begin wish) begins_so = begun_to wish begins_so (subscription_in wish.notify_to) refl

  -- the answer draws an id at most
  answered_to : (then_on : End) (says : Said) → AllByRecursion Q then_on.sessions → AllByRecursion Q (answered_in then_on says).sessions
  answered_to then_on (said.Done answer) so = so
  answered_to then_on (said.Fault name) so = cond_both (is_spent then_on) then_on (drawn_in then_on) (λ (e : End). AllByRecursion Q e.sessions) (λ spent. so) (λ left. so)
  answered_to then_on said.Spent so = so

  replied_to : AllByRecursion Q (answered_in (done_by end asked moment) (said_by end asked moment)).sessions
  replied_to = answered_to (done_by end asked moment) (said_by end asked moment) (done_to (said_by end asked moment))

  left_to : (next : End) → (next ≡ end) ⊎ (next ≡ done_by end asked moment) ⊎ (next ≡ answered_in (done_by end asked moment) (said_by end asked moment)) → AllByRecursion Q next.sessions
  left_to next (inl same) = subst (λ (e : End). AllByRecursion Q e.sessions) (sym same) stay
  left_to next (inr (inl done)) = subst (λ (e : End). AllByRecursion Q e.sessions) (sym done) (done_to (said_by end asked moment))
  left_to next (inr (inr replied)) = subst (λ (e : End). AllByRecursion Q e.sessions) (sym replied) replied_to

-- ---- within the histories

module _ (rows : Rows) (all : Histories) (capacity boot : ℕ) (some : 0 < capacity) (begun : 0 < boot) (window : IsWindow rows all capacity boot) where
  -- A session stands within the histories, and what it waits for reads no further.
  pub record IsInside (session : Session) : Type 0 where
    pub positions : AreWithin session.positions all
    pub awaited : IfSome session.outstanding (λ outstanding. AreWithin outstanding.to all)

  -- a batch that is built fits above where its session stands
  built_fits : (session : Session) → AreWithin session.positions all → Fits session.query session.max_bytes all capacity session.positions (built rows session)
  built_fits session within = lower.built_fits rows all capacity boot session session.positions some begun window within (λ c. omega arith)

  -- a batch that fits reads no further than the histories
  read_within : (query : QueryList) (max_bytes : ℕ) (c : List ℕ) (b : ℕ) (items : List Item) (o last : Option ℕ) → FitsChannel query max_bytes c (history all c) capacity b items (reach_of o last) → unwrap_or o 0 ≤ length (history all c)
  read_within query max_bytes c b items None last fits = omega arith
  read_within query max_bytes c b items (Some t) last fits = fits.within

  built_within : (session : Session) → AreWithin session.positions all → AreWithin (built rows session).to all
  built_within session within c = by (is_in (channels_of session.query.items) c) refl
    where
      batch : Batch
      batch = built rows session

      fits : Fits session.query session.max_bytes all capacity session.positions batch
      fits = built_fits session within

      by : (t : Bool) → is_in (channels_of session.query.items) c ≡ t → number_at batch.to c ≤ length (history all c)
      by true read = read_within session.query session.max_bytes c (number_at session.positions c) batch.items (finite.get batch.to c) (last_in c batch.items) (fits.channels c read)
      by false other = let none : number_at batch.to c ≡ 0 = ap (λ (o : Option ℕ). unwrap_or o 0) (fits.others c other) in omega arith

  -- a heartbeat reads nothing
  nothing_within : AreWithin finite.empty all
  nothing_within c = let none : number_at finite.empty c ≡ 0 = ap (λ (o : Option ℕ). unwrap_or o 0) (finite.get-empty (slice_cmp nat_cmp) c) in omega arith

  joined_within : (a b : Marks) → AreWithin a all → AreWithin b all → AreWithin (joined a b) all
  joined_within a b first next c = let is = joined_number a b c in let here = first c in let there = next c in omega arith

  settled_inside : (session : Session) → IsInside session → IsInside (settled session)
  settled_inside session inside = record { positions = inside.positions; awaited = tt }

  acknowledged_inside : (session : Session) → IsInside session → IsInside (acknowledged session)
  acknowledged_inside session inside = by session.outstanding inside.awaited
    where
      by : (o : Option Outstanding) → IfSome o (λ outstanding. AreWithin outstanding.to all) → IsInside (moved_by o session)
      by None awaited = settled_inside session inside
      by (Some outstanding) awaited = record { positions = joined_within session.positions outstanding.to inside.positions awaited; awaited = tt }

  begins_inside : (moment : ℕ) (subscribe : Subscribe) (u : List ℕ) → AreWithin subscribe.from all → IsInside (session_from moment subscribe u)
  begins_inside moment subscribe u within = record {
    positions = λ c. let same = with_channels_number subscribe.from (channels_of subscribe.query.items) c in let here = within c in omega arith;
    awaited = tt;
  }

  prolonged_inside : (expiry : ℕ) (session : Session) → IsInside session → IsInside (prolonged expiry session)
  prolonged_inside expiry session inside = record { positions = inside.positions; awaited = inside.awaited }

  -- so does one that begins with a wish
  wished_inside : (asked : Asked) (moment : ℕ) → WishesWithin all asked → (session : Session) → BeginsWith asked moment session → IsInside session
  wished_inside (Refused name) moment within session none = absurd none
  wished_inside (Manage identifier wanted) moment within session none = absurd none
  wished_inside (Begin wish) moment within session (lease, leads, is) =
      let begun = begins_inside moment wish session.name within in subst IsInside (sym is) (record { positions = begun.positions; awaited = tt })

  -- a session that sends something which reads no further than the histories
  sends_inside : (end : End) (u : List ℕ) (to : Marks) (moment : ℕ) → AreWithin to all → AllByRecursion IsInside end.sessions → AllByRecursion IsInside (sent_to end u to moment).sessions
  sends_inside end u to moment within inside =
      all_changed IsInside (is_named u) (sending (record { id = next_id end; to = to }) moment) (λ s passes is. record { positions = is.positions; awaited = within }) end.sessions inside

  -- of the session of a name
  of_session : (ss : List Session) (u : List ℕ) (P : Session → Type 0) (Q : Type 0) → ((session : Session) → session_of ss u ≡ Some session → P session → Q) → WhereThere (session_of ss u) P → Q
  of_session ss u P Q holds is = by (session_of ss u) refl is
    where
      by : (o : Option Session) → session_of ss u ≡ o → WhereThere o P → Q
      by None e is = absurd is
      by (Some session) e is = holds session e is

  sessions_are : (P : Session → Type 0) (end next : End) → next ≡ end → AllByRecursion P end.sessions → AllByRecursion P next.sessions
  sessions_are P end next is all = subst (λ (e : End). AllByRecursion P e.sessions) (sym is) all

  act_inside : (act : Act) (end next : End) → IsActed rows act end next → BeginWithin all act → AllByRecursion IsInside end.sessions → AllByRecursion IsInside next.sessions
  act_inside acts.Asks end next acted within inside = sessions_are IsInside _ next acted.1 inside
  act_inside (acts.Adopts relates offers moment) end next acted within inside =
      sessions_are IsInside (adopted end offers moment) next acted.1
      (offered IsInside moment offers (all_map (λ (offer : Offer). AreWithin offer.subscribe.from all) _ (λ offer from u leads. begins_inside moment offer.subscribe u from) offers within)
      (filter is_leased end.sessions) (all_filtered IsInside is_leased end.sessions inside))
  act_inside (acts.Sends u moment) end next acted within inside =
      of_session end.sessions u _ _ (λ session there is.
      sessions_are IsInside _ next is.3 (sends_inside end session.name (built rows session).to moment (built_within session (first_is IsInside (is_named u) end.sessions session there inside).positions) inside)) acted
  act_inside (acts.Beats u moment) end next acted within inside =
      of_session end.sessions u _ _ (λ session there is. sessions_are IsInside _ next is.3 (sends_inside end session.name finite.empty moment nothing_within inside)) acted
  act_inside (acts.Moves id) end next acted within inside = sessions_are IsInside (acknowledged_in end id) next acted (all_changed IsInside (waits_for id) acknowledged (λ s passes is. acknowledged_inside s is) end.sessions inside)
  act_inside (acts.Refuses id fault) end next acted within inside = sessions_are IsInside (refused_in end id fault) next acted (refused_to IsInside IsInside fault id (λ s is. is) settled_inside end.sessions inside)
  act_inside (acts.Loses u) end next acted within inside = sessions_are IsInside (lost_in end u) next acted (all_changed IsInside (is_named u) settled (λ s passes is. settled_inside s is) end.sessions inside)
  act_inside (acts.Replies heard moment) end next acted within inside =
      sessions_are IsInside _ next acted (replied_to IsInside IsInside end heard.asked moment (λ s is. is) prolonged_inside (wished_inside heard.asked moment within) inside)
  act_inside (acts.Leaves heard moment) end next acted within inside =
      left_to IsInside IsInside end heard.asked moment (λ s is. is) prolonged_inside (wished_inside heard.asked moment within) inside next acted

  act_fits : (act : Act) (end next : End) → IsActed rows act end next → AllByRecursion IsInside end.sessions → SendsFitting rows all capacity act end next
  act_fits acts.Asks end next acted inside = tt
  act_fits (acts.Adopts relates offers moment) end next acted inside = tt
  act_fits (acts.Sends u moment) end next acted inside = by (session_of end.sessions u) refl acted
    where
      by : (o : Option Session) → session_of end.sessions u ≡ o → WhereThere o (λ session. (is_idle moment rows session ≡ false) × (has_caught_up rows session ≡ false) × (is_spent end ≡ false) × (next ≡ sent_to end session.name (built rows session).to moment))
          → WhereThere o (λ session. Fits session.query session.max_bytes all capacity session.positions (built rows session))
      by None there is = absurd is
      by (Some session) there is = built_fits session (first_is IsInside (is_named u) end.sessions session there inside).positions
  act_fits (acts.Beats u moment) end next acted inside = tt
  act_fits (acts.Moves id) end next acted inside = tt
  act_fits (acts.Refuses id fault) end next acted inside = tt
  act_fits (acts.Loses u) end next acted inside = tt
  act_fits (acts.Replies heard moment) end next acted inside = tt
  act_fits (acts.Leaves heard moment) end next acted inside = tt

  pub all_fit : (done : List Act) (end last : End) (acted : AreActed rows done end last) → AllByRecursion (BeginWithin all) done → AllByRecursion IsInside end.sessions → OfEach (SendsFitting rows all capacity) rows done end last acted
  all_fit [] end last same within inside = tt
  all_fit (act ∷ done) end last (next, acted, more) within inside =
      (act_fits act end next acted inside, all_fit done next last more within.1 (act_inside act end next acted within.0 inside))

-- ---- how sessions rise

-- how sessions stand behind an act
abbrev Stands : Act → End → Session → Type 0
Stands act end session = HasStood act end session ⊎ MayBegin act session

-- a session that was there, at the same positions
stays : (act : Act) (end : End) (before session : Session) → Contains end.sessions before → session.name ≡ before.name → session.positions ≡ before.positions → Stands act end session
stays act end before session is_one named same = inl (record { before = before; is_one = is_one; same_name = named; stands = inl same })

stays_so : (act : Act) (end : End) (session : Session) → Contains end.sessions session → Stands act end session
stays_so act end session is_one = stays act end session session is_one refl refl

module _ (rows : Rows) where
  stand_as : (act : Act) (end next : End) (ss : List Session) → next.sessions ≡ ss → AllByRecursion (Stands act end) ss → Rises act end next
  stand_as act end next ss is all = subst (AllByRecursion (Stands act end)) (sym is) all

  sends_rise : (act : Act) (end next : End) (session : Session) (to : Marks) (moment : ℕ) → next ≡ sent_to end session.name to moment → Rises act end next
  sends_rise act end next session to moment is =
      stand_as act end next _ (ap (λ (e : End). e.sessions) is)
      (changed_to (Contains end.sessions) (Stands act end) (is_named session.name) (sending (record { id = next_id end; to = to }) moment) (stays_so act end)
      (λ s passes is_one. stays act end s _ is_one refl refl) end.sessions (each_of end.sessions))

  raised_so : (id : ℕ) (end : End) (session : Session) → waits_for id session ≡ true → Contains end.sessions session → Stands (acts.Moves id) end (acknowledged session)
  raised_so id end session waits is_one = by session.outstanding refl waits
    where
      by : (o : Option Outstanding) → session.outstanding ≡ o → is_outstanding id o ≡ true → Stands (acts.Moves id) end (moved_by o session)
      by None is waits = cc
      by (Some outstanding) is waits =
          inl (record { before = session; is_one = is_one; same_name = refl; stands = inr (record { outstanding = outstanding; waited = is; same_id = equal_numbers outstanding.id id waits; positions = refl }) })

  begins_so : (relates : MessageId) (moment : ℕ) (offers : List Offer) (end : End) (offer : Offer) → Contains offers offer → (u : List ℕ) → subscription_in offer.subscribe.notify_to ≡ Some u
      → Stands (acts.Adopts relates offers moment) end (session_from moment offer.subscribe u)
  begins_so relates moment offers end offer is_one u leads = inr (offer, is_one, leads, refl)

  -- what is said of each of some offers, where it is one of them
  each_begins : (relates : MessageId) (moment : ℕ) (offers : List Offer) (end : End)
      → AllByRecursion (λ (offer : Offer). (u : List ℕ) → subscription_in offer.subscribe.notify_to ≡ Some u → Stands (acts.Adopts relates offers moment) end (session_from moment offer.subscribe u)) offers
  each_begins relates moment offers end =
      recursion_from_All _ offers (All-weaker (Contains offers) _ (λ offer is_one. begins_so relates moment offers end offer is_one) offers (All-contains_itself offers))

  act_rises : (act : Act) (end next : End) → IsActed rows act end next → Rises act end next
  act_rises acts.Asks end next acted = stand_as acts.Asks end next end.sessions (ap (λ (e : End). e.sessions) acted.1) (all_map (Contains end.sessions) (Stands acts.Asks end) (stays_so acts.Asks end) end.sessions (each_of end.sessions))
  act_rises (acts.Adopts relates offers moment) end next acted =
      let act = acts.Adopts relates offers moment in
      stand_as act end next _ (ap (λ (e : End). e.sessions) acted.1)
      (offered (Stands act end) moment offers (each_begins relates moment offers end) (filter is_leased end.sessions)
      (all_filtered (Stands act end) is_leased end.sessions (all_map (Contains end.sessions) (Stands act end) (stays_so act end) end.sessions (each_of end.sessions))))
  act_rises (acts.Sends u moment) end next acted = by (session_of end.sessions u) acted
    where
      by : (o : Option Session) → WhereThere o (λ session. (is_idle moment rows session ≡ false) × (has_caught_up rows session ≡ false) × (is_spent end ≡ false) × (next ≡ sent_to end session.name (built rows session).to moment))
          → Rises (acts.Sends u moment) end next
      by None is = absurd is
      by (Some session) is = sends_rise (acts.Sends u moment) end next session (built rows session).to moment is.3
  act_rises (acts.Beats u moment) end next acted = by (session_of end.sessions u) acted
    where
      by : (o : Option Session) → WhereThere o (λ session. (is_idle moment rows session ≡ false) × (has_caught_up rows session ≡ true) × (is_spent end ≡ false) × (next ≡ sent_to end session.name finite.empty moment))
          → Rises (acts.Beats u moment) end next
      by None is = absurd is
      by (Some session) is = sends_rise (acts.Beats u moment) end next session finite.empty moment is.3
  act_rises (acts.Moves id) end next acted =
      let act = acts.Moves id in
      stand_as act end next _ (ap (λ (e : End). e.sessions) acted)
      (changed_to (Contains end.sessions) (Stands act end) (waits_for id) acknowledged (stays_so act end) (λ s waits is_one. raised_so id end s waits is_one) end.sessions (each_of end.sessions))
  act_rises (acts.Refuses id fault) end next acted =
      let act = acts.Refuses id fault in
      stand_as act end next _ (ap (λ (e : End). e.sessions) acted)
      (refused_to (Contains end.sessions) (Stands act end) fault id (stays_so act end) (λ s is_one. stays act end s (settled s) is_one refl refl) end.sessions (each_of end.sessions))
  act_rises (acts.Loses u) end next acted =
      let act = acts.Loses u in
      stand_as act end next _ (ap (λ (e : End). e.sessions) acted)
      (changed_to (Contains end.sessions) (Stands act end) (is_named u) settled (stays_so act end) (λ s passes is_one. stays act end s (settled s) is_one refl refl) end.sessions (each_of end.sessions))
  act_rises (acts.Replies heard moment) end next acted =
      let act = acts.Replies heard moment in
      stand_as act end next _ (ap (λ (e : End). e.sessions) acted)
      (replied_to (Contains end.sessions) (Stands act end) end heard.asked moment (stays_so act end) (λ expiry s is_one. stays act end s (prolonged expiry s) is_one refl refl) (λ s begins. inr begins)
      (each_of end.sessions))
  act_rises (acts.Leaves heard moment) end next acted =
      let act = acts.Leaves heard moment in
      left_to (Contains end.sessions) (Stands act end) end heard.asked moment (stays_so act end) (λ expiry s is_one. stays act end s (prolonged expiry s) is_one refl refl) (λ s begins. inr begins)
      (each_of end.sessions) next acted

  pub all_rise : (done : List Act) (end last : End) (acted : AreActed rows done end last) → OfEach Rises rows done end last acted
  all_rise [] end last same = tt
  all_rise (act ∷ done) end last (next, acted, more) = (act_rises act end next acted, all_rise done next last more)
