-- What the collector's commands do, by the rows that stood before them.
use Rattle.std.proofs.Common.{◌≡◌, ℕ, ◌+◌, Bool, true, false, List, [], ◌∷◌, refl, sym, ap, ◌∙◌, subst, nat_lt, inl, inr}
use Rattle.std.proofs.lemmas.Option.{none-some, same_Some}
use Rattle.std.specs.Prelude.{Option, Some, None, Ok, Err, IfSome, is_some, if◌then◌else◌}
use Rattle.std.specs.Io.KnownBytes.{Appends}
use Rattle.wef_base.specs.declared.numbers.TheConstants.{MAX}
use Rattle.wef_documents.specs.Written.{document_text}
use Rattle.wef_eventing.specs.declared.subscriptions.Subscription.{Subscription}
use Rattle.wef_keeper.specs.Access.{AnyFound, From, IsReady}
use Rattle.wef_keeper.specs.Calls.{Did, Makes}
use Rattle.wef_keeper.specs.Keeping.{IsLawful, IsOneOf, Stays, StaysUntold, Store, WhereTold}
use Rattle.wef_keeper.specs.Rows.{Rows}
use Rattle.wef_collector.specs.Boots.{boot_of, memory_begun}
use Rattle.wef_collector.specs.Calls.{add_effect, boot_effect, end_by, end_effect}
use Rattle.wef_collector.specs.Taken.{put}
use Rattle.wef_collector.specs.declared.memories.Memory.{Memory}
use Rattle.wef_collector.proofs.Live.{put_lives}
use Rattle.wef_collector_reports.specs.Listing.{listed}
use Rattle.wef_collector_reports.specs.Report.{report}
use Rattle.wef_collector_reports.specs.declared.listing.Listed.{Listed}
use Rattle.wef_collector_rows.specs.Answers.{IsEnded, IsOfStore, added_rows, ended_rows, is_known, is_there}
use Rattle.wef_collector_rows.specs.Faults.{collector_store}
use Rattle.wef_collector_rows.specs.Forms.{AreFormed}
use Rattle.wef_collector_rows.specs.Keys.{boot_key, subscription_key}
use Rattle.wef_collector_rows.specs.Standing.{is_full, standing}
use Rattle.wef_collector_rows.specs.declared.faults.CollectorFault.{CollectorFault}
use Rattle.wef_collector_rows.specs.declared.faults.CollectorFault.TheVariants as faults
use Rattle.wef_collector_rows.specs.declared.standings.Standing.{Standing}
use Rattle.wef_collector_rows.specs.declared.standings.Standing.TheVariants.{Unknown, Ended, Live}
use Rattle.wef_commands.specs.Adding.{Adds, DocumentEnds, HasDocument, IsReadAgain, added_text}
use Rattle.wef_collector_statuses.specs.Statuses.{statuses}
use Rattle.wef_commands.specs.Calling.{CallEnds, Started, Starts, WroteOut, named_ending}
use Rattle.wef_commands.specs.Endings.{IsUnwritten, Told}
use Rattle.wef_commands.specs.Laws.{AddSays, AddsByRows, EventsByRows, EventsSay, HasEnded, IsAdded, ListsByRows, OverRows, RemoveSays, RemovesByRows, ShowsByRows, Stand, StatusSays, StatusesByRows, WritesText, can_start, started}
use Rattle.wef_commands.specs.Listing.{Lists, WroteList, list_text}
use Rattle.wef_commands.specs.Refusals.{store_ending}
use Rattle.wef_commands.specs.Removing.{Ends, ended_text}
use Rattle.wef_commands.specs.Showing.{Reports, TellsHeld, WritesHeld}
use Rattle.wef_commands.specs.Statuses.{TellsStatuses}
use Rattle.wef_commands.specs.Streams.{WritesPart}
use Rattle.wef_commands.specs.declared.ending.Ending.{Ending}
use Rattle.wef_commands.specs.declared.ending.Ending.TheVariants as ends

-- ---- what a store tells

-- rows that stand without doubt are the only image
one_image : (images : Option (List Rows)) (rows : Option Rows) (found : Rows) → is_some images ≡ is_some rows → IfSome images (λ left. WhereTold rows (λ stand. left ≡ stand ∷ [])) → rows ≡ Some found
    → images ≡ Some (found ∷ [])
one_image None None found both only told = absurd (none-some found told)
one_image None (Some stand) found both only told = let bad : false ≡ true = both in cc
one_image (Some left) None found both only told = absurd only
one_image (Some left) (Some stand) found both only told = ap Some (only ∙ ap (λ (r : Rows). r ∷ []) (same_Some stand found told))

pub image_of : (store : Store) (found : Rows) → Stand store found → store.images ≡ Some (found ∷ [])
image_of store found stand = one_image store.images store.rows found stand.lawful.both (stand.lawful.only stand.calm) stand.told

-- what a call did with rows that were told
pub from_one : (before now : Store) (found after : Rows) (Holds : Rows → Rows → Type 0) → Stand before found → now.rows ≡ Some after → From before now Holds → Holds found after
from_one before now found after Holds stand told from =
    let P : Option Rows → Type 0 = λ o. IfSome o (λ after. AnyFound before.images (λ found. Holds found after)) in
    let Q : Option (List Rows) → Type 0 = λ o. AnyFound o (λ found. Holds found after) in
    subst Q (image_of before found stand) (subst P told from)

-- a store that tells its rows behind a call told them before it
pub mid_stands : (mid now : Store) (after : Rows) → IsLawful mid → IsReady mid → StaysUntold mid now → now.rows ≡ Some after → (rows : Rows) × Stand mid rows
mid_stands mid now after lawful ready untold told = by mid.rows refl
  where
    by : (o : Option Rows) → mid.rows ≡ o → (rows : Rows) × Stand mid rows
    by (Some rows) is = (rows, record { lawful = lawful; calm = ready.1; told = is })
    by None is =
        let imageless : is_some mid.images ≡ false = lawful.both ∙ ap (λ (o : Option Rows). is_some o) is in
        let rowless : is_some now.rows ≡ false = untold ready.0 imageless in
        let bad : true ≡ false = sym (ap (λ (o : Option Rows). is_some o) told) ∙ rowless in cc

-- ---- starts

pub boot_made : (found after : Rows) → Makes (boot_effect found) found after → after ≡ started found
boot_made found after makes = by (nat_lt (boot_of found) MAX) makes
  where
    by : (room : Bool) → Makes {F = CollectorFault} (if room then Ok (put boot_key (boot_of found + 1) [] ∷ []) else Err faults.Full) found after → after ≡ started found
    by true made = made
    by false made = absurd made

pub boot_room : (found after : Rows) → Makes (boot_effect found) found after → can_start found ≡ true
boot_room found after makes = by (nat_lt (boot_of found) MAX) makes
  where
    by : (room : Bool) → Makes {F = CollectorFault} (if room then Ok (put boot_key (boot_of found + 1) [] ∷ []) else Err faults.Full) found after → room ≡ true
    by true made = refl
    by false made = absurd made

pub boot_full : (found : Rows) → boot_effect found ≡ Err faults.Full → can_start found ≡ false
boot_full found is = by (nat_lt (boot_of found) MAX) is
  where
    by : (room : Bool) → (if room then Ok (put boot_key (boot_of found + 1) [] ∷ []) else Err faults.Full) ≡ Err faults.Full → room ≡ false
    by true e = cc
    by false e = refl

pub started_so : (before mid : Store) (memory : Memory) (found rows : Rows) → Starts (Ok memory) before mid → Stand before found → mid.rows ≡ Some rows → rows ≡ started found
started_so before mid memory found rows start stand told =
    let did = from_one before mid found rows (Did collector_store AreFormed boot_effect memory_begun (Ok memory) before mid) stand told start.0.did in
    boot_made found rows did.answer.0

-- and its boot number could rise
pub could_start : (before mid : Store) (memory : Memory) (found rows : Rows) → Starts (Ok memory) before mid → Stand before found → mid.rows ≡ Some rows → can_start found ≡ true
could_start before mid memory found rows start stand told =
    let did = from_one before mid found rows (Did collector_store AreFormed boot_effect memory_begun (Ok memory) before mid) stand told start.0.did in
    boot_room found rows did.answer.0

-- a start that is refused
start_by_rows : (Says : Ending → Rows → Rows → Type 0) → ((found after : Rows) → Says ends.NoMemory found after) → ((found after : Rows) → Says ends.StoreFailed found after)
    → ((found after : Rows) → can_start found ≡ false → after ≡ found → Says ends.Full found after)
    → (ending : Ending) (before now : Store) (fault : CollectorFault) → Starts (Err fault) before now → ending ≡ store_ending fault → OverRows (Says ending) before now
start_by_rows Says wants fails full ending before now faults.NoMemory start is = λ found after stand told. subst (λ (e : Ending). Says e found after) (sym is) (wants found after)
start_by_rows Says wants fails full ending before now faults.Failed start is = λ found after stand told. subst (λ (e : Ending). Says e found after) (sym is) (fails found after)
start_by_rows Says wants fails full ending before now faults.Full start is = λ found after stand told.
    let did = from_one before now found after (Did collector_store AreFormed boot_effect memory_begun (Err faults.Full) before now) stand told start.0.did in
    subst (λ (e : Ending). Says e found after) (sym is) (full found after (boot_full found did.answer.0) did.answer.1)
start_by_rows Says wants fails full ending before now _ start is = absurd start.1

-- a call behind a start
behind : (Call : Store → Store → Type 0) (Says : Rows → Rows → Type 0) (before now : Store) (begun : Started Call before now) → StaysUntold begun.mid now
    → ((found rows after : Rows) → Stand begun.mid rows → now.rows ≡ Some after → rows ≡ started found → can_start found ≡ true → Says found after) → OverRows Says before now
behind Call Says before now begun untold says = λ found after stand told.
    let mid = mid_stands begun.mid now after begun.start.2 begun.start.0.ready untold told in
    says found mid.0 after mid.1 told (started_so before begun.mid begun.memory found mid.0 begun.start stand mid.1.told)
    (could_start before begun.mid begun.memory found mid.0 begun.start stand mid.1.told)

-- ---- `add`

add_done : (rows : Rows) (s : Subscription) (after : Rows) → Makes (add_effect rows s) rows after → (is_there rows s.name ≡ false) × (is_full rows ≡ false) × (after ≡ added_rows rows s)
add_done rows s after makes = by (is_there rows s.name) (is_full rows) makes
  where
    by : (there full : Bool) → Makes {F = CollectorFault} (if there then Err faults.Exists else if full then Err faults.TooMany else Ok (put (subscription_key s.name) 0 (document_text s) ∷ [])) rows after
        → (there ≡ false) × (full ≡ false) × (after ≡ added_rows rows s)
    by true full made = absurd made
    by false true made = absurd made
    by false false made = (refl, refl, made)

add_exists : (rows : Rows) (s : Subscription) → add_effect rows s ≡ Err faults.Exists → is_there rows s.name ≡ true
add_exists rows s is = by (is_there rows s.name) (is_full rows) is
  where
    by : (there full : Bool) → (if there then Err faults.Exists else if full then Err faults.TooMany else Ok (put (subscription_key s.name) 0 (document_text s) ∷ [])) ≡ Err faults.Exists → there ≡ true
    by true full e = refl
    by false true e = cc
    by false false e = cc

add_too_many : (rows : Rows) (s : Subscription) → add_effect rows s ≡ Err faults.TooMany → (is_there rows s.name ≡ false) × (is_full rows ≡ true)
add_too_many rows s is = by (is_there rows s.name) (is_full rows) is
  where
    by : (there full : Bool) → (if there then Err faults.Exists else if full then Err faults.TooMany else Ok (put (subscription_key s.name) 0 (document_text s) ∷ [])) ≡ Err faults.TooMany
        → (there ≡ false) × (full ≡ true)
    by true full e = let bad : ⊥ = cc in absurd bad
    by false true e = (refl, refl)
    by false false e = let bad : ⊥ = cc in absurd bad

document_says : (ending : Ending) (input out : Told) → DocumentEnds ending input → (found after : Rows) → after ≡ found → AddSays ending input out found after
document_says (ends.BadPlace k) input out d found after same = (d, same)
document_says (ends.BadElement part) input out d found after same = (d, same)
document_says ends.InputFailed input out d found after same = (d, same)
document_says ends.NoMemory input out d found after same = tt
document_says _ input out d found after same = absurd d

module _ (s : Subscription) (input : Told) (document : HasDocument s input) (again : IsReadAgain s) where
  added_so : (found rows after : Rows) → rows ≡ started found → Makes (add_effect rows s) rows after
      → (is_there (started found) s.name ≡ false) × (is_full (started found) ≡ false) × (after ≡ added_rows (started found) s)
  added_so found rows after is makes = subst (λ (r : Rows). (is_there r s.name ≡ false) × (is_full r ≡ false) × (after ≡ added_rows r s)) is (add_done rows s after makes)

  abbrev added : (found after : Rows) → can_start found ≡ true → (is_there (started found) s.name ≡ false) × (is_full (started found) ≡ false) × (after ≡ added_rows (started found) s) → IsAdded input found after
  added found after starts done = record {
    subscription = s;
    document = document;
    starts = starts;
    new = done.0;
    room = done.1;
    rows = done.2;
    live = ap (λ (r : Rows). standing r s.name) done.2 ∙ put_lives (started found) s (document_text s) again;
  }

  refused_so : (fault : CollectorFault) (out : Told) (mid now : Store) → Adds s (Err fault) mid now → (found rows after : Rows) → Stand mid rows → now.rows ≡ Some after → rows ≡ started found → can_start found ≡ true
      → AddSays (named_ending s.name fault) input out found after
  refused_so faults.NoMemory out mid now call found rows after stand told is starts = tt
  refused_so faults.Failed out mid now call found rows after stand told is starts = tt
  refused_so faults.Exists out mid now call found rows after stand told is starts =
      let did = from_one mid now rows after (Did collector_store AreFormed (λ rows. add_effect rows s) (λ _. tt) (Err faults.Exists) mid now) stand told call.0.did in
      record { subscription = s; document = document; starts = starts; cause = (refl, subst (λ (r : Rows). is_there r s.name ≡ true) is (add_exists rows s did.answer.0)); rows = did.answer.1 ∙ is }
  refused_so faults.TooMany out mid now call found rows after stand told is starts =
      let did = from_one mid now rows after (Did collector_store AreFormed (λ rows. add_effect rows s) (λ _. tt) (Err faults.TooMany) mid now) stand told call.0.did in
      record { subscription = s; document = document; starts = starts; cause = subst (λ (r : Rows). (is_there r s.name ≡ false) × (is_full r ≡ true)) is (add_too_many rows s did.answer.0); rows = did.answer.1 ∙ is }
  refused_so _ out mid now call found rows after stand told is starts = absurd call.1

  told_so : (ending : Ending) (out : Told) → WroteOut (added_text s.name) ending out → (found after : Rows) → can_start found ≡ true
      → (is_there (started found) s.name ≡ false) × (is_full (started found) ≡ false) × (after ≡ added_rows (started found) s) → AddSays ending input out found after
  told_so ends.Done out wrote found after starts done = (added found after starts done, wrote)
  told_so ends.OutputFailed out wrote found after starts done = (added found after starts done, wrote.0, wrote.1)
  told_so _ out wrote found after starts done = absurd wrote

  add_call : (ending : Ending) (out : Told) (before now : Store) → CallEnds (Adds s) (named_ending s.name) (λ _. WroteOut (added_text s.name)) ending out before now → OverRows (AddSays ending input out) before now
  add_call ending out before now (inl (fault, start, is, unwritten)) =
      start_by_rows (λ (e : Ending). AddSays e input out) (λ found after. tt) (λ found after. tt) (λ found after full same. (full, same, (s, document))) ending before now fault start is
  add_call ending out before now (inr (inl (fault, begun, is, unwritten))) =
      behind (Adds s (Err fault)) (AddSays ending input out) before now begun begun.call.0.untold (λ found rows after stand told same starts.
      subst (λ (e : Ending). AddSays e input out found after) (sym is) (refused_so fault out begun.mid now begun.call found rows after stand told same starts))
  add_call ending out before now (inr (inr (done, begun, wrote))) =
      behind (Adds s (Ok done)) (AddSays ending input out) before now begun begun.call.0.untold (λ found rows after stand told same starts.
      let did = from_one begun.mid now rows after (Did collector_store AreFormed (λ rows. add_effect rows s) (λ _. tt) (Ok done) begun.mid now) stand told begun.call.0.did in
      told_so ending out wrote found after starts (added_so found rows after same did.answer.0))

-- a store that is as it was
same_rows : (before now : Store) (found after : Rows) → now ≡ before → Stand before found → now.rows ≡ Some after → after ≡ found
same_rows before now found after same stand told = same_Some after found (sym told ∙ ap (λ (store : Store). store.rows) same ∙ stand.told)

pub adds_by_rows : AddsByRows
adds_by_rows ending input out before now (inl (why, unwritten, same)) = λ found after stand told. document_says ending input out why found after (same_rows before now found after same stand told)
adds_by_rows ending input out before now (inr (s, document, again, call)) = add_call s input document again ending out before now call

-- ---- `remove`

module _ (u : List ℕ) where
  end_done : (rows after : Rows) → Makes (end_effect rows u) rows after → ((s : Subscription) × (standing rows u ≡ Live s)) × (after ≡ ended_rows rows u)
  end_done rows after makes = by (standing rows u) refl makes
    where
      by : (o : Standing) → standing rows u ≡ o → Makes (end_by o rows u) rows after → ((s : Subscription) × (standing rows u ≡ Live s)) × (after ≡ ended_rows rows u)
      by Unknown is made = absurd made
      by (Ended s) is made = absurd made
      by (Live s) is made = ((s, is), made)

  end_unknown : (rows : Rows) → end_effect rows u ≡ Err faults.NoSubscription → standing rows u ≡ Unknown
  end_unknown rows is = by (standing rows u) refl is
    where
      by : (o : Standing) → standing rows u ≡ o → end_by o rows u ≡ Err faults.NoSubscription → standing rows u ≡ Unknown
      by Unknown at e = at
      by (Ended s) at e = let bad : ⊥ = cc in absurd bad
      by (Live s) at e = let bad : ⊥ = cc in absurd bad

  end_already : (rows : Rows) → end_effect rows u ≡ Err faults.Ended → IsEnded (standing rows u)
  end_already rows is = by (standing rows u) is
    where
      by : (o : Standing) → end_by o rows u ≡ Err faults.Ended → IsEnded o
      by Unknown e = let bad : ⊥ = cc in absurd bad
      by (Ended s) e = tt
      by (Live s) e = let bad : ⊥ = cc in absurd bad

  not_ended : (fault : CollectorFault) (out : Told) (mid now : Store) → Ends u (Err fault) mid now → (found rows after : Rows) → Stand mid rows → now.rows ≡ Some after → rows ≡ started found → can_start found ≡ true
      → RemoveSays u (named_ending u fault) out found after
  not_ended faults.NoMemory out mid now call found rows after stand told is starts = tt
  not_ended faults.Failed out mid now call found rows after stand told is starts = tt
  not_ended faults.NoSubscription out mid now call found rows after stand told is starts =
      let did = from_one mid now rows after (Did collector_store AreFormed (λ rows. end_effect rows u) (λ _. tt) (Err faults.NoSubscription) mid now) stand told call.0.did in
      (refl, starts, subst (λ (r : Rows). standing r u ≡ Unknown) is (end_unknown rows did.answer.0), did.answer.1 ∙ is)
  not_ended faults.Ended out mid now call found rows after stand told is starts =
      let did = from_one mid now rows after (Did collector_store AreFormed (λ rows. end_effect rows u) (λ _. tt) (Err faults.Ended) mid now) stand told call.0.did in
      (refl, starts, subst (λ (r : Rows). IsEnded (standing r u)) is (end_already rows did.answer.0), did.answer.1 ∙ is)
  not_ended _ out mid now call found rows after stand told is starts = absurd call.1

  has_ended : (found rows after : Rows) → rows ≡ started found → can_start found ≡ true → Makes (end_effect rows u) rows after → HasEnded u found after
  has_ended found rows after is starts makes =
      let P : Rows → Type 0 = λ r. ((s : Subscription) × (standing r u ≡ Live s)) × (after ≡ ended_rows r u) in
      let done = subst P is (end_done rows after makes) in
      record { starts = starts; subscription = done.0.0; live = done.0.1; rows = done.1 }

  ended_told : (ending : Ending) (out : Told) → WroteOut (ended_text u) ending out → (found after : Rows) → HasEnded u found after → RemoveSays u ending out found after
  ended_told ends.Done out wrote found after is = (is, wrote)
  ended_told ends.OutputFailed out wrote found after is = (is, wrote.0, wrote.1)
  ended_told _ out wrote found after is = absurd wrote

  end_call : (ending : Ending) (out : Told) (before now : Store) → CallEnds (Ends u) (named_ending u) (λ _. WroteOut (ended_text u)) ending out before now → OverRows (RemoveSays u ending out) before now
  end_call ending out before now (inl (fault, start, is, unwritten)) =
      start_by_rows (λ (e : Ending). RemoveSays u e out) (λ found after. tt) (λ found after. tt) (λ found after full same. (full, same)) ending before now fault start is
  end_call ending out before now (inr (inl (fault, begun, is, unwritten))) =
      behind (Ends u (Err fault)) (RemoveSays u ending out) before now begun begun.call.0.untold (λ found rows after stand told same starts.
      subst (λ (e : Ending). RemoveSays u e out found after) (sym is) (not_ended fault out begun.mid now begun.call found rows after stand told same starts))
  end_call ending out before now (inr (inr (done, begun, wrote))) =
      behind (Ends u (Ok done)) (RemoveSays u ending out) before now begun begun.call.0.untold (λ found rows after stand told same starts.
      let did = from_one begun.mid now rows after (Did collector_store AreFormed (λ rows. end_effect rows u) (λ _. tt) (Ok done) begun.mid now) stand told begun.call.0.did in
      ended_told ending out wrote found after (has_ended found rows after same starts did.answer.0))

pub removes_by_rows : RemovesByRows
removes_by_rows u ending out before now (inl (is, unwritten, same)) = λ found after stand told. subst (λ (e : Ending). RemoveSays u e out found after) (sym is) tt
removes_by_rows u ending out before now (inr call) = end_call u ending out before now call

-- ---- `list`, `show`, `events` and `status`

-- rows that were only read are those that stood
read_same : (mid now : Store) (rows after : Rows) → Stand mid rows → now.rows ≡ Some after → IfSome mid.images (λ old. IfSome now.rows (IsOneOf old)) → after ≡ rows
read_same mid now rows after stand told finds =
    let P : Option (List Rows) → Type 0 = λ o. IfSome o (λ old. IfSome now.rows (IsOneOf old)) in
    let Q : Option Rows → Type 0 = λ o. IfSome o (IsOneOf (rows ∷ [])) in
    subst Q told (subst P (image_of mid rows stand) finds)

told_rows : (now : Store) (after : Rows) (P : Rows → Type 0) → now.rows ≡ Some after → IfSome now.rows P → P after
told_rows now after P told holds = subst (λ (o : Option Rows). IfSome o P) told holds

-- a text of rows that was written
text_of_rows : (text : Rows → List ℕ) (written : List ℕ) (ending : Ending) (out : Told) (found rows after : Rows) → rows ≡ started found → can_start found ≡ true → after ≡ rows → written ≡ text after
    → WroteOut written ending out → WritesText (λ found. text (started found)) ending out found after
text_of_rows text written ends.Done out found rows after is starts same said wrote = (subst (Appends out.before out.after) (said ∙ ap text (same ∙ is)) wrote, same ∙ is, starts)
text_of_rows text written ends.OutputFailed out found rows after is starts same said wrote =
    (wrote.0, subst (WritesPart out.before out.after) (said ∙ ap text (same ∙ is)) wrote.1, same ∙ is, starts)
text_of_rows text written _ out found rows after is starts same said wrote = absurd wrote

-- a start that is refused before a reading
text_unstarted : (text : Rows → List ℕ) (ending : Ending) (out : Told) (before now : Store) (fault : CollectorFault) → Starts (Err fault) before now → ending ≡ store_ending fault
    → OverRows (WritesText text ending out) before now
text_unstarted text ending out before now fault start is =
    start_by_rows (λ (e : Ending). WritesText text e out) (λ found after. tt) (λ found after. tt) (λ found after full same. (full, same)) ending before now fault start is

-- of a reading that its store refuses nothing is said
unread : (text : Rows → List ℕ) (ending : Ending) (out : Told) (fault : CollectorFault) → IsOfStore fault → ending ≡ store_ending fault → (found after : Rows) → WritesText text ending out found after
unread text ending out faults.NoMemory allowed is found after = subst (λ (e : Ending). WritesText text e out found after) (sym is) tt
unread text ending out faults.Failed allowed is found after = subst (λ (e : Ending). WritesText text e out found after) (sym is) tt
unread text ending out _ allowed is found after = absurd allowed

unwritten_list : (list : List Listed) (ending : Ending) (out : Told) (found rows after : Rows) → rows ≡ started found → can_start found ≡ true → after ≡ rows → list ≡ listed after → WroteList list ending out
    → WritesText (λ found. list_text (listed (started found))) ending out found after
unwritten_list list ending out found rows after is starts same said (inl wrote) =
    text_of_rows (λ rows. list_text (listed rows)) (list_text list) ending out found rows after is starts same (ap list_text said) wrote
unwritten_list list ending out found rows after is starts same said (inr (wants, unwritten)) = subst (λ (e : Ending). WritesText (λ found. list_text (listed (started found))) e out found after) (sym wants) tt

pub lists_by_rows : ListsByRows
lists_by_rows ending out before now (inl (fault, start, is, unwritten)) = text_unstarted (λ found. list_text (listed (started found))) ending out before now fault start is
lists_by_rows ending out before now (inr (inl (fault, begun, is, unwritten))) = λ found after stand told. unread (λ found. list_text (listed (started found))) ending out fault begun.call.1 is found after
lists_by_rows ending out before now (inr (inr (list, begun, wrote))) =
    behind (Lists (Ok list)) (WritesText (λ found. list_text (listed (started found))) ending out) before now begun begun.call.0.opened.0.7 (λ found rows after stand told same starts.
    unwritten_list list ending out found rows after same starts (read_same begun.mid now rows after stand told (begun.call.0.found refl)) (told_rows now after (λ rows. list ≡ listed rows) told begun.call.1) wrote)

pub shows_by_rows : ShowsByRows
shows_by_rows ending out before now (inl (fault, start, is, unwritten)) = text_unstarted (λ found. report (started found)) ending out before now fault start is
shows_by_rows ending out before now (inr (inl (fault, begun, is, unwritten))) = λ found after stand told. unread (λ found. report (started found)) ending out fault begun.call.1 is found after
shows_by_rows ending out before now (inr (inr (text, begun, wrote))) =
    behind (Reports (Ok text)) (WritesText (λ found. report (started found)) ending out) before now begun begun.call.0.opened.0.7 (λ found rows after stand told same starts.
    text_of_rows report text ending out found rows after same starts (read_same begun.mid now rows after stand told (begun.call.0.found refl)) (told_rows now after (λ rows. text ≡ report rows) told begun.call.1) wrote)

-- what isn't told isn't told behind reads
reads_untold : (mid now : Option Rows) (images : Option (List Rows)) → is_some images ≡ is_some mid → Stays mid now → is_some images ≡ false → is_some now ≡ false
reads_untold mid None images both stays untold = refl
reads_untold mid (Some after) images both stays untold =
    let told : is_some mid ≡ true = ap (λ (o : Option Rows). is_some o) stays in
    let bad : true ≡ false = sym told ∙ sym both ∙ untold in cc

stays_same : (mid now : Store) (rows after : Rows) → Stand mid rows → now.rows ≡ Some after → Stays mid.rows now.rows → after ≡ rows
stays_same mid now rows after stand told stays =
    let kept = told_rows now after (λ told. mid.rows ≡ Some told) told stays in
    same_Some after rows (sym kept ∙ stand.told)

events_say : (u s c : List ℕ) (ending : Ending) (out : Told) (mid now : Store) → WritesHeld u s c ending out mid now → (found rows after : Rows) → Stand mid rows → now.rows ≡ Some after → rows ≡ started found
    → can_start found ≡ true → EventsSay u s c ending out found after
events_say u s c ends.Done out mid now writes found rows after stand told is starts =
    let same = stays_same mid now rows after stand told writes.reads.0.1 ∙ is in
    let tells = told_rows now after (TellsHeld u s c ends.Done out) told writes.tells in
    let here = subst (TellsHeld u s c ends.Done out) same tells in
    (here.0, here.1, same, starts)
events_say u s c ends.OutputFailed out mid now writes found rows after stand told is starts =
    let same = stays_same mid now rows after stand told writes.reads.0.1 ∙ is in
    let tells = told_rows now after (TellsHeld u s c ends.OutputFailed out) told writes.tells in
    (writes.ends_so, subst (TellsHeld u s c ends.OutputFailed out) same tells, same, starts)
events_say u s c (ends.Unknown name) out mid now writes found rows after stand told is starts =
    let same = stays_same mid now rows after stand told writes.reads.0.1 ∙ is in
    let tells = told_rows now after (TellsHeld u s c (ends.Unknown name) out) told writes.tells in
    (writes.ends_so.0, subst (TellsHeld u s c (ends.Unknown name) out) same tells, writes.ends_so.1, same, starts)
events_say u s c ends.NoMemory out mid now writes found rows after stand told is starts = tt
events_say u s c ends.StoreFailed out mid now writes found rows after stand told is starts = tt
events_say u s c _ out mid now writes found rows after stand told is starts = absurd writes.ends_so

pub events_by_rows : EventsByRows
events_by_rows u s c ending out before now (inl (is, unwritten, same)) = λ found after stand told. subst (λ (e : Ending). EventsSay u s c e out found after) (sym is) tt
events_by_rows u s c ending out before now (inr (inl (fault, start, is, unwritten))) =
    start_by_rows (λ (e : Ending). EventsSay u s c e out) (λ found after. tt) (λ found after. tt) (λ found after full same. (full, same)) ending before now fault start is
events_by_rows u s c ending out before now (inr (inr begun)) =
    behind (WritesHeld u s c ending out) (EventsSay u s c ending out) before now begun
    (λ opened untold. reads_untold begun.mid.rows now.rows begun.mid.images begun.start.2.both begun.call.reads.0.1 untold)
    (λ found rows after stand told same starts. events_say u s c ending out begun.mid now begun.call found rows after stand told same starts)

module _ (u : List ℕ) (moment : ℕ) where
  -- a call that is refused
  not_shown : (fault : CollectorFault) (out : Told) (mid now : Store) → TellsStatuses u moment (Err fault) mid now → IsUnwritten out → (found rows after : Rows) → Stand mid rows → now.rows ≡ Some after → rows ≡ started found
      → can_start found ≡ true → StatusSays u moment (named_ending u fault) out found after
  not_shown faults.NoMemory out mid now call unwritten found rows after stand told is starts = tt
  not_shown faults.Failed out mid now call unwritten found rows after stand told is starts = tt
  not_shown faults.NoSubscription out mid now call unwritten found rows after stand told is starts =
      let same = read_same mid now rows after stand told (call.0.found refl) ∙ is in
      (refl, subst (λ (r : Rows). is_known (standing r u) ≡ false) same (told_rows now after (λ rows. is_known (standing rows u) ≡ false) told call.1), unwritten, same, starts)
  not_shown _ out mid now call unwritten found rows after stand told is starts = absurd call.1

  -- a text that is written
  statuses_told : (text : List ℕ) (ending : Ending) (out : Told) (mid now : Store) → TellsStatuses u moment (Ok text) mid now → WroteOut text ending out → (found rows after : Rows) → Stand mid rows → now.rows ≡ Some after
      → rows ≡ started found → can_start found ≡ true → StatusSays u moment ending out found after
  statuses_told text ending out mid now call wrote found rows after stand told is starts = by ending wrote
    where
      same : after ≡ started found
      same = read_same mid now rows after stand told (call.0.found refl) ∙ is

      known : is_known (standing (started found) u) ≡ true
      known = subst (λ (r : Rows). is_known (standing r u) ≡ true) same (told_rows now after (λ rows. is_known (standing rows u) ≡ true) told call.1.0)

      said : text ≡ statuses (started found) u moment
      said = told_rows now after (λ rows. text ≡ statuses rows u moment) told call.1.1 ∙ ap (λ (r : Rows). statuses r u moment) same

      by : (ending : Ending) → WroteOut text ending out → StatusSays u moment ending out found after
      by ends.Done wrote = (known, subst (Appends out.before out.after) said wrote, same, starts)
      by ends.OutputFailed wrote = (known, wrote.0, subst (WritesPart out.before out.after) said wrote.1, same, starts)
      by _ wrote = absurd wrote

pub statuses_by_rows : StatusesByRows
statuses_by_rows u moment ending out before now (inl (fault, start, is, unwritten)) =
    start_by_rows (λ (e : Ending). StatusSays u moment e out) (λ found after. tt) (λ found after. tt) (λ found after full same. (full, same)) ending before now fault start is
statuses_by_rows u moment ending out before now (inr (inl (fault, begun, is, unwritten))) =
    behind (TellsStatuses u moment (Err fault)) (StatusSays u moment ending out) before now begun begun.call.0.opened.0.7 (λ found rows after stand told same starts.
    subst (λ (e : Ending). StatusSays u moment e out found after) (sym is) (not_shown u moment fault out begun.mid now begun.call unwritten found rows after stand told same starts))
statuses_by_rows u moment ending out before now (inr (inr (text, begun, wrote))) =
    behind (TellsStatuses u moment (Ok text)) (StatusSays u moment ending out) before now begun begun.call.0.opened.0.7 (λ found rows after stand told same starts.
    statuses_told u moment text ending out begun.mid now begun.call wrote found rows after stand told same starts)
