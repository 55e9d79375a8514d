-- `forward` over rows: its source changes them once, as it starts, and each message is the one that they give then.
use Rattle.std.proofs.Common.{◌≡◌, inl, inr, ℕ, Bool, true, false, List, [], ◌∷◌, ◌++◌, ap, sym, refl, subst, ◌∙◌}
use Rattle.std.specs.List.{AllByRecursion, flat_map}
use Rattle.std.specs.Prelude.{Option, Some, None, IfSome, Result, Ok, Err, is_some, if◌then◌else◌}
use Rattle.wef_commands.proofs.ByRows.{from_one}
use Rattle.wef_commands.specs.Endings.{IsUnwritten, Told}
use Rattle.wef_commands.specs.Laws.{Stand}
use Rattle.wef_commands.specs.Refusals.{source_ending}
use Rattle.wef_commands.specs.declared.ending.Ending.{Ending}
use Rattle.wef_commands.specs.declared.writing.TheConstants.{LOG_CAPACITY}
use Rattle.wef_forwarding.specs.declared.exchanges.FrontFault.{FrontFault}
use Rattle.wef_forwarding.specs.declared.forwarding.Exchange.{Exchange}
use Rattle.wef_keeper.proofs.Going.{goes_over, one_of, which_found}
use Rattle.wef_keeper.proofs.StayFormed.{all_weaker}
use Rattle.wef_keeper.specs.Calls.{Did, Effect, GoesOver, Makes}
use Rattle.wef_keeper.specs.Keeping.{IsLawful, IsOneOf, MayFind, Store, WhereTold}
use Rattle.wef_keeper.specs.Rows.{Rows}
use Rattle.wef_keeper.specs.declared.keys.Change.{Change}
use Rattle.wef_ports.specs.Telling as ports
use Rattle.wef_source.specs.Answers.{RefusesStart}
use Rattle.wef_source.specs.Calls.{start_effect}
use Rattle.wef_building.specs.Faults.{source_answer, source_store}
use Rattle.wef_source.specs.Machine.{End, start_of}
use Rattle.wef_building.specs.declared.faults.SourceFault.{SourceFault}
use Rattle.wef_source_log.specs.Answers.{is_boot_full, next_boot}
use Rattle.wef_source_log.specs.Forms.{AreFormed}
use Rattle.wef_source_log.specs.LogWindow as log
use Rattle.wef_source_log.specs.declared.faults.LogFault.TheVariants as log_faults
use Rattle.wef_running.proofs.ByRows.{only_found}
use Rattle.wef_running.specs.ByRows.{ForwardsByRows, IsBegun, IsNotBegun, IsSentOver}
use Rattle.wef_running.specs.Forwarding.{AreSent, AreSentBy, AsksAndSends, AsksAndSendsBy, EndsBefore, EndsBeforeBy, IsSent, Plan, Running, SendsAll, SendsAllBy, SendsFrom, SendsFromBy, StartsSource, behind, behind_all, line_of, next}

-- ---- a store that keeps its rows

-- A store that was opened, and in which an opening finds these rows alone.
pub record Keeps (rows : Rows) (store : Store) : Type 0 where
  pub lawful : IsLawful store
  pub opened : store.opened ≡ true
  pub only : IfSome store.images (AllByRecursion (λ image. image ≡ rows))

-- whether it tells
abbrev pub tells : Store → Bool
tells store = is_some store.images

narrowed : (rows : Rows) (old now : Option (List Rows)) → IfSome old (λ olds. IfSome now (AllByRecursion (IsOneOf olds))) → IfSome old (AllByRecursion (λ image. image ≡ rows))
    → (is_some old ≡ false → is_some now ≡ false) → IfSome now (AllByRecursion (λ image. image ≡ rows))
narrowed rows None None narrows only untold = tt
narrowed rows None (Some all) narrows only untold = let no : true ≡ false = untold refl in cc
narrowed rows (Some olds) None narrows only untold = tt
narrowed rows (Some olds) (Some all) narrows only untold = all_weaker (IsOneOf olds) (λ image. image ≡ rows) (λ image one. one_of (λ rows'. rows' ≡ rows) olds image one only) all narrows

told_rows : (rows : Rows) (stand : Option Rows) (images : Option (List Rows)) → is_some images ≡ is_some stand → IfSome images (λ left. WhereTold stand (IsOneOf left)) → IfSome images (AllByRecursion (λ image. image ≡ rows))
    → is_some images ≡ true → stand ≡ Some rows
told_rows rows stand None both among only told = let no : false ≡ true = told in cc
told_rows rows None (Some images) both among only told = let no : true ≡ false = both in cc
told_rows rows (Some stand) (Some images) both among only told = ap Some (one_of (λ image. image ≡ rows) images stand among only)

pub rows_told : (rows : Rows) (store : Store) → Keeps rows store → tells store ≡ true → store.rows ≡ Some rows
rows_told rows store keeps told = told_rows rows store.rows store.images keeps.lawful.both keeps.lawful.among keeps.only told

-- what isn't told doesn't begin to be
told_since : (was is : Bool) → (was ≡ false → is ≡ false) → is ≡ true → was ≡ true
told_since true is stays told = refl
told_since false is stays told = let no : true ≡ false = sym told ∙ stays refl in cc

-- ---- a message

module _ (rows : Rows) (clock : Option ℕ) where
  untold : (u : List ℕ) (result : Result Exchange FrontFault) (before now : Running) → IsSent clock u result before now → Keeps rows before.store → tells before.store ≡ false → tells now.store ≡ false
  untold u result before now sent keeps was = sent.lawful.both ∙ sent.reads.0.7 keeps.opened was

  pub sent_keeps : (u : List ℕ) (result : Result Exchange FrontFault) (before now : Running) → IsSent clock u result before now → Keeps rows before.store → Keeps rows now.store
  sent_keeps u result before now sent keeps = record {
    lawful = sent.lawful;
    opened = sent.reads.0.5 keeps.opened;
    only = narrowed rows before.store.images now.store.images sent.reads.0.0 keeps.only (untold u result before now sent keeps);
  }

  pub sent_told : (u : List ℕ) (result : Result Exchange FrontFault) (before now : Running) → IsSent clock u result before now → Keeps rows before.store → tells now.store ≡ true → tells before.store ≡ true
  sent_told u result before now sent keeps told = told_since (tells before.store) (tells now.store) (untold u result before now sent keeps) told

  pub sent_over : (u : List ℕ) (result : Result Exchange FrontFault) (before now : Running) → IsSent clock u result before now → Keeps rows before.store → tells now.store ≡ true → IsSentOver rows clock u result before now
  sent_over u result before now sent keeps told = (sent, rows_told rows now.store (sent_keeps u result before now sent keeps) told)

  -- ---- messages

  all_keep : (plan : Plan) (xs : List (List ℕ × Exchange)) (before now : Running) → AreSent clock plan xs before now → Keeps rows before.store → Keeps rows now.store
  all_keep plan [] before now same keeps = subst (λ (r : Running). Keeps rows r.store) (sym same) keeps
  all_keep plan (x ∷ xs) before now (is, (mid, sent, more)) keeps = all_keep (behind x.1 plan) xs mid now more (sent_keeps x.0 (Ok x.1) before mid sent keeps)

  all_told : (plan : Plan) (xs : List (List ℕ × Exchange)) (before now : Running) → AreSent clock plan xs before now → Keeps rows before.store → tells now.store ≡ true → tells before.store ≡ true
  all_told plan [] before now same keeps told = subst (λ (r : Running). tells r.store ≡ true) same told
  all_told plan (x ∷ xs) before now (is, (mid, sent, more)) keeps told =
      sent_told x.0 (Ok x.1) before mid sent keeps (all_told (behind x.1 plan) xs mid now more (sent_keeps x.0 (Ok x.1) before mid sent keeps) told)

  all_over : (plan : Plan) (xs : List (List ℕ × Exchange)) (before now : Running) → AreSent clock plan xs before now → Keeps rows before.store → tells now.store ≡ true → AreSentBy (IsSentOver rows clock) plan xs before now
  all_over plan [] before now same keeps told = same
  all_over plan (x ∷ xs) before now (is, (mid, sent, more)) keeps told =
      let then_keeps = sent_keeps x.0 (Ok x.1) before mid sent keeps in
      (is, (mid, sent_over x.0 (Ok x.1) before mid sent keeps (all_told (behind x.1 plan) xs mid now more then_keeps told), all_over (behind x.1 plan) xs mid now more then_keeps told))

  before_told : (o : Option (List ℕ)) (text : List ℕ) (ending : Ending) (out : Told) (before now : Running) → EndsBefore clock o text ending out before now → Keeps rows before.store → tells now.store ≡ true → tells before.store ≡ true
  before_told None text ending out before now (done, same) keeps told = subst (λ (r : Running). tells r.store ≡ true) same told
  before_told (Some u) text ending out before now (inl (fault, sent, is, said)) keeps told = sent_told u (Err fault) before now sent keeps told
  before_told (Some u) text ending out before now (inr (e, sent, unsaid)) keeps told = sent_told u (Ok e) before now sent keeps told

  before_over : (o : Option (List ℕ)) (text : List ℕ) (ending : Ending) (out : Told) (before now : Running) → EndsBefore clock o text ending out before now → Keeps rows before.store → tells now.store ≡ true
      → EndsBeforeBy (IsSentOver rows clock) o text ending out before now
  before_over None text ending out before now stops keeps told = stops
  before_over (Some u) text ending out before now (inl (fault, sent, is, said)) keeps told = inl (fault, sent_over u (Err fault) before now sent keeps told, is, said)
  before_over (Some u) text ending out before now (inr (e, sent, unsaid)) keeps told = inr (e, sent_over u (Ok e) before now sent keeps told, unsaid)

  sends_over : (plan : Plan) (text : List ℕ) (ending : Ending) (out : Told) (before now : Running) → SendsAll clock plan text ending out before now → Keeps rows before.store → tells now.store ≡ true
      → SendsAllBy (IsSentOver rows clock) plan text ending out before now
  sends_over plan text ending out before now all keeps told =
      let mid_keeps = all_keep plan all.sent before all.mid all.are_sent keeps in
      let mid_told = before_told (next (behind_all all.sent plan)) (text ++ flat_map line_of all.sent) ending out all.mid now all.stops mid_keeps told in
      record {
        sent = all.sent;
        mid = all.mid;
        are_sent = all_over plan all.sent before all.mid all.are_sent keeps mid_told;
        stops = before_over (next (behind_all all.sent plan)) (text ++ flat_map line_of all.sent) ending out all.mid now all.stops mid_keeps told;
      }

  from_over : (deliveries : ℕ) (ending : Ending) (out : Told) (before now : Running) → SendsFrom clock deliveries ending out before now → Keeps rows before.store → tells now.store ≡ true
      → SendsFromBy (IsSentOver rows clock) deliveries ending out before now
  from_over deliveries ending out before now (inl unsaid) keeps told = inl unsaid
  from_over deliveries ending out before now (inr all) keeps told = inr (sends_over _ _ ending out before now all keeps told)

  asks_over : (address s : List ℕ) (deliveries : ℕ) (ending : Ending) (out : Told) (before now : Running) → AsksAndSends clock address s deliveries ending out before now → Keeps rows before.store → tells now.store ≡ true
      → AsksAndSendsBy (IsSentOver rows clock) clock address s deliveries ending out before now
  asks_over address s deliveries ending out before now (inl refused) keeps told = inl refused
  asks_over address s deliveries ending out before now (inr (count, mid, asked, sends)) keeps told =
      inr (count, mid, asked, from_over deliveries ending out mid now sends (subst (Keeps rows) (sym asked.store) keeps) told)

  -- what the run ends with was told before all of it
  from_told : (deliveries : ℕ) (ending : Ending) (out : Told) (before now : Running) → SendsFrom clock deliveries ending out before now → Keeps rows before.store → tells now.store ≡ true → tells before.store ≡ true
  from_told deliveries ending out before now (inl (unsaid, same)) keeps told = subst (λ (r : Running). tells r.store ≡ true) same told
  from_told deliveries ending out before now (inr all) keeps told =
      all_told _ all.sent before all.mid all.are_sent keeps
      (before_told _ _ ending out all.mid now all.stops (all_keep _ all.sent before all.mid all.are_sent keeps) told)

  asks_told : (address s : List ℕ) (deliveries : ℕ) (ending : Ending) (out : Told) (before now : Running) → AsksAndSends clock address s deliveries ending out before now → Keeps rows before.store → tells now.store ≡ true
      → tells before.store ≡ true
  asks_told address s deliveries ending out before now (inl (fault, asked, is, unwritten)) keeps told = subst (λ (store : Store). tells store ≡ true) asked.store told
  asks_told address s deliveries ending out before now (inr (count, mid, asked, sends)) keeps told =
      subst (λ (store : Store). tells store ≡ true) asked.store (from_told deliveries ending out mid now sends (subst (Keeps rows) (sym asked.store) keeps) told)

  -- and its rows stay
  before_keep : (o : Option (List ℕ)) (text : List ℕ) (ending : Ending) (out : Told) (before now : Running) → EndsBefore clock o text ending out before now → Keeps rows before.store → Keeps rows now.store
  before_keep None text ending out before now (done, same) keeps = subst (λ (r : Running). Keeps rows r.store) (sym same) keeps
  before_keep (Some u) text ending out before now (inl (fault, sent, is, said)) keeps = sent_keeps u (Err fault) before now sent keeps
  before_keep (Some u) text ending out before now (inr (e, sent, unsaid)) keeps = sent_keeps u (Ok e) before now sent keeps

  from_keep : (deliveries : ℕ) (ending : Ending) (out : Told) (before now : Running) → SendsFrom clock deliveries ending out before now → Keeps rows before.store → Keeps rows now.store
  from_keep deliveries ending out before now (inl (unsaid, same)) keeps = subst (λ (r : Running). Keeps rows r.store) (sym same) keeps
  from_keep deliveries ending out before now (inr all) keeps = before_keep _ _ ending out all.mid now all.stops (all_keep _ all.sent before all.mid all.are_sent keeps)

  asks_keep : (address s : List ℕ) (deliveries : ℕ) (ending : Ending) (out : Told) (before now : Running) → AsksAndSends clock address s deliveries ending out before now → Keeps rows before.store → Keeps rows now.store
  asks_keep address s deliveries ending out before now (inl (fault, asked, is, unwritten)) keeps = subst (Keeps rows) (sym asked.store) keeps
  asks_keep address s deliveries ending out before now (inr (count, mid, asked, sends)) keeps = from_keep deliveries ending out mid now sends (subst (Keeps rows) (sym asked.store) keeps)

-- ---- the run

pub start_made : (found after : Rows) → Makes (start_effect found LOG_CAPACITY) found after → after ≡ log.started found LOG_CAPACITY
start_made found after makes = by (is_boot_full found) makes
  where
    by : (full : Bool) → Makes {F = SourceFault} (source_answer {T = List Change} (if full then Err log_faults.Full else Ok (log.start_changes found LOG_CAPACITY))) found after → after ≡ log.started found LOG_CAPACITY
    by true made = absurd made
    by false made = made

-- and a source that is started could be
pub start_room : (found after : Rows) → Makes (start_effect found LOG_CAPACITY) found after → is_boot_full found ≡ false
start_room found after makes = by (is_boot_full found) makes
  where
    by : (full : Bool) → Makes {F = SourceFault} (source_answer {T = List Change} (if full then Err log_faults.Full else Ok (log.start_changes found LOG_CAPACITY))) found after → full ≡ false
    by true made = absurd made
    by false made = refl

-- without doubt an opening finds the rows that stand
calm_only : (rows : Rows) (stand : Option Rows) (images : Option (List Rows)) → is_some images ≡ is_some stand → IfSome images (λ all. WhereTold stand (λ rows'. all ≡ rows' ∷ []))
    → ((rows' : Rows) → stand ≡ Some rows' → rows' ≡ rows) → IfSome images (AllByRecursion (λ image. image ≡ rows))
calm_only rows stand None both only is = tt
calm_only rows None (Some all) both only is = absurd only
calm_only rows (Some rows') (Some all) both only is = subst (AllByRecursion (λ image. image ≡ rows)) (sym only) (is rows' refl, tt)

module _ (before mid : Store) (boot : ℕ) (found : Rows) (start : StartsSource (Ok boot) before mid) (stand : Stand before found) where
  pub started_did : (rows : Rows) → mid.rows ≡ Some rows → Did source_store AreFormed (λ found. start_effect found LOG_CAPACITY) next_boot (Ok boot) before mid found rows
  started_did rows told = from_one before mid found rows (Did source_store AreFormed (λ found. start_effect found LOG_CAPACITY) next_boot (Ok boot) before mid) stand told start.0.did

  pub start_keeps : Keeps (log.started found LOG_CAPACITY) mid
  start_keeps = record {
    lawful = start.1;
    opened = start.0.ready.0;
    only = calm_only (log.started found LOG_CAPACITY) mid.rows mid.images start.1.both (start.1.only start.0.ready.1)
        (λ rows told. let did = started_did rows told in start_made found rows did.answer.0);
  }

pub tells_found : (images : Option (List Rows)) (last : Rows) → WhereTold images (λ all. IsOneOf all last) → is_some images ≡ true
tells_found None last may = absurd may
tells_found (Some all) last may = refl

pub last_is : (rows last : Rows) (images : Option (List Rows)) → WhereTold images (λ all. IsOneOf all last) → IfSome images (AllByRecursion (λ image. image ≡ rows)) → last ≡ rows
last_is rows last None may only = absurd may
last_is rows last (Some all) may only = one_of (λ image. image ≡ rows) all last may only

was_begun : (address s : List ℕ) (deliveries : ℕ) (ending : Ending) (out : Told) (clock : Option ℕ) (link link' : ports.Told) (before mid now : Store) (boot : ℕ) (end : End) → StartsSource (Ok boot) before mid
    → AsksAndSends clock address s deliveries ending out (record { memory = start_of boot; store = mid; link = link }) (record { memory = end; store = now; link = link' })
    → (found last : Rows) → Stand before found → MayFind now last → IsBegun address s deliveries ending out clock link link' now found last
was_begun address s deliveries ending out clock link link' before mid now boot end start asks found last stand may =
    let rows = log.started found LOG_CAPACITY in
    let first : Running = record { memory = start_of boot; store = mid; link = link } in
    let ended : Running = record { memory = end; store = now; link = link' } in
    let keeps = start_keeps before mid boot found start stand in
    let told = tells_found now.images last may in
    let mid_told = asks_told rows clock address s deliveries ending out first ended asks keeps told in
    let now_keeps = asks_keep rows clock address s deliveries ending out first ended asks keeps in
    let is : last ≡ rows = last_is rows last now.images may now_keeps.only in
    let did = started_did before mid boot found start stand rows (rows_told rows mid keeps mid_told) in
    record {
      starts = start_room found rows did.answer.0;
      rows = is;
      started = mid;
      end = end;
      sends = subst (λ (r : Rows). AsksAndSendsBy (IsSentOver r clock) clock address s deliveries ending out (record { memory = start_of (next_boot found); store = mid; link = link }) ended) (sym is)
          (subst (λ (n : ℕ). AsksAndSendsBy (IsSentOver rows clock) clock address s deliveries ending out (record { memory = start_of n; store = mid; link = link }) ended) did.answer.1
          (asks_over rows clock address s deliveries ending out first ended asks keeps told));
    }

pub was_not_begun : (ending : Ending) (out : Told) (link link' : ports.Told) (before now : Store) (fault : SourceFault) → StartsSource (Err fault) before now → RefusesStart fault → ending ≡ source_ending fault → IsUnwritten out → link' ≡ link
    → (found last : Rows) → Stand before found → MayFind now last → IsNotBegun ending out link link' found last
was_not_begun ending out link link' before now fault start refuses is unwritten same found last stand may =
    let effect : Rows → Effect SourceFault = λ rows. start_effect rows LOG_CAPACITY in
    let back = which_found (λ rows. GoesOver source_store effect next_boot (Err fault) rows last) before.images (goes_over source_store AreFormed effect next_boot before now last (Err fault) start.0 start.1 may) in
    (fault, refuses, is, unwritten, same, subst (λ (rows : Rows). GoesOver source_store effect next_boot (Err fault) rows last) (only_found before found back.0 stand back.1) back.2)

pub forwards_by_rows : ForwardsByRows
forwards_by_rows address s deliveries ending out clock link link' before now (inl (fault, start, refuses, is, unwritten, same)) = λ found last stand may.
    inl (was_not_begun ending out link link' before now fault start refuses is unwritten same found last stand may)
forwards_by_rows address s deliveries ending out clock link link' before now (inr (boot, mid, start, (end, asks))) = λ found last stand may.
    inr (was_begun address s deliveries ending out clock link link' before mid now boot end start asks found last stand may)
