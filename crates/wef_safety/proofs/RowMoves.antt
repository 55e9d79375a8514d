-- What the collector does to its rows lets them grow, and keeps of each what is kept of it.
use Rattle.std.proofs.Common.{◌≡◌, ◌≢◌, ℕ, ◌≤◌, ◌==◌, Bool, true, false, cond, List, [], ◌∷◌, refl, ap, sym, ◌∙◌, subst, arith}
use Rattle.std.proofs.lemmas.Bool.{cond_both}
use Rattle.std.proofs.lemmas.Option.{none-some, same_Some}
use Rattle.std.proofs.lemmas.Bool.Decides.{nat_tests}
use Rattle.std.specs.Prelude.{Option, Some, None, IfSome, max, unwrap_or, is_some}
use Rattle.std.specs.FinMap as finite
use Rattle.std.specs.List.{AllByRecursion}
use Rattle.std.specs.Ordering.{eq_by_cmp}
use Rattle.wef_base.specs.Names.{same}
use Rattle.wef_batch.specs.Reach.{last_in, reach, reach_of}
use Rattle.wef_batch.specs.WellFormed.{is_in}
use Rattle.wef_batch.specs.declared.items.Batch.{Batch}
use Rattle.wef_bookmark.specs.Order.{number_at}
use Rattle.wef_collector.proofs.Batches.{bookmark_never_falls}
use Rattle.wef_collector.proofs.Hits.{hits, not_both, one_key, one_name, refuted, same_self}
use Rattle.wef_collector.proofs.Moving.{bookmark_by_taking}
use Rattle.wef_collector_leases.specs.Changes.{put_lease}
use Rattle.wef_collector_leases.specs.declared.leases.Lease.{Lease}
use Rattle.wef_collector_rows.specs.Answers.{added_rows, ended_rows, is_there}
use Rattle.wef_collector_rows.specs.Bookmarks.{bookmark_at}
use Rattle.wef_collector_rows.specs.Keys.{bookmark_key, heard_key, held_key, loose_key, mark_key, subscription_key}
use Rattle.wef_collector.specs.Laws.{moved}
use Rattle.wef_collector_rows.specs.Standing.{kept_body, standing, standing_of}
use Rattle.wef_collector.specs.Taken.{taken}
use Rattle.wef_collector_rows.specs.declared.standings.Standing.TheVariants as is
use Rattle.wef_documents.specs.Kept.{read_kept}
use Rattle.wef_documents.specs.Written.{document_text}
use Rattle.wef_eventing.specs.declared.subscriptions.Subscription.{Subscription}
use Rattle.wef_front_source.specs.Sending.{IsPlainText}
use Rattle.wef_keeper.specs.Rows.{Rows, applied, cell_of_row, changed, key_cmp, key_cmp_total}
use Rattle.wef_keeper.specs.declared.keys.Cell.{Cell}
use Rattle.wef_keeper.specs.declared.keys.Change.{Change}
use Rattle.wef_keeper.specs.declared.keys.Change.TheVariants.{Put, Delete}
use Rattle.wef_keeper.specs.declared.keys.Key.{Key}
use Rattle.wef_replay.specs.Good.{is_channel, is_subscription}
use Rattle.wef_pairs.specs.Pairs.{about_of, subscription_at}
use Rattle.wef_pairs.proofs.Spared.{IsMissed, spared}
use Rattle.wef_pairs.proofs.Takes.{adding_spares, bookmark_alike, kind_apart, bookmark_moved, ending_spares, others_by_adding, others_by_ending, standing_by_ending, standing_by_taking}
use Rattle.wef_safety.specs.Kept.{AreAddressed, IsBehind, IsRowKept}
use Rattle.wef_safety.proofs.Growing.{RowsGrow}

-- each row is such as the collector puts
abbrev pub AreRowsKept : Rows → Type 0
AreRowsKept rows = (key : Key) (cell : Cell) → finite.get rows key ≡ Some cell → IsRowKept key cell

-- ---- a batch

pub subscription_by_taking : (rows : Rows) (u s : List ℕ) (channels : List (List ℕ)) (batch : Batch) (now : ℕ) (v : List ℕ) →
    subscription_at (taken rows u s channels batch now) v ≡ subscription_at rows v
subscription_by_taking rows u s channels batch now v = ap about_of (standing_by_taking rows u s channels batch now v)

pub taking_grows : (rows : Rows) (u s : List ℕ) (channels : List (List ℕ)) (batch : Batch) (now : ℕ) → RowsGrow rows (taken rows u s channels batch now)
taking_grows rows u s channels batch now = record {
  known = λ v about e. subscription_by_taking rows u s channels batch now v ∙ e;
  bookmarks = λ v r c. bookmark_never_falls rows u s channels ((batch, now) ∷ []) v r c;
}

other_key : (k q : Key) → (k ≡ q → ⊥) → hits k q ≡ false
other_key k q other = refuted _ (λ hit. other (one_key k q hit))

-- a key is of no row that a batch changes beside bookmarks
abbrev IsApart : Key → Type 0
IsApart q = 3 ≤ q.kind → q.kind ≤ 6 → ⊥

no_kind : (n kind : ℕ) → (3 ≤ kind → kind ≤ 6 → ⊥) → 3 ≤ n → n ≤ 6 → n ≡ kind → ⊥
no_kind n kind apart least greatest e = apart (omega arith) (omega arith)

missed : (u s d : List ℕ) (q : Key) → IsApart q → hits (bookmark_key u s d) q ≡ false → IsMissed u s d q
missed u s d q apart bookmark = record {
  bookmark = bookmark;
  held = λ n. kind_apart (held_key u s d n) q (no_kind 3 q.kind apart (omega arith) (omega arith));
  marks = λ n. kind_apart (mark_key u s d n) q (no_kind 4 q.kind apart (omega arith) (omega arith));
  loose = λ n. kind_apart (loose_key u s d n) q (no_kind 5 q.kind apart (omega arith) (omega arith));
}

same_by_taking : (rows : Rows) (u s : List ℕ) (channels : List (List ℕ)) (batch : Batch) (now : ℕ) (q : Key) → IsApart q →
    ((d : List ℕ) → is_in channels d ≡ true → hits (bookmark_key u s d) q ≡ false) → finite.get (taken rows u s channels batch now) q ≡ finite.get rows q
same_by_taking rows u s channels batch now q apart bookmarks =
    spared rows u s channels batch now q (λ d listed. missed u s d q apart (bookmarks d listed)) (kind_apart (heard_key u s) q (no_kind 6 q.kind apart (omega arith) (omega arith)))

number_or : (n : ℕ) → (n == 0 ≡ false → n ≡ 0) → n ≡ 0
number_or n other = by_test (n == 0) refl
  where
    by_test : (t : Bool) → n == 0 ≡ t → n ≡ 0
    by_test true is = grind (arith, nat_tests, is)
    by_test false is = other is

not_zero : (n : ℕ) → n == 0 ≡ false → n ≡ 0 → ⊥
not_zero n e f = grind (arith, nat_tests, e, f)

true_or : (t : Bool) → (t ≡ false → t ≡ true) → t ≡ true
true_or true other = refl
true_or false other = other refl

-- a batch touches no row of a subscription or a lease, and no bookmark but those of channels, which have good names and no number
pub kept_by_taking : (rows : Rows) (u s : List ℕ) (channels : List (List ℕ)) (batch : Batch) (now : ℕ) → ((c : List ℕ) → is_in channels c ≡ true → is_channel c ≡ true) →
    AreRowsKept rows → AreRowsKept (taken rows u s channels batch now)
kept_by_taking rows u s channels batch now named kept key cell e =
    let before = λ (apart : IsApart key) (bookmarks : (d : List ℕ) → is_in channels d ≡ true → hits (bookmark_key u s d) key ≡ false).
    kept key cell (sym (same_by_taking rows u s channels batch now key apart bookmarks) ∙ e) in
    let others = λ (apart : IsApart key) (other : 2 ≡ key.kind → ⊥). before apart (λ d listed. kind_apart (bookmark_key u s d) key other) in
    record {
      name = λ kind. (others (λ least greatest. omega arith) (λ two. omega arith)).name kind;
      subscription = λ kind. (others (λ least greatest. omega arith) (λ two. omega arith)).subscription kind;
      sources = λ kind. (others (λ least greatest. omega arith) (λ two. omega arith)).sources kind;
      bookmark = λ kind. number_or key.number (λ other.
          (before (λ least greatest. omega arith) (λ d listed.
          other_key (bookmark_key u s d) key (λ same_key. not_zero key.number other (sym (ap (λ (x : Key). x.number) same_key))))).bookmark kind);
      channel = λ kind. true_or (is_channel key.channel) (λ bad.
          (before (λ least greatest. omega arith) (λ d listed.
          other_key (bookmark_key u s d) key (λ same_key.
          not_both (subst (λ (c : List ℕ). is_channel c ≡ true) (ap (λ (x : Key). x.channel) same_key) (named d listed)) bad))).channel kind);
      lease = λ kind. (others (λ least greatest. omega arith) (λ two. omega arith)).lease kind;
    }

-- what a batch reads is kept once it is taken, where it says nothing of other channels
pub taking_covers : (rows : Rows) (u s : List ℕ) (channels : List (List ℕ)) (batch : Batch) (now : ℕ) →
    ((c : List ℕ) → is_in channels c ≡ false → finite.get batch.to c ≡ None) → IsBehind (taken rows u s channels batch now) u s batch.to
taking_covers rows u s channels batch now others c = subst (λ (n : ℕ). number_at batch.to c ≤ n) (sym (bookmark_by_taking rows u s channels batch now c)) (by_channel (is_in channels c) refl)
  where
    reached : (o last : Option ℕ) (b : ℕ) → unwrap_or o 0 ≤ moved b (reach_of o last)
    reached None last b = omega arith
    reached (Some t) last b = omega arith

    by_channel : (t : Bool) → is_in channels c ≡ t → number_at batch.to c ≤ cond t (moved (bookmark_at rows u s c) (reach c batch)) (bookmark_at rows u s c)
    by_channel true listed = reached (finite.get batch.to c) (last_in c batch.items) (bookmark_at rows u s c)
    by_channel false listed = let none = ap (λ (o : Option ℕ). unwrap_or o 0) (others c listed) in omega arith

-- and each listed channel at least as far as the batch reads it
pub taking_reaches : (rows : Rows) (u s : List ℕ) (channels : List (List ℕ)) (batch : Batch) (now : ℕ) (c : List ℕ) (t : ℕ) → is_in channels c ≡ true → reach c batch ≡ Some t →
    t ≤ bookmark_at (taken rows u s channels batch now) u s c
taking_reaches rows u s channels batch now c t listed reached =
    let is : bookmark_at (taken rows u s channels batch now) u s c ≡ max (bookmark_at rows u s c) t = bookmark_moved rows u s channels batch now c listed ∙ ap (moved (bookmark_at rows u s c)) reached in
    omega arith

-- ---- changes of rows

-- what holds of the key that is put, and of each that was there, holds of all
row_there : (rows : Rows) (key : Key) (cell : Cell) (q : Key) (P : Option Cell → Type 0) → (q ≡ key → P (Some cell)) → P (finite.get rows q) → P (finite.get (finite.insert rows key cell) q)
row_there rows key cell q P at_it elsewhere =
    subst P (sym (finite.get-insert key_cmp_total rows key cell q)) (by_test (eq_by_cmp key_cmp q key) refl)
  where
    by_test : (t : Bool) → hits q key ≡ t → P (cond t (Some cell) (finite.get rows q))
    by_test true hit = at_it (one_key q key hit)
    by_test false hit = elsewhere

-- what holds where nothing stands, and of what stood at a key, holds once another goes
row_gone : (rows : Rows) (key q : Key) (P : Option Cell → Type 0) → P None → P (finite.get rows q) → P (finite.get (finite.remove rows key) q)
row_gone rows key q P gone elsewhere =
    subst P (sym (finite.get-remove key_cmp_total rows key q)) (cond_both (eq_by_cmp key_cmp q key) None (finite.get rows q) P (λ hit. gone) (λ other. elsewhere))

kept_with : (rows : Rows) (key : Key) (cell : Cell) → IsRowKept key cell → AreRowsKept rows → AreRowsKept (finite.insert rows key cell)
kept_with rows key cell is kept q found e =
    row_there rows key cell q (λ (o : Option Cell). o ≡ Some found → IsRowKept q found)
    (λ at put. subst (λ (x : Key × Cell). IsRowKept x.0 x.1) (λ i. (sym at i, same_Some cell found put i)) is) (kept q found) e

kept_without : (rows : Rows) (key : Key) → AreRowsKept rows → AreRowsKept (finite.remove rows key)
kept_without rows key kept q found e = row_gone rows key q (λ (o : Option Cell). o ≡ Some found → IsRowKept q found) (λ none. absurd (none-some found none)) (kept q found) e

-- what a change puts is such as the collector puts
abbrev pub IsChangeKept : Change → Type 0
IsChangeKept (Put row) = IsRowKept row.key (cell_of_row row)
IsChangeKept (Delete key) = Unit {0}

kept_by_change : (change : Change) (rows : Rows) → IsChangeKept change → AreRowsKept rows → AreRowsKept (changed change rows)
kept_by_change (Put row) rows is kept = kept_with rows row.key (cell_of_row row) is kept
kept_by_change (Delete key) rows is kept = kept_without rows key kept

pub kept_by_changes : (changes : List Change) (rows : Rows) → AllByRecursion IsChangeKept changes → AreRowsKept rows → AreRowsKept (applied changes rows)
kept_by_changes [] rows all kept = kept
kept_by_changes (change ∷ changes) rows all kept = kept_by_changes changes (changed change rows) all.1 (kept_by_change change rows all.0 kept)

-- ---- leases

-- a lease is put that names its session in a text that a header says as it is
pub lease_put : (u s : List ℕ) (lease : Lease) → IsPlainText lease.identifier → IsChangeKept (put_lease u s lease)
lease_put u s lease plain = record {
  name = λ kind. absurd (omega arith);
  subscription = λ kind. absurd (omega arith);
  sources = λ kind. absurd (omega arith);
  bookmark = λ kind. absurd (omega arith);
  channel = λ kind. absurd (omega arith);
  lease = λ kind. plain;
}

-- ---- a subscription that begins or ends

-- the row of a subscription
row_is : (u : List ℕ) (cell : Cell) → is_subscription u ≡ true → IfSome (read_kept u cell.body) AreAddressed → IsRowKept (subscription_key u) cell
row_is u cell good addressed = record {
  name = λ kind. good;
  subscription = λ kind. refl;
  sources = λ kind. addressed;
  bookmark = λ kind. absurd (omega arith);
  channel = λ kind. absurd (omega arith);
  lease = λ kind. absurd (omega arith);
}

pub kept_by_adding : (rows : Rows) (about : Subscription) → is_subscription about.name ≡ true → read_kept about.name (document_text about) ≡ Some about → AreAddressed about →
    AreRowsKept rows → AreRowsKept (added_rows rows about)
kept_by_adding rows about good back addressed kept =
    let cell : Cell = record { value = 0; body = document_text about } in
    kept_with rows (subscription_key about.name) cell (row_is about.name cell good (subst (λ (o : Option Subscription). IfSome o AreAddressed) (sym back) addressed)) kept

pub subscription_by_adding : (rows : Rows) (about : Subscription) (v : List ℕ) → (about.name ≢ v) → subscription_at (added_rows rows about) v ≡ subscription_at rows v
subscription_by_adding rows about v other = ap about_of (others_by_adding rows about v other)

-- a name that isn't there is that of no subscription
pub unknown : (rows : Rows) (u : List ℕ) → is_there rows u ≡ false → subscription_at rows u ≡ None
unknown rows u none = by_cell (finite.get rows (subscription_key u)) none
  where
    by_cell : (o : Option Cell) → is_some o ≡ false → about_of (standing_of u o) ≡ None
    by_cell None e = refl
    by_cell (Some cell) e = cc

pub adding_grows : (rows : Rows) (about : Subscription) → is_there rows about.name ≡ false → RowsGrow rows (added_rows rows about)
adding_grows rows about none = record {
  known = λ v other e.
      subscription_by_adding rows about v
      (λ is. none-some other (sym (unknown rows about.name none) ∙ ap (subscription_at rows) is ∙ e)) ∙ e;
  bookmarks = λ u s c. let same_number = bookmark_alike (added_rows rows about) rows u s c (adding_spares rows about u s c) in omega arith;
}

pub subscription_by_ending : (rows : Rows) (u : List ℕ) (about : Subscription) (v : List ℕ) → standing rows u ≡ is.Live about →
    subscription_at (ended_rows rows u) v ≡ subscription_at rows v
subscription_by_ending rows u about v live = by_name (same u v) refl
  where
    by_name : (t : Bool) → same u v ≡ t → subscription_at (ended_rows rows u) v ≡ subscription_at rows v
    by_name true is =
        subst (λ (w : List ℕ). subscription_at (ended_rows rows u) w ≡ subscription_at rows w) (one_name u v is)
        (ap about_of (standing_by_ending rows u about live) ∙ sym (ap about_of live))
    by_name false other = ap about_of (others_by_ending rows u v (λ e. not_both (subst (λ (w : List ℕ). same u w ≡ true) e (same_self u)) other))

pub ending_grows : (rows : Rows) (u : List ℕ) (about : Subscription) → standing rows u ≡ is.Live about → RowsGrow rows (ended_rows rows u)
ending_grows rows u about live = record {
  known = λ v other e. subscription_by_ending rows u about v live ∙ e;
  bookmarks = λ v s c. let same_number = bookmark_alike (ended_rows rows u) rows v s c (ending_spares rows u v s c) in omega arith;
}

-- the name of a subscription that is there is a good one
pub known_name : (rows : Rows) (u : List ℕ) (about : Subscription) → AreRowsKept rows → subscription_at rows u ≡ Some about → is_subscription u ≡ true
known_name rows u about kept known = by_cell (finite.get rows (subscription_key u)) refl known
  where
    by_cell : (o : Option Cell) → finite.get rows (subscription_key u) ≡ o → about_of (standing_of u o) ≡ Some about → is_subscription u ≡ true
    by_cell None e there = absurd (none-some about there)
    by_cell (Some cell) e there = (kept (subscription_key u) cell e).name refl

-- the document that keeps a live subscription
live_sources : (rows : Rows) (u : List ℕ) (about : Subscription) → AreRowsKept rows → standing rows u ≡ is.Live about →
    IfSome (read_kept u (kept_body (finite.get rows (subscription_key u)))) AreAddressed
live_sources rows u about kept live = by_cell (finite.get rows (subscription_key u)) refl live
  where
    by_cell : (o : Option Cell) → finite.get rows (subscription_key u) ≡ o → standing_of u o ≡ is.Live about → IfSome (read_kept u (kept_body o)) AreAddressed
    by_cell None e there = absurd (none-some about (ap about_of there))
    by_cell (Some cell) e there = (kept (subscription_key u) cell e).sources refl

pub kept_by_ending : (rows : Rows) (u : List ℕ) (about : Subscription) → standing rows u ≡ is.Live about → AreRowsKept rows → AreRowsKept (ended_rows rows u)
kept_by_ending rows u about live kept =
    let cell : Cell = record { value = 1; body = kept_body (finite.get rows (subscription_key u)) } in
    kept_with rows (subscription_key u) cell (row_is u cell (known_name rows u about kept (ap about_of live)) (live_sources rows u about kept live)) kept
