-- The channels of a subscription that rows keep have names such as a reader gives, and its sources are found by their names.
use Rattle.std.proofs.Common.{◌≡◌, ℕ, ◌==◌, Bool, true, false, cond, List, [], ◌∷◌, refl, ap, subst, ◌∙◌}
use Rattle.std.proofs.lemmas.Str.{is_utf8-from_IsUtf8}
use Rattle.std.specs.Str.{is_utf8}
use Rattle.wef_collector.proofs.Hits.{same_self}
use Rattle.wef_documents.proofs.KeptBack.{kept_names}
use Rattle.wef_eventing.specs.Kept.{HasKeptName}
use Rattle.wef_query.specs.Items.{QueryItem}
use Rattle.std.proofs.lemmas.Bool.{and_from, and_parts, cond_both}
use Rattle.std.proofs.lemmas.Option.{none-some, same_Some}
use Rattle.std.specs.Cmp.Lexicographic.{slice_cmp}
use Rattle.std.specs.FinMap as finite
use Rattle.std.specs.List.{AllByRecursion, list_all}
use Rattle.std.specs.Ordering.{match_ordering, nat_cmp}
use Rattle.std.specs.Prelude.{Option, Some, None, IfSome}
use Rattle.std.specs.declared.cmp.Ordering.{Ordering}
use Rattle.std.specs.declared.cmp.Ordering.TheVariants.{Less, Equal, Greater}
use Rattle.wef_base.specs.Names.{channel_name}
use Rattle.wef_batch.proofs.Reached.{holds_in}
use Rattle.wef_batch.specs.WellFormed.{is_in}
use Rattle.wef_collector_rows.specs.Answers.{channels_read}
use Rattle.wef_collector_rows.specs.Keys.{subscription_key}
use Rattle.wef_collector_rows.specs.Standing.{standing_by, standing_of}
use Rattle.wef_collector_rows.specs.declared.standings.Standing.TheVariants.{Ended, Live}
use Rattle.wef_documents.specs.Kept.{read_kept}
use Rattle.wef_eventing.specs.declared.subscriptions.Subscription.{Subscription}
use Rattle.wef_keeper.specs.Rows.{Rows}
use Rattle.wef_keeper.specs.declared.keys.Cell.{Cell}
use Rattle.wef_query.specs.Order.{in_order, with_name, with_names}
use Rattle.wef_query.specs.Selected.{selects}
use Rattle.wef_replay.proofs.Gifts.{AllOf}
use Rattle.wef_replay.specs.Good.{is_channel, is_one}
use Rattle.wef_pairs.specs.Pairs.{about_of, subscription_at}
use Rattle.wef_safety.specs.Kept.{AreAddressed}
use Rattle.wef_safety.proofs.RowMoves.{AreRowsKept}

-- all names are such
abbrev pub AreGood : List (List ℕ) → Type 0
AreGood cs = list_all is_channel cs ≡ true

-- ---- the document that keeps a subscription

-- a channel that its type keeps has a good name
named_good : (item : QueryItem) → HasKeptName item → is_channel item.channel ≡ true
named_good item kept =
    and_from (is_utf8 item.channel) (is_one item.channel (channel_name item.channel)) (is_utf8-from_IsUtf8 item.channel kept.utf8)
    (ap (is_one item.channel) kept.reads_back ∙ same_self item.channel)

selects_good : (items : List QueryItem) → AllByRecursion HasKeptName items → AreGood (selects items)
selects_good [] kept = refl
selects_good (item ∷ items) kept =
    cond_both item.suppress (selects items) (item.channel ∷ selects items) AreGood (λ _. selects_good items kept.1)
    (λ _. and_from (is_channel item.channel) (list_all is_channel (selects items)) (named_good item kept.0) (selects_good items kept.1))

-- the channels that a subscription asks for have good names
abbrev pub AsksForGood : Subscription → Type 0
AsksForGood about = AreGood (selects about.query.items)

-- so it is of each that is kept
pub kept_of : (P : Subscription → Type 0) (name body : List ℕ) → ((s : Subscription) → read_kept name body ≡ Some s → P s) → AllOf P (read_kept name body)
kept_of P name body holds = by (read_kept name body) holds
  where
    by : (o : Option Subscription) → ((s : Subscription) → o ≡ Some s → P s) → AllOf P o
    by None holds = tt
    by (Some s) holds = holds s refl

pub read_good : (name body : List ℕ) → AllOf AsksForGood (read_kept name body)
read_good name body = kept_of AsksForGood name body (λ s is. selects_good s.query.items (kept_names name body s is).query)

-- ---- names in order

good_with_name : (names : List (List ℕ)) (k : List ℕ) → AreGood names → is_channel k ≡ true → AreGood (with_name names k)
good_with_name [] k good is = and_from (is_channel k) true is refl
good_with_name (x ∷ names) k good is = by (slice_cmp nat_cmp k x) (good_with_name names k rest is)
  where
    rest : AreGood names
    rest = (and_parts (is_channel x) (list_all is_channel names) good).1

    by : (o : Ordering) → AreGood (with_name names k) → AreGood (match_ordering o (k ∷ x ∷ names) (x ∷ names) (x ∷ with_name names k))
    by Less more = and_from (is_channel k) (list_all is_channel (x ∷ names)) is good
    by Equal more = good
    by Greater more = and_from (is_channel x) (list_all is_channel (with_name names k)) (and_parts (is_channel x) (list_all is_channel names) good).0 more

good_with_names : (names more : List (List ℕ)) → AreGood names → AreGood more → AreGood (with_names names more)
good_with_names names [] good rest = good
good_with_names names (k ∷ more) good rest =
    let parts = and_parts (is_channel k) (list_all is_channel more) rest in
    good_with_names (with_name names k) more (good_with_name names k good parts.0) parts.1

-- ---- the subscription of rows

of_some : {X : Type 0} (P : X → Type 0) (o : Option X) (x : X) → AllOf P o → o ≡ Some x → P x
of_some P None x all e = absurd (none-some x e)
of_some P (Some y) x all e = subst P (same_Some y x e) all

-- what holds of the subscription that the document of a cell keeps holds of that of the cell
of_document : (P : Subscription → Type 0) (u : List ℕ) (cell : Cell) → AllOf P (read_kept u cell.body) → AllOf P (about_of (standing_of u (Some cell)))
of_document P u cell reads = by (read_kept u cell.body) reads
  where
    live : (t : Bool) (about : Subscription) → P about → AllOf P (about_of (cond t (Live about) (Ended about)))
    live true about holds = holds
    live false about holds = holds

    by : (o : Option Subscription) → AllOf P o → AllOf P (about_of (standing_by cell.value o))
    by None holds = tt
    by (Some about) holds = live (cell.value == 0) about holds

-- what holds of each subscription that a document keeps holds of that of a cell
of_cell : (P : Subscription → Type 0) (u : List ℕ) → ((body : List ℕ) → AllOf P (read_kept u body)) → (o : Option Cell) → AllOf P (about_of (standing_of u o))
of_cell P u reads None = tt
of_cell P u reads (Some cell) = of_document P u cell (reads cell.body)

-- and of each subscription of the rows
pub known_has : (P : Subscription → Type 0) (rows : Rows) (u : List ℕ) (about : Subscription) → ((body : List ℕ) → AllOf P (read_kept u body)) → subscription_at rows u ≡ Some about → P about
known_has P rows u about reads known = of_some P (subscription_at rows u) about (of_cell P u reads (finite.get rows (subscription_key u))) known

-- each channel that a subscription of the rows reads has a good name
pub known_channels : (rows : Rows) (u : List ℕ) (about : Subscription) → subscription_at rows u ≡ Some about → (c : List ℕ) → is_in (channels_read about) c ≡ true → is_channel c ≡ true
known_channels rows u about known c here =
    holds_in is_channel (in_order (selects about.query.items)) c
    (good_with_names [] (selects about.query.items) refl (known_has AsksForGood rows u about (read_good u) known)) here

-- the two ways to say what holds of a value, where there is one, are one
all_of : {X : Type 0} (P : X → Type 0) (o : Option X) → IfSome o P → AllOf P o
all_of P None holds = tt
all_of P (Some x) holds = holds

-- the sources of a subscription of the rows are found by their names
pub known_addressed : (rows : Rows) (u : List ℕ) (about : Subscription) → AreRowsKept rows → subscription_at rows u ≡ Some about → AreAddressed about
known_addressed rows u about kept known = of_some AreAddressed (subscription_at rows u) about (by (finite.get rows (subscription_key u)) refl) known
  where
    by : (o : Option Cell) → finite.get rows (subscription_key u) ≡ o → AllOf AreAddressed (about_of (standing_of u o))
    by None there = tt
    by (Some cell) there = of_document AreAddressed u cell (all_of AreAddressed (read_kept u cell.body) ((kept (subscription_key u) cell there).sources refl))
