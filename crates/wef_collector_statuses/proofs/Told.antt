-- What is written is what the definition says.
use Rattle.std.proofs.Common.{◌≡◌, ℕ, ◌<◌, ◌≤◌, ◌||◌, Bool, true, false, List, [], ◌∷◌, ◌++◌, map, length, nat_le, refl, sym, ap, ◌∙◌, subst, append_assoc, arith}
use Rattle.std.proofs.lemmas.Grind.{flat_map-append}
use Rattle.std.specs.Cmp.Lexicographic.{slice_cmp}
use Rattle.std.specs.List.{AllByRecursion, flat_map, list_all}
use Rattle.std.specs.List.Sorted.{IsStrictlySortedBy}
use Rattle.std.specs.Ordering.{match_ordering, nat_cmp}
use Rattle.std.specs.Prelude.{Option, Some, None, if◌then◌else◌}
use Rattle.std.specs.declared.cmp.Ordering.{Ordering}
use Rattle.std.specs.declared.cmp.Ordering.TheVariants.{Less, Equal, Greater}
use Rattle.wef_base.specs.declared.moments.TheConstants.{LAST_MOMENT}
use Rattle.wef_eventing.specs.declared.subscriptions.SourceAt.{SourceAt}
use Rattle.wef_eventing.specs.declared.subscriptions.Subscription.{Subscription}
use Rattle.wef_heartbeat.specs.Silence.{status_of}
use Rattle.wef_keeper.specs.Rows.{Rows}
use Rattle.wef_keeper.specs.declared.keys.Row.{Row}
use Rattle.wef_query.proofs.Sorting.{is-in_order}
use Rattle.wef_query.specs.Order.{IsInOrder, has, in_order, with_name, with_names}
use Rattle.wef_collector_reports.specs.Report.{heard_rows}
use Rattle.wef_collector_rows.specs.Forms.{is_formed, is_moment}
use Rattle.wef_collector_statuses.specs.Lines.{line_at, moment_of, names_behind, names_below, never_line, row_line, told}
use Rattle.wef_collector_statuses.specs.Statuses.{heard_at, source_status, sources_told, statuses_of, status_line}
use Rattle.wef_collector_statuses.specs.declared.lines.Telling.{Telling}
use Rattle.wef_collector_statuses.proofs.HeardRows.{IsHeard, heard_moments, never_heard, rows_are_heard, sources_in_order}
use Rattle.wef_collector_statuses.proofs.Merging.{Above, IsAbove, IsBelow, all_above, all_behind, all_below, all_both, behind_are, behind_in_order, below_are, merged, merged_is, not_there, other_name_too}

-- ---- lines by rows and by names

module _ (by : Telling) (line : List ℕ → List ℕ) where
  -- the line of a listed name that no row has is that of one that wasn't heard
  abbrev IsNever : List (List ℕ) → List ℕ → Type 0
  IsNever sources name = has sources name ≡ false → never_line by name ≡ line name

  all_lines : (names : List (List ℕ)) → AllByRecursion (λ (name : List ℕ). never_line by name ≡ line name) names → flat_map (never_line by) names ≡ flat_map line names
  all_lines [] all = refl
  all_lines (name ∷ names) all = λ i. all.0 i ++ all_lines names all.1 i

  -- names below a source, and below all that come behind it
  below_lines : (s : List ℕ) (sources names : List (List ℕ)) → Above s sources → AllByRecursion (IsNever (s ∷ sources)) names
      → flat_map (never_line by) (names_below s names) ≡ flat_map line (names_below s names)
  below_lines s sources names above never =
      all_lines (names_below s names)
      (all_both (IsBelow s) (IsNever (s ∷ sources)) (λ (name : List ℕ). never_line by name ≡ line name)
      (λ name less is. is (not_there name (s ∷ sources) (less, all_above name s sources less above))) (names_below s names)
      (below_are s names) (all_below (IsNever (s ∷ sources)) s names never))

  -- those that are left behind it
  behind_never : (s : List ℕ) (sources names : List (List ℕ)) → IsInOrder names → AllByRecursion (IsNever (s ∷ sources)) names → AllByRecursion (IsNever sources) (names_behind s names)
  behind_never s sources names sorted never =
      all_both (IsAbove s) (IsNever (s ∷ sources)) (IsNever sources)
      (λ name higher is none. is (λ i. other_name_too name s higher i || none i)) (names_behind s names)
      (behind_are s names sorted) (all_behind (IsNever (s ∷ sources)) s names never)

  merged_lines : (rows : List Row) (names : List (List ℕ)) → AllByRecursion (λ (row : Row). row_line by row ≡ line row.key.source) rows → IsInOrder (map (λ (row : Row). row.key.source) rows)
      → IsInOrder names → AllByRecursion (IsNever (map (λ (row : Row). row.key.source) rows)) names → told by rows names ≡ flat_map line (merged (map (λ (row : Row). row.key.source) rows) names)
  unfolding IsStrictlySortedBy
  merged_lines [] names heard rise sorted never = all_lines names (none_heard names never)
    where
      none_heard : (names : List (List ℕ)) → AllByRecursion (IsNever []) names → AllByRecursion (λ (name : List ℕ). never_line by name ≡ line name) names
      none_heard [] all = tt
      none_heard (name ∷ names) all = (all.0 refl, none_heard names all.1)
  merged_lines (row ∷ rows) names heard rise sorted never =
      let s = row.key.source in
      let sources = map (λ (r : Row). r.key.source) rows in
      let behind = names_behind s names in
      let rest = merged_lines rows behind heard.1 rise.1 (behind_in_order s names sorted) (behind_never s sources names sorted never) in
      (λ i. (below_lines s sources names rise.0 never i ++ heard.0 i) ++ rest i)
      ∙ append_assoc (flat_map line (names_below s names)) (line s) (flat_map line (merged sources behind))
      ∙ sym (flat_map-append line (names_below s names) (s ∷ merged sources behind))

-- ---- the names that are listed

pub name_all : (P : List ℕ → Type 0) (names : List (List ℕ)) (k : List ℕ) → AllByRecursion P names → P k → AllByRecursion P (with_name names k)
name_all P [] k all one = (one, tt)
name_all P (x ∷ xs) k all one = by (name_all P xs k all.1 one) (slice_cmp nat_cmp k x)
  where
    by : AllByRecursion P (with_name xs k) → (r : Ordering) → AllByRecursion P (match_ordering r (k ∷ x ∷ xs) (x ∷ xs) (x ∷ with_name xs k))
    by rest Less = (one, all)
    by rest Equal = all
    by rest Greater = (all.0, rest)

names_all : (P : List ℕ → Type 0) (names more : List (List ℕ)) → AllByRecursion P names → AllByRecursion P more → AllByRecursion P (with_names names more)
names_all P names [] all rest = all
names_all P names (k ∷ more) all rest = names_all P (with_name names k) more (name_all P names k all rest.0) rest.1

-- a name has a byte or more
abbrev pub IsSome : List ℕ → Type 0
IsSome name = 0 < length name

-- ---- the definition

abbrev telling : Subscription → List ℕ → ℕ → Telling
telling about u now = record { sub = u; heartbeat = about.heartbeat; moment = now }

heard_line : (rows : Rows) (about : Subscription) (u : List ℕ) (now : ℕ) (row : Row) → IsHeard u row → heard_at rows u row.key.source ≡ Some row.value
    → row_line (telling about u now) row ≡ source_status rows about u now row.key.source
heard_line rows about u now row heard at =
    let moment : moment_of row.value ≡ Some row.value = ap (λ (b : Bool). if b then Some row.value else None) heard.moment in
    ap (λ (o : Option ℕ). status_line u row.key.source (status_of o about.heartbeat now)) (moment ∙ sym at)

heard_lines : (rows : Rows) (about : Subscription) (u : List ℕ) (now : ℕ) (found : List Row) → AllByRecursion (IsHeard u) found → AllByRecursion (λ (row : Row). heard_at rows u row.key.source ≡ Some row.value) found
    → AllByRecursion (λ (row : Row). row_line (telling about u now) row ≡ source_status rows about u now row.key.source) found
heard_lines rows about u now [] heard at = tt
heard_lines rows about u now (row ∷ found) heard at = (heard_line rows about u now row heard.0 at.0, heard_lines rows about u now found heard.1 at.1)

never_lines : (rows : Rows) (about : Subscription) (u : List ℕ) (now : ℕ) (names : List (List ℕ)) → AllByRecursion IsSome names
    → AllByRecursion (IsNever (telling about u now) (source_status rows about u now) (map (λ (row : Row). row.key.source) (heard_rows rows u))) names
never_lines rows about u now [] some = tt
never_lines rows about u now (name ∷ names) some = (
  λ none. ap (λ (o : Option ℕ). status_line u name (status_of o about.heartbeat now)) (sym (never_heard rows u name some.0 none)),
  never_lines rows about u now names some.1,
)

pub lines_are : (rows : Rows) (about : Subscription) (u : List ℕ) (now : ℕ) → list_all is_formed (heard_rows rows u) ≡ true → AllByRecursion IsSome (map (λ (at : SourceAt). at.name) about.sources)
    → told (telling about u now) (heard_rows rows u) (in_order (map (λ (at : SourceAt). at.name) about.sources)) ≡ statuses_of rows about u now
lines_are rows about u now formed some =
    let names = map (λ (at : SourceAt). at.name) about.sources in
    let sources = map (λ (row : Row). row.key.source) (heard_rows rows u) in
    let rise = sources_in_order rows u formed in
    merged_lines (telling about u now) (source_status rows about u now) (heard_rows rows u) (in_order names)
    (heard_lines rows about u now (heard_rows rows u) (rows_are_heard rows u formed) (heard_moments rows u formed)) rise (is-in_order names)
    (never_lines rows about u now (in_order names) (names_all IsSome [] names tt some))
    ∙ ap (flat_map (source_status rows about u now)) (merged_is sources names rise)
