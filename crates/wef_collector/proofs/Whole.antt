-- Where the rows that are read are of their form, none of them is passed over.
use Rattle.std.proofs.Common.{◌≡◌, ℕ, ◌==◌, nat_eq, nat_le, max, Bool, true, false, cond, ◌&&◌, List, [], ◌∷◌, map, refl, sym, ap, ◌∙◌, subst, arith, inl, inr, if◌then◌else◌}
use Rattle.std.proofs.lemmas.Bool.{and_parts, eqb-true}
use Rattle.std.proofs.lemmas.List.Elements.{All-nil, All-cons, All-head, All-tail, filter_passes}
use Rattle.std.specs.Cmp.{eq_by_cmp_equiv}
use Rattle.std.specs.Cmp.Lexicographic.{bytes_decides, nat_list_cmp_total, pointwise}
use Rattle.std.specs.FinMap as finite
use Rattle.std.specs.List.{All, cons_option, filter, filter_map, list_all}
use Rattle.std.specs.Option.{option_and_then, option_map}
use Rattle.std.specs.Ordering.{eq_by_cmp}
use Rattle.std.specs.Prelude.{Option, Some, None, is_some, unwrap_or, IfSome, ◌⊎◌}
use Rattle.wef_base.specs.Names.{subscription_name}
use Rattle.wef_bookmark.specs.Order.{Marks, number_at, raised}
use Rattle.wef_bookmark.proofs.Joining.{get-raised, order}
use Rattle.wef_bookmark.proofs.Joining as joining
use Rattle.wef_documents.specs.Kept.{read_kept}
use Rattle.wef_eventing.specs.declared.subscriptions.Subscription.{Subscription}
use Rattle.wef_keeper.proofs.Stands.{Stands, rows_stand}
use Rattle.wef_keeper.specs.Rows.{Rows, row_of, rows_after}
use Rattle.wef_keeper.specs.Sections.{is_under}
use Rattle.wef_keeper.specs.declared.keys.Cell.{Cell}
use Rattle.wef_keeper.specs.declared.keys.Depth.TheVariants.{Kind, Source}
use Rattle.wef_keeper.specs.declared.keys.Key.{Key}
use Rattle.wef_keeper.specs.declared.keys.Row.{Row}
use Rattle.wef_collector_rows.specs.Answers.{is_known}
use Rattle.wef_collector_rows.specs.Bookmarks.{bookmark_at, bookmark_rows, has_channel, is_one, raised_by_rows}
use Rattle.wef_collector_rows.specs.Forms.{is_bookmark_row, is_channel_name, is_empty, is_formed, is_number, is_subscription_name, is_subscription_row, names_channel, names_source}
use Rattle.wef_collector_rows.specs.Keys.{bookmark_key, subscription_key}
use Rattle.wef_collector_rows.specs.Standing.{standing_by, standing_of, subscription_rows}
use Rattle.wef_collector_rows.specs.declared.standings.Standing.TheVariants.{Ended, Live}
use Rattle.wef_collector_rows.proofs.BookmarkRows.{bookmarks_formed}
use Rattle.wef_collector_reports.specs.Listing.{listed_by, listed_of}
use Rattle.wef_collector_reports.specs.declared.listing.Listed.{Listed}
use Rattle.wef_collector.specs.Whole.{SkipsNothing}
use Rattle.wef_collector.proofs.Hits.{one_name}

-- ---- a subscription's row of its form

named_itself : (name : List ℕ) (given : Option (List ℕ)) → is_one name given ≡ true → given ≡ Some name
named_itself name None e = cc
named_itself name (Some given) e = ap (λ (x : List ℕ). Some x) (sym (one_name name given e))

record IsKept (u body : List ℕ) : Type 0 where
  name : is_subscription_name u ≡ true
  reads : is_some (read_kept u body) ≡ true

row_kept : (row : Row) → is_subscription_row row ≡ true → IsKept row.key.sub row.body
unfolding is_subscription_row
row_kept row e =
    let name = is_subscription_name row.key.sub in
    let source = is_empty row.key.source in
    let channel = is_empty row.key.channel in
    let zero = row.key.number == 0 in
    let value = nat_le row.value 1 in
    let a = and_parts (name && source && channel && zero && value) (is_some (read_kept row.key.sub row.body)) e in
    let b = and_parts (name && source && channel && zero) value a.0 in
    let c = and_parts (name && source && channel) zero b.0 in
    let d = and_parts (name && source) channel c.0 in
    record { name = (and_parts name source d.0).0; reads = a.1 }

-- a key of a kind
abbrev of_kind : ℕ → Key → Key
of_kind kind k = record { kind = kind; sub = k.sub; source = k.source; channel = k.channel; number = k.number }

as_subscription : (row : Row) → row.key.kind ≡ 1 → is_formed row ≡ is_subscription_row row
unfolding is_formed is_subscription_row
as_subscription row kind = ap (λ (n : ℕ). is_formed (record { key = of_kind n row.key; value = row.value; body = row.body })) kind

some_map : {X Y : Type 0} (f : X → Y) (o : Option X) → is_some o ≡ true → is_some (option_map f o) ≡ true
some_map f None e = e
some_map f (Some x) e = e

is_listed : (row : Row) → IsKept row.key.sub row.body → is_some (listed_of row) ≡ true
is_listed row kept =
    ap (λ (name : Option (List ℕ)). is_some (option_and_then (λ u. option_map (listed_by row.value) (read_kept u row.body)) name)) (named_itself row.key.sub (subscription_name row.key.sub) kept.name)
    ∙ some_map (listed_by row.value) (read_kept row.key.sub row.body) kept.reads

all_listed : (rs : List Row) → All (λ (row : Row). nat_eq 1 row.key.kind ≡ true) rs → list_all is_formed rs ≡ true → map (λ (l : Listed). Some l) (filter_map listed_of rs) ≡ map listed_of rs
all_listed [] kinds formed = refl
all_listed (row ∷ rs) kinds formed =
    let K = λ (r : Row). nat_eq 1 r.key.kind ≡ true in
    let both = and_parts (is_formed row) (list_all is_formed rs) formed in
    let kind : row.key.kind ≡ 1 = sym (eqb-true 1 row.key.kind (All-head K row rs kinds)) in
    by (listed_of row) (is_listed row (row_kept row (sym (as_subscription row kind) ∙ both.0))) (all_listed rs (All-tail K row rs kinds) both.1)
  where
    by : (o : Option Listed) → is_some o ≡ true → map (λ (l : Listed). Some l) (filter_map listed_of rs) ≡ map listed_of rs → map (λ (l : Listed). Some l) (cons_option o (filter_map listed_of rs)) ≡ o ∷ map listed_of rs
    by None e rest = let bad : ⊥ = cc in absurd bad
    by (Some l) e rest = ap (λ (ys : List (Option Listed)). Some l ∷ ys) rest

-- ---- a name's standing

known_by : (value : ℕ) (read : Option Subscription) → is_some read ≡ true → is_known (standing_by value read) ≡ true
known_by value None e = e
known_by value (Some s) e = by (value == 0)
  where
    by : (t : Bool) → is_known (if t then Live s else Ended s) ≡ true
    by true = refl
    by false = refl

known_as : (u : List ℕ) (found : Option Cell) → IfSome (option_map (λ cell. row_of (subscription_key u, cell)) found) (λ row. is_formed row ≡ true) → is_known (standing_of u found) ≡ is_some found
unfolding is_formed
known_as u None formed = refl
known_as u (Some cell) formed = known_by cell.value (read_kept u cell.body) (row_kept (row_of (subscription_key u, cell)) formed).reads

-- ---- a bookmark's rows of their form

record IsMark (u s : List ℕ) (row : Row) : Type 0 where
  own : row.key ≡ bookmark_key u s row.key.channel
  named : has_channel row ≡ true

mark_of : (u s : List ℕ) (row : Row) → is_under Source (bookmark_key u s []) row.key ≡ true → is_bookmark_row row ≡ true → IsMark u s row
unfolding is_bookmark_row
mark_of u s row under formed =
    let k = row.key in
    let outer = and_parts (nat_eq 2 k.kind && pointwise nat_eq u k.sub) (pointwise nat_eq s k.source) under in
    let inner = and_parts (nat_eq 2 k.kind) (pointwise nat_eq u k.sub) outer.0 in
    let kind = sym (eqb-true 2 k.kind inner.0) in
    let sub = sym ((bytes_decides u k.sub).0 inner.1) in
    let source = sym ((bytes_decides s k.source).0 outer.1) in
    let a = and_parts (names_channel k && k.number == 0 && is_number row.value) (is_empty row.body) formed in
    let b = and_parts (names_channel k && k.number == 0) (is_number row.value) a.0 in
    let c = and_parts (names_channel k) (k.number == 0) b.0 in
    let number = eqb-true k.number 0 c.1 in
    record {
      own = λ i. record { kind = kind i; sub = sub i; source = source i; channel = k.channel; number = number i };
      named = (and_parts (names_source k) (is_channel_name k.channel) c.0).1;
    }

-- what the rows know of a channel is the value of its row
abbrev Tells : (List ℕ → ℕ) → Row → Type 0
Tells at row = at row.key.channel ≡ row.value

mark_tells : (rows : Rows) (u s : List ℕ) (row : Row) → Stands rows row → IsMark u s row → Tells (bookmark_at rows u s) row
mark_tells rows u s row stands mark = ap (λ (o : Option Cell). unwrap_or (option_map (λ (cell : Cell). cell.value) o) 0) (ap (finite.get rows) (sym mark.own) ∙ stands)

all_marks : (rows : Rows) (u s : List ℕ) (rs : List Row) → All (Stands rows) rs → All (λ (row : Row). is_under Source (bookmark_key u s []) row.key ≡ true) rs → list_all is_bookmark_row rs ≡ true
    → All (Tells (bookmark_at rows u s)) rs × (filter has_channel rs ≡ rs)
all_marks rows u s [] stand under formed = (All-nil (Tells (bookmark_at rows u s)), refl)
all_marks rows u s (row ∷ rs) stand under formed =
    let U = λ (r : Row). is_under Source (bookmark_key u s []) r.key ≡ true in
    let both = and_parts (is_bookmark_row row) (list_all is_bookmark_row rs) formed in
    let mark = mark_of u s row (All-head U row rs under) both.0 in
    let rest = all_marks rows u s rs (All-tail (Stands rows) row rs stand) (All-tail U row rs under) both.1 in (
      All-cons (Tells (bookmark_at rows u s)) row rs (mark_tells rows u s row (All-head (Stands rows) row rs stand) mark) rest.0,
      ap (λ (t : Bool). cond t (row ∷ filter has_channel rs) (filter has_channel rs)) mark.named ∙ ap (λ (ys : List Row). row ∷ ys) rest.1,
    )

-- a bookmark has for no channel another number
abbrev Agrees : (List ℕ → ℕ) → Marks → Type 0
Agrees at b = (c : List ℕ) (n : ℕ) → finite.get b c ≡ Some n → n ≡ at c

top : (at : List ℕ → ℕ) (b : Marks) (c : List ℕ) (v : ℕ) → Agrees at b → at c ≡ v → max (number_at b c) v ≡ v
top at b c v agrees is = by (finite.get b c) (agrees c)
  where
    by : (found : Option ℕ) → ((n : ℕ) → found ≡ Some n → n ≡ at c) → max (unwrap_or found 0) v ≡ v
    by None each = omega arith
    by (Some m) each = let same : m ≡ v = each m refl ∙ is in omega arith

there : (at : List ℕ → ℕ) (b : Marks) (c : List ℕ) (v : ℕ) (q : List ℕ) → Agrees at b → at c ≡ v → (finite.get b q ≡ Some (at q)) ⊎ (q ≡ c) → finite.get (raised b c v) q ≡ Some (at q)
there at b c v q agrees is known = get-raised b c v q ∙ by (eq_by_cmp order q c) refl
  where
    by : (t : Bool) → eq_by_cmp order q c ≡ t → cond t (Some (max (number_at b c) v)) (finite.get b q) ≡ Some (at q)
    by true hit = ap (λ (n : ℕ). Some n) (top at b c v agrees is ∙ sym is ∙ ap at (sym (joining.one_name q c hit)))
    by false miss = elim known [
      | inl stood ↦ stood
      | inr same ↦ let hit : eq_by_cmp order q c ≡ true = ap (λ (x : List ℕ). eq_by_cmp order x c) same ∙ (eq_by_cmp_equiv nat_list_cmp_total).refl c in cc
    ]

agrees_still : (at : List ℕ → ℕ) (b : Marks) (c : List ℕ) (v : ℕ) → Agrees at b → at c ≡ v → Agrees at (raised b c v)
agrees_still at b c v agrees is q n e = by (eq_by_cmp order q c) refl (sym (get-raised b c v q) ∙ e)
  where
    by : (t : Bool) → eq_by_cmp order q c ≡ t → cond t (Some (max (number_at b c) v)) (finite.get b q) ≡ Some n → n ≡ at q
    by true hit e = let is_top : max (number_at b c) v ≡ n = cc in sym is_top ∙ top at b c v agrees is ∙ sym is ∙ ap at (sym (joining.one_name q c hit))
    by false miss e = agrees q n e

stays : (at : List ℕ → ℕ) (b : Marks) (rs : List Row) (q : List ℕ) → Agrees at b → finite.get b q ≡ Some (at q) → All (Tells at) rs → finite.get (raised_by_rows b rs) q ≡ Some (at q)
stays at b [] q agrees stood tell = stood
stays at b (row ∷ rs) q agrees stood tell =
    let is = All-head (Tells at) row rs tell in
    stays at (raised b row.key.channel row.value) rs q (agrees_still at b row.key.channel row.value agrees is) (there at b row.key.channel row.value q agrees is (inl stood)) (All-tail (Tells at) row rs tell)

all_there : (at : List ℕ → ℕ) (b : Marks) (rs : List Row) → Agrees at b → All (Tells at) rs → All (λ (row : Row). finite.get (raised_by_rows b rs) row.key.channel ≡ Some row.value) rs
all_there at b [] agrees tell = All-nil (λ (row : Row). finite.get b row.key.channel ≡ Some row.value)
all_there at b (row ∷ rs) agrees tell =
    let c = row.key.channel in
    let is = All-head (Tells at) row rs tell in
    let rest = All-tail (Tells at) row rs tell in
    let now = raised b c row.value in
    let still = agrees_still at b c row.value agrees is in
    All-cons (λ (r : Row). finite.get (raised_by_rows now rs) r.key.channel ≡ Some r.value) row rs
    (stays at now rs c still (there at b c row.value c agrees is (inr refl)) rest ∙ ap (λ (n : ℕ). Some n) is)
    (all_there at now rs still rest)

nothing_agrees : (at : List ℕ → ℕ) → Agrees at finite.empty
nothing_agrees at c n e = let bad : None ≡ Some n = sym (finite.get-empty order c) ∙ e in cc

-- ---- the law

pub skips_nothing : SkipsNothing
skips_nothing = record {
  listed = λ rows formed. all_listed (subscription_rows rows) (filter_passes (λ (row : Row). is_under Kind (subscription_key []) row.key) (rows_after (subscription_key []) rows)) formed;
  bookmark = λ rows u s formed.
      let marks = all_marks rows u s (bookmark_rows rows u s) (rows_stand Source (bookmark_key u s []) rows)
      (filter_passes (λ (row : Row). is_under Source (bookmark_key u s []) row.key) (rows_after (bookmark_key u s []) rows)) (bookmarks_formed rows u s ∙ formed) in
      subst (λ (rs : List Row). All (λ (row : Row). finite.get (raised_by_rows finite.empty rs) row.key.channel ≡ Some row.value) (bookmark_rows rows u s)) (sym marks.1)
      (all_there (bookmark_at rows u s) finite.empty (bookmark_rows rows u s) (nothing_agrees (bookmark_at rows u s)) marks.0);
  standing = λ rows u formed. known_as u (finite.get rows (subscription_key u)) formed;
}
