-- What it leaves that a source was heard: all rows but that of the moment at which it was heard stay, and that one is of its form.
use Rattle.std.proofs.Common.{◌≡◌, ℕ, ◌≤◌, ◌==◌, Bool, true, false, List, [], ◌∷◌, refl, ap, subst}
use Rattle.std.proofs.lemmas.Bool.{cond_both}
use Rattle.std.specs.FinMap as map
use Rattle.std.specs.List.{AllByRecursion}
use Rattle.std.specs.Option.{option_map}
use Rattle.std.specs.Prelude.{Option, unwrap_or}
use Rattle.wef_base.specs.declared.moments.TheConstants.{LAST_MOMENT}
use Rattle.wef_keeper.proofs.StayFormed.{applied_formed}
use Rattle.wef_keeper.specs.Forms.{ArePut, IsPut}
use Rattle.wef_keeper.specs.Kinds.{number_of}
use Rattle.wef_keeper.specs.Laws.{get-unnamed}
use Rattle.wef_keeper.specs.Rows.{Rows, applied}
use Rattle.wef_keeper.specs.declared.keys.Cell.{Cell}
use Rattle.wef_keeper.specs.declared.keys.Change.{Change}
use Rattle.wef_keeper.specs.declared.keys.Key.{Key}
use Rattle.wef_keeper.specs.declared.kinds.RowKind.TheVariants.{Heard}
use Rattle.wef_collector_rows.specs.Bookmarks.{bookmark_at}
use Rattle.wef_collector_rows.specs.Forms.{AreFormed, is_formed, is_source_name, is_subscription_name}
use Rattle.wef_collector_rows.specs.Keys.{bookmark_key, heard_key}
use Rattle.wef_collector.specs.Taken.{heard_changes, is_later, put}
use Rattle.wef_collector.proofs.FormedRows.{heard_row}
use Rattle.wef_collector.proofs.Hits.{hits, named_if, not_both, one_key, refuted}

-- a fact of the row that says when a source is heard is one of each change
pub each_heard : (P : Change → Type 0) (rows : Rows) (u s : List ℕ) (now : ℕ) → P (put (heard_key u s) now []) → AllByRecursion P (heard_changes rows u s now)
each_heard P rows u s now holds =
    cond_both (is_later now (map.get rows (heard_key u s))) (put (heard_key u s) now [] ∷ []) [] (AllByRecursion P) (λ _. (holds, tt)) (λ _. tt)

-- ---- what stays

-- what stands at any other key stays
pub others_by_hearing : (rows : Rows) (u s : List ℕ) (now : ℕ) (q : Key) → hits (heard_key u s) q ≡ false → map.get (applied (heard_changes rows u s now) rows) q ≡ map.get rows q
others_by_hearing rows u s now q other =
    get-unnamed (heard_changes rows u s now) rows q (named_if (is_later now (map.get rows (heard_key u s))) (put (heard_key u s) now []) q other)

-- a key of another kind
abbrev pub is_heard_kind : ℕ → Bool
is_heard_kind kind = kind == number_of Heard

other_kind : (u s : List ℕ) (q : Key) → is_heard_kind q.kind ≡ false → hits (heard_key u s) q ≡ false
other_kind u s q other = refuted _ (λ hit.
    let at : number_of Heard ≡ q.kind = ap (λ (k : Key). k.kind) (one_key (heard_key u s) q hit) in
    not_both (subst (λ (kind : ℕ). is_heard_kind kind ≡ true) at refl) other)

-- so does each row of another kind
pub kinds_by_hearing : (rows : Rows) (u s : List ℕ) (now : ℕ) (q : Key) → is_heard_kind q.kind ≡ false → map.get (applied (heard_changes rows u s now) rows) q ≡ map.get rows q
kinds_by_hearing rows u s now q other = others_by_hearing rows u s now q (other_kind u s q other)

pub bookmark_by_hearing : (rows : Rows) (u s : List ℕ) (now : ℕ) (v r c : List ℕ) → bookmark_at (applied (heard_changes rows u s now) rows) v r c ≡ bookmark_at rows v r c
bookmark_by_hearing rows u s now v r c =
    ap (λ (o : Option Cell). unwrap_or (option_map (λ (cell : Cell). cell.value) o) 0) (kinds_by_hearing rows u s now (bookmark_key v r c) refl)

-- ---- what is put

-- it is of its form, for names that read back
pub hearing_sound : (rows : Rows) (u s : List ℕ) (now : ℕ) → is_subscription_name u ≡ true → is_source_name s ≡ true → now ≤ LAST_MOMENT → ArePut is_formed (heard_changes rows u s now)
hearing_sound rows u s now name source moment = each_heard (IsPut is_formed) rows u s now (heard_row u s now name source moment)

pub formed_by_hearing : (rows : Rows) (u s : List ℕ) (now : ℕ) → is_subscription_name u ≡ true → is_source_name s ≡ true → now ≤ LAST_MOMENT → AreFormed rows
    → AreFormed (applied (heard_changes rows u s now) rows)
formed_by_hearing rows u s now name source moment formed = applied_formed is_formed (heard_changes rows u s now) (hearing_sound rows u s now name source moment) rows formed
