-- One key of the tree: what a look-up answers after a room was written or taken out there, and what stood there before.
use Rattle.std.proofs.Common.{ℕ, zero, suc, ◌<◌, ◌≤◌, List, [], ◌∷◌, get_or, length, drop, arith, add-one, drop-cons, ◌+◌, ◌≡◌, Bool, true, false, cond, is_some, ◌&&◌, ◌||◌, ◌++◌, refl, sym, ap, ◌∙◌, Option, Some, None}
use Rattle.std.specs.BTreeMap as tree
use Rattle.std.specs.Cmp.{Equal-is}
use Rattle.std.specs.Option.{option_flatten}
use Rattle.std.specs.Ordering.{eq_by_cmp}
use Rattle.wef_keeper.specs.Cells.{Cells, found, is_empty_room, puts, is_put, is_deleted, undone}
use Rattle.wef_keeper.specs.Laws.{or_left, or_right}
use Rattle.wef_keeper.specs.Rows.{found_after, cell_of, cell_of_row, key_cmp, key_cmp_exact, key_of, is_named}
use Rattle.wef_keeper.specs.declared.keys.Cell.{Cell}
use Rattle.wef_keeper.specs.declared.keys.Change.{Change}
use Rattle.wef_keeper.specs.declared.keys.Change.TheVariants.{Put, Delete}
use Rattle.wef_keeper.specs.declared.keys.Key.{Key}

-- equal keys find the same
pub tied : (cells : Cells) (key q : Key) → eq_by_cmp key_cmp key q ≡ true → tree.get key_cmp cells q ≡ tree.get key_cmp cells key
tied cells key q e = ap (tree.get key_cmp cells) (sym (key_cmp_exact key q ((Equal-is (key_cmp key q)).0 e)))

-- ---- x is what stands at a key after a change of one place, y what stood there, b whether the key is that place

-- a cell was put
pub flat_put : (b : Bool) (x y : Option (Option Cell)) (cell : Cell) → x ≡ cond b (Some (Some cell)) y → option_flatten x ≡ cond b (Some cell) (option_flatten y)
flat_put true x y cell e = ap option_flatten e
flat_put false x y cell e = ap option_flatten e

pub some_room : (b : Bool) (x y : Option (Option Cell)) (cell : Cell) → x ≡ cond b (Some (Some cell)) y → is_some x ≡ (is_some y || b)
some_room true x None cell e = ap is_some e
some_room true x (Some y) cell e = ap is_some e
some_room false x None cell e = ap is_some e
some_room false x (Some y) cell e = ap is_some e

-- a cell was written in the room that is there
pub flat_written : (b : Bool) (x y : Option (Option Cell)) (cell : Option Cell) → x ≡ cond b (Some cell) y → (b ≡ true → is_some y ≡ true) → option_flatten x ≡ cond (b && is_some y) cell (option_flatten y)
flat_written true x y cell e there = ap option_flatten e ∙ sym (ap (λ has. cond has cell (option_flatten y)) (there refl))
flat_written false x y cell e there = ap option_flatten e

pub some_written : (b : Bool) (x y : Option (Option Cell)) (cell : Option Cell) → x ≡ cond b (Some cell) y → (b ≡ true → is_some y ≡ true) → is_some x ≡ is_some y
some_written true x y cell e there = ap is_some e ∙ sym (there refl)
some_written false x y cell e there = ap is_some e

-- nothing was written, since there is no room
pub flat_unwritten : (b : Bool) (y : Option (Option Cell)) (cell : Option Cell) → (b ≡ true → y ≡ None) → option_flatten y ≡ cond (b && is_some y) cell (option_flatten y)
flat_unwritten true y cell absent = sym (ap (λ has. cond has cell (option_flatten y)) (ap is_some (absent refl)))
flat_unwritten false y cell absent = refl

-- empty room was taken out
pub flat_swept : (b : Bool) (x y : Option (Option Cell)) → x ≡ cond b None y → (b ≡ true → y ≡ Some None) → option_flatten x ≡ option_flatten y
flat_swept true x y e empty = ap option_flatten e ∙ sym (ap option_flatten (empty refl))
flat_swept false x y e empty = ap option_flatten e

pub some_swept : (b : Bool) (x y : Option (Option Cell)) → x ≡ cond b None y → (b ≡ true → y ≡ Some None) → is_some x ≡ cond b (is_some (option_flatten y)) (is_some y)
some_swept true x y e empty = ap is_some e ∙ sym (ap (λ o. is_some (option_flatten o)) (empty refl))
some_swept false x y e empty = ap is_some e

-- no room was empty there
pub some_unswept : (b : Bool) (y : Option (Option Cell)) → (b ≡ true → is_empty_room y ≡ false) → is_some y ≡ cond b (is_some (option_flatten y)) (is_some y)
some_unswept true None full = refl
some_unswept true (Some None) full = cc (full refl)
some_unswept true (Some (Some cell)) full = refl
some_unswept false y full = refl

pub empty_there : (y : Option (Option Cell)) → is_empty_room y ≡ true → y ≡ Some None
empty_there None e = cc
empty_there (Some None) e = refl
empty_there (Some (Some cell)) e = cc

-- ---- lists of changes

pub puts_named : (change : Change) (q : Key) → eq_by_cmp key_cmp (key_of change) q ≡ false → puts change q ≡ false
puts_named (Put row) q e = e
puts_named (Delete key) q e = refl

-- no change puts at a key that none names
pub unnamed_puts : (changes : List Change) (i : ℕ) (d : Change) (q : Key) → i < length changes → is_named changes q ≡ false → puts (get_or changes i d) q ≡ false
unnamed_puts [] i d q h e = absurd (omega arith)
unnamed_puts (change ∷ changes) zero d q h e = puts_named change q (or_left _ _ e)
unnamed_puts (change ∷ changes) (suc i) d q h e = unnamed_puts changes i d q (omega arith) (or_right (eq_by_cmp key_cmp (key_of change) q) _ e)

pub made_nothing : (a b : Bool) → b ≡ false → (a || b) ≡ a
made_nothing true b e = refl
made_nothing false b e = e

-- what is left at a place is its change and what is left behind it
pub left_item : (changes : List Change) (i : ℕ) (item : Change) → i < length changes → item ≡ get_or changes i item → drop i changes ≡ item ∷ drop (i + 1) changes
left_item changes i item h e = rw (add-one, drop-cons changes i item) (ap (λ c. c ∷ drop (suc i) changes) (sym e))

pub nothing_left : (changes : List Change) (i : ℕ) → length changes ≤ i → drop i changes ≡ []
nothing_left [] zero h = refl
nothing_left [] (suc i) h = refl
nothing_left (change ∷ changes) zero h = absurd (omega arith)
nothing_left (change ∷ changes) (suc i) h = nothing_left changes i (omega arith)

or_assoc : (a b c : Bool) → ((a || b) || c) ≡ (a || (b || c))
or_assoc true b c = refl
or_assoc false b c = refl

pub room_step : (changes : List Change) (i : ℕ) (item : Change) (q : Key) (before after : Bool) → i < length changes → item ≡ get_or changes i item → after ≡ (before || puts item q)
    → (after || is_put (drop (i + 1) changes) q) ≡ (before || is_put (drop i changes) q)
room_step changes i item q before after h e made =
    ap (λ b. b || is_put (drop (i + 1) changes) q) made ∙ or_assoc before (puts item q) _ ∙ ap (λ cs. before || is_put cs q) (sym (left_item changes i item h e))

pub write_step : (changes : List Change) (i : ℕ) (item : Change) (q : Key) (before after : Option Cell) → i < length changes → item ≡ get_or changes i item
    → after ≡ cond (eq_by_cmp key_cmp (key_of item) q) (cell_of item) before → found_after (drop (i + 1) changes) q after ≡ found_after (drop i changes) q before
write_step changes i item q before after h e written = ap (found_after (drop (i + 1) changes) q) written ∙ ap (λ cs. found_after cs q before) (sym (left_item changes i item h e))

pub or_first : (a b : Bool) → a ≡ true → (a || b) ≡ true
or_first true b e = refl
or_first false b e = cc

some_put : (b : Bool) (new : Cell) (cell : Option Cell) → is_some (cond b (Some new) cell) ≡ (is_some cell || b)
some_put true new None = refl
some_put true new (Some cell) = refl
some_put false new None = refl
some_put false new (Some cell) = refl

some_undeleted : (b : Bool) (cell : Option Cell) → b ≡ false → is_some (cond b None cell) ≡ is_some cell
some_undeleted true cell e = cc e
some_undeleted false cell e = refl

-- a key that no change deletes has a cell where one stood before, and where a change puts one
pub some_after : (changes : List Change) (q : Key) (cell : Option Cell) → is_deleted changes q ≡ false → is_some (found_after changes q cell) ≡ (is_some cell || is_put changes q)
some_after [] q cell e = sym (made_nothing (is_some cell) false refl)
some_after (Put row ∷ changes) q cell e =
    some_after changes q _ e
    ∙ ap (λ b. b || is_put changes q) (some_put (eq_by_cmp key_cmp row.key q) (cell_of_row row) cell)
    ∙ or_assoc (is_some cell) (eq_by_cmp key_cmp row.key q) (is_put changes q)
some_after (Delete key ∷ changes) q cell e =
    some_after changes q _ (or_right (eq_by_cmp key_cmp key q) _ e)
    ∙ ap (λ b. b || is_put changes q) (some_undeleted (eq_by_cmp key_cmp key q) cell (or_left _ _ e))

-- a list was written and swept at the deletes
pub full_written : (deleted : Bool) (room room' : Bool) (cell cell' : Option Cell) → room' ≡ cond deleted (is_some cell) room → cell' ≡ cell → (deleted ≡ false → room ≡ is_some cell) → room' ≡ is_some cell'
full_written true room room' cell cell' swept same full = swept ∙ sym (ap is_some same)
full_written false room room' cell cell' swept same full = swept ∙ full refl ∙ sym (ap is_some same)

-- ---- what stood before

-- one more change is undone, before the others
undone_more : (befores : List (Option Cell)) (changes : List Change) (d : Change) (before : Option Cell) (q : Key) (cell : Option Cell) → length befores < length changes
    → undone (befores ++ before ∷ []) changes q cell ≡ undone befores changes q (cond (eq_by_cmp key_cmp (key_of (get_or changes (length befores) d)) q) before cell)
undone_more befores [] d before q cell h = absurd (omega arith)
undone_more [] (change ∷ changes) d before q cell h = refl
undone_more (b ∷ befores) (change ∷ changes) d before q cell h = ap (cond (eq_by_cmp key_cmp (key_of change) q) b) (undone_more befores changes d before q cell (omega arith))

restored : (b : Bool) (old new cell : Option Cell) → (b ≡ true → cell ≡ old) → cond b old (cond b new cell) ≡ cell
restored true old new cell same = sym (same refl)
restored false old new cell same = refl

-- a change is written, and what stood at its key is kept
pub undone_written : (cells : Cells) (befores befores' : List (Option Cell)) (changes : List Change) (i : ℕ) (item : Change) (q : Key) (after : Option Cell) → i < length changes → item ≡ get_or changes i item
    → length befores ≡ i → befores' ≡ befores ++ found cells (key_of item) ∷ [] → after ≡ cond (eq_by_cmp key_cmp (key_of item) q) (cell_of item) (found cells q)
    → undone befores' changes q after ≡ undone befores changes q (found cells q)
undone_written cells befores befores' changes i item q after h e count kept written =
    let old = found cells (key_of item) in
    let at : get_or changes (length befores) item ≡ item = ap (λ n. get_or changes n item) count ∙ sym e in
    ap (λ bs. undone bs changes q after) kept ∙ undone_more befores changes item old q after (rw count h)
    ∙ ap (λ c. undone befores changes q (cond (eq_by_cmp key_cmp (key_of c) q) old after)) at
    ∙ ap (λ cell. undone befores changes q (cond (eq_by_cmp key_cmp (key_of item) q) old cell)) written
    ∙ ap (undone befores changes q) (restored (eq_by_cmp key_cmp (key_of item) q) old (cell_of item) (found cells q) (λ t. ap option_flatten (tied cells (key_of item) q t)))

-- the last of the changes that are left is undone
pub undone_last : (befores : List (Option Cell)) (changes : List Change) (item : Change) (q : Key) (before cell after : Option Cell) (room : Bool) → length befores < length changes
    → item ≡ get_or changes (length befores) item → room ≡ true → after ≡ cond (eq_by_cmp key_cmp (key_of item) q && room) before cell
    → undone befores changes q after ≡ undone (befores ++ before ∷ []) changes q cell
undone_last befores changes item q before cell after room h e there written =
    ap (undone befores changes q)
    (written ∙ ap (λ r. cond (eq_by_cmp key_cmp (key_of item) q && r) before cell) there ∙ kept (eq_by_cmp key_cmp (key_of item) q) ∙ ap (λ c. cond (eq_by_cmp key_cmp (key_of c) q) before cell) e)
    ∙ sym (undone_more befores changes item before q cell h)
  where
    kept : (b : Bool) → cond (b && true) before cell ≡ cond b before cell
    kept true = refl
    kept false = refl
