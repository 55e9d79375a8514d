-- Rows of their form: each that is read is, and what is written leaves them so.
use Rattle.std.proofs.Common.{◌≡◌, ℕ, ◌+◌, ◌-◌, ◌<◌, ◌≤◌, ◌==◌, nat_le, nat_lt, Bool, true, false, cond, ◌&&◌, ◌||◌, List, [], ◌∷◌, ◌++◌, take, length, refl, ap, sym, ◌∙◌, subst, arith, if◌then◌else◌}
use Rattle.std.proofs.lemmas.Bool.{and_parts}
use Rattle.std.proofs.lemmas.Bool.Decides.{nat_tests}
use Rattle.std.specs.Cmp.Lexicographic.{nat_list_eq_equiv}
use Rattle.std.specs.FinMap as finite
use Rattle.std.specs.List.{AllByRecursion, list_all}
use Rattle.std.specs.Option.{option_map}
use Rattle.std.specs.Prelude.{Option, Some, None, IfSome}
use Rattle.wef_base.specs.Names.{channel_name}
use Rattle.wef_base.specs.declared.numbers.TheConstants.{MAX}
use Rattle.wef_event.specs.Events.{is_event}
use Rattle.wef_keeper.proofs.Forming as forming
use Rattle.wef_keeper.proofs.StayFormed.{applied_formed}
use Rattle.wef_keeper.specs.Access.{IsBehind}
use Rattle.wef_keeper.specs.Forms.{ArePut}
use Rattle.wef_keeper.specs.Keeping.{row_at}
use Rattle.wef_keeper.specs.Kinds.{number_of}
use Rattle.wef_keeper.specs.Rows.{Rows, key_cmp, row_of}
use Rattle.wef_keeper.specs.Sections.{is_under, rows_under}
use Rattle.wef_keeper.specs.declared.keys.Cell.{Cell}
use Rattle.wef_keeper.specs.declared.keys.Change.TheVariants.{Delete, Put}
use Rattle.wef_keeper.specs.declared.keys.Depth.TheVariants.{Channel}
use Rattle.wef_keeper.specs.declared.keys.Key.{Key}
use Rattle.wef_keeper.specs.declared.keys.Row.{Row}
use Rattle.wef_keeper.specs.declared.kinds.RowKind.TheVariants.{Record, LastNumber, Capacity, SourceBoot}
use Rattle.wef_source_log.specs.Forms.{AreFormed, has_number, is_bare, is_boot, is_capacity, is_channel, is_formed, is_last, is_nameless, is_read, is_record}
use Rattle.wef_source_log.specs.Judged.{JudgesPage}
use Rattle.wef_source_log.specs.Keys.{boot_key, capacity_key, last_key, record_key}
use Rattle.wef_source_log.specs.Laws.{FormsStay}
use Rattle.wef_source_log.specs.LogWindow.{boot_of, capacity_changes, capacity_of, last_of, start_changes, write_changes}
use Rattle.wef_source_log.proofs.Pages.{own_key}

-- a row with the key of a record is of its form where it is a record
record_form : (c : List ℕ) (after : ℕ) (row : Row) → is_under Channel (record_key c after) row.key ≡ true → is_record row ≡ is_formed row
unfolding is_formed
record_form c after row under =
    ap (λ (key : Key). if key.kind == number_of Record then is_record row else (if key.kind == number_of LastNumber then is_last row else (if key.kind == number_of Capacity then is_capacity row else (if key.kind == number_of SourceBoot then is_boot row else true))))
    (sym (own_key c after row.key under))

record_forms : (c : List ℕ) (after : ℕ) (rows : List Row) → AllByRecursion (IsBehind Channel (record_key c after)) rows → list_all is_record rows ≡ list_all is_formed rows
record_forms c after [] behind = refl
record_forms c after (row ∷ rows) behind = λ i. record_form c after row behind.0.under i && record_forms c after rows behind.1 i

-- so where a row of a page isn't a record, the rows aren't all of their form
pub no_record : (told : Option Rows) (n : ℕ) (c : List ℕ) (after : ℕ) (start : Key) (page : List Row) → start ≡ record_key c after → AllByRecursion (IsBehind Channel start) page
    → list_all is_record page ≡ false → IfSome told (λ rows. page ≡ take n (rows_under Channel start rows)) → IfSome told (λ rows. AreFormed rows → ⊥)
no_record None n c after start page begins behind ill is = tt
no_record (Some rows) n c after start page begins behind ill is = λ formed.
    let well = forming.formed_front is_formed n Channel start rows page formed is in
    let same = record_forms c after page (subst (λ (key : Key). AllByRecursion (IsBehind Channel key) page) begins behind) in
    cc

-- and where all of them are records, none was spoilt
pub page_judged : (told : Option Rows) (n : ℕ) (c : List ℕ) (after : ℕ) (start : Key) (page : List Row) → start ≡ record_key c after → AllByRecursion (IsBehind Channel start) page
    → list_all is_record page ≡ true → IfSome told (λ rows. page ≡ take n (rows_under Channel start rows)) → IfSome told (JudgesPage c after n)
page_judged None n c after start page begins behind all is = tt
page_judged (Some rows) n c after start page begins behind all is =
    let same = record_forms c after page (subst (λ (key : Key). AllByRecursion (IsBehind Channel key) page) begins behind) in
    ap (list_all is_formed) (ap (λ (key : Key). take n (rows_under Channel key rows)) (sym begins) ∙ sym is) ∙ sym same ∙ all

-- ---- a number that stands

-- what the kind of a row decides
by_kind : (P : Type 0) (first second third fourth a b c d : Bool) → cond first a (cond second b (cond third c (cond fourth d true))) ≡ true
    → (first ≡ true → P) → (b ≡ true → P) → (c ≡ true → P) → (d ≡ true → P) → (first ≡ false → second ≡ false → third ≡ false → fourth ≡ false → P) → P
by_kind P true second third fourth a b c d e one two three four none = one refl
by_kind P false true third fourth a b c d e one two three four none = two e
by_kind P false false true fourth a b c d e one two three four none = three e
by_kind P false false false true a b c d e one two three four none = four e
by_kind P false false false false a b c d e one two three four none = none refl refl refl refl

within : (n m : ℕ) → nat_le n m ≡ true → n ≤ m
within n m e = grind (arith, nat_tests, e)

last_within : (row : Row) → is_last row ≡ true → row.value ≤ MAX
last_within row e =
    let outer = and_parts (is_nameless row.key && row.key.number == 0 && nat_le row.value MAX && length row.body == 0) (is_channel row.key.channel) e in
    let inner = and_parts (is_nameless row.key && row.key.number == 0 && nat_le row.value MAX) (length row.body == 0) outer.0 in
    let value = and_parts (is_nameless row.key && row.key.number == 0) (nat_le row.value MAX) inner.0 in
    within row.value MAX value.1

capacity_within : (row : Row) → is_capacity row ≡ true → row.value ≤ MAX
capacity_within row e =
    let parts = and_parts (is_bare row && nat_le 1 row.value) (nat_le row.value 1000000) e in
    below row.value (within row.value 1000000 parts.1)
  where
    below : (n : ℕ) → n ≤ 1000000 → n ≤ MAX
    below n h = omega arith

boot_within : (row : Row) → is_boot row ≡ true → row.value ≤ MAX
boot_within row e = within row.value MAX (and_parts (is_bare row) (nat_le row.value MAX) e).1

no_record_kind : (kind : ℕ) → (kind == number_of Record) ≡ true → has_number kind ≡ true → ⊥
no_record_kind kind e h = grind (arith, nat_tests, e, h)

no_other_kind : (last capacity boot : Bool) → last ≡ false → capacity ≡ false → boot ≡ false → (last || capacity || boot) ≡ true → ⊥
no_other_kind false false false a b c h = cc
no_other_kind true capacity boot a b c h = cc
no_other_kind false true boot a b c h = cc
no_other_kind false false true a b c h = cc

pub number_within : (row : Row) → is_formed row ≡ true → has_number row.key.kind ≡ true → row.value ≤ MAX
unfolding is_formed
number_within row formed number =
    let kind = row.key.kind in
    by_kind (row.value ≤ MAX) (kind == number_of Record) (kind == number_of LastNumber) (kind == number_of Capacity) (kind == number_of SourceBoot) (is_record row) (is_last row) (is_capacity row) (is_boot row) formed
    (λ is. absurd (no_record_kind kind is number)) (last_within row) (capacity_within row) (boot_within row)
    (λ first second third fourth. absurd (no_other_kind (kind == number_of LastNumber) (kind == number_of Capacity) (kind == number_of SourceBoot) second third fourth number))

-- so where a greater one was read, the rows aren't all of their form
pub no_number : (told : Option Rows) (key : Key) (row : Row) → is_formed row ≡ true → has_number key.kind ≡ true → MAX < row.value → IfSome told (λ rows. Some row ≡ row_at key rows)
    → IfSome told (λ rows. AreFormed rows → ⊥)
no_number None key row well number above is = tt
no_number (Some rows) key row well number above is = λ formed.
    let same = kind_of (finite.get rows key) is in
    over row.value (number_within row well (ap has_number same ∙ number)) above
  where
    over : (n : ℕ) → n ≤ MAX → MAX < n → ⊥
    over n h k = omega arith

    kind_of : (found : Option Cell) → Some row ≡ option_map (λ cell. row_of (key, cell)) found → row.key.kind ≡ key.kind
    kind_of None e = cc
    kind_of (Some cell) e = let same : row ≡ row_of (key, cell) = cc in ap (λ (r : Row). r.key.kind) same

-- ---- rows that are put

below_test : (n m : ℕ) → n ≤ m → nat_le n m ≡ true
below_test n m h = grind (arith, nat_tests)

kept_name : (c : List ℕ) → channel_name c ≡ Some c → is_channel c ≡ true
kept_name c e = ap (λ (read : Option (List ℕ)). is_read read c) e ∙ nat_list_eq_equiv.refl c

record_sound : (c text : List ℕ) (n : ℕ) → 1 ≤ n → n ≤ MAX → channel_name c ≡ Some c → is_event (record { channel = c; number = n; text = text }) ≡ true
    → is_formed (record { key = record_key c n; value = 0; body = text }) ≡ true
unfolding is_formed
record_sound c text n some within name event = λ i. true && below_test 1 n some i && below_test n MAX within i && kept_name c name i && true && event i

last_sound : (c : List ℕ) (n : ℕ) → n ≤ MAX → channel_name c ≡ Some c → is_formed (record { key = last_key c; value = n; body = [] }) ≡ true
unfolding is_formed
last_sound c n within name = λ i. true && true && below_test n MAX within i && true && kept_name c name i

capacity_sound : (n : ℕ) → 1 ≤ n → n ≤ 1000000 → is_formed (record { key = capacity_key; value = n; body = [] }) ≡ true
unfolding is_formed
capacity_sound n some within = λ i. true && below_test 1 n some i && below_test n 1000000 within i

boot_sound : (n : ℕ) → n ≤ MAX → is_formed (record { key = boot_key; value = n; body = [] }) ≡ true
unfolding is_formed
boot_sound n within = λ i. true && below_test n MAX within i

-- each at its key
pub record_put : (key : Key) (c text : List ℕ) (n : ℕ) → key ≡ record_key c n → 1 ≤ n → n ≤ MAX → channel_name c ≡ Some c → is_event (record { channel = c; number = n; text = text }) ≡ true
    → is_formed (record { key = key; value = 0; body = text }) ≡ true
record_put key c text n is some within name event = subst (λ (key : Key). is_formed (record { key = key; value = 0; body = text }) ≡ true) (sym is) (record_sound c text n some within name event)

pub last_put : (key : Key) (c : List ℕ) (n : ℕ) → key ≡ last_key c → n ≤ MAX → channel_name c ≡ Some c → is_formed (record { key = key; value = n; body = [] }) ≡ true
last_put key c n is within name = subst (λ (key : Key). is_formed (record { key = key; value = n; body = [] }) ≡ true) (sym is) (last_sound c n within name)

pub capacity_put : (key : Key) (n : ℕ) → key ≡ capacity_key → 1 ≤ n → n ≤ 1000000 → is_formed (record { key = key; value = n; body = [] }) ≡ true
capacity_put key n is some within = subst (λ (key : Key). is_formed (record { key = key; value = n; body = [] }) ≡ true) (sym is) (capacity_sound n some within)

pub boot_put : (key : Key) (n : ℕ) → key ≡ boot_key → n ≤ MAX → is_formed (record { key = key; value = n; body = [] }) ≡ true
boot_put key n is within = subst (λ (key : Key). is_formed (record { key = key; value = n; body = [] }) ≡ true) (sym is) (boot_sound n within)

-- ---- rows of their form stay so

start_sound : (capacity n : ℕ) (kept : Option Cell) → 1 ≤ capacity → capacity ≤ 1000000 → n ≤ MAX → ArePut is_formed (capacity_changes capacity kept ++ Put (record { key = boot_key; value = n; body = [] }) ∷ [])
start_sound capacity n None some most within = (capacity_sound capacity some most, (boot_sound n within, tt))
start_sound capacity n (Some cell) some most within = (boot_sound n within, tt)

leaving_sound : (full : Bool) (key : Key) → ArePut is_formed (if full then Delete key ∷ [] else [])
leaving_sound true key = (tt, tt)
leaving_sound false key = tt

write_sound : (capacity n : ℕ) (c text : List ℕ) → 1 ≤ n → n ≤ MAX → channel_name c ≡ Some c → is_event (record { channel = c; number = n; text = text }) ≡ true
    → ArePut is_formed (write_changes capacity c n text)
write_sound capacity n c text some within name event = (record_sound c text n some within name event, (last_sound c n within name, leaving_sound (nat_lt capacity n) (record_key c (n - capacity))))

next_within : (n : ℕ) → n < MAX → n + 1 ≤ MAX
next_within n h = omega arith

next_some : (n : ℕ) → 1 ≤ n + 1
next_some n = omega arith

nothing_formed : AreFormed finite.empty
nothing_formed key = subst (λ (found : Option Cell). IfSome found (λ cell. is_formed (row_of (key, cell)) ≡ true)) (sym (finite.get-empty key_cmp key)) tt

pub forms_stay : FormsStay
forms_stay = record {
  nothing = nothing_formed;
  start = λ rows capacity formed left some most.
      applied_formed is_formed (start_changes rows capacity) (start_sound capacity (boot_of rows + 1) (finite.get rows capacity_key) some most (next_within (boot_of rows) left)) rows formed;
  write = λ rows c text formed left name event.
      applied_formed is_formed (write_changes (capacity_of rows) c (last_of rows c + 1) text)
      (write_sound (capacity_of rows) (last_of rows c + 1) c text (next_some (last_of rows c)) (next_within (last_of rows c) left) name event) rows formed;
}
