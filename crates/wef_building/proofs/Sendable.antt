-- Each candidate costs at most the room, so the first one always fits.
use Rattle.std.proofs.Common.{◌≡◌, ℕ, zero, suc, ◌+◌, ◌-◌, ◌*◌, ◌/◌, ◌%◌, ◌≤◌, ◌==◌, Bool, true, false, ◌||◌, cond, List, [], ◌∷◌, ◌++◌, length, length-append, map, min, refl, ap, sym, subst, Some, None, arith, nat_lt, nat_le}
use Rattle.std.specs.Prelude.{codes, encode_utf8}
use Rattle.std.specs.Fmt.{decimal, digit_glyph, digits, digits_onto}
use Rattle.std.specs.List.{cons_option, filter_map, flat_map}
use Rattle.std.specs.Str.{chars, chars_after, continuation_len, lead_bits}
use Rattle.std.proofs.lemmas.Str.{len_utf8_bounds, length-encode}
use Rattle.wef_base.specs.Names.{same}
use Rattle.wef_batch.specs.Cost.{cost, quoted, quoted_character, written, written_dropped}
use Rattle.wef_batch.specs.WellFormed.{is_in}
use Rattle.wef_batch.specs.declared.items.Item.{Item}
use Rattle.wef_batch.specs.declared.items.Item.TheVariants.{Event, Dropped}
use Rattle.wef_event.specs.Characters.{escape}
use Rattle.wef_event.specs.Events as records
use Rattle.wef_event.proofs.Escaped.{escape_by}
use Rattle.wef_keeper.specs.Rows.{Rows}
use Rattle.wef_keeper.specs.Sections.{rows_under}
use Rattle.wef_keeper.specs.declared.keys.Depth.TheVariants.{Channel}
use Rattle.wef_keeper.specs.declared.keys.Row.{Row}
use Rattle.wef_query.specs.declared.QueryList.{QueryList}
use Rattle.wef_source_log.specs.Keys.{record_key}
use Rattle.wef_source_log.specs.LogWindow.{event_of_row, first_of, records_after}
use Rattle.wef_building.specs.Building.{built, candidates, channel_candidates, fitting, has_room, item_of, room_of, session_channels, sized_item}
use Rattle.wef_building.specs.Laws.{EmptyMeansNothingToSend}
use Rattle.wef_building.specs.Selecting.{is_wanted}
use Rattle.wef_building.specs.declared.sessions.Session.{Session}
use Rattle.wef_bookmark.specs.Order.{number_at}
use Rattle.wef_building.proofs.Cases.{and_true, by_bool, by_test, le_tested, lt_fails, lt_tested, or_true, same_itself}

-- ---- the length of a dropped range as written

encoded_short : (c : ℕ) → length (encode_utf8 c) ≤ 6
encoded_short c = let bounds = (len_utf8_bounds c).1 in let is = length-encode c in omega arith

escaped_short : (c : ℕ) → length (escape c) ≤ 6
escaped_short c =
    let IsShort : List ℕ → Type 0 = λ x. length x ≤ 6 in
    subst IsShort (sym (escape_by c))
    (by_bool IsShort (c == 38) (λ _. omega arith)
    (λ _. by_bool IsShort (c == 60) (λ _. omega arith)
    (λ _. by_bool IsShort (c == 62) (λ _. omega arith)
    (λ _. by_bool IsShort (c == 9) (λ _. omega arith)
    (λ _. by_bool IsShort (c == 10) (λ _. omega arith)
    (λ _. by_bool IsShort (c == 13) (λ _. omega arith)
    (λ _. encoded_short c)))))))

quoted_short : (c : ℕ) → length (quoted_character c) ≤ 6
quoted_short c = by_bool (λ x. length x ≤ 6) (c == 34) (λ _. omega arith) (λ _. escaped_short c)

all_quoted_short : (cs : List ℕ) → length (flat_map quoted_character cs) ≤ 6 * length cs
all_quoted_short [] = omega arith
all_quoted_short (c ∷ cs) =
    let here = quoted_short c in
    let rest = all_quoted_short cs in
    let both = length-append (quoted_character c) (flat_map quoted_character cs) in
    omega arith

few_after : (n c : ℕ) (bs : List ℕ) → length (chars_after n c bs) ≤ 1 + length bs
few_after zero c [] = omega arith
few_after zero c (b ∷ bs) = let rest = few_after (continuation_len b) (lead_bits b) bs in omega arith
few_after (suc n) c [] = omega arith
few_after (suc n) c (b ∷ bs) = let rest = few_after n (c * 64 + (b - 128)) bs in omega arith

-- a text has at most as many characters as bytes
few_chars : (bs : List ℕ) → length (chars bs) ≤ length bs
unfolding chars
few_chars [] = omega arith
few_chars (b ∷ bs) = let rest = few_after (continuation_len b) (lead_bits b) bs in omega arith

name_short : (c : List ℕ) → length c ≤ 256 → length (quoted c) ≤ 1536
name_short c short = let quotes = all_quoted_short (chars c) in let few = few_chars c in omega arith

digits_short : (k base : ℕ) (upper : Bool) (n : ℕ) (acc : List ℕ) → length (digits_onto k base upper n acc) ≤ k + length acc
digits_short zero base upper n acc = omega arith
digits_short (suc k) base upper n acc =
    by_bool (λ x. length x ≤ suc k + length acc) (n / base == 0) (λ _. omega arith)
    (λ _. let rest = digits_short k base upper (n / base) (digit_glyph upper (n % base) ∷ acc) in omega arith)

-- a number is written with at most 64 digits
decimal_short : (n : ℕ) → length (decimal n) ≤ 64
unfolding digits
decimal_short n = digits_short 64 10 false n []

nine_parts : (a b c d e f g h i : List ℕ) → length (a ++ b ++ c ++ d ++ e ++ f ++ g ++ h ++ i) ≡ length a + length b + length c + length d + length e + length f + length g + length h + length i
nine_parts a b c d e f g h i = omega (arith, length-append {A = ℕ})

dropped_short : (c : List ℕ) (first last : ℕ) → length c ≤ 256 → length (written_dropped c first last) ≤ 4096
dropped_short c first last short =
    let name = name_short c short in
    let from = decimal_short first in
    let to = decimal_short last in
    let count = decimal_short (last - first + 1) in
    let parts = nine_parts (codes "<w:DroppedEvents u:Channel=\"") (quoted c) (codes "\" u:First=\"") (decimal first) (codes "\" u:Last=\"") (decimal last) (codes "\">") (decimal (last - first + 1)) (codes "</w:DroppedEvents>") in
    omega arith

at_most_first : (a b t : ℕ) → a ≤ t → min a b ≤ t
at_most_first a b t le = omega arith

-- a dropped range costs at most 4,096 bytes
dropped_cheap : (c : List ℕ) (first last : ℕ) → length c ≤ 256 → cost (Dropped c first last) ≤ 4096
unfolding cost written
dropped_cheap c first last short = at_most_first (length (written_dropped c first last)) 18446744073709551615 4096 (dropped_short c first last short)

-- ---- every candidate fits alone

-- each item costs at most so many bytes
abbrev AreCheap : ℕ → List Item → Type 0
AreCheap room [] = Unit {0}
AreCheap room (i ∷ is) = (cost i ≤ room) × AreCheap room is

cheap_append : (room : ℕ) (front back : List Item) → AreCheap room front → AreCheap room back → AreCheap room (front ++ back)
cheap_append room [] back here there = there
cheap_append room (i ∷ front) back here there = (here.0, cheap_append room front back here.1 there)

range_cheap : (room : ℕ) (c : List ℕ) (first last : ℕ) → 4096 ≤ room → length c ≤ 256 → cost (Dropped c first last) ≤ room
range_cheap room c first last enough short = let cheap = dropped_cheap c first last short in omega arith

sized_cheap : (room : ℕ) (event : records.Event) → 4096 ≤ room → length event.channel ≤ 256 → cost (sized_item room event) ≤ room
sized_cheap room event enough short =
    by_bool (λ item. cost item ≤ room) (nat_lt room (cost (Event event)))
    (λ _. range_cheap room event.channel event.number event.number enough short)
    (λ fits. lt_fails room (cost (Event event)) fits)

records_cheap : (query : QueryList) (room : ℕ) (c : List ℕ) (rows : List Row) → 4096 ≤ room → length c ≤ 256 → AreCheap room (filter_map (item_of query room) (map (event_of_row c) rows))
records_cheap query room c [] enough short = tt
records_cheap query room c (row ∷ rows) enough short =
    by_test (λ t. AreCheap room (cons_option (cond t (Some (sized_item room (event_of_row c row))) None) (filter_map (item_of query room) (map (event_of_row c) rows)))) (is_wanted query c row.body)
    (λ _. (sized_cheap room (event_of_row c row) enough short, records_cheap query room c rows enough short))
    (λ _. records_cheap query room c rows enough short)

channel_cheap : (rows : Rows) (session : Session) (c : List ℕ) → 4096 ≤ room_of session.max_bytes → length c ≤ 256 → AreCheap (room_of session.max_bytes) (channel_candidates rows session c)
channel_cheap rows session c enough short =
    let room = room_of session.max_bytes in
    let p = number_at session.positions c in
    let first = first_of rows c in
    cheap_append room (cond (nat_lt (p + 1) first) (Dropped c (p + 1) (first - 1) ∷ []) []) (filter_map (item_of session.query room) (records_after rows c p))
    (by_bool (AreCheap room) (nat_lt (p + 1) first) (λ _. (range_cheap room c (p + 1) (first - 1) enough short, tt)) (λ _. tt))
    (records_cheap session.query room c (rows_under Channel (record_key c p) rows) enough short)

all_cheap : (rows : Rows) (session : Session) (cs : List (List ℕ)) → 4096 ≤ room_of session.max_bytes → ((c : List ℕ) → is_in cs c ≡ true → length c ≤ 256)
    → AreCheap (room_of session.max_bytes) (flat_map (channel_candidates rows session) cs)
all_cheap rows session [] enough short = tt
all_cheap rows session (c ∷ cs) enough short =
    cheap_append (room_of session.max_bytes) (channel_candidates rows session c) (flat_map (channel_candidates rows session) cs)
    (channel_cheap rows session c enough (short c (ap (λ t. t || is_in cs c) (same_itself c))))
    (all_cheap rows session cs enough (λ d there. short d (or_true (same c d) (is_in cs d) there)))

-- where the first of some items fits, and nothing is taken, there are none
taken_none : (n k : ℕ) (items : List Item) → 1 ≤ n → AreCheap k items → fitting n k items ≡ [] → items ≡ []
taken_none n k [] some cheap none = refl
taken_none n k (i ∷ is) some cheap none =
    let fits : has_room n k i ≡ true = and_true (nat_lt 0 n) (nat_le (cost i) k) (lt_tested 0 n some) (le_tested (cost i) k cheap.0) in
    let taken : fitting n k (i ∷ is) ≡ i ∷ fitting (n - 1) (k - cost i) is = ap (λ t. cond t (i ∷ fitting (n - 1) (k - cost i) is) []) fits in
    cc

pub nothing_to_send : EmptyMeansNothingToSend
unfolding built
nothing_to_send rows session limits none =
    let bytes = limits.its_bytes in
    taken_none session.max_items (room_of session.max_bytes) (candidates rows session) limits.an_item
    (all_cheap rows session (session_channels session) (omega arith) limits.its_name) none
