-- Batches that words make have items, numbers and channels as batches have.
use Rattle.std.proofs.Common.{◌≡◌, ℕ, ◌+◌, Bool, true, false, ◌&&◌, ◌||◌, cond, List, [], ◌∷◌, Ordering, length, refl, ap, sym, subst, ◌∙◌, arith, max, nat_lt, length-append}
use Rattle.std.specs.Prelude.{◌==◌, Option, Some, None, codes, is_some, not, unwrap_or}
use Rattle.std.specs.Cmp.Lexicographic.{slice_cmp}
use Rattle.std.specs.FinMap as map
use Rattle.std.specs.FinMap.Entries.{by_order}
use Rattle.std.specs.List.{All, list_all}
use Rattle.std.specs.Ordering.{eq_by_cmp, nat_cmp}
use Rattle.std.specs.Str.{is_utf8}
use Rattle.std.specs.declared.cmp.Ordering.TheVariants.{Less, Equal, Greater}
use Rattle.std.proofs.lemmas.Bool.{and_from, and_parts, false≢true, or_left, or_right}
use Rattle.std.proofs.lemmas.Bool.Decides.{nat_tests}
use Rattle.std.proofs.lemmas.Cmp.{nat_list_cmp_total}
use Rattle.std.proofs.lemmas.List.Elements.{All-nil, All-push}
use Rattle.std.proofs.lemmas.List.Folds.{list_all-append}
use Rattle.wef_base.specs.Names.{channel_name, same}
use Rattle.wef_base.specs.Words.{decoded, parts}
use Rattle.wef_base.specs.declared.numbers.TheConstants.{MAX}
use Rattle.wef_batch.specs.declared.items.Batch as batch
use Rattle.wef_batch.specs.declared.items.Item.TheVariants as item
use Rattle.wef_bookmark.specs.Order.{Marks, number_at, raised}
use Rattle.wef_base.specs.Characters.{is_xml_text}
use Rattle.wef_event.specs.PlainEvent.{plain_event, plain_text}
use Rattle.wef_event.specs.Events.{Event, is_event}
use Rattle.wef_event.proofs.PlainTrees.{plain_is_read}
use Rattle.wef_replay_values.specs.Values.{channel_word, joined, number_word}
use Rattle.wef_replay.specs.BatchWords.{added, batch_word, data_word, dropped_word, empty_batch, event_word, if_word, if_xml_text, IsWithin, is_nothing, loose_word, reach_word, read_words, spelled, word_of}
use Rattle.wef_replay.specs.Good.{are_words, has_word, is_channel, is_count, is_item, is_number, is_one, is_reach}
use Rattle.wef_replay.specs.PlainEvents.{IsPlainItem}
use Rattle.wef_replay.specs.declared.batches.BatchWord.{BatchWord}
use Rattle.wef_replay.specs.declared.batches.BatchWord.TheVariants.{Item, Reach, Ack}
use Rattle.wef_replay.proofs.Cuts.{HasFirst, has_first}
use Rattle.wef_replay.proofs.Gifts.{AllOf, all_of-if, all_of-map, all_of-tested, all_of-then}
use Rattle.wef_replay.proofs.GoodNames.{decoded_is_text, good-channel, kept_channel}
use Rattle.wef_replay.proofs.GoodNumbers.{count_from_between, good-number, is_count-max, most, of_record}

-- ---- one word

-- what a word says is within the limits, and its event is plain
abbrev IsGoodWord : BatchWord → Type 0
IsGoodWord (Item i) = (is_item i ≡ true) × IsPlainItem i
IsGoodWord (Reach c n) = is_reach (c, n) ≡ true
IsGoodWord Ack = Unit {0}

-- a word of XML Chars
abbrev IsXmlWord : List ℕ → Type 0
IsXmlWord word = (is_utf8 word ≡ true) × (is_xml_text word ≡ true)

good-data_word : (piece : List ℕ) (more : List (List ℕ)) → AllOf IsXmlWord (data_word piece more)
good-data_word piece more =
    all_of-then (λ word. is_utf8 word ≡ true) IsXmlWord if_xml_text (decoded (joined 58 piece more)) (decoded_is_text (joined 58 piece more))
    (λ word text. all_of-tested IsXmlWord (is_xml_text word) word (λ characters. (text, characters)))

-- a plain event of a channel's name and a number is the one that its text says
said : (c : List ℕ) (n : ℕ) (word : List ℕ) (event : Event) → is_channel c ≡ true → is_number n ≡ true → IsXmlWord word → plain_event c n 0 0 word ≡ Some event → is_event event ≡ true
said c n word event channel number characters made =
    let utf8 = (and_parts (is_utf8 c) (is_one c (channel_name c)) channel).0 in
    let within = of_record n number in
    plain_is_read c word n 0 0 event (kept_channel c channel) utf8 characters.0 characters.1 within.0 within.1 made

good-plain_event : (c : List ℕ) (n : ℕ) (word : List ℕ) → is_channel c ≡ true → is_number n ≡ true → IsXmlWord word → AllOf (λ event. IsGoodWord (Item (item.Event event))) (plain_event c n 0 0 word)
good-plain_event c n word channel number characters = by (nat_lt 1048576 (length (plain_text c n 0 0 word))) refl
  where
    made : Event
    made = record { channel = c; number = n; text = plain_text c n 0 0 word }

    by : (b : Bool) → nat_lt 1048576 (length (plain_text c n 0 0 word)) ≡ b → AllOf (λ event. IsGoodWord (Item (item.Event event))) (cond b None (Some made))
    by true long = tt
    by false fits =
        let is_made : plain_event c n 0 0 word ≡ Some made = ap (λ (b : Bool). cond b None (Some made)) fits in
        let read = said c n word made channel number characters is_made in
        (λ i. channel i && number i && read i, (word, characters.0, characters.1, is_made))

good-event_word : (channel number piece : List ℕ) (more : List (List ℕ)) → AllOf IsGoodWord (event_word channel number piece more)
good-event_word channel number piece more =
    all_of-then (λ c. is_channel c ≡ true) IsGoodWord _ (channel_word channel) (good-channel channel) (λ c is_c.
    all_of-then (λ n. is_number n ≡ true) IsGoodWord _ (number_word 1 MAX number) (good-number 1 MAX number) (λ n is_n.
    all_of-then IsXmlWord IsGoodWord _ (data_word piece more) (good-data_word piece more) (λ word characters.
    all_of-map (λ (event : Event). IsGoodWord (Item (item.Event event))) IsGoodWord _ (plain_event c n 0 0 word) (good-plain_event c n word is_c is_n characters) (λ event h. h))))

good-dropped_word : (channel first last : List ℕ) → AllOf IsGoodWord (dropped_word channel first last)
good-dropped_word channel first last =
    all_of-then (λ c. is_channel c ≡ true) IsGoodWord _ (channel_word channel) (good-channel channel) (λ c is_c.
    all_of-then (λ n. is_number n ≡ true) IsGoodWord _ (number_word 1 MAX first) (good-number 1 MAX first) (λ a is_a.
    all_of-map (λ n. is_number n ≡ true) IsGoodWord _ (number_word 1 MAX last) (good-number 1 MAX last) (λ b is_b. (λ i. is_c i && is_a i && is_b i, tt))))

good-loose_word : (count : List ℕ) → AllOf IsGoodWord (loose_word count)
good-loose_word count = all_of-map _ IsGoodWord (λ n. Item (item.Loose n)) (number_word 0 MAX count) (good-number 0 MAX count) (λ n h. (count_from_between n h, tt))

good-reach_word : (channel number : List ℕ) → AllOf IsGoodWord (reach_word channel number)
good-reach_word channel number =
    all_of-then (λ c. is_channel c ≡ true) IsGoodWord _ (channel_word channel) (good-channel channel) (λ c is_c.
    all_of-map _ IsGoodWord (λ n. Reach c n) (number_word 0 MAX number) (good-number 0 MAX number) (λ n h. and_from (is_channel c) (is_count n) is_c (count_from_between n h)))

good-if_word : (kind word : List ℕ) (given : Option BatchWord) → AllOf IsGoodWord given → AllOf IsGoodWord (if_word kind word given)
good-if_word kind word given h = all_of-if IsGoodWord (same kind word) given None h tt

good-word_of : (pieces : List (List ℕ)) → AllOf IsGoodWord (word_of pieces)
good-word_of [] = tt
good-word_of (kind ∷ []) = good-if_word kind (codes "ack") (Some Ack) tt
good-word_of (kind ∷ count ∷ []) = good-if_word kind (codes "l") (loose_word count) (good-loose_word count)
good-word_of (kind ∷ channel ∷ number ∷ []) = good-if_word kind (codes "t") (reach_word channel number) (good-reach_word channel number)
good-word_of (kind ∷ channel ∷ number ∷ piece ∷ more) =
    all_of-if IsGoodWord (same kind (codes "d") && is_nothing more) (dropped_word channel number piece) (if_word kind (codes "e") (event_word channel number piece more))
    (good-dropped_word channel number piece) (good-if_word kind (codes "e") (event_word channel number piece more) (good-event_word channel number piece more))

pub within_word : (word : List ℕ) (said : BatchWord) → batch_word word ≡ Some said → IsWithin said
within_word word said is = by said (subst (AllOf IsGoodWord) is (good-word_of (parts 58 word)))
  where
    by : (said : BatchWord) → IsGoodWord said → IsWithin said
    by (Item i) good = tt
    by (Reach c n) good = most n (and_parts (is_channel c) (is_count n) good).1
    by Ack good = tt

-- ---- a bookmark that is raised

good-put : (k : List ℕ) (v : ℕ) (entries : List (List ℕ × ℕ)) → is_channel k ≡ true → is_count v ≡ true → list_all is_reach entries ≡ true → list_all is_reach (map.put (slice_cmp nat_cmp) k v entries) ≡ true
good-put k v [] channel count all = λ i. (channel i && count i) && true
good-put k v (e ∷ es) channel count all = by (good-put k v es channel count parts.1) (slice_cmp nat_cmp k e.0)
  where
    parts : (is_reach e ≡ true) × (list_all is_reach es ≡ true)
    parts = and_parts (is_reach e) (list_all is_reach es) all

    by : list_all is_reach (map.put (slice_cmp nat_cmp) k v es) ≡ true → (r : Ordering) → list_all is_reach (by_order r ((k, v) ∷ e ∷ es) ((e.0, v) ∷ es) (e ∷ map.put (slice_cmp nat_cmp) k v es)) ≡ true
    by rest Less = λ i. (channel i && count i) && all i
    by rest Equal = λ i. ((and_parts (is_channel e.0) (is_count e.1) parts.0).0 i && count i) && parts.1 i
    by rest Greater = λ i. parts.0 i && rest i

good-find : (k : List ℕ) (entries : List (List ℕ × ℕ)) → list_all is_reach entries ≡ true → is_count (unwrap_or (map.find (slice_cmp nat_cmp) k entries) 0) ≡ true
good-find k [] all = refl
good-find k (e ∷ es) all = by (eq_by_cmp (slice_cmp nat_cmp) k e.0) (good-find k es parts.1)
  where
    parts : (is_reach e ≡ true) × (list_all is_reach es ≡ true)
    parts = and_parts (is_reach e) (list_all is_reach es) all

    by : (b : Bool) → is_count (unwrap_or (map.find (slice_cmp nat_cmp) k es) 0) ≡ true → is_count (unwrap_or (cond b (Some e.1) (map.find (slice_cmp nat_cmp) k es)) 0) ≡ true
    by true rest = (and_parts (is_channel e.0) (is_count e.1) parts.0).1
    by false rest = rest

good-raised : (b : Marks) (c : List ℕ) (n : ℕ) → is_channel c ≡ true → is_count n ≡ true → list_all is_reach (map.entries b) ≡ true → list_all is_reach (map.entries (raised b c n)) ≡ true
good-raised b c n channel count all =
    let old : is_count (number_at b c) ≡ true = ap (λ (found : Option ℕ). is_count (unwrap_or found 0)) (map.get-entries b c) ∙ good-find c (map.entries b) all in
    ap (list_all is_reach) (map.entries-insert nat_list_cmp_total b c (max (number_at b c) n))
    ∙ good-put c (max (number_at b c) n) (map.entries b) channel (is_count-max (number_at b c) n old count) all

-- ---- the words one after the other

record IsGoodSoFar (b : batch.Batch) : Type 0 where
  items : list_all is_item b.items ≡ true
  plain : All IsPlainItem b.items
  to : list_all is_reach (map.entries b.to) ≡ true

good-added : (word : BatchWord) (b : batch.Batch) → IsGoodWord word → IsGoodSoFar b → IsGoodSoFar (added word b)
good-added (Item i) b good so_far = record {
  items = list_all-append is_item b.items (i ∷ []) ∙ (λ j. so_far.items j && (good.0 j && true));
  plain = All-push IsPlainItem b.items i so_far.plain good.1;
  to = so_far.to;
}
good-added (Reach c n) b good so_far =
    let parts = and_parts (is_channel c) (is_count n) good in
    record { items = so_far.items; plain = so_far.plain; to = good-raised b.to c n parts.0 parts.1 so_far.to }
good-added Ack b good so_far = record { items = so_far.items; plain = so_far.plain; to = so_far.to }

more_than_none : (n m : ℕ) → n ≡ m + 1 → not (n == 0) ≡ true
more_than_none n m e = grind (arith, nat_tests, e)

long-put : (k : List ℕ) (v : ℕ) (entries : List (List ℕ × ℕ)) → not (length (map.put (slice_cmp nat_cmp) k v entries) == 0) ≡ true
long-put k v [] = refl
long-put k v (e ∷ es) = by (slice_cmp nat_cmp k e.0)
  where
    by : (r : Ordering) → not (length (by_order r ((k, v) ∷ e ∷ es) ((e.0, v) ∷ es) (e ∷ map.put (slice_cmp nat_cmp) k v es)) == 0) ≡ true
    by Less = more_than_none _ (length (e ∷ es)) (omega arith)
    by Equal = more_than_none _ (length es) (omega arith)
    by Greater = more_than_none _ (length (map.put (slice_cmp nat_cmp) k v es)) (omega arith)

has_word-added : (word : BatchWord) (b : batch.Batch) → has_word (added word b) ≡ true
has_word-added (Item i) b =
    let some = more_than_none _ (length b.items) (length-append b.items (i ∷ [])) in
    λ j. some j || not (length (map.entries b.to) == 0) || b.ack_wanted
has_word-added (Reach c n) b =
    let some = ap (λ (entries : List (List ℕ × ℕ)). not (length entries == 0)) (map.entries-insert nat_list_cmp_total b.to c (max (number_at b.to c) n)) ∙ long-put c (max (number_at b.to c) n) (map.entries b.to) in
    or_left (not (length b.items == 0) || not (length (map.entries (raised b.to c n)) == 0)) b.ack_wanted (or_right (not (length b.items == 0)) _ some)
has_word-added Ack b = or_right (not (length b.items == 0) || not (length (map.entries b.to) == 0)) true refl

-- the words are within the limits, and each event is plain
abbrev pub AreGoodWords : batch.Batch → Type 0
AreGoodWords whole = (are_words whole ≡ true) × All IsPlainItem whole.items

good-read_words : (b : batch.Batch) (words : List (List ℕ)) → IsGoodSoFar b → has_word b ≡ true → AllOf AreGoodWords (read_words b words)
good-read_words b [] so_far some = (λ i. some i && so_far.items i && so_far.to i, so_far.plain)
good-read_words b (word ∷ words) so_far some =
    all_of-then IsGoodWord AreGoodWords (λ w. read_words (added w b) words) (batch_word word) (good-word_of (parts 58 word))
    (λ w good. good-read_words (added w b) words (good-added w b good so_far) (has_word-added w b))

none-entries : (entries : List (List ℕ × ℕ)) → length entries ≡ 0 → list_all is_reach entries ≡ true
none-entries [] e = refl
none-entries (entry ∷ entries) e = absurd (omega arith)

good-empty : IsGoodSoFar empty_batch
good-empty = record { items = refl; plain = All-nil IsPlainItem; to = none-entries (map.entries empty_batch.to) (sym (map.len-entries empty_batch.to) ∙ map.len-empty (slice_cmp nat_cmp) ℕ) }

-- the words of a batch, of which there is one or more
pub good-batch_words : (word : List ℕ) (words : List (List ℕ)) → AllOf AreGoodWords (read_words empty_batch (word ∷ words))
good-batch_words word words =
    all_of-then IsGoodWord AreGoodWords (λ w. read_words (added w empty_batch) words) (batch_word word) (good-word_of (parts 58 word))
    (λ w good. good-read_words (added w empty_batch) words (good-added w empty_batch good good-empty) (has_word-added w empty_batch))

-- ---- batches that are kept as words

-- what words spell is within the limits
pub good-spelled : (text : List ℕ) → is_some (read_words empty_batch (parts 32 text)) ≡ true → true ≡ are_words (spelled (parts 32 text))
good-spelled text some = sym (by (read_words empty_batch (parts 32 text)) good some)
  where
    found : HasFirst 32 text
    found = has_first 32 text

    good : AllOf AreGoodWords (read_words empty_batch (parts 32 text))
    good = subst (λ words. AllOf AreGoodWords (read_words empty_batch words)) (sym found.are) (good-batch_words found.first found.more)

    by : (given : Option batch.Batch) → AllOf AreGoodWords given → is_some given ≡ true → are_words (unwrap_or given empty_batch) ≡ true
    by None good some = absurd (false≢true some)
    by (Some b) good some = good.0
