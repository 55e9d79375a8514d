-- The rows behind a key are its sections, one after the other.
use Rattle.std.proofs.Common.{◌≡◌, ◌&&◌, ◌||◌, ℕ, Bool, true, nat_lt, List, ◌++◌, ◌-◌, length, take, map, refl, sym, ap, ◌∙◌, arith, Ordering, Less, Equal, Greater, nat_cmp}
use Rattle.std.specs.Cmp.{nat_cmp_total, unsigned_ties}
use Rattle.std.specs.Cmp.Lexicographic.{slice_cmp, texts_ties, nat_list_cmp_total}
use Rattle.std.specs.FinMap.{entries, entries_sorted}
use Rattle.std.specs.FinMap.Entries.{where_key}
use Rattle.std.specs.Ordering.{is_eq, is_lt, ordering_then}
use Rattle.std.proofs.lemmas.Bool.Decides.{nat_tests}
use Rattle.std.proofs.lemmas.List.{map-append}
use Rattle.wef_keeper.specs.Rows.{Rows, key_cmp, key_cmp_total, is_after, row_of, rows_after}
use Rattle.wef_keeper.specs.declared.keys.Cell.{Cell}
use Rattle.wef_keeper.specs.declared.keys.Key.{Key}
use Rattle.wef_keeper.specs.declared.keys.Row.{Row}
use Rattle.wef_sqlite.proofs.PageLists.{split_by, taken_on}
use Rattle.wef_sqlite.specs.Paging.{is_behind, rows_behind}
use Rattle.wef_sqlite.specs.declared.read.Section.{Section}
use Rattle.wef_sqlite.specs.declared.read.Section.TheVariants.{Number, Channel, Source, Sub, Kind}

-- how the parts of two keys compare
abbrev kinds : Key → Key → Ordering
kinds a b = nat_cmp a.kind b.kind

abbrev subs : Key → Key → Ordering
subs a b = slice_cmp nat_cmp a.sub b.sub

abbrev sources : Key → Key → Ordering
sources a b = slice_cmp nat_cmp a.source b.source

abbrev channels : Key → Key → Ordering
channels a b = slice_cmp nat_cmp a.channel b.channel

abbrev numbers : Key → Key → Ordering
numbers a b = nat_cmp a.number b.number

lesser : (a b : ℕ) → nat_lt a b ≡ is_lt (nat_cmp a b)
lesser a b = grind (arith, nat_tests)

-- a test of sections by how the parts compare
abbrev by_parts : Section → Ordering → Ordering → Ordering → Ordering → Ordering → Bool
by_parts Number k s o c n = (((is_eq k && is_eq s) && is_eq o) && is_eq c) && is_lt n
by_parts Channel k s o c n = ((is_eq k && is_eq s) && is_eq o) && is_lt c
by_parts Source k s o c n = (is_eq k && is_eq s) && is_lt o
by_parts Sub k s o c n = is_eq k && is_lt s
by_parts Kind k s o c n = is_lt k

parts_are : (section : Section) (a key : Key) → is_behind section a key ≡ by_parts section (kinds a key) (subs a key) (sources a key) (channels a key) (numbers a key)
parts_are Number a key =
    λ i. (((unsigned_ties a.kind key.kind i && texts_ties a.sub key.sub i) && texts_ties a.source key.source i) && texts_ties a.channel key.channel i) && lesser a.number key.number i
parts_are Channel a key = λ i. ((unsigned_ties a.kind key.kind i && texts_ties a.sub key.sub i) && texts_ties a.source key.source i) && is_lt (channels a key)
parts_are Source a key = λ i. (unsigned_ties a.kind key.kind i && texts_ties a.sub key.sub i) && is_lt (sources a key)
parts_are Sub a key = λ i. unsigned_ties a.kind key.kind i && is_lt (subs a key)
parts_are Kind a key = lesser a.kind key.kind

-- the sections from the innermost outwards, up to one
abbrev up_to : Section → Key → Key → Bool
up_to Number a key = is_behind Number a key
up_to Channel a key = is_behind Number a key || is_behind Channel a key
up_to Source a key = (is_behind Number a key || is_behind Channel a key) || is_behind Source a key
up_to Sub a key = ((is_behind Number a key || is_behind Channel a key) || is_behind Source a key) || is_behind Sub a key
up_to Kind a key = (((is_behind Number a key || is_behind Channel a key) || is_behind Source a key) || is_behind Sub a key) || is_behind Kind a key

any_part : (k s o c n : Ordering) → (((by_parts Number k s o c n || by_parts Channel k s o c n) || by_parts Source k s o c n) || by_parts Sub k s o c n) || by_parts Kind k s o c n
    ≡ is_lt (ordering_then k (ordering_then s (ordering_then o (ordering_then c n))))
any_part Less s o c n = refl
any_part Greater s o c n = refl
any_part Equal Less o c n = refl
any_part Equal Greater o c n = refl
any_part Equal Equal Less c n = refl
any_part Equal Equal Greater c n = refl
any_part Equal Equal Equal Less n = refl
any_part Equal Equal Equal Greater n = refl
any_part Equal Equal Equal Equal Less = refl
any_part Equal Equal Equal Equal Equal = refl
any_part Equal Equal Equal Equal Greater = refl

-- a key is greater than another in one of the sections
pub after_is : (a key : Key) → up_to Kind a key ≡ is_after a key
after_is a key =
    (λ i. (((parts_are Number a key i || parts_are Channel a key i) || parts_are Source a key i) || parts_are Sub a key i) || parts_are Kind a key i)
    ∙ any_part (kinds a key) (subs a key) (sources a key) (channels a key) (numbers a key)

-- what the tests say of the parts
shared_channel : (k s o c n : Ordering) → by_parts Number k s o c n ≡ true → (k ≡ Equal) × (s ≡ Equal) × (o ≡ Equal) × (c ≡ Equal)
shared_channel Less s o c n h = cc
shared_channel Greater s o c n h = cc
shared_channel Equal Less o c n h = cc
shared_channel Equal Greater o c n h = cc
shared_channel Equal Equal Less c n h = cc
shared_channel Equal Equal Greater c n h = cc
shared_channel Equal Equal Equal Less n h = cc
shared_channel Equal Equal Equal Greater n h = cc
shared_channel Equal Equal Equal Equal n h = (refl, refl, refl, refl)

shared_source : (k s o c n : Ordering) → (by_parts Number k s o c n || by_parts Channel k s o c n) ≡ true → (k ≡ Equal) × (s ≡ Equal) × (o ≡ Equal)
shared_source Less s o c n h = cc
shared_source Greater s o c n h = cc
shared_source Equal Less o c n h = cc
shared_source Equal Greater o c n h = cc
shared_source Equal Equal Less c n h = cc
shared_source Equal Equal Greater c n h = cc
shared_source Equal Equal Equal c n h = (refl, refl, refl)

shared_sub : (k s o c n : Ordering) → ((by_parts Number k s o c n || by_parts Channel k s o c n) || by_parts Source k s o c n) ≡ true → (k ≡ Equal) × (s ≡ Equal)
shared_sub Less s o c n h = cc
shared_sub Greater s o c n h = cc
shared_sub Equal Less o c n h = cc
shared_sub Equal Greater o c n h = cc
shared_sub Equal Equal o c n h = (refl, refl)

shared_kind : (k s o c n : Ordering) → (((by_parts Number k s o c n || by_parts Channel k s o c n) || by_parts Source k s o c n) || by_parts Sub k s o c n) ≡ true → k ≡ Equal
shared_kind Less s o c n h = cc
shared_kind Greater s o c n h = cc
shared_kind Equal s o c n h = refl

-- a key of a section in front of one of a later one
lesser_channel : (k s o c n : Ordering) → by_parts Channel k s o c n ≡ true → (k ≡ Equal) × (s ≡ Equal) × (o ≡ Equal) × (c ≡ Less)
lesser_channel Less s o c n h = cc
lesser_channel Greater s o c n h = cc
lesser_channel Equal Less o c n h = cc
lesser_channel Equal Greater o c n h = cc
lesser_channel Equal Equal Less c n h = cc
lesser_channel Equal Equal Greater c n h = cc
lesser_channel Equal Equal Equal Less n h = (refl, refl, refl, refl)
lesser_channel Equal Equal Equal Equal n h = cc
lesser_channel Equal Equal Equal Greater n h = cc

lesser_source : (k s o c n : Ordering) → by_parts Source k s o c n ≡ true → (k ≡ Equal) × (s ≡ Equal) × (o ≡ Less)
lesser_source Less s o c n h = cc
lesser_source Greater s o c n h = cc
lesser_source Equal Less o c n h = cc
lesser_source Equal Greater o c n h = cc
lesser_source Equal Equal Less c n h = (refl, refl, refl)
lesser_source Equal Equal Equal c n h = cc
lesser_source Equal Equal Greater c n h = cc

lesser_sub : (k s o c n : Ordering) → by_parts Sub k s o c n ≡ true → (k ≡ Equal) × (s ≡ Less)
lesser_sub Less s o c n h = cc
lesser_sub Greater s o c n h = cc
lesser_sub Equal Less o c n h = (refl, refl)
lesser_sub Equal Equal o c n h = cc
lesser_sub Equal Greater o c n h = cc

lesser_kind : (k : Ordering) → is_lt k ≡ true → k ≡ Less
lesser_kind Less h = refl
lesser_kind Equal h = cc
lesser_kind Greater h = cc

module _ (a x y : Key) where
  -- x shares a part with a, so it compares in it as a does
  kinds_are : (r : Ordering) → kinds a x ≡ Equal → kinds a y ≡ r → kinds x y ≡ r
  kinds_are r tied is = sym (nat_cmp_total.congr a.kind x.kind y.kind tied) ∙ is

  texts_are : (s t u : List ℕ) (r : Ordering) → slice_cmp nat_cmp s t ≡ Equal → slice_cmp nat_cmp s u ≡ r → slice_cmp nat_cmp t u ≡ r
  texts_are s t u r tied is = sym (nat_list_cmp_total.congr s t u tied) ∙ is

  before_channel : up_to Number a x ≡ true → is_behind Channel a y ≡ true → key_cmp x y ≡ Less
  before_channel near far =
      let h = shared_channel (kinds a x) (subs a x) (sources a x) (channels a x) (numbers a x) (sym (parts_are Number a x) ∙ near) in
      let k = lesser_channel (kinds a y) (subs a y) (sources a y) (channels a y) (numbers a y) (sym (parts_are Channel a y) ∙ far) in
      let kind = kinds_are Equal h.0 k.0 in
      let sub = texts_are a.sub x.sub y.sub Equal h.1 k.1 in
      let source = texts_are a.source x.source y.source Equal h.2 k.2 in
      let channel = texts_are a.channel x.channel y.channel Less h.3 k.3 in
      λ i. ordering_then (kind i) (ordering_then (sub i) (ordering_then (source i) (ordering_then (channel i) (numbers x y))))

  before_source : up_to Channel a x ≡ true → is_behind Source a y ≡ true → key_cmp x y ≡ Less
  before_source near far =
      let h = shared_source (kinds a x) (subs a x) (sources a x) (channels a x) (numbers a x) ((λ i. sym (parts_are Number a x) i || sym (parts_are Channel a x) i) ∙ near) in
      let k = lesser_source (kinds a y) (subs a y) (sources a y) (channels a y) (numbers a y) (sym (parts_are Source a y) ∙ far) in
      let kind = kinds_are Equal h.0 k.0 in
      let sub = texts_are a.sub x.sub y.sub Equal h.1 k.1 in
      let source = texts_are a.source x.source y.source Less h.2 k.2 in
      λ i. ordering_then (kind i) (ordering_then (sub i) (ordering_then (source i) (ordering_then (channels x y) (numbers x y))))

  before_sub : up_to Source a x ≡ true → is_behind Sub a y ≡ true → key_cmp x y ≡ Less
  before_sub near far =
      let h = shared_sub (kinds a x) (subs a x) (sources a x) (channels a x) (numbers a x) ((λ i. (sym (parts_are Number a x) i || sym (parts_are Channel a x) i) || sym (parts_are Source a x) i) ∙ near) in
      let k = lesser_sub (kinds a y) (subs a y) (sources a y) (channels a y) (numbers a y) (sym (parts_are Sub a y) ∙ far) in
      let kind = kinds_are Equal h.0 k.0 in
      let sub = texts_are a.sub x.sub y.sub Less h.1 k.1 in
      λ i. ordering_then (kind i) (ordering_then (sub i) (ordering_then (sources x y) (ordering_then (channels x y) (numbers x y))))

  before_kind : up_to Sub a x ≡ true → is_behind Kind a y ≡ true → key_cmp x y ≡ Less
  before_kind near far =
      let h = shared_kind (kinds a x) (subs a x) (sources a x) (channels a x) (numbers a x)
      ((λ i. ((sym (parts_are Number a x) i || sym (parts_are Channel a x) i) || sym (parts_are Source a x) i) || sym (parts_are Sub a x) i) ∙ near) in
      let kind = kinds_are Less h (lesser_kind (kinds a y) (sym (parts_are Kind a y) ∙ far)) in
      λ i. ordering_then (kind i) (ordering_then (subs x y) (ordering_then (sources x y) (ordering_then (channels x y) (numbers x y))))

-- the entries behind a key, section by section
sections_are : (a : Key) (rows : Rows) → where_key key_cmp (is_after a) (entries rows)
    ≡ (((where_key key_cmp (is_behind Number a) (entries rows) ++ where_key key_cmp (is_behind Channel a) (entries rows)) ++ where_key key_cmp (is_behind Source a) (entries rows)) ++ where_key key_cmp (is_behind Sub a) (entries rows))
    ++ where_key key_cmp (is_behind Kind a) (entries rows)
sections_are a rows =
    let es = entries rows in
    let up = entries_sorted rows in
    let part : Section → List (Key × Cell) = λ section. where_key key_cmp (is_behind section a) es in
    let channel = split_by key_cmp_total (up_to Number a) (is_behind Channel a) (before_channel a) es up in
    let source = split_by key_cmp_total (up_to Channel a) (is_behind Source a) (before_source a) es up in
    let sub = split_by key_cmp_total (up_to Source a) (is_behind Sub a) (before_sub a) es up in
    let kind = split_by key_cmp_total (up_to Sub a) (is_behind Kind a) (before_kind a) es up in
    (λ i. where_key key_cmp (λ key. sym (after_is a key) i) es) ∙ kind ∙ ap (λ l. l ++ part Kind) (sub ∙ ap (λ l. l ++ part Sub) (source ∙ ap (λ l. l ++ part Source) channel))

-- the rows behind a key, section by section
pub rows_after_are : (a : Key) (rows : Rows) → rows_after a rows
    ≡ (((rows_behind Number a rows ++ rows_behind Channel a rows) ++ rows_behind Source a rows) ++ rows_behind Sub a rows) ++ rows_behind Kind a rows
rows_after_are a rows =
    let part : Section → List (Key × Cell) = λ section. where_key key_cmp (is_behind section a) (entries rows) in
    let joined : (xs ys : List (Key × Cell)) (zs : List Row) → map row_of xs ≡ zs → map row_of (xs ++ ys) ≡ zs ++ map row_of ys = λ xs ys zs is. map-append row_of xs ys ∙ ap (λ l. l ++ map row_of ys) is in
    ap (map row_of) (sections_are a rows)
    ∙ joined _ (part Kind) _ (joined _ (part Sub) _ (joined _ (part Source) _ (map-append row_of (part Number) (part Channel))))

-- a page goes on with the next section as the first rows of both
pub page_goes_on : (n : ℕ) (xs ys old new : List Row) → old ≡ take n xs → new ≡ old ++ take (n - length old) ys → new ≡ take n (xs ++ ys)
page_goes_on n xs ys old new is goes = goes ∙ ap (λ l. l ++ take (n - length l) ys) is ∙ sym (taken_on n xs ys)
