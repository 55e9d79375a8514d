-- Why each line of a made schedule is good.
use Rattle.std.proofs.Common.{◌≡◌, ℕ, zero, suc, ◌+◌, ◌*◌, ◌/◌, ◌%◌, ◌<◌, ◌≤◌, ◌==◌, nat_le, nat_lt, Bool, true, false, ◌&&◌, cond, List, [], ◌∷◌, ◌++◌, codes, refl, sym, subst, arith}
use Rattle.std.proofs.Math.Nat.{div-le_self, div-mul-le_self}
use Rattle.std.proofs.lemmas.Bool.Decides.{nat_tests}
use Rattle.std.proofs.lemmas.Nat.{mod_below}
use Rattle.std.specs.Fmt.{digits}
use Rattle.std.specs.List.{flat_map}
use Rattle.std.specs.Str.{chars, is_utf8}
use lib.Utf8.{encode}
use Rattle.wef_base.specs.Names.{channel_name, source_name, subscription_name}
use Rattle.wef_base.specs.declared.numbers.TheConstants.{MAX}
use Rattle.wef_event.specs.PlainEvent.{plain_text}
use Rattle.wef_query.specs.Queries.{all_events_of}
use Rattle.wef_query.proofs.SaidPaths.{all_grouped, any_says_path}
use Rattle.wef_replay_values.specs.declared.end_name.EndName.TheVariants as end
use Rattle.wef_replay.specs.Good.{AreGood, Names, allows, are_limits, are_queries, fits_always, is_among, is_between, is_channel, is_good_after, is_no_collector, is_query_text, is_source, is_subscription, noted}
use Rattle.wef_replay.specs.declared.lines.Line.{Line}
use Rattle.wef_replay.specs.declared.lines.Line.TheVariants.{Back, Crash, Fail, Lost}
use Rattle.wef_made.specs.Made as made
use Rattle.wef_made.specs.Laws.{MadeSchedulesAreGood}
use Rattle.wef_made.proofs.Names.{each_channel, each_source}

-- the names that the opening gives
abbrev given : Names
given = record { declared = codes "s3" ∷ codes "s2" ∷ codes "s1" ∷ codes "s0" ∷ []; foreign = [] }

-- A line is good behind the opening, and gives no names.
record IsGoodThere (line : Line) : Type 0 where
  good : is_good_after given line ≡ true
  kept : noted line given ≡ given

-- so are more lines
abbrev AreGoodThere : List Line → Type 0
AreGoodThere [] = Unit {0}
AreGoodThere (line ∷ lines) = IsGoodThere line × AreGoodThere lines

-- they may stand in front of lines that are good there
good_first : (lines more : List Line) → AreGoodThere lines → AreGood given more → AreGood given (lines ++ more)
good_first [] more are rest = rest
good_first (line ∷ lines) more are rest = (are.0.good, subst (λ (names : Names). AreGood names (lines ++ more)) (sym are.0.kept) (good_first lines more are.1 rest))

both_good : (lines more : List Line) → AreGoodThere lines → AreGoodThere more → AreGoodThere (lines ++ more)
both_good [] more are rest = rest
both_good (line ∷ lines) more are rest = (are.0, both_good lines more are.1 rest)

-- ---- names

-- A name is that of a source that the opening declares.
record IsSource (s : List ℕ) : Type 0 where
  name : is_source s ≡ true
  sends : is_no_collector s ≡ true
  there : is_among given.declared s ≡ true

sources : (n : ℕ) → IsSource (made.source_name n)
unfolding source_name chars encode is_utf8
sources n = each_source IsSource first second third fourth n
  where
    first : IsSource (codes "s0")
    first = record { name = refl; sends = refl; there = refl }

    second : IsSource (codes "s1")
    second = record { name = refl; sends = refl; there = refl }

    third : IsSource (codes "s2")
    third = record { name = refl; sends = refl; there = refl }

    fourth : IsSource (codes "s3")
    fourth = record { name = refl; sends = refl; there = refl }

subscription : is_subscription made.subscription_name ≡ true
unfolding subscription_name chars encode is_utf8
subscription = refl

event : (n : ℕ) → fits_always (made.event_of n) ≡ true
unfolding channel_name chars encode is_utf8 plain_text digits
event n = by (n == 0)
  where
    by : (a : Bool) → fits_always (record { channel = cond a (codes "application") (codes "system"); id = 1; level = 4; word = codes "x"; characters = refl }) ≡ true
    by true = refl
    by false = refl

-- ---- lines

troubles : (kind : ℕ) (s : List ℕ) → IsSource s → IsGoodThere (made.trouble kind s)
troubles kind s is = by (kind == 0) (kind == 1) (kind == 2)
  where
    by : (a b c : Bool) → IsGoodThere (cond a (Crash (end.Source s)) (cond b (Crash end.Collector) (cond c (Fail end.Collector true) (Lost s made.subscription_name))))
    by true b c = record { good = λ i. (is.name i && is.sends i) && is.there i; kept = refl }
    by false true c = record { good = refl; kept = refl }
    by false false true = record { good = refl; kept = refl }
    by false false false = record { good = λ i. (is.name i && subscription i) && is.there i; kept = refl }

kinds : (kind : ℕ) (s : List ℕ) (rest : ℕ) → IsSource s → nat_le rest MAX ≡ true → AreGoodThere (made.lines_by kind s rest)
kinds kind s rest is low = by (nat_lt kind 6) (kind == 6) (kind == 7) (kind == 8)
  where
    back : IsGoodThere (Back 0)
    back = record { good = refl; kept = refl }

    by : (a b c d : Bool) → AreGoodThere (cond a (made.write_line s rest ∷ []) (cond b (made.asking s) (cond c (made.poll_line s ∷ []) (cond d (Back rest ∷ []) (made.trouble (rest % 4) s ∷ [])))))
    by true b c d = (record { good = λ i. (is.name i && event (rest % 2) i) && is.there i; kept = refl }, tt)
    by false true c d = (record { good = λ i. is.name i && is.there i; kept = refl }, (back, (back, tt)))
    by false false true d = (record { good = λ i. (is.name i && subscription i) && is.there i; kept = refl }, tt)
    by false false false true = (record { good = λ i. low i && true; kept = refl }, tt)
    by false false false false = (troubles (rest % 4) s is, tt)

-- ---- numbers

draw_below : (y : ℕ) → y < 18446744073709551616 → made.draw_of y < 65536
draw_below y h = let least = div-mul-le_self y 281474976710656 in omega (arith, h, least)

low_rest : (d : ℕ) → d < 65536 → nat_le (d / 40) MAX ≡ true
low_rest d h = let least = div-le_self d 40 in grind (arith, nat_tests, h, least)

drawn : (x n : ℕ) → AreGoodThere (flat_map made.lines_of (made.draws x n))
drawn x zero = tt
drawn x (suc n) =
    let y = made.next_state x in
    let d = made.draw_of y in
    let low = draw_below y (mod_below (x * 6364136223846793005 + 1442695040888963407) 18446744073709551616 (omega arith)) in
    both_good (made.lines_of d) (flat_map made.lines_of (made.draws y n)) (kinds (d % 10) (made.source_name ((d / 10) % 4)) (d / 40) (sources ((d / 10) % 4)) (low_rest d low)) (drawn y n)

-- ---- a schedule

star : is_query_text (codes "*") ≡ true
unfolding chars encode is_utf8
star = any_says_path

channels : (n : ℕ) → is_channel (made.channel_name n) ≡ true
unfolding channel_name chars encode is_utf8
channels n = each_channel (λ c. is_channel c ≡ true) refl refl n

queries : (c d : List ℕ) → is_channel c ≡ true → is_channel d ≡ true → are_queries (all_events_of (c ∷ d ∷ [])) ≡ true
queries c d first second = λ i. all_grouped (d ∷ []) i && ((first i && star i) && ((second i && star i) && true))

pub subscribes : (names : Names) → is_good_after names made.subscribe_line ≡ true
subscribes names =
    let both = queries (made.channel_name 0) (made.channel_name 1) (channels 0) (channels 1) in
    λ i. (subscription i && are_limits 20 512000 900000 && both i) && true

-- the names of sources that were declared
abbrev declared : List (List ℕ) → Names
declared names = record { declared = names; foreign = [] }

declares : (names : List (List ℕ)) (n : ℕ) → allows (declared names) (made.source_line n) ≡ true → is_good_after (declared names) (made.source_line n) ≡ true
declares names n fresh = let is = sources n in λ i. (is.name i && is.sends i && is_between 1 1000000 64) && fresh i

pub made_schedules_are_good : MadeSchedulesAreGood
made_schedules_are_good seed size = (
  declares [] 0 refl,
  (
    declares (codes "s0" ∷ []) 1 refl,
    (
      declares (codes "s1" ∷ codes "s0" ∷ []) 2 refl,
      (
        declares (codes "s2" ∷ codes "s1" ∷ codes "s0" ∷ []) 3 refl,
        (subscribes given, good_first (flat_map made.lines_of (made.draws seed size)) made.closing (drawn seed size) (refl, (refl, tt))),
      ),
    ),
  ),
)
