-- The texts of a schedule, one after the other.
use Rattle.std.proofs.Common.{◌≡◌, ℕ, ◌+◌, Bool, not, ◌&&◌, ◌||◌, cond, List, [], ◌∷◌, ◌++◌, refl, ap, sym, ◌∙◌, append_assoc}
use Rattle.std.specs.Prelude.{Option, Some, None, is_some}
use Rattle.std.specs.Option.{option_and_then, option_flatten}
use Rattle.wef_base.specs.Names.{same}
use Rattle.wef_replay_values.specs.declared.end_name.EndName.{EndName}
use Rattle.wef_replay_values.specs.declared.end_name.EndName.TheVariants as end
use Rattle.wef_replay.specs.Alike.{AreAlike}
use Rattle.wef_replay.specs.Good.{Names, allows, has_end, noted}
use Rattle.wef_replay.specs.Grammar.{meaning}
use Rattle.wef_replay.specs.Schedule.{first_bad, if_allowed, lines_of, meaning_after, noted_if_some, with_line}
use Rattle.wef_replay.specs.declared.lines.Line.{Line}
use Rattle.wef_replay.specs.declared.lines.Line.TheVariants.{Subscribe, SubscribeAt, End, Batch, Source, Write, WriteXml, Ask, Poll, Deliver, Back, Request, Forget, Lost, Shut, Show, Print, Status, Crash, Fail, Stop, Calm, Tick, Settle}

-- ---- one text

-- the lines from a text on, by what it does
abbrev pub lines_by : Option (Option Line) → Names → List (List ℕ) → List Line
lines_by meaning names texts = cond (is_some meaning) (with_line (option_flatten meaning) (lines_of (noted_if_some (option_flatten meaning) names) texts)) []

-- the first bad line from a text on, by what it does
abbrev pub bad_by : Option (Option Line) → Names → ℕ → List (List ℕ) → Option ℕ
bad_by meaning names k texts = cond (is_some meaning) (first_bad (noted_if_some (option_flatten meaning) names) (k + 1) texts) (Some k)

-- a good text that does this stands in front of the lines that follow it
pub lines_of-good : (names : Names) (text : List ℕ) (texts : List (List ℕ)) (act : Option Line) → meaning_after names text ≡ Some act
    → lines_of names (text ∷ texts) ≡ with_line act (lines_of (noted_if_some act names) texts)
lines_of-good names text texts act e = ap (λ (meaning : Option (Option Line)). lines_by meaning names texts) e

-- and the first bad line is one that follows it
pub first_bad-good : (names : Names) (k : ℕ) (text : List ℕ) (texts : List (List ℕ)) (act : Option Line) → meaning_after names text ≡ Some act
    → first_bad names k (text ∷ texts) ≡ first_bad (noted_if_some act names) (k + 1) texts
first_bad-good names k text texts act e = ap (λ (meaning : Option (Option Line)). bad_by meaning names k texts) e

-- ---- names that are alike

pub alike_itself : (names : Names) → AreAlike names names
alike_itself names = record { declared = λ s. refl; foreign = λ s. refl }

alike_noted : (line : Line) (a b : Names) → AreAlike a b → AreAlike (noted line a) (noted line b)
alike_noted (Source s capacity) a b alike = record { declared = λ name. ap (λ (t : Bool). same name s || t) (alike.declared name); foreign = alike.foreign }
alike_noted (Batch u s batch) a b alike = record { declared = alike.declared; foreign = λ name. ap (λ (t : Bool). same name s || t) (alike.foreign name) }
alike_noted (Subscribe u items bytes beat query) a b alike = alike
alike_noted (SubscribeAt u s items bytes beat expires query) a b alike = alike
alike_noted (End u) a b alike = alike
alike_noted (Write s event) a b alike = alike
alike_noted (WriteXml s event) a b alike = alike
alike_noted (Ask s) a b alike = alike
alike_noted (Poll s u) a b alike = alike
alike_noted (Deliver n seen) a b alike = alike
alike_noted (Back n) a b alike = alike
alike_noted Request a b alike = alike
alike_noted Forget a b alike = alike
alike_noted (Lost s u) a b alike = alike
alike_noted (Shut s) a b alike = alike
alike_noted Show a b alike = alike
alike_noted (Print u s c) a b alike = alike
alike_noted (Status u) a b alike = alike
alike_noted (Crash e) a b alike = alike
alike_noted (Fail e after) a b alike = alike
alike_noted (Stop e after) a b alike = alike
alike_noted Calm a b alike = alike
alike_noted (Tick ms) a b alike = alike
alike_noted Settle a b alike = alike

alike_noted_if_some : (act : Option Line) (a b : Names) → AreAlike a b → AreAlike (noted_if_some act a) (noted_if_some act b)
alike_noted_if_some None a b alike = alike
alike_noted_if_some (Some line) a b alike = alike_noted line a b alike

has_end-alike : (e : EndName) (a b : Names) → AreAlike a b → has_end a e ≡ has_end b e
has_end-alike end.Collector a b alike = refl
has_end-alike (end.Source s) a b alike = alike.declared s

allows-alike : (line : Line) (a b : Names) → AreAlike a b → allows a line ≡ allows b line
allows-alike (Source s capacity) a b alike = λ i. not (alike.declared s i) && not (alike.foreign s i)
allows-alike (Batch u s batch) a b alike = ap not (alike.declared s)
allows-alike (Subscribe u items bytes beat query) a b alike = refl
allows-alike (SubscribeAt u s items bytes beat expires query) a b alike = alike.declared s
allows-alike (End u) a b alike = refl
allows-alike (Write s event) a b alike = alike.declared s
allows-alike (WriteXml s event) a b alike = alike.declared s
allows-alike (Ask s) a b alike = alike.declared s
allows-alike (Poll s u) a b alike = alike.declared s
allows-alike (Deliver n seen) a b alike = refl
allows-alike (Back n) a b alike = refl
allows-alike Request a b alike = refl
allows-alike Forget a b alike = refl
allows-alike (Lost s u) a b alike = alike.declared s
allows-alike (Shut s) a b alike = alike.declared s
allows-alike Show a b alike = refl
allows-alike (Print u s c) a b alike = refl
allows-alike (Status u) a b alike = refl
allows-alike (Crash e) a b alike = has_end-alike e a b alike
allows-alike (Fail e after) a b alike = has_end-alike e a b alike
allows-alike (Stop e after) a b alike = has_end-alike e a b alike
allows-alike Calm a b alike = refl
allows-alike (Tick ms) a b alike = refl
allows-alike Settle a b alike = refl

if_allowed-alike : (act : Option Line) (a b : Names) → AreAlike a b → if_allowed a act ≡ if_allowed b act
if_allowed-alike None a b alike = refl
if_allowed-alike (Some line) a b alike = ap (λ (t : Bool). cond t (Some (Some line)) None) (allows-alike line a b alike)

meaning_after-alike : (text : List ℕ) (a b : Names) → AreAlike a b → meaning_after a text ≡ meaning_after b text
meaning_after-alike text a b alike = by (meaning text)
  where
    by : (m : Option (Option Line)) → option_and_then (if_allowed a) m ≡ option_and_then (if_allowed b) m
    by None = refl
    by (Some act) = if_allowed-alike act a b alike

-- after names that are alike the same lines are read
pub lines_of-alike : (texts : List (List ℕ)) (a b : Names) → AreAlike a b → lines_of a texts ≡ lines_of b texts
lines_of-alike [] a b alike = refl
lines_of-alike (text ∷ texts) a b alike =
    ap (λ (meaning : Option (Option Line)). lines_by meaning a texts) (meaning_after-alike text a b alike) ∙ by (λ (act : Option Line). lines_of-alike texts (noted_if_some act a) (noted_if_some act b) (alike_noted_if_some act a b alike)) (meaning_after b text)
  where
    by : ((act : Option Line) → lines_of (noted_if_some act a) texts ≡ lines_of (noted_if_some act b) texts) → (m : Option (Option Line)) → lines_by m a texts ≡ lines_by m b texts
    by rest None = refl
    by rest (Some act) = ap (with_line act) (rest act)

-- and the same line is the first bad one
pub first_bad-alike : (texts : List (List ℕ)) (k : ℕ) (a b : Names) → AreAlike a b → first_bad a k texts ≡ first_bad b k texts
first_bad-alike [] k a b alike = refl
first_bad-alike (text ∷ texts) k a b alike =
    ap (λ (meaning : Option (Option Line)). bad_by meaning a k texts) (meaning_after-alike text a b alike) ∙ by (λ (act : Option Line). first_bad-alike texts (k + 1) (noted_if_some act a) (noted_if_some act b) (alike_noted_if_some act a b alike)) (meaning_after b text)
  where
    by : ((act : Option Line) → first_bad (noted_if_some act a) (k + 1) texts ≡ first_bad (noted_if_some act b) (k + 1) texts) → (m : Option (Option Line)) → bad_by m a k texts ≡ bad_by m b k texts
    by rest None = refl
    by rest (Some act) = rest act

-- ---- one turn of the reader, which keeps names that are alike

pub lines_read : (names new : Names) (text : List ℕ) (texts : List (List ℕ)) (line : Line) (lines pushed all : List Line)
    → meaning_after names text ≡ Some (Some line) → AreAlike new (noted line names) → pushed ≡ lines ++ line ∷ []
    → lines ++ lines_of names (text ∷ texts) ≡ all → pushed ++ lines_of new texts ≡ all
lines_read names new text texts line lines pushed all means alike push so_far =
    (λ i. push i ++ lines_of-alike texts new (noted line names) alike i)
    ∙ append_assoc lines (line ∷ []) (lines_of (noted line names) texts)
    ∙ ap (λ (rest : List Line). lines ++ rest) (sym (lines_of-good names text texts (Some line) means))
    ∙ so_far

pub first_bad_read : (names new : Names) (k : ℕ) (text : List ℕ) (texts : List (List ℕ)) (line : Line) (all : Option ℕ)
    → meaning_after names text ≡ Some (Some line) → AreAlike new (noted line names)
    → first_bad names k (text ∷ texts) ≡ all → first_bad new (k + 1) texts ≡ all
first_bad_read names new k text texts line all means alike so_far =
    first_bad-alike texts (k + 1) new (noted line names) alike ∙ sym (first_bad-good names k text texts (Some line) means) ∙ so_far
