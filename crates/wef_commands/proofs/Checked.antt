-- Lines cut off a text, and what is printed for them.
use Rattle.std.proofs.Common.{◌≡◌, ℕ, ◌+◌, ◌<◌, ◌≤◌, ◌==◌, true, false, List, [], ◌∷◌, ◌++◌, length, get_or, take, drop, All, refl, ap, sym, ◌∙◌, arith, take-append-drop}
use Rattle.std.proofs.Math.Seq.{drop-length}
use Rattle.std.proofs.lemmas.List.{drop_more}
use Rattle.std.proofs.lemmas.List.Elements.{All-head, All-tail}
use Rattle.std.specs.Prelude.{Option, None, Some, IfSome, IfOk, IfErr, Result, Ok, Err}
use Rattle.std.specs.Io.KnownBytes.{IsAtEnd}
use Rattle.std.specs.Option.{option_and_then, option_map}
use Rattle.wef_base.specs.declared.tree.Charset.TheVariants.{Utf8}
use Rattle.wef_base.specs.declared.tree.Element.{Element}
use Rattle.wef_event.specs.Events.{Event, event_in, event_of, event_or_none}
use Rattle.wef_query.specs.Selected.{is_selected}
use Rattle.wef_query.specs.declared.QueryList.{QueryList}
use Rattle.wef_building.specs.Selecting.{in_tree, is_wanted}
use Rattle.wef_tree_reading.specs.Documents.{tree_of}
use Rattle.wef_commands.specs.Checking.{Checks, EndsUnanswered, HasAnswers, answer_by, answer_to, answers_of, begun, checked, lines_of}
use Rattle.wef_commands.specs.Endings.{Told}
use Rattle.wef_commands.specs.declared.ending.Ending.{Ending}
use Rattle.wef_commands.specs.declared.ending.Ending.TheVariants as ends

-- ---- lines

abbrev pub IsInLine : ℕ → Type 0
IsInLine b = (b == 10) ≡ false

-- no byte ends a line
abbrev pub HasNoEnd : List ℕ → Type 0
HasNoEnd text = All IsInLine text

ended : (front rest : List ℕ) → HasNoEnd front → lines_of (front ++ 10 ∷ rest) ≡ front ∷ lines_of rest
ended [] rest h = refl
ended (b ∷ bs) rest h = rw (All-head IsInLine b bs h) (ap (begun b) (ended bs rest (All-tail IsInLine b bs h)))

-- the first line ends at the first LF
pub first_line : (at : ℕ) (text : List ℕ) → at < length text → get_or text at 0 ≡ 10 → HasNoEnd (take at text)
    → lines_of text ≡ take at text ∷ lines_of (drop (at + 1) text)
first_line at text inside ends before =
    let whole : text ≡ take at text ++ 10 ∷ drop (at + 1) text =
    sym (take-append-drop at text) ∙ ap (λ more. take at text ++ more) (drop_more text at 0 inside ∙ ap (λ b. b ∷ drop (at + 1) text) ends) in
    ap lines_of whole ∙ ended (take at text) (drop (at + 1) text) before

alone : (b : ℕ) (bs : List ℕ) → HasNoEnd (b ∷ bs) → lines_of (b ∷ bs) ≡ (b ∷ bs) ∷ []
alone b [] h = rw (All-head IsInLine b [] h) refl
alone b (c ∷ cs) h = rw (All-head IsInLine b (c ∷ cs) h) (ap (begun b) (alone c cs (All-tail IsInLine b (c ∷ cs) h)))

-- a text without an LF is one line
pub last_line : (text : List ℕ) → 0 < length text → HasNoEnd text → lines_of text ≡ text ∷ lines_of (drop (length text) text)
last_line [] some h = absurd (omega (arith, some))
last_line (b ∷ bs) some h = alone b bs h ∙ ap (λ (left : List ℕ). (b ∷ bs) ∷ lines_of left) (sym (drop-length (b ∷ bs)))

-- ---- answers

-- what a list answers to a line, by the root of the document that the line is
pub answered : (list : QueryList) (line : List ℕ) → answer_to list line ≡ option_and_then (answer_by list) (tree_of Utf8 line)
unfolding answer_to event_in is_wanted
answered list line = by (tree_of Utf8 line)
  where
    by : (t : Option Element) → option_map (λ (event : Event). in_tree (is_selected list.items event.channel) t) (option_and_then (λ root. event_or_none (event_of true root)) t)
        ≡ option_and_then (answer_by list) t
    by None = refl
    by (Some root) = refl

-- ---- whole inputs

-- The input is at its end, and its bytes, at most the limit, are these.
abbrev IsReadWhole : ℕ → List ℕ → Told → Type 0
IsReadWhole limit bytes input = IsAtEnd input.after × IfSome input.before (λ all. (all ≡ bytes) × (length all ≤ limit))

-- what is printed for it
pub checked_told : (limit : ℕ) (left : Option (List ℕ)) (bytes : List ℕ) (given : Result (List ℕ) Ending) → IfSome left (λ all. (all ≡ bytes) × (length all ≤ limit))
    → answers_of (lines_of bytes) ≡ given → IfSome left (λ all. checked all ≡ given)
checked_told limit None bytes given read gives = tt
checked_told limit (Some all) bytes given read gives = ap (λ (text : List ℕ). answers_of (lines_of text)) read.0 ∙ gives

-- what was made for the lines of an input that was read whole
pub has_answers : (limit : ℕ) (result : Result (List ℕ) Ending) (bytes : List ℕ) (input : Told) → IsReadWhole limit bytes input → Checks result (answers_of (lines_of bytes))
    → IfOk result (λ text. HasAnswers text input)
has_answers limit (Ok text) bytes input read gives = (read.0, checked_told limit input.before bytes (Ok text) read.1 gives)
has_answers limit (Err ending) bytes input read gives = tt

pub ends_unanswered : (limit : ℕ) (result : Result (List ℕ) Ending) (bytes : List ℕ) (input : Told) → IsReadWhole limit bytes input → Checks result (answers_of (lines_of bytes))
    → IfErr result (λ ending. EndsUnanswered ending input)
ends_unanswered limit (Ok text) bytes input read gives = tt
ends_unanswered limit (Err (ends.BadLine k)) bytes input read gives = (read.0, checked_told limit input.before bytes (Err (ends.BadLine k)) read.1 gives)
ends_unanswered limit (Err ends.NoMemory) bytes input read gives = tt
ends_unanswered limit (Err _) bytes input read gives = absurd gives
