-- The line of a text by its first word, and the line of a batch by its first words.
use Rattle.std.proofs.Common.{◌≡◌, ℕ, Bool, true, false, ◌&&◌, cond, List, [], ◌∷◌, refl, ap, sym, ◌∙◌}
use Rattle.std.specs.Prelude.{Option, Some, None, codes, is_some, unwrap_or}
use Rattle.std.specs.List.{list_all}
use Rattle.std.specs.Option.{option_and_then}
use Rattle.wef_base.specs.Names.{same}
use Rattle.wef_base.specs.Words.{parts}
use Rattle.wef_batch.specs.declared.items.Batch as batch
use Rattle.wef_replay.specs.BatchWords.{added, batch_word, read_words}
use Rattle.wef_replay.specs.Grammar.{batch_line, batch_of_source, line_of_words, other_line}
use Rattle.wef_replay.specs.declared.batches.BatchWord.{BatchWord}
use Rattle.wef_replay.proofs.Cuts.{has_first}

-- ---- the first word

pub is_batch_line : (text kind : List ℕ) (words : List (List ℕ)) → parts 32 text ≡ kind ∷ words → same kind (codes "batch") ≡ true → line_of_words (parts 32 text) ≡ batch_line words
is_batch_line text kind words e is = ap line_of_words e ∙ ap (λ (b : Bool). cond b (batch_line words) (other_line (kind ∷ words))) is

pub is_other_line : (text kind : List ℕ) (words : List (List ℕ)) → parts 32 text ≡ kind ∷ words → same kind (codes "batch") ≡ false → line_of_words (parts 32 text) ≡ other_line (parts 32 text)
is_other_line text kind words e other =
    ap line_of_words e ∙ ap (λ (b : Bool). cond b (batch_line words) (other_line (kind ∷ words))) other ∙ ap other_line (sym e)

-- ---- the first words of a batch

pub one_word : (words : List (List ℕ)) (sub : List ℕ) → words ≡ sub ∷ [] → batch_line words ≡ None
one_word words sub e = ap batch_line e

pub two_words : (words more : List (List ℕ)) (sub source : List ℕ) → words ≡ sub ∷ more → more ≡ source ∷ [] → batch_line words ≡ None
two_words words more sub source e f = ap batch_line (e ∙ ap (λ ws. sub ∷ ws) f)

pub more_words : (words more : List (List ℕ)) (sub source text : List ℕ) → words ≡ sub ∷ more → more ≡ source ∷ parts 32 text → batch_line words ≡ batch_of_source sub source (parts 32 text)
more_words words more sub source text e f =
    let some = has_first 32 text in
    ap batch_line (e ∙ ap (λ ws. sub ∷ ws) (f ∙ ap (λ ws. source ∷ ws) some.are)) ∙ sym (ap (batch_of_source sub source) some.are)

-- ---- words one by one

-- whether it is a word of a batch
abbrev pub is_word : List ℕ → Bool
is_word word = is_some (batch_word word)

-- words make a batch where each is one
pub each_is_word : (b : batch.Batch) (words : List (List ℕ)) → is_some (read_words b words) ≡ list_all is_word words
each_is_word b [] = refl
each_is_word b (word ∷ words) = by (batch_word word) (λ (w : BatchWord). each_is_word (added w b) words)
  where
    by : (o : Option BatchWord) → ((w : BatchWord) → is_some (read_words (added w b) words) ≡ list_all is_word words)
        → is_some (option_and_then (λ w. read_words (added w b) words) o) ≡ (is_some o && list_all is_word words)
    by None rest = refl
    by (Some w) rest = rest w

-- what is there is what is taken for it
pub some_is : (given : Option batch.Batch) (other : batch.Batch) → is_some given ≡ true → given ≡ Some (unwrap_or given other)
some_is (Some b) other e = refl
some_is None other e = cc
