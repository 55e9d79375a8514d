use Rattle.std.proofs.Common.{◌≡◌, List, ℕ, ◌∷◌, ap, subst, sym, ◌∙◌}
use Rattle.std.specs.Borrow.{Bor}
use Rattle.std.specs.Prelude.{Option}
use Rattle.wef_base.specs.Words.{parts}
use Rattle.wef_replay_values.specs.Reading.{Gives}
use Rattle.wef_replay.specs.Grammar.{batch_line, batch_of_source}
use Rattle.wef_replay.specs.Parts.{parts_behind}
use Rattle.wef_replay.specs.declared.lines.Line.{Line}
use Rattle.wef_replay.proofs.BatchLines.{more_words}
use Rattle.wef_replay.proofs.grammar.batch_line_of.Goals as goal

pub returns : goal.returns
returns c = subst (λ (given : Option Line). Gives c.batch_of_source.result given) (sym (line ∙ ap (λ (words : Bor (List ℕ)). batch_of_source sub source (parts 32 words.now)) (sym c.in_default-Some-cut.words-is))) c.batch_of_source.ensures
  where
    sub : List ℕ
    sub = c.cut.result.0.now

    source : List ℕ
    source = c.cut-2.result.0.now

    line : batch_line (parts_behind 32 c.args.words) ≡ batch_of_source sub source (parts 32 c.in_default-Some-cut.words.now)
    line =
        ap (λ words. batch_line (parts_behind 32 words)) c.in-Some.is
        ∙ more_words (parts 32 c.in-Some.words.now) (parts 32 c.in_default-Some.words.now) sub source c.in_default-Some-cut.words.now
        (c.cut.ensures ∙ ap (λ words. sub ∷ parts_behind 32 words) c.in_default-Some.is-1)
        (ap (λ (words : Bor (List ℕ)). parts 32 words.now) (sym c.in_default-Some.words-is) ∙ c.cut-2.ensures ∙ ap (λ words. source ∷ parts_behind 32 words) c.in_default-Some-cut.is-1)
