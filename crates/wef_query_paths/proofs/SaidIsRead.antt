-- What a text says by the grammar is what is read.
use Rattle.std.proofs.Common.{◌≡◌, ℕ, Bool, true, false, if◌then◌else◌, List, [], Option, Some, None, refl, sym, ap, ◌∙◌}
use Rattle.std.specs.Option.{option_and_then}
use Rattle.std.specs.Str.{chars}
use Rattle.wef_query_tokens.specs.declared.tokens.Token.{Token}
use Rattle.wef_query_tokens.specs.Tokens.{tokens_of}
use Rattle.wef_query_paths.specs.declared.steps.Place.TheVariants.{Whole}
use Rattle.wef_query_paths.specs.declared.path.Path.{Path}
use Rattle.wef_query_paths.specs.declared.turns.Next.TheVariants.{BeforeStep}
use Rattle.wef_query_paths.specs.Grammar.{Says, is_shallow}
use Rattle.wef_query_paths.specs.Laws.{IsOnlyOne, IsSaid}
use Rattle.wef_query_paths.specs.Paths.{path_of}
use Rattle.wef_query_paths.specs.Reading.{read_on, start}
use Rattle.wef_query_paths.proofs.Completes.{completed}
use Rattle.wef_query_paths.proofs.Runs.{apart, run}
use Rattle.wef_query_paths.proofs.Sound.{said}

shallow_run : (b : Bool) (o : Option Path) (p : Path) → (if b then o else None) ≡ Some p → (b ≡ true) × (o ≡ Some p)
shallow_run true o p e = (refl, e)
shallow_run false o p e = cc

of_tokens : (text : List ℕ) (p : Path) (o : Option (List Token)) → tokens_of (chars text) ≡ o → option_and_then (read_on start) o ≡ Some p → Says text p
of_tokens text p None e f = cc
of_tokens text p (Some tokens) e f =
    let both = shallow_run (is_shallow 0 tokens) (run [] (BeforeStep Whole None) tokens) p (sym (apart tokens 0 [] (BeforeStep Whole None)) ∙ f) in
    record { tokens = tokens; are = e; say = said p tokens both.1; shallow = both.0 }

read_is_said : (text : List ℕ) (p : Path) → path_of text ≡ Some p → Says text p
unfolding path_of
read_is_said text p e = of_tokens text p (tokens_of (chars text)) refl e

said_is_read : (text : List ℕ) (p : Path) → Says text p → path_of text ≡ Some p
unfolding path_of
said_is_read text p s =
    ap (option_and_then (read_on start)) s.are
    ∙ apart s.tokens 0 [] (BeforeStep Whole None)
    ∙ ap (λ b. if b then run [] (BeforeStep Whole None) s.tokens else None) s.shallow
    ∙ completed p s.tokens s.say

pub is_said : IsSaid
is_said text p = (said_is_read text p, read_is_said text p)

pub only_one : IsOnlyOne
only_one tokens p q d e = let same : Some p ≡ Some q = sym (completed p tokens d) ∙ completed q tokens e in cc
