use Rattle.std.proofs.Common.{List, ℕ, [], ◌∷◌, ◌++◌, codes, sym, ◌∙◌, ap, append_assoc}
use Rattle.wef_canonical.proofs.Runs.{some_weaker}
use Rattle.wef_canonical.proofs.tags.behind_end.Goals as goal

pub returns : goal.returns
returns c =
    some_weaker c.strip-3.result _ _
    (λ rest last.
    c.in_ok-named.ensures ∙ ap (λ (text : List ℕ). codes "</" ++ text) (c.in_ok-closed.ensures ∙ (λ i. c.as_bytes.ensures.value i ++ last i) ∙ sym (append_assoc c.args.name.now (62 ∷ []) rest.now)))
    c.strip-3.ensures
