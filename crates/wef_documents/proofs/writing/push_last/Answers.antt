use Rattle.std.proofs.Common.{◌≡◌, [], ◌∷◌, ◌++◌, ◌∙◌, ap}
use Rattle.std.specs.Prelude.{codes}
use Rattle.std.specs.Fmt.{decimal}
use Rattle.wef_times.specs.Durations.{duration_text}
use Rattle.wef_documents.specs.Written.{leaf, source_parts}
use Rattle.wef_documents.proofs.Parts.{appended}
use Rattle.wef_documents.proofs.writing.push_last.Goals as goal

pub returns : goal.returns
returns c =
    let s = c.args.subscription.now in
    let size : c.in_ok-leaf.field-0 ≡ leaf (codes "MaxEnvelopeSize") (decimal s.max_bytes) = c.in_ok-leaf.ensures ∙ ap (leaf (codes "MaxEnvelopeSize")) (c.in_ok-bytes.ensures ∙ ap decimal c.from.ensures) in
    let expires : c.in_ok-leaf-2.field-0 ≡ leaf (codes "Expires") (duration_text s.expires) = c.in_ok-leaf-2.ensures ∙ ap (leaf (codes "Expires")) c.in_ok-expires.ensures.value in
    let version : c.in_ok-leaf-3.field-0 ≡ leaf (codes "Version") (decimal s.version) = c.in_ok-leaf-3.ensures ∙ ap (leaf (codes "Version")) c.in_ok-digits.ensures in
    let sources = ap (source_parts s.kind) c.as_slice.ensures in
    c.in_ok-push-4.ensures.ok
    ∙ ap (λ es. es ++ c.in_ok-leaf-3.field-0 ∷ []) (c.in_ok-push_sources.ensures
    ∙ ap (λ es. es ++ source_parts s.kind c.as_slice.result.now) (c.in_ok-push-3.ensures.ok
    ∙ ap (λ es. es ++ c.in_ok-queries_element.field-0 ∷ []) (c.in_ok-push-2.ensures.ok
    ∙ ap (λ es. es ++ c.in_ok-leaf-2.field-0 ∷ []) c.in_ok-push.ensures.ok)))
    ∙ appended c.args.parts.now c.in_ok-leaf.field-0 c.in_ok-leaf-2.field-0 c.in_ok-queries_element.field-0 (source_parts s.kind c.as_slice.result.now) c.in_ok-leaf-3.field-0
    ∙ (λ i. c.args.parts.now ++ (size i ∷ expires i ∷ c.in_ok-queries_element.ensures i ∷ (sources i ++ version i ∷ [])))
