-- The order of namespaces by their digests.
use Rattle.std.specs.Prelude.{◌≡◌, ℕ, List, nat_eq}
use Rattle.std.specs.declared.cmp.Ordering.{Ordering}
use Rattle.std.specs.declared.option.Option.TheVariants.{Some}
use Rattle.std.proofs.Common.{sym, ◌∙◌}
use Rattle.std.specs.Ordering.{eq_by_cmp, nat_cmp, ordering_then}
use Rattle.std.specs.Cmp.{IsPartialOrder, IsTotalOrder, both_tied, po, then_total}
use Rattle.std.specs.Cmp.Lexicographic.{nat_list_cmp_total, on_texts, pointwise, slice_cmp, texts_ties}
use Rattle.wef_base.specs.Digests.{by_digest, digest_of}

-- the order of namespaces by their digests, and then by themselves
abbrev pub digest_cmp : List ℕ → List ℕ → Ordering
digest_cmp x y = ordering_then (slice_cmp nat_cmp (digest_of x) (digest_of y)) (slice_cmp nat_cmp x y)

pub digest_ties : (x y : List ℕ) → pointwise nat_eq x y ≡ eq_by_cmp digest_cmp x y
digest_ties x y = sym (by_digest x y) ∙ both_tied _ _ _ _ (texts_ties (digest_of x) (digest_of y)) (texts_ties x y)

pub digest_total : IsTotalOrder digest_cmp
digest_total = then_total (on_texts digest_of) nat_list_cmp_total

pub digest_po : IsPartialOrder (pointwise nat_eq) (λ x y. Some (digest_cmp x y))
digest_po = po digest_total digest_ties
