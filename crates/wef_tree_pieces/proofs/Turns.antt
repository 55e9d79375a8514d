-- What the readers that count their steps keep.
use Rattle.std.proofs.Common.{◌≡◌, ℕ, suc, ◌+◌, ◌-◌, ◌<◌, List, [], ◌∷◌, ◌++◌, encode_utf8, Option, Some, None, refl, sym, ap, ◌∙◌, append_assoc, arith}
use Rattle.std.specs.Option.{option_map, option_and_then}
use Rattle.wef_tree_pieces.specs.Names.{with_front}
use Rattle.wef_tree_pieces.specs.Tags.{givens_in, givens_on, tag_turn, value_in, value_on, value_turn, with_attributes}
use Rattle.wef_tree_pieces.specs.declared.tags.Given.{Given}

pub with_front_twice : (a b : List ℕ) (o : Option (List ℕ × List ℕ)) → option_map (with_front a) (option_map (with_front b) o) ≡ option_map (with_front (a ++ b)) o
with_front_twice a b None = refl
with_front_twice a b (Some read) = ap (λ front. Some (front, read.1)) (sym (append_assoc a b read.0))

pub with_attributes_twice : (a b : List Given) (o : Option (List Given × List ℕ)) → option_map (with_attributes a) (option_map (with_attributes b) o) ≡ option_map (with_attributes (a ++ b)) o
with_attributes_twice a b None = refl
with_attributes_twice a b (Some read) = ap (λ front. Some (front, read.1)) (sym (append_assoc a b read.0))

one_left : (n turn : ℕ) → turn < n → n - turn ≡ suc (n - (turn + 1))
one_left n turn h = omega arith

pub value_goes_on : (n turn quote : ℕ) (value longer rest behind : List ℕ) (next : Option ℕ) (c : ℕ) (whole : Option (List ℕ × List ℕ)) → turn < n
    → option_map (with_front value) (value_in (n - turn) quote rest) ≡ whole
    → Some (next, behind) ≡ value_turn quote rest → next ≡ Some c → longer ≡ value ++ encode_utf8 c
    → option_map (with_front longer) (value_in (n - (turn + 1)) quote behind) ≡ whole
value_goes_on n turn quote value longer rest behind next c whole less so_far turned is_next is_longer =
    ap (λ front. option_map (with_front front) (value_in (n - (turn + 1)) quote behind)) is_longer
    ∙ sym (with_front_twice value (encode_utf8 c) (value_in (n - (turn + 1)) quote behind))
    ∙ ap (λ t. option_map (with_front value) (option_and_then (value_on (value_in (n - (turn + 1)) quote)) (Some (t, behind)))) (sym is_next)
    ∙ ap (λ t. option_map (with_front value) (option_and_then (value_on (value_in (n - (turn + 1)) quote)) t)) turned
    ∙ ap (λ m. option_map (with_front value) (value_in m quote rest)) (sym (one_left n turn less))
    ∙ so_far

pub attributes_go_on : (n turn : ℕ) (given longer : List Given) (rest behind : List ℕ) (next : Option Given) (attribute : Given) (whole : Option (List Given × List ℕ)) → turn < n
    → option_map (with_attributes given) (givens_in (n - turn) rest) ≡ whole
    → tag_turn rest ≡ Some (next, behind) → next ≡ Some attribute → longer ≡ given ++ attribute ∷ []
    → option_map (with_attributes longer) (givens_in (n - (turn + 1)) behind) ≡ whole
attributes_go_on n turn given longer rest behind next attribute whole less so_far turned is_next is_longer =
    ap (λ front. option_map (with_attributes front) (givens_in (n - (turn + 1)) behind)) is_longer
    ∙ sym (with_attributes_twice given (attribute ∷ []) (givens_in (n - (turn + 1)) behind))
    ∙ ap (λ t. option_map (with_attributes given) (option_and_then (givens_on (givens_in (n - (turn + 1)))) (Some (t, behind)))) (sym is_next)
    ∙ ap (λ t. option_map (with_attributes given) (option_and_then (givens_on (givens_in (n - (turn + 1)))) t)) (sym turned)
    ∙ ap (λ m. option_map (with_attributes given) (givens_in m rest)) (sym (one_left n turn less))
    ∙ so_far
