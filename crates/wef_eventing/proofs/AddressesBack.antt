-- An address leads to the subscription and the source that it was written for.
use Rattle.std.proofs.Common.{◌≡◌, ℕ, Bool, true, false, ◌==◌, cond, List, [], ◌∷◌, ◌++◌, refl, ap, sym, ◌∙◌, append_assoc}
use Rattle.std.specs.Prelude.{Some, Option, codes}
use Rattle.std.specs.List.{onto_first}
use Rattle.std.specs.Option.{option_and_then}
use Rattle.std.proofs.lemmas.List.Splits.{slice_split_none, slice_split_at}
use Rattle.wef_base.specs.Names.{source_name, subscription_name}
use Rattle.wef_base.specs.Words.{decoded, parts}
use Rattle.wef_eventing.specs.Addresses.{AddressesReadBack, delivery_address, last_piece, piece_before_last, segment, source_in, subscription_in}
use Rattle.wef_eventing.proofs.Segments.{decoded-segment, no_slash-segment}

pub last_piece-push : (front : List (List ℕ)) (piece : List ℕ) → last_piece (front ++ piece ∷ []) ≡ Some piece
last_piece-push [] piece = refl
last_piece-push (p ∷ []) piece = refl
last_piece-push (p ∷ next ∷ front) piece = last_piece-push (next ∷ front) piece

-- the piece before the last is the last of those before it
pub piece_before_last-push : (front : List (List ℕ)) (piece : List ℕ) → piece_before_last (front ++ piece ∷ []) ≡ last_piece front
piece_before_last-push [] piece = refl
piece_before_last-push (p ∷ []) piece = refl
piece_before_last-push (p ∷ next ∷ []) piece = refl
piece_before_last-push (p ∷ next ∷ third ∷ front) piece = piece_before_last-push (next ∷ third ∷ front) piece

-- whatever stands before a slash, the pieces behind it are the last
pieces_behind : (text rest : List ℕ) → (first : List ℕ) × ((front : List (List ℕ)) × (parts 47 (text ++ 47 ∷ rest) ≡ first ∷ (front ++ parts 47 rest)))
pieces_behind [] rest = ([], ([], refl))
pieces_behind (b ∷ text) rest = by (b == 47) (pieces_behind text rest)
  where
    by : (ends : Bool) → ((first : List ℕ) × ((front : List (List ℕ)) × (parts 47 (text ++ 47 ∷ rest) ≡ first ∷ (front ++ parts 47 rest))))
        → (first : List ℕ) × ((front : List (List ℕ)) × (cond ends ([] ∷ parts 47 (text ++ 47 ∷ rest)) (onto_first b (parts 47 (text ++ 47 ∷ rest))) ≡ first ∷ (front ++ parts 47 rest)))
    by true (first, (front, is)) = ([], (first ∷ front, ap (λ (ps : List (List ℕ)). [] ∷ ps) is))
    by false (first, (front, is)) = (b ∷ first, (front, ap (onto_first b) is))

-- the pieces of two segments
pieces_of_two : (u s : List ℕ) → parts 47 (segment u ++ 47 ∷ segment s) ≡ segment u ∷ segment s ∷ []
pieces_of_two u s =
    slice_split_at (λ b. b == 47) (segment u) 47 (segment s) (no_slash-segment u) refl
    ∙ ap (λ (ps : List (List ℕ)). segment u ∷ ps) (slice_split_none (λ b. b == 47) (segment s) (no_slash-segment s))

-- whatever stands before them, the pieces end with the two segments
pieces_end : (text u s : List ℕ) → (front : List (List ℕ)) × (parts 47 (text ++ 47 ∷ (segment u ++ 47 ∷ segment s)) ≡ (front ++ segment u ∷ []) ++ segment s ∷ [])
pieces_end text u s =
    let (first, (front, is)) = pieces_behind text (segment u ++ 47 ∷ segment s) in
    (first ∷ front, is ∙ (λ i. first ∷ (front ++ pieces_of_two u s i)) ∙ ap (λ (ps : List (List ℕ)). first ∷ ps) (sym (append_assoc front (segment u ∷ []) (segment s ∷ []))))

-- what stands before the slash before the subscription
start : List ℕ → List ℕ
start host = codes "http://" ++ host ++ codes "/wsman/subscriptions"

grouped : (scheme host path u s : List ℕ) → scheme ++ host ++ (path ++ 47 ∷ []) ++ u ++ 47 ∷ s ≡ (scheme ++ host ++ path) ++ 47 ∷ (u ++ 47 ∷ s)
grouped scheme host path u s = simp append_assoc

address_is : (host u s : List ℕ) → delivery_address host u s ≡ start host ++ 47 ∷ (segment u ++ 47 ∷ segment s)
unfolding delivery_address start
address_is host u s = grouped (codes "http://") host (codes "/wsman/subscriptions") (segment u) (segment s)

pub addresses_read_back : AddressesReadBack
unfolding subscription_in source_in
addresses_read_back host u s u_utf8 u_name s_utf8 s_name =
    let (front, ends) = pieces_end (start host) u s in
    let is = ap (parts 47) (address_is host u s) ∙ ends in
    let last = ap last_piece is ∙ last_piece-push (front ++ segment u ∷ []) (segment s) in
    let before = ap piece_before_last is ∙ piece_before_last-push (front ++ segment u ∷ []) (segment s) ∙ last_piece-push front (segment u) in (
      ap (λ (p : Option (List ℕ)). option_and_then subscription_name (option_and_then decoded p)) before ∙ ap (option_and_then subscription_name) (decoded-segment u u_utf8) ∙ u_name,
      ap (λ (p : Option (List ℕ)). option_and_then source_name (option_and_then decoded p)) last ∙ ap (option_and_then source_name) (decoded-segment s s_utf8) ∙ s_name,
    )
