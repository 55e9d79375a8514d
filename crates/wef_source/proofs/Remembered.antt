-- What a session remembers of a batch: numbers of its channels above its positions, which are the batch's reaches.
use Rattle.std.proofs.Common.{◌≡◌, ℕ, true, cond, Bool, List, [], ◌∷◌, refl, ap, ◌∙◌, Some, None}
use Rattle.std.specs.Prelude.{Option, IfSome, is_some}
use Rattle.std.specs.FinMap as map
use Rattle.wef_batch.specs.Reach.{last_in, reach_of}
use Rattle.wef_batch.specs.declared.items.Batch.{Batch}
use Rattle.wef_bookmark.specs.Order.{Marks}
use Rattle.wef_building.specs.Building.{session_channels}
use Rattle.wef_building.specs.Reading.{IsReadAbove, ReadsAbove}
use Rattle.wef_building.specs.declared.sessions.Session.{Session}
use Rattle.wef_building.proofs.Cases.{by_test}
use Rattle.wef_source.specs.Answers.{IsReachOf}
use Rattle.wef_source.specs.Serving.{HasAll, HasEach}
use Rattle.wef_source.specs.Sessions.{first_where, with_changed}

-- positions that have the channels have all that is read
pub has_read : (positions to : Marks) (channels : List (List ℕ)) → HasEach positions channels → ReadsAbove positions channels to → HasAll positions to
has_read positions to channels has reads c there = by (map.get to c) (reads c) there
  where
    by : (o : Option ℕ) → IfSome o (IsReadAbove positions channels c) → is_some o ≡ true → is_some (map.get positions c) ≡ true
    by None above none = cc
    by (Some n) above found = has c above.0

-- what a batch's bookmark has is how far the batch reads
pub are_reaches : (session : Session) (batch : Batch) → ReadsAbove session.positions (session_channels session) batch.to → (c : List ℕ) → IfSome (map.get batch.to c) (IsReachOf session batch c)
are_reaches session batch reads c = by (map.get batch.to c) refl (reads c)
  where
    by : (o : Option ℕ) → map.get batch.to c ≡ o → IfSome o (IsReadAbove session.positions (session_channels session) c) → IfSome o (IsReachOf session batch c)
    by None is above = tt
    by (Some n) is above = record { queried = above.0; reached = ap (λ (o : Option ℕ). reach_of o (last_in c batch.items)) is; above = above.1 }

-- the first session that passes a test, once it was changed so that it still does
pub first_changed : (test : Session → Bool) (change : Session → Session) → ((x : Session) → test (change x) ≡ test x) → (ss : List Session) (s : Session) → first_where test ss ≡ Some s
    → first_where test (with_changed test change ss) ≡ Some (change s)
first_changed test change keeps [] s e = cc
first_changed test change keeps (x ∷ xs) s e =
    by_test (λ t. test x ≡ t → cond t (Some x) (first_where test xs) ≡ Some s → first_where test (cond t (change x ∷ xs) (x ∷ with_changed test change xs)) ≡ Some (change s)) (test x)
    (λ _ is found. let one : x ≡ s = cc in ap (λ t. cond t (Some (change x)) (first_where test xs)) (keeps x ∙ is) ∙ ap (λ (y : Session). Some (change y)) one)
    (λ _ is found. ap (λ t. cond t (Some x) (first_where test (with_changed test change xs))) is ∙ first_changed test change keeps xs s found)
    refl e
