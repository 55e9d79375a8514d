-- Over requests that are answered for a source, its store stays as it was.
use Rattle.std.proofs.Common.{◌≡◌, ◌⊎◌, inl, inr, ◌∙◌, ℕ, ap, refl}
use Rattle.std.specs.Prelude.{Option, Result, Ok, Err, OnOk, OnErr}
use Rattle.wef_http.specs.declared.messages.HttpRequest.{HttpRequest}
use Rattle.wef_http_heads.specs.declared.answers.Answer.{Answer}
use Rattle.wef_keeper.specs.Keeping.{Store}
use Rattle.wef_serving.specs.Serving.{AnswersAt, LeavesAt, Responds, to_none, to_one_more}
use Rattle.wef_source.specs.State.{SourceState}
use Rattle.wef_source_serving.specs.Answers.{Answers, AnswersInTurn, KnownSource, Leaves}

module _ (clock : Option ℕ) where
  one_kept : (s t : KnownSource) → Responds (AnswersAt clock Answers) (LeavesAt clock Leaves) s t → t.store ≡ s.store
  one_kept s t (request, inl (moment, told, left)) = left.1
  one_kept s t (request, inr (answer, (moment, told, answers))) = answers.1

  pub kept : {s t : KnownSource} → AnswersInTurn clock s t → t.store ≡ s.store
  kept (to_none s) = refl
  kept (to_one_more s t u before here) = one_kept t u here ∙ kept before

-- whether a connection was served or none could be taken
pub unused : {K T E : Type 0} (store : K → Store) (old new : SourceState K) (result : Result T E) → OnOk result (store new.keeper ≡ store old.keeper) → OnErr result (new ≡ old) → store new.keeper ≡ store old.keeper
unused store old new (Ok done) stays same = stays
unused store old new (Err fault) stays same = ap (λ s. store s.keeper) same
