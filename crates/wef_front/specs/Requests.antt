-- What a source hears in requests, and what it answers.
use Rattle.std.specs.Prelude.{◌≡◌, ℕ, List}
use Rattle.wef_base.specs.declared.tree.Charset.{Charset}
use Rattle.wef_ids.specs.declared.FaultName.TheVariants.{InternalError}
use Rattle.wef_source.specs.Machine.{End}
use Rattle.wef_front_source.specs.Heard.{Hears}
use Rattle.wef_front_source.specs.Steps.{said_by}
use Rattle.wef_front_source.specs.declared.hearing.Heard.{Heard}
use Rattle.wef_front_source.specs.declared.saying.Said.TheVariants.{Fault}

-- A source hears no two things in the same bytes, so its answer is one of the bytes, what it holds, and the moment.
abbrev pub OneRequestIsHeard : Type 0
OneRequestIsHeard = (now : ℕ) (charset : Charset) (bytes : List ℕ) (heard other : Heard) → Hears now charset bytes heard → Hears now charset bytes other → heard ≡ other

-- A source says `InternalError` only where it can't draw all the ids that an answer takes: it is never what is asked that is
-- refused so.
abbrev pub InternalErrorsWantIds : Type 0
InternalErrorsWantIds =
    (end : End) (now : ℕ) (charset : Charset) (bytes : List ℕ) (heard : Heard) → Hears now charset bytes heard → said_by end heard.asked now ≡ Fault InternalError → ⊥
