-- Each refusal has a response that is written.
use Rattle.std.proofs.Common.{◌≡◌, ℕ, true, false, refl, subst}
use Rattle.std.specs.Prelude.{Option, None, Some}
use Rattle.wef_http_heads.specs.declared.ends.HttpEnd.TheVariants.{NoMemory, End, BadHead, Method, Path, NoLength, TooLarge, Media, Cut, ReadFault}
use Rattle.wef_http.specs.Laws.{RefusalsAreWritten}
use Rattle.wef_http.specs.Written.{has_body, is_status}

-- a status, where there is one, is written without a body
abbrev IsWritten : Option ℕ → Type 0
IsWritten None = Unit {0}
IsWritten (Some status) = (is_status status ≡ true) × (has_body status ≡ false)

pub refusals_written : RefusalsAreWritten
refusals_written BadHead status is = subst IsWritten is (refl, refl)
refusals_written Method status is = subst IsWritten is (refl, refl)
refusals_written Path status is = subst IsWritten is (refl, refl)
refusals_written NoLength status is = subst IsWritten is (refl, refl)
refusals_written TooLarge status is = subst IsWritten is (refl, refl)
refusals_written Media status is = subst IsWritten is (refl, refl)
refusals_written NoMemory status is = subst IsWritten is tt
refusals_written End status is = subst IsWritten is tt
refusals_written Cut status is = subst IsWritten is tt
refusals_written ReadFault status is = subst IsWritten is tt
