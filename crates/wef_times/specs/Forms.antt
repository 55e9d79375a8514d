-- Texts of fixed length.
use Rattle.std.specs.Prelude.{◌≡◌, ℕ, ◌+◌, ◌≤◌, ◌==◌, length, Bool, true, false, ◌&&◌, List, [], ◌∷◌, take, drop, if◌then◌else◌}
use Rattle.std.specs.List.{list_all}
use Rattle.wef_base.specs.Numbers.{is_digit, value_from}

-- whether a character stands at a place of a form: any digit where the form has 0 (48), else the character itself
abbrev pub fits_place : ℕ → ℕ → Bool
fits_place place c = if place == 48 then is_digit c else c == place

-- whether a text has a form, character by character
abbrev pub has_form : List ℕ → List ℕ → Bool
has_form [] [] = true
has_form [] (c ∷ cs) = false
has_form (place ∷ form) [] = false
has_form (place ∷ form) (c ∷ cs) = fits_place place c && has_form form cs

-- the number of so many digits behind so many characters
abbrev pub field : ℕ → ℕ → List ℕ → ℕ
field at digits cs = value_from 0 (take digits (drop at cs))

-- whether so many digits stand behind so many characters
abbrev pub HasField : ℕ → ℕ → List ℕ → Type 0
HasField at digits cs = (at + digits ≤ length cs) × (list_all is_digit (take digits (drop at cs)) ≡ true)
