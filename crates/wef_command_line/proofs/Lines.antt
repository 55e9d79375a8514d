-- Words that can't be a line ask for no command.
use Rattle.std.proofs.Common.{◌≡◌, ℕ, Bool, true, false, not, List, [], ◌∷◌, length, refl, true≢false}
use Rattle.std.specs.List.{list_any}
use Rattle.std.specs.Prelude.{◌&&◌, ◌||◌, None, nat_le}
use Rattle.wef_base.specs.Names.{same}
use Rattle.wef_command_line.specs.Command.{begins_with_dash, begins_with_name, command_in, command_of, is_name, may_be_line, names}

-- a word that is none of these
abbrev IsNone : List ℕ → List (List ℕ) → Type 0
IsNone word [] = Unit {0}
IsNone word (name ∷ rest) = (same word name ≡ false) × IsNone word rest

pub neither : (a b : Bool) → a || b ≡ false → (a ≡ false) × (b ≡ false)
neither false b e = (refl, e)
neither true b e = absurd (true≢false e)

is_none : (word : List ℕ) (some : List (List ℕ)) → list_any (same word) some ≡ false → IsNone word some
is_none word [] e = tt
is_none word (name ∷ rest) e = let parts = neither (same word name) _ e in (parts.0, is_none word rest parts.1)

unnamed : (name : List ℕ) (words : List (List ℕ)) → IsNone name names → command_in (name ∷ words) ≡ None
unnamed name [] e = rw (e.0, e.1.0, e.1.1.0, e.1.1.1.1.0, e.1.1.1.1.1.0, e.1.1.1.1.1.1.0) refl
unnamed name (word ∷ []) e = rw (e.1.1.1.0, e.1.1.1.1.1.1.1.0) refl
unnamed name (at ∷ number ∷ []) e = rw (e.1.1.1.1.1.1.1.1.1.0, e.1.1.1.1.1.1.1.1.1.1.0, e.1.1.1.1.1.1.1.1.1.1.1.1.1.0) refl
unnamed name (first ∷ second ∷ third ∷ []) e = rw (e.1.1.1.1.1.1.1.1.0, e.1.1.1.1.1.1.1.1.1.1.1.0, e.1.1.1.1.1.1.1.1.1.1.1.1.0) refl
unnamed name (first ∷ second ∷ third ∷ fourth ∷ words) e = refl

none_in : (words : List (List ℕ)) → begins_with_name words && nat_le (length words) 4 ≡ false → command_in words ≡ None
none_in [] e = refl
none_in (name ∷ words) e = by (is_name name) refl e
  where
    more : (rest : List (List ℕ)) → nat_le (length (name ∷ rest)) 4 ≡ false → command_in (name ∷ rest) ≡ None
    more [] e = absurd (true≢false e)
    more (a ∷ []) e = absurd (true≢false e)
    more (a ∷ b ∷ []) e = absurd (true≢false e)
    more (a ∷ b ∷ c ∷ []) e = absurd (true≢false e)
    more (a ∷ b ∷ c ∷ d ∷ rest) e = refl

    by : (b : Bool) → is_name name ≡ b → b && nat_le (length (name ∷ words)) 4 ≡ false → command_in (name ∷ words) ≡ None
    by true is e = more words e
    by false is e = unnamed name words (is_none name names is)

pub no_line : (words : List (List ℕ)) → may_be_line words ≡ false → command_of words ≡ None
no_line words e = by (list_any begins_with_dash words) refl e
  where
    by : (b : Bool) → list_any begins_with_dash words ≡ b → (not b && begins_with_name words) && nat_le (length words) 4 ≡ false → command_of words ≡ None
    by true is e = rw is refl
    by false is e = rw is (none_in words e)
