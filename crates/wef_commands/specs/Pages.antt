-- Held events as text, and what is written of it.
use Rattle.std.specs.Prelude.{◌≡◌, ℕ, List, [], ◌∷◌, ◌++◌, ◌⊎◌, codes}
use Rattle.wef_commands.specs.Calling.{WroteOut}
use Rattle.wef_commands.specs.Endings.{IsUnwritten, Told}
use Rattle.wef_commands.specs.declared.ending.Ending.{Ending}
use Rattle.wef_commands.specs.declared.ending.Ending.TheVariants as ends

abbrev pub end_line : List ℕ
end_line = codes "end" ++ 10 ∷ []

-- the text is written, or the output failed; or there was no memory for all of it
abbrev pub WroteLast : List ℕ → Ending → Told → Type 0
WroteLast text ending out = WroteOut text ending out ⊎ ((ending ≡ ends.NoMemory) × IsUnwritten out)
