-- What a writer appends, and where it stands.
use Rattle.std.specs.Prelude.{ℕ, ◌<◌, Bool, ◌||◌, List, [], ◌++◌, length, codes, if◌then◌else◌}
use Rattle.wef_base.specs.Names.{same}
use Rattle.wef_xml.specs.Canonical.{assigned, bytes_of}
use Rattle.wef_xml.specs.Prefixes.{Scope}
use Rattle.wef_tree_writing.specs.Levels.{all_of}
use Rattle.wef_tree_writing.specs.declared.writing.Stop.{Stop}
use Rattle.wef_tree_writing.specs.declared.writing.Stop.TheVariants.{NoMemory, TooLong}
use Rattle.wef_tree_writing.specs.declared.writing.Writer.{Writer}

-- the declaration of a default namespace, by whether the element has a prefix and by the one in force
abbrev pub default_declaration : Bool → List ℕ → List ℕ → List ℕ
default_declaration has_prefix default space = if has_prefix || same default space then [] else codes " xmlns" ++ assigned space

-- what is in force where a writer stands inside this default namespace
abbrev pub scope_of : Writer → List ℕ → Scope
scope_of w default = record { default = default; soap = w.root; bound = all_of w.bound }

-- Why bytes aren't written: they are more than the limit; want of memory is free.
abbrev pub IsTooLong : Stop → ℕ → List ℕ → Type 0
IsTooLong NoMemory limit bytes = Unit {0}
IsTooLong TooLong limit bytes = limit < length bytes

-- why a writer stops at a text: with it the document has more bytes than the limit
abbrev pub IsPast : Stop → Writer → List ℕ → Type 0
IsPast stop w text = IsTooLong stop w.limit (w.bytes ++ bytes_of w.charset text)
