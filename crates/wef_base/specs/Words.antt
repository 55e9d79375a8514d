-- Words of a line: a text cut at a byte, and what a percent-encoded word stands for.
use Rattle.std.specs.Prelude.{ℕ, ◌==◌, List, Option, Some, None, if◌then◌else◌}
use Rattle.std.specs.List.{slice_split}
use Rattle.std.specs.Str.{is_utf8}
use Rattle.percent_encoding.specs.Percent.{percent_decode}

-- the parts of a text around each byte that separates them: one more than there are such bytes
abbrev pub parts : ℕ → List ℕ → List (List ℕ)
parts separator text = slice_split (λ b. b == separator) text

-- the bytes, where they are UTF-8
abbrev pub utf8 : List ℕ → Option (List ℕ)
utf8 bytes = if is_utf8 bytes then Some bytes else None

-- the text that a percent-encoded word stands for (RFC 3986, section 2.1), where it is UTF-8
unfoldable pub decoded : List ℕ → Option (List ℕ)
decoded word = utf8 (percent_decode word)
