-- What decoding answers: the characters where the bytes are characters, else the place where they stop to be.
use Rattle.std.specs.Prelude.{◌≡◌, ℕ, ◌-◌, ◌<◌, List, [], ◌∷◌, length, Option, Some, None, Result}
use Rattle.std.specs.Borrow.{Bor}
use Rattle.std.specs.declared.alloc.Global.{Global}
use Rattle.std.specs.declared.result.Result.TheVariants.{Ok, Err}
use Rattle.std.specs.declared.vec.Vec.{Vec}
use Rattle.wef_base.specs.declared.tree.Charset.{Charset}
use Rattle.wef_xml.specs.Decoding.{decoded, decoded16, joined, unit}
use Rattle.wef_xml.specs.declared.faults.TreeFault.{TreeFault}
use Rattle.wef_xml.specs.declared.faults.TreeFault.TheVariants.{NoMemory, BadCharset, BadXml, TooDeep, Refused}
use Rattle.wef_xml.specs.declared.utf16.ByteOrder.{ByteOrder}

-- want of memory is free
abbrev pub Decodes : Charset → List ℕ → Result (Vec ℕ Global) TreeFault → Type 0
Decodes charset bytes (Ok characters) = decoded charset bytes ≡ Ok characters.items
Decodes charset bytes (Err (BadCharset at)) = decoded charset bytes ≡ Err at
Decodes charset bytes (Err NoMemory) = Unit {0}
Decodes charset bytes (Err (BadXml at)) = ⊥
Decodes charset bytes (Err (TooDeep at)) = ⊥
Decodes charset bytes (Err (Refused at)) = ⊥

-- the first unit of bytes, with the bytes behind it; none where there is no whole unit
abbrev pub HasUnit : ByteOrder → List ℕ → Option (ℕ × Bor (List ℕ)) → Type 0
HasUnit order bytes None = length bytes < 2
HasUnit order bytes (Some read) = (a : ℕ) × (b : ℕ) × (bytes ≡ a ∷ b ∷ read.1.now) × (read.0 ≡ unit order a b)

-- the first character of bytes in UTF-16, with the bytes behind it; none where no character begins there
abbrev pub BeginsWith : ByteOrder → List ℕ → Option (ℕ × Bor (List ℕ)) → Type 0
BeginsWith order bytes None = decoded16 order None bytes ≡ Err 0
BeginsWith order bytes (Some read) =
    (decoded16 order None bytes ≡ joined (read.0 ∷ []) (length bytes - length read.1.now) (decoded16 order None read.1.now)) × (length read.1.now < length bytes)
