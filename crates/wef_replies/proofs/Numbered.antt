-- The numbers of a batch that was read are those of records.
use Rattle.std.proofs.Common.{◌≡◌, ◌≤◌, Bool, List, [], ◌∷◌, arith}
use Rattle.std.specs.Prelude.{Option, Result, IfOk}
use Rattle.std.specs.List.{AllByRecursion}
use Rattle.std.specs.declared.result.Result.TheVariants.{Ok, Err}
use Rattle.wef_base.specs.declared.numbers.TheConstants.{MAX}
use Rattle.wef_base.specs.declared.tree.Element.{Element}
use Rattle.wef_batch.proofs.Sound.{read_items_are_sound}
use Rattle.wef_batch.specs.Laws.{IsPlain, IsSound}
use Rattle.wef_batch.specs.Numbers.{AreNumbered, IsNumbered}
use Rattle.wef_batch.specs.Reading.{Reads, batch_of}
use Rattle.wef_batch.specs.declared.reading.BatchFault.{BatchFault}
use Rattle.wef_batch.specs.declared.items.Batch.{Batch}
use Rattle.wef_batch.specs.declared.items.Item.{Item}
use Rattle.wef_batch.specs.declared.items.Item.TheVariants.{Event, Dropped, Loose}

numbered : (item : Item) → IsSound item → IsNumbered item
numbered (Event event) sound = tt
numbered (Dropped channel first last) sound = let ordered : first ≤ last = sound.1 in let below : last ≤ MAX = sound.2 in (omega arith, below)
numbered (Loose count) sound = tt

all_numbered : (items : List Item) → AllByRecursion IsSound items → AreNumbered items
all_numbered [] sound = tt
all_numbered (item ∷ items) sound = (numbered item sound.0, all_numbered items sound.1)

read_numbered : (header : Option Element) (ack : Bool) (body : List Element) (batch : Batch) → batch_of header ack body ≡ Ok batch → AreNumbered batch.items
read_numbered header ack body batch is = all_numbered batch.items (read_items_are_sound header ack body batch is)

-- so is what a reader gives
pub as_read : (result : Result Batch BatchFault) (header : Option Element) (ack : Bool) (body : List Element) → Reads result (batch_of header ack body) → IfOk result (λ batch. AreNumbered batch.items)
as_read (Ok batch) header ack body reads = read_numbered header ack body batch reads
as_read (Err fault) header ack body reads = tt

-- and those of one that can be written and read
one_plain : (item : Item) → IsPlain item → IsNumbered item
one_plain (Event event) plain = tt
one_plain (Dropped channel first last) plain = let ordered : first ≤ last = plain.2 in let below : last ≤ MAX = plain.3 in (omega arith, below)
one_plain (Loose count) plain = tt

pub plain_numbered : (items : List Item) → AllByRecursion IsPlain items → AreNumbered items
plain_numbered [] plain = tt
plain_numbered (item ∷ items) plain = (one_plain item plain.0, plain_numbered items plain.1)
