-- How `add` ends.
use Rattle.std.specs.Prelude.{◌≡◌, ℕ, List, ◌⊎◌, Some, None, IfSome, IfErr, Result, codes}
use Rattle.std.specs.declared.result.Result.TheVariants.{Err}
use Rattle.std.specs.Io.KnownBytes.{IsAtEnd}
use Rattle.wef_collector.specs.Calls.{OfAdd, add_effect}
use Rattle.wef_collector.specs.Judged.{JudgesAdd}
use Rattle.wef_collector_rows.specs.Faults.{collector_store}
use Rattle.wef_collector_rows.specs.Forms.{AreFormed}
use Rattle.wef_collector_rows.specs.declared.faults.CollectorFault.{CollectorFault}
use Rattle.wef_documents.specs.Bytes.{ReadsDocument, document_in}
use Rattle.wef_documents.specs.Kept.{read_kept}
use Rattle.wef_documents.specs.Written.{document_text}
use Rattle.wef_documents.specs.declared.faults.DocumentFault.TheVariants.{BadDocument, Tree}
use Rattle.wef_eventing.specs.declared.subscriptions.Subscription.{Subscription}
use Rattle.wef_keeper.specs.Calls.{DoesWith, IsCall}
use Rattle.wef_keeper.specs.Keeping.{Store}
use Rattle.wef_lines.specs.Printed.{name_line}
use Rattle.wef_xml.specs.declared.faults.TreeFault.{TreeFault}
use Rattle.wef_xml.specs.declared.faults.TreeFault.TheVariants as tree
use Rattle.wef_commands.specs.Calling.{CallEnds, WroteOut, named_ending}
use Rattle.wef_commands.specs.Endings.{HasFailed, IsUnwritten, Told}
use Rattle.wef_commands.specs.declared.ending.Ending.{Ending}
use Rattle.wef_commands.specs.declared.ending.Ending.TheVariants as ends

-- `added NAME`
abbrev pub added_text : List ℕ → List ℕ
added_text u = name_line (codes "added") u

-- adding a subscription; the rows that it has read are of their form, unless its store refuses it
abbrev pub Adds : Subscription → Result (Unit {0}) CollectorFault → Store → Store → Type 0
Adds s done before now =
    IsCall collector_store AreFormed (λ rows. add_effect rows s) (λ _. tt) done before now × IfErr done OfAdd
    × DoesWith collector_store AreFormed (λ rows. add_effect rows s) (λ _. tt) (λ answer found after. JudgesAdd answer found s.name) done before now

-- where bytes are no document of XML
abbrev pub place_of : TreeFault → ℕ
place_of tree.NoMemory = 0
place_of (tree.BadCharset at) = at
place_of (tree.BadXml at) = at
place_of (tree.TooDeep at) = at
place_of (tree.Refused at) = at

-- Bytes are no document of XML, by what stands at this place.
abbrev pub IsBadFrom : ℕ → List ℕ → Type 0
IsBadFrom k bytes = (fault : TreeFault) × ReadsDocument bytes (Err (Tree fault)) × (place_of fault ≡ k)

-- why bytes aren't taken as a document, and that they are none then; want of memory is free
abbrev pub IsRefused : Ending → List ℕ → Type 0
IsRefused (ends.BadPlace k) bytes = IsBadFrom k bytes × (document_in bytes ≡ None)
IsRefused (ends.BadElement part) bytes = ReadsDocument bytes (Err (BadDocument part)) × (document_in bytes ≡ None)
IsRefused ends.NoMemory bytes = Unit {0}
IsRefused _ bytes = ⊥

-- The input is at its end, and this holds of what was read.
abbrev pub IsReadAs : (List ℕ → Type 0) → Told → Type 0
IsReadAs Holds input = IsAtEnd input.after × IfSome input.before Holds

-- The same, where also an input whose bytes aren't told had some of which this holds.
abbrev pub IsReadAsSome : (List ℕ → Type 0) → Told → Type 0
IsReadAsSome Holds input = IsReadAs Holds input × ((bytes : List ℕ) × Holds bytes)

-- The input is at its end, and what was read is the document of a subscription.
abbrev pub HasDocument : Subscription → Told → Type 0
HasDocument s input = IsReadAsSome (λ bytes. document_in bytes ≡ Some s) input

-- Why it ends before the collector is started.
abbrev pub DocumentEnds : Ending → Told → Type 0
DocumentEnds (ends.BadPlace k) input = IsReadAs (IsRefused (ends.BadPlace k)) input
DocumentEnds (ends.BadElement part) input = IsReadAs (IsRefused (ends.BadElement part)) input
DocumentEnds ends.InputFailed input = HasFailed input
DocumentEnds ends.NoMemory input = Unit {0}
DocumentEnds _ input = ⊥

-- a subscription that is read again from the document that is kept of it
abbrev pub IsReadAgain : Subscription → Type 0
IsReadAgain s = read_kept s.name (document_text s) ≡ Some s

-- The document is judged first; only the subscription of a good one is added, and told when it is.
abbrev pub AddEnds : Ending → Told → Told → Store → Store → Type 0
AddEnds ending input out before now =
    (DocumentEnds ending input × IsUnwritten out × (now ≡ before))
    ⊎ ((s : Subscription) × HasDocument s input × IsReadAgain s × CallEnds (Adds s) (named_ending s.name) (λ _. WroteOut (added_text s.name)) ending out before now)
