-- What an opening leaves of a store.
use Rattle.std.proofs.Common.{◌≡◌, ◌∙◌, Result, Ok, Err, OnErr, inl, inr}
use Rattle.wef_keeper.specs.Keeping.{HasFault, KeepsRows, Reopens, Store, opened_after, stays_in_doubt}
use Rattle.wef_keeper.specs.declared.keeping.KeeperFault.{KeeperFault}
use Rattle.wef_keeper.specs.declared.keeping.KeeperFault.TheVariants.{NoMemory, Failed, InDoubt}
use Rattle.wef_program.specs.Opening.{IsOpening}

pub opening_left : (answer : Result (Unit {0}) KeeperFault) (before now : Store) → now.opened ≡ opened_after answer before.opened → now.doubt ≡ stays_in_doubt answer before.doubt → OnErr answer (KeepsRows before now) → Reopens answer before.doubt
    → HasFault answer before.faults now.faults → IsOpening before now
opening_left (Ok done) before now opened doubt kept answers fault = inl (opened, doubt)
opening_left (Err NoMemory) before now opened doubt kept answers fault = inr (opened, doubt, kept, inl (doubt ∙ answers))
opening_left (Err Failed) before now opened doubt kept answers fault = inr (opened, doubt, kept, inr fault.1)
opening_left (Err InDoubt) before now opened doubt kept answers fault = absurd answers
