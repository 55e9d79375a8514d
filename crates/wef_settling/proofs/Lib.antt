mod Asks
mod Bares
mod BatchTurns
mod Batches
mod ChangedSessions
mod Complete
mod Counting
mod DuePairs
mod DueWishes
mod Ends
pub mod Facts
pub mod Going
pub mod GoingOn
mod HasListed
mod Keeping
mod KeptSteps
mod LaterRows
pub mod LaterSteps
mod LeaseTurns
mod LeasesPut
mod LeasesReleased
mod LessDue
pub mod ListedDeclared
mod LiveListed
mod Losing
mod Named
mod NewestMessages
mod Opened
mod PollTurns
pub mod PollsFall
mod PollsGo
mod PollsSettle
mod Requests
pub mod RequestsFall
mod Sections
mod SessionsPut
pub mod Settled
mod Settling
mod Shown
mod Turning
mod TurnsKept
mod WaitingBehind
