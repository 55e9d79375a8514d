-- The names of subscriptions are texts that a header says as they are.
use Rattle.std.proofs.Common.{◌≡◌, ℕ, true, List}
use Rattle.wef_eventing.proofs.NameTexts.{allowed_name, trimmed_name}
use Rattle.wef_front_source.specs.Sending.{IsPlainText}
use Rattle.wef_replay.specs.Good.{is_subscription}
use Rattle.wef_safety.proofs.Offering.{reads_subscription}

pub subscription_is_plain : (u : List ℕ) → is_subscription u ≡ true → IsPlainText u
subscription_is_plain u good = let reads = reads_subscription u good in (trimmed_name u reads.1, allowed_name u reads.0 reads.1)
