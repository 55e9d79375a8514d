-- The same bytes are heard in one way.
use Rattle.std.proofs.Common.{◌≡◌, ℕ, List}
use Rattle.std.specs.Prelude.{Some}
use Rattle.wef_base.specs.Names.{source_name, subscription_name}
use Rattle.wef_base.specs.declared.tree.Charset.TheVariants.{Utf8}
use Rattle.wef_source.specs.declared.messages.Delivery as source
use Rattle.wef_front_collector.specs.Heard.{Hears, heard_in, unheard}
use Rattle.wef_replies.proofs.OneIsHeard as any
use Rattle.wef_front.specs.Laws.{OneIsHeard}
use Rattle.wef_front_source.specs.Sending.{CanBeSent, delivery_bytes}
use Rattle.wef_front_collector.specs.declared.hearing.Asked.TheVariants.{Take}
use Rattle.wef_front_collector.specs.declared.hearing.Heard.{Heard}
use Rattle.wef_http_heads.specs.declared.targets.Target.TheVariants.{Delivery}
use Rattle.wef_front.proofs.DeliveriesAreHeard.{deliveries_are_heard}

pub one_is_heard : OneIsHeard
one_is_heard target charset bytes heard other hears again = any.one_is_heard (heard_in target) unheard charset bytes heard other hears again

-- ---- deliveries

-- whatever is heard of a delivery's bytes is its batch, and its id
pub delivery_heard_is :
    (d : source.Delivery) (sub source u s : List ℕ) (heard : Heard) → CanBeSent d → subscription_name sub ≡ Some u → source_name source ≡ Some s →
    Hears (Delivery sub source) Utf8 (delivery_bytes d) heard → heard ≡ record { relates = Some d.id; asked = Take u s d.batch }
delivery_heard_is d sub source u s heard sent named from hears =
    one_is_heard (Delivery sub source) Utf8 (delivery_bytes d) heard _ hears (deliveries_are_heard d sub source u s sent named from)
