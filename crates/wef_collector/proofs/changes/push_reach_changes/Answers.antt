use Rattle.std.proofs.Common.{subst, sym}
use Rattle.std.proofs.lemmas.Bool.{and_parts}
use Rattle.std.specs.FinMap as map
use Rattle.std.specs.List.{AllByRecursion}
use Rattle.std.specs.Prelude.{List, None}
use Rattle.wef_batch.specs.Numbers.{IsNumbered}
use Rattle.wef_batch.specs.Reach.{last_in}
use Rattle.wef_batch.specs.WellFormed.{is_at_least, rises}
use Rattle.wef_batch.specs.declared.items.Item.{Item}
use Rattle.wef_collector.specs.Keepable.{IsKeepable}
use Rattle.wef_collector.proofs.FormedRows.{all_keepable}
use Rattle.wef_collector.proofs.changes.push_reach_changes.Goals as goal

pub push_items_changes-requires : goal.push_items_changes-requires
push_items_changes-requires c =
    let channel = c.args.of.now.channel.now in
    let batch = c.args.batch.now in
    let rising = (and_parts (rises channel None batch.items) (is_at_least (map.get batch.to channel) (last_in channel batch.items)) c.requires.order).0 in
    subst (λ (items : List Item). AllByRecursion (IsKeepable channel) items) (sym c.as_slice.ensures)
    (all_keepable IsNumbered channel None batch.items (λ name first last numbered. numbered.1) rising c.requires.numbered)
