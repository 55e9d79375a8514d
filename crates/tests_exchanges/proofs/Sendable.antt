-- The delivery of the tests can be sent.
use Rattle.std.proofs.Common.{◌≡◌, ℕ, true, List, [], ◌∷◌, refl, arith}
use Rattle.std.specs.Prelude.{Option, Some, None, codes}
use Rattle.std.specs.FinMap as map
use Rattle.std.specs.Str.{chars}
use Rattle.std.proofs.Math.Utf8.{encode}
use Rattle.wef_batch.specs.declared.items.Item.{Item}
use Rattle.wef_batch.specs.declared.items.Item.TheVariants.{Loose}
use Rattle.wef_bookmark.proofs.Joining.{order}
use Rattle.wef_bookmark.proofs.Kept.{empty_kept}
use Rattle.wef_bookmark.specs.Nodes.{AreTexts}
use Rattle.wef_bookmark.specs.Order.{Marks}
use Rattle.wef_front_source.specs.Sending.{CanBeSent}
use Rattle.wef_ids.specs.IdTexts.{id_of}
use Rattle.wef_ids.specs.declared.MessageId.{MessageId}
use Rattle.wef_xml.proofs.Ascii.{plain_text}

abbrev id_text : List ℕ
id_text = codes "uuid:0a0b0c0d-0000-0000-0000-000000000001"

abbrev address : List ℕ
address = codes "http://collector:5985/wsman/subscriptions/base/pc1"

none_is_some : (o : Option ℕ) (n : ℕ) → o ≡ None → o ≡ Some n → ⊥
none_is_some o n none some = cc

no_names : AreTexts map.empty
no_names c n is = absurd (none_is_some _ n (map.get-empty order c) is)

sendable : CanBeSent (record { id = id_of id_text; notify_to = address; identifier = Some (codes "base"); batch = record { items = Loose 1 ∷ []; to = map.empty; ack_wanted = true } })
unfolding chars encode
sendable = record {
  spelt = record { trimmed = refl; value = refl };
  id = plain_text id_text refl;
  notify_to = (refl, plain_text address refl);
  identifier = (refl, plain_text (codes "base") refl);
  plain = (omega arith, tt);
  kept = (tt, tt);
  entries = empty_kept;
  names = no_names;
}

pub sendable_is :
    (id : MessageId) (notify_to name : List ℕ) (items : List Item) (to : Marks) → id ≡ id_of id_text → notify_to ≡ address → name ≡ codes "base" → items ≡ Loose 1 ∷ [] → to ≡ map.empty →
    CanBeSent (record { id = id; notify_to = notify_to; identifier = Some name; batch = record { items = items; to = to; ack_wanted = true } })
sendable_is id notify_to name items to a b c d e = rw (a, b, c, d, e) sendable
