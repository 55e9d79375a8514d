-- The items of a batch, by their bytes in a written message.
use Rattle.std.proofs.Common.{ℕ, ◌<◌, List, [], ◌∷◌, ◌++◌, arith}
use Rattle.wef_batch.proofs.Rooms.{rooms_are_of_bytes}
use Rattle.wef_batch.specs.Cost.{most as greatest}
use Rattle.wef_batch.specs.declared.items.Item.{Item}
use Rattle.wef_building.specs.Building.{built_items, left_items, room_of}
use Rattle.wef_building.specs.Laws.{BuiltItemsFillTheirRoom, BuiltItemsKeepTheirRoom, IsFull, IsFullOfBytes}
use Rattle.wef_building.specs.declared.sessions.Session.{Session}
use Rattle.wef_building.proofs.Fitting.{in_front, most}

small_room : (bytes : ℕ) → bytes < greatest → room_of bytes < greatest
small_room bytes small = omega arith

pub keeps : BuiltItemsKeepTheirRoom
keeps rows session small =
    (rooms_are_of_bytes (built_items rows session) (room_of session.max_bytes) (small_room session.max_bytes small)).0 (in_front rows session).2

full : (session : Session) (items left : List Item) → session.max_bytes < greatest → IsFull session items left → IsFullOfBytes session items left
full session items [] small is = tt
full session items (next ∷ left) small is = λ fits. (rooms_are_of_bytes (items ++ next ∷ []) (room_of session.max_bytes) (small_room session.max_bytes small)).1 (is fits)

pub fills : BuiltItemsFillTheirRoom
fills rows session small = full session (built_items rows session) (left_items rows session) small (most rows session)
