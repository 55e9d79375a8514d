-- What each command leaves, by the laws of the commands.
use Rattle.std.proofs.Common.{◌≡◌, [], ◌∷◌, List, Option, Some, None, IfSome, inl, inr, subst}
use Rattle.wef_keeper.specs.Keeping.{IsOneOf, MayFind, Store, WhereTold}
use Rattle.wef_keeper.specs.Rows.{Rows}
use Rattle.wef_commands.specs.Laws.{AddLeaves, ReadersLeave, RemoveLeaves, Stand, WriteLeaves}
use Rattle.wef_running.specs.ByRows.{CollectsByRows, ForwardsByRows}
use Rattle.wef_subscribing.specs.ByRows.{RequestsByRows, ServesByRows}
use Rattle.wef_cli.specs.Leaving.{RunsLeave}
use Rattle.wef_command_line.specs.declared.command.Command.TheVariants as the

-- what isn't touched is found as it stood
untouched : (store : Store) (found last : Rows) → Stand store found → MayFind store last → last ≡ found
untouched store found last stand = go store.images store.rows stand.told (stand.lawful.only stand.calm)
  where
    go : (images : Option (List Rows)) (rows : Option Rows) → rows ≡ Some found → IfSome images (λ left. WhereTold rows (λ stand. left ≡ stand ∷ [])) → WhereTold images (λ images. IsOneOf images last) → last ≡ found
    go None rows is only may = absurd may
    go (Some left) rows is only may = subst (λ images. IsOneOf images last) (subst (λ rows. WhereTold rows (λ stand. left ≡ stand ∷ [])) is only) may

as_before : (before now : Store) (found last : Rows) → now ≡ before → Stand before found → MayFind now last → last ≡ found
as_before before now found last same stand may = untouched before found last stand (subst (λ (store : Store). MayFind store last) same may)

pub runs_leave : AddLeaves → RemoveLeaves → ReadersLeave → WriteLeaves → CollectsByRows → ForwardsByRows → RequestsByRows → ServesByRows → RunsLeave
runs_leave add remove readers write collect forward request serve None ending input out peers before now ends lawful found last stand may = as_before before now found last ends.3 stand may
runs_leave add remove readers write collect forward request serve (Some the.Replay) ending input out peers before now ends lawful found last stand may = as_before before now found last ends.1 stand may
runs_leave add remove readers write collect forward request serve (Some (the.Made seed size)) ending input out peers before now ends lawful found last stand may = as_before before now found last ends.2 stand may
runs_leave add remove readers write collect forward request serve (Some the.Check) ending input out peers before now ends lawful found last stand may = as_before before now found last ends.1 stand may
runs_leave add remove readers write collect forward request serve (Some the.Add) ending input out peers before now ends lawful found last stand may = add ending input out before now ends.0 lawful found last stand may
runs_leave add remove readers write collect forward request serve (Some (the.Remove u)) ending input out peers before now ends lawful found last stand may = remove u ending out before now ends.1 lawful found last stand may
runs_leave add remove readers write collect forward request serve (Some the.List) ending input out peers before now ends lawful found last stand may = elim ends.1 [
  | inl undone ↦ inl (as_before before now found last undone.2 stand may)
  | inr told ↦ readers.list ending out before now told lawful found last stand may
]
runs_leave add remove readers write collect forward request serve (Some the.Show) ending input out peers before now ends lawful found last stand may = elim ends.1 [
  | inl undone ↦ inl (as_before before now found last undone.2 stand may)
  | inr told ↦ readers.show ending out before now told lawful found last stand may
]
runs_leave add remove readers write collect forward request serve (Some (the.Events u s c)) ending input out peers before now ends lawful found last stand may = readers.events u s c ending out before now ends.1 lawful found last stand may
runs_leave add remove readers write collect forward request serve (Some (the.Status u)) ending input out peers before now ends lawful found last stand may = elim ends.1 [
  | inl undone ↦ inl (as_before before now found last undone.2 stand may)
  | inr told ↦ readers.status u told.0 ending out before now told.2 lawful found last stand may
]
runs_leave add remove readers write collect forward request serve (Some the.Write) ending input out peers before now ends lawful found last stand may = write ending input out before now ends.0 lawful found last stand may
runs_leave add remove readers write collect forward request serve (Some (the.Collect address count)) ending input out peers before now ends lawful found last stand may =
    collect address count ending out peers.moment peers.front_before peers.front_after before now ends.1 found last stand may
runs_leave add remove readers write collect forward request serve (Some (the.Forward address s count)) ending input out peers before now ends lawful found last stand may = elim ends.1 [
  | inl undone ↦ inl (as_before before now found last undone.0.2 stand may)
  | inr sent ↦ inr (forward address s count ending out peers.moment peers.link_before peers.link_after before now sent found last stand may)
]
runs_leave add remove readers write collect forward request serve (Some (the.Request address count)) ending input out peers before now ends lawful found last stand may = elim ends.1 [
  | inl undone ↦ inl (as_before before now found last undone.0.2 stand may)
  | inr asked ↦ inr (request address count ending out peers.moment peers.link_before peers.link_after before now asked lawful found last stand may)
]
runs_leave add remove readers write collect forward request serve (Some (the.Serve address s count)) ending input out peers before now ends lawful found last stand may =
    serve address count ending out peers.moment peers.front_before peers.front_after peers.link_before peers.link_after before now ends.1 found last stand may
