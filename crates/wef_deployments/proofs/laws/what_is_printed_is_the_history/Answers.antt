use Rattle.wef_deployments.proofs.Printed.{events_print_history, lines_name_records}
use Rattle.wef_deployments.proofs.laws.what_is_printed_is_the_history.Goals as goal

pub returns : goal.returns
returns c = record { events = events_print_history c.texts_are_of_rows.ensures.events; lines = lines_name_records c.write_tells_the_history.ensures }
