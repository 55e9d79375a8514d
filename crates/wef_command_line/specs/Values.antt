-- The command of a name and of the words that were found behind it.
use Rattle.clap.specs.Walk.{Row, first_of}
use Rattle.std.specs.Option.{option_and_then, option_map}
use Rattle.std.specs.Prelude.{ℕ, List, Option, codes, if◌then◌else◌}
use Rattle.wef_base.specs.Names.{channel_name, same, source_name, subscription_name}
use Rattle.wef_command_line.specs.Command.{address_of, command_named, number_of, seed_of, size_of}
use Rattle.wef_command_line.specs.declared.command.Command.{Command}
use Rattle.wef_command_line.specs.declared.command.Command.TheVariants as the

abbrev pub name_in : List Row → Option (List ℕ)
name_in found = option_and_then subscription_name (first_of (codes "NAME") found)

abbrev pub source_in : List Row → Option (List ℕ)
source_in found = option_and_then source_name (first_of (codes "SOURCE") found)

abbrev pub channel_in : List Row → Option (List ℕ)
channel_in found = option_and_then channel_name (first_of (codes "CHANNEL") found)

abbrev pub address_in : List Row → Option (List ℕ)
address_in found = option_and_then address_of (first_of (codes "ADDRESS") found)

abbrev pub number_in : List Row → Option ℕ
number_in found = option_and_then number_of (first_of (codes "N") found)

abbrev pub seed_in : List Row → Option ℕ
seed_in found = option_and_then seed_of (first_of (codes "SEED") found)

abbrev pub size_in : List Row → Option ℕ
size_in found = option_and_then size_of (first_of (codes "SIZE") found)

abbrev pub made_in : List Row → Option Command
made_in found = option_and_then (λ s. option_map (the.Made s) (size_in found)) (seed_in found)

abbrev pub remove_in : List Row → Option Command
remove_in found = option_map the.Remove (name_in found)

abbrev pub status_in : List Row → Option Command
status_in found = option_map the.Status (name_in found)

abbrev pub collect_in : List Row → Option Command
collect_in found = option_and_then (λ address. option_map (the.Collect address) (number_in found)) (address_in found)

abbrev pub forward_in : List Row → Option Command
forward_in found =
    option_and_then (λ address. option_and_then (λ s. option_map (the.Forward address s) (number_in found)) (source_in found)) (address_in found)

abbrev pub request_in : List Row → Option Command
request_in found = option_and_then (λ address. option_map (the.Request address) (number_in found)) (address_in found)

abbrev pub serve_in : List Row → Option Command
serve_in found =
    option_and_then (λ address. option_and_then (λ s. option_map (the.Serve address s) (number_in found)) (source_in found)) (address_in found)

abbrev pub events_in : List Row → Option Command
events_in found =
    option_and_then (λ u. option_and_then (λ s. option_map (the.Events u s) (channel_in found)) (source_in found)) (name_in found)

-- the command of a name
abbrev pub command_by : List ℕ → List Row → Option Command
command_by name found =
    if same name (codes "remove") then remove_in found else
    if same name (codes "status") then status_in found else
    if same name (codes "events") then events_in found else
    if same name (codes "made") then made_in found else
    if same name (codes "collect") then collect_in found else
    if same name (codes "request") then request_in found else
    if same name (codes "forward") then forward_in found else
    if same name (codes "serve") then serve_in found else command_named name

abbrev pub command_found : Option (List ℕ × List Row) → Option Command
command_found found = option_and_then (λ p. command_by p.0 p.1) found
