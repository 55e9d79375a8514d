-- What clap is told of the command line.
use Rattle.clap.specs.Faults.{fault_of}
use Rattle.clap.specs.Simple.{App, Shape, new_rule, new_shape, subcommand_of, subcommand_rows_of, with_subcommand}
use Rattle.clap.specs.Walk.{Rule}
use Rattle.clap.specs.declared.parser.matches.ArgMatches.{ArgMatches}
use Rattle.clap.specs.declared.builder.command.Command.{Command}
use Rattle.clap.specs.declared.builder.command.Command.TheViews.{out-Command}
use Rattle.std.specs.Prelude.{◌≡◌, ℕ, true, false, List, [], ◌∷◌, map, codes, Option, Some, None}

-- a word that can't be left out
abbrev pub required : List ℕ → Rule
required word = record (new_rule word) { required = true }

-- a command of a name and the words behind it
abbrev pub command : List ℕ → List (List ℕ) → Shape
command name words = record (new_shape name) { rules = map required words }

abbrev pub alone : List ℕ → List (List ℕ) → App
alone name words = record { top = command name words; subs = [] }

-- no argument of the command is one of others, too
abbrev pub IsLocal : Command → Type 0
IsLocal command = (out-Command command).has_globals ≡ false

-- the program, without a command
abbrev pub start : App
start = record {
  top = record (new_shape (codes "wef")) {
    no_binary_name = true;
    disable_help_flag = true;
    disable_help_subcommand = true;
    disable_version_flag = true;
    subcommand_required = true;
  };
  subs = [];
}

-- these commands more
abbrev pub with_all : List Shape → App → App
with_all [] app = app
with_all (command ∷ commands) app = with_all commands (with_subcommand app command)

-- the commands that leave the store alone
abbrev pub schedules : List Shape
schedules = command (codes "replay") [] ∷ command (codes "check") [] ∷ command (codes "made") (codes "SEED" ∷ codes "SIZE" ∷ []) ∷ []

-- the commands that change what the store keeps
abbrev pub calls : List Shape
calls = command (codes "add") [] ∷ command (codes "remove") (codes "NAME" ∷ []) ∷ command (codes "write") [] ∷ []

-- the commands that tell what the store keeps
abbrev pub reports : List Shape
reports =
    command (codes "list") [] ∷ command (codes "show") [] ∷ command (codes "status") (codes "NAME" ∷ [])
    ∷ command (codes "events") (codes "NAME" ∷ codes "SOURCE" ∷ codes "CHANNEL" ∷ []) ∷ []

-- the commands that take connections
abbrev pub fronts : List Shape
fronts =
    command (codes "collect") (codes "ADDRESS" ∷ codes "N" ∷ [])
    ∷ command (codes "serve") (codes "ADDRESS" ∷ codes "SOURCE" ∷ codes "N" ∷ []) ∷ []

-- the commands that make connections alone
abbrev pub links : List Shape
links =
    command (codes "request") (codes "ADDRESS" ∷ codes "N" ∷ [])
    ∷ command (codes "forward") (codes "ADDRESS" ∷ codes "SOURCE" ∷ codes "N" ∷ []) ∷ []

-- all commands
unfoldable pub app : App
app = with_all links (with_all fronts (with_all reports (with_all calls (with_all schedules start))))

-- what is found in words, where they are taken, or that they are refused
abbrev pub Parses : List (List ℕ) → Option ArgMatches → Type 0
Parses words (Some found) = (fault_of app words ≡ []) × (subcommand_rows_of found ≡ subcommand_of app words)
Parses words None = fault_of app words ≡ [] → ⊥
