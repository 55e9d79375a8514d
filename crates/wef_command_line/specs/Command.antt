-- The command lines: `replay`, `made SEED SIZE`, `add`, `remove NAME`, `list`, `check`, `write`, `collect ADDRESS N`, `forward ADDRESS SOURCE N`,
-- `show`, `events NAME SOURCE CHANNEL`, `status NAME`, `request ADDRESS N` and `serve ADDRESS SOURCE N`. No word of one begins with
-- `-`.
use Rattle.std.specs.Prelude.{ℕ, ◌==◌, nat_le, nat_lt, Bool, false, ◌&&◌, not, List, [], ◌∷◌, length, Option, Some, None, codes, if◌then◌else◌}
use Rattle.std.specs.List.{list_all, list_any}
use Rattle.std.specs.Option.{option_and_then, option_map}
use Rattle.wef_base.specs.Names.{channel_name, same, source_name, subscription_name}
use Rattle.wef_base.specs.Numbers.{plain_number}
use Rattle.wef_command_line.specs.declared.command.Command.{Command}
use Rattle.wef_command_line.specs.declared.command.Command.TheVariants as the

-- the command of one word
abbrev pub command_named : List ℕ → Option Command
command_named name =
    if same name (codes "replay") then Some the.Replay else
    if same name (codes "add") then Some the.Add else
    if same name (codes "list") then Some the.List else
    if same name (codes "check") then Some the.Check else
    if same name (codes "write") then Some the.Write else
    if same name (codes "show") then Some the.Show else None

abbrev pub begins_with_dash : List ℕ → Bool
begins_with_dash [] = false
begins_with_dash (b ∷ bs) = b == 45

-- a character that is printed: one of ASCII, and no space
abbrev pub is_printed : ℕ → Bool
is_printed b = nat_le 33 b && nat_le b 126

-- one printed character of ASCII or more
abbrev pub is_address : List ℕ → Bool
is_address word = nat_lt 0 (length word) && list_all is_printed word

-- the address that a word is
abbrev pub address_of : List ℕ → Option (List ℕ)
address_of word = if is_address word then Some word else None

-- the greatest number of connections, deliveries or requests in a run
abbrev pub greatest_number : ℕ
greatest_number = 1000000

-- a number that isn't zero
abbrev pub unless_zero : ℕ → Option ℕ
unless_zero n = if n == 0 then None else Some n

-- the number that a word is: digits without a leading zero, 1 to 1,000,000
abbrev pub number_of : List ℕ → Option ℕ
number_of word = option_and_then unless_zero (plain_number greatest_number word)

-- the greatest number that a schedule is made from
abbrev pub greatest_seed : ℕ
greatest_seed = 18446744073709551615

-- the number that a word is which a schedule is made from: digits without a leading zero, below 2 ^ 64
abbrev pub seed_of : List ℕ → Option ℕ
seed_of word = plain_number greatest_seed word

-- the greatest number of draws of a made schedule
abbrev pub greatest_size : ℕ
greatest_size = 100000

-- the number of draws that a word is: digits without a leading zero, at most 100,000
abbrev pub size_of : List ℕ → Option ℕ
size_of word = plain_number greatest_size word

-- the command that runs the schedule that a seed makes, with so many draws
abbrev pub made_of : List ℕ → List ℕ → Option Command
made_of seed size = option_and_then (λ s. option_map (the.Made s) (size_of size)) (seed_of seed)

-- the command that ends the subscription of a name
abbrev pub remove_of : List ℕ → Option Command
remove_of word = option_map the.Remove (subscription_name word)

-- the command that writes which sources of the subscription of a name are silent
abbrev pub status_of : List ℕ → Option Command
status_of word = option_map the.Status (subscription_name word)

-- the command that serves so many connections at an address
abbrev pub collect_of : List ℕ → List ℕ → Option Command
collect_of at number = option_and_then (λ address. option_map (the.Collect address) (number_of number)) (address_of at)

-- the command that sends at most so many batches of a source to the collector at an address
abbrev pub forward_of : List ℕ → List ℕ → List ℕ → Option Command
forward_of at source number =
    option_and_then (λ address. option_and_then (λ s. option_map (the.Forward address s) (number_of number)) (source_name source)) (address_of at)

-- the command that sends at most so many requests of the collector at an address
abbrev pub request_of : List ℕ → List ℕ → Option Command
request_of at number = option_and_then (λ address. option_map (the.Request address) (number_of number)) (address_of at)

-- the command that serves so many connections for a source at an address
abbrev pub serve_of : List ℕ → List ℕ → List ℕ → Option Command
serve_of at source number =
    option_and_then (λ address. option_and_then (λ s. option_map (the.Serve address s) (number_of number)) (source_name source)) (address_of at)

-- the command that writes what is held of a source's channel for the subscription of a name
abbrev pub events_of : List ℕ → List ℕ → List ℕ → Option Command
events_of name source channel =
    option_and_then (λ u. option_and_then (λ s. option_map (the.Events u s) (channel_name channel)) (source_name source)) (subscription_name name)

-- the command of a name and one word behind it
abbrev pub command_of_one : List ℕ → List ℕ → Option Command
command_of_one name word =
    if same name (codes "remove") then remove_of word else
    if same name (codes "status") then status_of word else None

-- the command of a name and two words behind it
abbrev pub command_of_two : List ℕ → List ℕ → List ℕ → Option Command
command_of_two name at number =
    if same name (codes "collect") then collect_of at number else
    if same name (codes "request") then request_of at number else
    if same name (codes "made") then made_of at number else None

-- the command of a name and three words behind it
abbrev pub command_of_three : List ℕ → List ℕ → List ℕ → List ℕ → Option Command
command_of_three name first second third =
    if same name (codes "forward") then forward_of first second third else
    if same name (codes "serve") then serve_of first second third else
    if same name (codes "events") then events_of first second third else None

-- the command that words ask for none of which begins with `-`
abbrev pub command_in : List (List ℕ) → Option Command
command_in (name ∷ []) = command_named name
command_in (name ∷ word ∷ []) = command_of_one name word
command_in (name ∷ at ∷ number ∷ []) = command_of_two name at number
command_in (name ∷ first ∷ second ∷ third ∷ []) = command_of_three name first second third
command_in _ = None

-- the command that the words ask for
abbrev pub command_of : List (List ℕ) → Option Command
command_of words = if list_any begins_with_dash words then None else command_in words

-- the names of the commands
abbrev pub names : List (List ℕ)
names =
    codes "replay" ∷ codes "check" ∷ codes "add" ∷ codes "remove" ∷ codes "write" ∷ codes "list" ∷ codes "show" ∷ codes "status"
    ∷ codes "events" ∷ codes "collect" ∷ codes "request" ∷ codes "forward" ∷ codes "serve" ∷ codes "made" ∷ []

abbrev pub is_name : List ℕ → Bool
is_name word = list_any (same word) names

abbrev pub begins_with_name : List (List ℕ) → Bool
begins_with_name [] = false
begins_with_name (name ∷ words) = is_name name

-- whether words may be a command line: no word begins with `-`, the first is the name of a command, and at most three are behind it
abbrev pub may_be_line : List (List ℕ) → Bool
may_be_line words = (not (list_any begins_with_dash words) && begins_with_name words) && nat_le (length words) 4
