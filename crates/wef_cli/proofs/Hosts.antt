-- The address of a command line is a host.
use Rattle.std.proofs.Common.{◌≡◌, ℕ, ◌<◌, Bool, true, false, cond, List, [], ◌∷◌, length, nat_lt, refl, sym, subst, arith}
use Rattle.std.proofs.lemmas.Bool.{and_parts}
use Rattle.std.proofs.lemmas.Bool.Decides.{nat_tests}
use Rattle.std.specs.List.{list_all, list_any}
use Rattle.std.specs.Option.{option_and_then, option_map}
use Rattle.std.specs.Prelude.{Option, None, Some, IfSome, codes}
use Rattle.wef_base.specs.Names.{channel_name, same, source_name, subscription_name}
use Rattle.wef_eventing.specs.Addresses.{IsHost}
use Rattle.wef_cli.specs.Hosting.{HasHost}
use Rattle.wef_command_line.specs.Command.{address_of, begins_with_dash, collect_of, command_in, command_named, command_of, events_of, forward_of, is_address, is_printed, made_of, number_of, remove_of, request_of, seed_of, serve_of, size_of, status_of}
use Rattle.wef_command_line.specs.declared.command.Command.{Command}
use Rattle.wef_command_line.specs.declared.command.Command.TheVariants as the

abbrev Good : Option Command → Type 0
Good o = IfSome o HasHost

choose : (b : Bool) (one other : Option Command) → Good one → Good other → Good (cond b one other)
choose true one other is more = is
choose false one other is more = more

steps : {A : Type 0} (P : A → Type 0) (o : Option A) (more : A → Option Command) → IfSome o P → ((a : A) → P a → Good (more a)) → Good (option_and_then more o)
steps P None more is h = tt
steps P (Some a) more is h = h a is

abbrev Any : {A : Type 0} → A → Type 0
Any a = Unit {0}

anything : {A : Type 0} (o : Option A) → IfSome o Any
anything None = tt
anything (Some a) = tt

made : {A : Type 0} (o : Option A) (command : A → Command) → ((a : A) → HasHost (command a)) → Good (option_map command o)
made None command h = tt
made (Some a) command h = h a

some_bytes : (n : ℕ) → nat_lt 0 n ≡ true → 0 < n
some_bytes n e = grind (arith, nat_tests, e)

address_is : (word : List ℕ) → IfSome (address_of word) IsHost
address_is word = by (is_address word) refl
  where
    by : (b : Bool) → is_address word ≡ b → IfSome (cond b (Some word) None) IsHost
    by true is = let parts = and_parts (nat_lt 0 (length word)) (list_all is_printed word) is in (some_bytes (length word) parts.0, parts.1)
    by false is = tt

collect_host : (at number : List ℕ) → Good (collect_of at number)
collect_host at number = steps IsHost (address_of at) _ (address_is at) (λ address is. made (number_of number) (the.Collect address) (λ n. tt))

forward_host : (at source number : List ℕ) → Good (forward_of at source number)
forward_host at source number =
    steps IsHost (address_of at) _ (address_is at) (λ address is. steps Any (source_name source) _ (anything (source_name source)) (λ s any. made (number_of number) (the.Forward address s) (λ n. is)))

request_host : (at number : List ℕ) → Good (request_of at number)
request_host at number = steps IsHost (address_of at) _ (address_is at) (λ address is. made (number_of number) (the.Request address) (λ n. is))

serve_host : (at source number : List ℕ) → Good (serve_of at source number)
serve_host at source number =
    steps IsHost (address_of at) _ (address_is at) (λ address is. steps Any (source_name source) _ (anything (source_name source)) (λ s any. made (number_of number) (the.Serve address s) (λ n. tt)))

made_host : (seed size : List ℕ) → Good (made_of seed size)
made_host seed size = steps Any (seed_of seed) _ (anything (seed_of seed)) (λ s any. made (size_of size) (the.Made s) (λ n. tt))

events_host : (name source channel : List ℕ) → Good (events_of name source channel)
events_host name source channel =
    steps Any (subscription_name name) _ (anything (subscription_name name)) (λ u any.
    steps Any (source_name source) _ (anything (source_name source)) (λ s more. made (channel_name channel) (the.Events u s) (λ c. tt)))

named_host : (name : List ℕ) → Good (command_named name)
named_host name =
    choose (same name (codes "replay")) _ _ tt
    (choose (same name (codes "add")) _ _ tt
    (choose (same name (codes "list")) _ _ tt
    (choose (same name (codes "check")) _ _ tt
    (choose (same name (codes "write")) _ _ tt
    (choose (same name (codes "show")) _ _ tt tt)))))

in_host : (words : List (List ℕ)) → Good (command_in words)
in_host [] = tt
in_host (name ∷ []) = named_host name
in_host (name ∷ word ∷ []) =
    choose (same name (codes "remove")) (remove_of word) _ (made (subscription_name word) the.Remove (λ u. tt))
    (choose (same name (codes "status")) (status_of word) None (made (subscription_name word) the.Status (λ u. tt)) tt)
in_host (name ∷ at ∷ number ∷ []) =
    choose (same name (codes "collect")) (collect_of at number) _ (collect_host at number)
    (choose (same name (codes "request")) (request_of at number) _ (request_host at number)
    (choose (same name (codes "made")) (made_of at number) None (made_host at number) tt))
in_host (name ∷ first ∷ second ∷ third ∷ []) =
    choose (same name (codes "forward")) (forward_of first second third) _ (forward_host first second third)
    (choose (same name (codes "serve")) (serve_of first second third) _ (serve_host first second third)
    (choose (same name (codes "events")) (events_of first second third) None (events_host first second third) tt))
in_host (name ∷ first ∷ second ∷ third ∷ fourth ∷ words) = tt

words_host : (words : List (List ℕ)) → Good (command_of words)
words_host words = choose (list_any begins_with_dash words) None (command_in words) tt (in_host words)

pub command_host : (words : List (List ℕ)) (command : Command) → Some command ≡ command_of words → HasHost command
command_host words command is = subst Good (sym is) (words_host words)
