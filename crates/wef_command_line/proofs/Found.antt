-- What clap finds in words that may be a line is the command that they ask for, and it refuses those that ask for none.
use Rattle.std.proofs.Common.{◌≡◌, ◌∙◌, ◌⊎◌, ◌≤◌, ℕ, Bool, true, false, not, List, [], ◌∷◌, length, refl, sym, subst, inl, inr, true≢false, arith}
use Rattle.std.proofs.lemmas.Bool.{and_parts}
use Rattle.std.proofs.lemmas.Bool.Decides.{nat_tests}
use Rattle.std.specs.Cmp.Lexicographic.{bytes_decides}
use Rattle.std.specs.List.{list_any}
use Rattle.std.specs.Prelude.{◌&&◌, ◌||◌, None, Some, codes, nat_le}
use Rattle.std.specs.Str.{bytes_eq}
use Rattle.clap.proofs.OnLiterals.{clap_on_literals}
use Rattle.clap.specs.Faults.{fault_of, is_simple_and_free}
use Rattle.clap.specs.Kinds.{HasKind, Kinds}
use Rattle.clap.specs.Lexer.{long_of, short_of}
use Rattle.clap.specs.Simple.{App, HasMatchesOf, is_simple, subcommand_of}
use Rattle.clap.specs.Values.{kind_of}
use Rattle.clap.specs.declared.error.Error.{Error}
use Rattle.clap.specs.declared.parser.matches.ArgMatches.{ArgMatches}
use Rattle.clap.specs.declared.error.kind.ErrorKind.{ErrorKind}
use Rattle.clap.specs.declared.error.kind.ErrorKind.TheVariants.{MissingRequiredArgument, OutOfMemory, UnknownArgument}
use Rattle.wef_base.specs.Names.{same}
use Rattle.wef_command_line.proofs.Lines.{neither}
use Rattle.wef_command_line.specs.App.{Parses, app}
use Rattle.wef_command_line.specs.Command.{begins_with_dash, begins_with_name, command_in, command_of, may_be_line, names}
use Rattle.wef_command_line.specs.Values.{command_found}

-- a word that clap takes for no flag
record IsPlain (word : List ℕ) : Type 0 where
  long : long_of word ≡ None
  short : short_of word ≡ None
  dashes : bytes_eq word (45 ∷ 45 ∷ []) ≡ false

is_plain : (word : List ℕ) → begins_with_dash word ≡ false → IsPlain word
is_plain [] e = record { long = refl; short = refl; dashes = refl }
is_plain (b ∷ bs) e = record { long = rw e refl; short = rw e refl; dashes = rw e refl }

-- clap takes the words, and what it finds is the command; or it refuses them, and there is none
abbrev Agrees : List (List ℕ) → Type 0
Agrees words =
    ((fault_of app words ≡ []) × (command_found (subcommand_of app words) ≡ command_in words))
    ⊎ ((fault_of app words ≡ [] → ⊥) × (command_in words ≡ None))

-- each of some words
abbrev ArePlain : List (List ℕ) → Type 0
ArePlain [] = Unit {0}
ArePlain (word ∷ words) = IsPlain word × ArePlain words

-- so it is of a name with at most three words behind it
abbrev IsShort : List ℕ → Type 0
IsShort name = (words : List (List ℕ)) → ArePlain words → length words ≤ 3 → Agrees (name ∷ words)

some_fault : (faults : Kinds) (kind : ErrorKind) → faults ≡ kind ∷ [] → faults ≡ [] → ⊥
some_fault faults kind is none = cc

at_replay : IsShort (codes "replay")
unfolding clap_on_literals app
at_replay [] p few = inl (refl, refl)
at_replay (a ∷ []) p few = inr (some_fault _ UnknownArgument (rw (p.0.dashes, p.0.long, p.0.short) refl), refl)
at_replay (a ∷ b ∷ []) p few = inr (some_fault _ UnknownArgument (rw (p.0.dashes, p.0.long, p.0.short) refl), refl)
at_replay (a ∷ b ∷ c ∷ []) p few = inr (some_fault _ UnknownArgument (rw (p.0.dashes, p.0.long, p.0.short) refl), refl)
at_replay (a ∷ b ∷ c ∷ d ∷ words) p few = absurd (omega (arith, few))

at_check : IsShort (codes "check")
unfolding clap_on_literals app
at_check [] p few = inl (refl, refl)
at_check (a ∷ []) p few = inr (some_fault _ UnknownArgument (rw (p.0.dashes, p.0.long, p.0.short) refl), refl)
at_check (a ∷ b ∷ []) p few = inr (some_fault _ UnknownArgument (rw (p.0.dashes, p.0.long, p.0.short) refl), refl)
at_check (a ∷ b ∷ c ∷ []) p few = inr (some_fault _ UnknownArgument (rw (p.0.dashes, p.0.long, p.0.short) refl), refl)
at_check (a ∷ b ∷ c ∷ d ∷ words) p few = absurd (omega (arith, few))

at_add : IsShort (codes "add")
unfolding clap_on_literals app
at_add [] p few = inl (refl, refl)
at_add (a ∷ []) p few = inr (some_fault _ UnknownArgument (rw (p.0.dashes, p.0.long, p.0.short) refl), refl)
at_add (a ∷ b ∷ []) p few = inr (some_fault _ UnknownArgument (rw (p.0.dashes, p.0.long, p.0.short) refl), refl)
at_add (a ∷ b ∷ c ∷ []) p few = inr (some_fault _ UnknownArgument (rw (p.0.dashes, p.0.long, p.0.short) refl), refl)
at_add (a ∷ b ∷ c ∷ d ∷ words) p few = absurd (omega (arith, few))

at_remove : IsShort (codes "remove")
unfolding clap_on_literals app
at_remove [] p few = inr (some_fault _ MissingRequiredArgument refl, refl)
at_remove (a ∷ []) p few = inl (rw (p.0.dashes, p.0.long, p.0.short) refl, rw (p.0.dashes, p.0.long, p.0.short) refl)
at_remove (a ∷ b ∷ []) p few = inr (some_fault _ UnknownArgument (rw (p.0.dashes, p.0.long, p.0.short, p.1.0.dashes, p.1.0.long, p.1.0.short) refl), refl)
at_remove (a ∷ b ∷ c ∷ []) p few = inr (some_fault _ UnknownArgument (rw (p.0.dashes, p.0.long, p.0.short, p.1.0.dashes, p.1.0.long, p.1.0.short) refl), refl)
at_remove (a ∷ b ∷ c ∷ d ∷ words) p few = absurd (omega (arith, few))

at_write : IsShort (codes "write")
unfolding clap_on_literals app
at_write [] p few = inl (refl, refl)
at_write (a ∷ []) p few = inr (some_fault _ UnknownArgument (rw (p.0.dashes, p.0.long, p.0.short) refl), refl)
at_write (a ∷ b ∷ []) p few = inr (some_fault _ UnknownArgument (rw (p.0.dashes, p.0.long, p.0.short) refl), refl)
at_write (a ∷ b ∷ c ∷ []) p few = inr (some_fault _ UnknownArgument (rw (p.0.dashes, p.0.long, p.0.short) refl), refl)
at_write (a ∷ b ∷ c ∷ d ∷ words) p few = absurd (omega (arith, few))

at_list : IsShort (codes "list")
unfolding clap_on_literals app
at_list [] p few = inl (refl, refl)
at_list (a ∷ []) p few = inr (some_fault _ UnknownArgument (rw (p.0.dashes, p.0.long, p.0.short) refl), refl)
at_list (a ∷ b ∷ []) p few = inr (some_fault _ UnknownArgument (rw (p.0.dashes, p.0.long, p.0.short) refl), refl)
at_list (a ∷ b ∷ c ∷ []) p few = inr (some_fault _ UnknownArgument (rw (p.0.dashes, p.0.long, p.0.short) refl), refl)
at_list (a ∷ b ∷ c ∷ d ∷ words) p few = absurd (omega (arith, few))

at_show : IsShort (codes "show")
unfolding clap_on_literals app
at_show [] p few = inl (refl, refl)
at_show (a ∷ []) p few = inr (some_fault _ UnknownArgument (rw (p.0.dashes, p.0.long, p.0.short) refl), refl)
at_show (a ∷ b ∷ []) p few = inr (some_fault _ UnknownArgument (rw (p.0.dashes, p.0.long, p.0.short) refl), refl)
at_show (a ∷ b ∷ c ∷ []) p few = inr (some_fault _ UnknownArgument (rw (p.0.dashes, p.0.long, p.0.short) refl), refl)
at_show (a ∷ b ∷ c ∷ d ∷ words) p few = absurd (omega (arith, few))

at_status : IsShort (codes "status")
unfolding clap_on_literals app
at_status [] p few = inr (some_fault _ MissingRequiredArgument refl, refl)
at_status (a ∷ []) p few = inl (rw (p.0.dashes, p.0.long, p.0.short) refl, rw (p.0.dashes, p.0.long, p.0.short) refl)
at_status (a ∷ b ∷ []) p few = inr (some_fault _ UnknownArgument (rw (p.0.dashes, p.0.long, p.0.short, p.1.0.dashes, p.1.0.long, p.1.0.short) refl), refl)
at_status (a ∷ b ∷ c ∷ []) p few = inr (some_fault _ UnknownArgument (rw (p.0.dashes, p.0.long, p.0.short, p.1.0.dashes, p.1.0.long, p.1.0.short) refl), refl)
at_status (a ∷ b ∷ c ∷ d ∷ words) p few = absurd (omega (arith, few))

at_events : IsShort (codes "events")
unfolding clap_on_literals app
at_events [] p few = inr (some_fault _ MissingRequiredArgument refl, refl)
at_events (a ∷ []) p few = inr (some_fault _ MissingRequiredArgument (rw (p.0.dashes, p.0.long, p.0.short) refl), refl)
at_events (a ∷ b ∷ []) p few = inr (some_fault _ MissingRequiredArgument (rw (p.0.dashes, p.0.long, p.0.short, p.1.0.dashes, p.1.0.long, p.1.0.short) refl), refl)
at_events (a ∷ b ∷ c ∷ []) p few = inl (rw (p.0.dashes, p.0.long, p.0.short, p.1.0.dashes, p.1.0.long, p.1.0.short, p.1.1.0.dashes, p.1.1.0.long, p.1.1.0.short) refl, rw (p.0.dashes, p.0.long, p.0.short, p.1.0.dashes, p.1.0.long, p.1.0.short, p.1.1.0.dashes, p.1.1.0.long, p.1.1.0.short) refl)
at_events (a ∷ b ∷ c ∷ d ∷ words) p few = absurd (omega (arith, few))

at_collect : IsShort (codes "collect")
unfolding clap_on_literals app
at_collect [] p few = inr (some_fault _ MissingRequiredArgument refl, refl)
at_collect (a ∷ []) p few = inr (some_fault _ MissingRequiredArgument (rw (p.0.dashes, p.0.long, p.0.short) refl), refl)
at_collect (a ∷ b ∷ []) p few = inl (rw (p.0.dashes, p.0.long, p.0.short, p.1.0.dashes, p.1.0.long, p.1.0.short) refl, rw (p.0.dashes, p.0.long, p.0.short, p.1.0.dashes, p.1.0.long, p.1.0.short) refl)
at_collect (a ∷ b ∷ c ∷ []) p few = inr (some_fault _ UnknownArgument (rw (p.0.dashes, p.0.long, p.0.short, p.1.0.dashes, p.1.0.long, p.1.0.short, p.1.1.0.dashes, p.1.1.0.long, p.1.1.0.short) refl), refl)
at_collect (a ∷ b ∷ c ∷ d ∷ words) p few = absurd (omega (arith, few))

at_request : IsShort (codes "request")
unfolding clap_on_literals app
at_request [] p few = inr (some_fault _ MissingRequiredArgument refl, refl)
at_request (a ∷ []) p few = inr (some_fault _ MissingRequiredArgument (rw (p.0.dashes, p.0.long, p.0.short) refl), refl)
at_request (a ∷ b ∷ []) p few = inl (rw (p.0.dashes, p.0.long, p.0.short, p.1.0.dashes, p.1.0.long, p.1.0.short) refl, rw (p.0.dashes, p.0.long, p.0.short, p.1.0.dashes, p.1.0.long, p.1.0.short) refl)
at_request (a ∷ b ∷ c ∷ []) p few = inr (some_fault _ UnknownArgument (rw (p.0.dashes, p.0.long, p.0.short, p.1.0.dashes, p.1.0.long, p.1.0.short, p.1.1.0.dashes, p.1.1.0.long, p.1.1.0.short) refl), refl)
at_request (a ∷ b ∷ c ∷ d ∷ words) p few = absurd (omega (arith, few))

at_forward : IsShort (codes "forward")
unfolding clap_on_literals app
at_forward [] p few = inr (some_fault _ MissingRequiredArgument refl, refl)
at_forward (a ∷ []) p few = inr (some_fault _ MissingRequiredArgument (rw (p.0.dashes, p.0.long, p.0.short) refl), refl)
at_forward (a ∷ b ∷ []) p few = inr (some_fault _ MissingRequiredArgument (rw (p.0.dashes, p.0.long, p.0.short, p.1.0.dashes, p.1.0.long, p.1.0.short) refl), refl)
at_forward (a ∷ b ∷ c ∷ []) p few = inl (rw (p.0.dashes, p.0.long, p.0.short, p.1.0.dashes, p.1.0.long, p.1.0.short, p.1.1.0.dashes, p.1.1.0.long, p.1.1.0.short) refl, rw (p.0.dashes, p.0.long, p.0.short, p.1.0.dashes, p.1.0.long, p.1.0.short, p.1.1.0.dashes, p.1.1.0.long, p.1.1.0.short) refl)
at_forward (a ∷ b ∷ c ∷ d ∷ words) p few = absurd (omega (arith, few))

at_serve : IsShort (codes "serve")
unfolding clap_on_literals app
at_serve [] p few = inr (some_fault _ MissingRequiredArgument refl, refl)
at_serve (a ∷ []) p few = inr (some_fault _ MissingRequiredArgument (rw (p.0.dashes, p.0.long, p.0.short) refl), refl)
at_serve (a ∷ b ∷ []) p few = inr (some_fault _ MissingRequiredArgument (rw (p.0.dashes, p.0.long, p.0.short, p.1.0.dashes, p.1.0.long, p.1.0.short) refl), refl)
at_serve (a ∷ b ∷ c ∷ []) p few = inl (rw (p.0.dashes, p.0.long, p.0.short, p.1.0.dashes, p.1.0.long, p.1.0.short, p.1.1.0.dashes, p.1.1.0.long, p.1.1.0.short) refl, rw (p.0.dashes, p.0.long, p.0.short, p.1.0.dashes, p.1.0.long, p.1.0.short, p.1.1.0.dashes, p.1.1.0.long, p.1.1.0.short) refl)
at_serve (a ∷ b ∷ c ∷ d ∷ words) p few = absurd (omega (arith, few))

at_made : IsShort (codes "made")
unfolding clap_on_literals app
at_made [] p few = inr (some_fault _ MissingRequiredArgument refl, refl)
at_made (a ∷ []) p few = inr (some_fault _ MissingRequiredArgument (rw (p.0.dashes, p.0.long, p.0.short) refl), refl)
at_made (a ∷ b ∷ []) p few = inl (rw (p.0.dashes, p.0.long, p.0.short, p.1.0.dashes, p.1.0.long, p.1.0.short) refl, rw (p.0.dashes, p.0.long, p.0.short, p.1.0.dashes, p.1.0.long, p.1.0.short) refl)
at_made (a ∷ b ∷ c ∷ []) p few = inr (some_fault _ UnknownArgument (rw (p.0.dashes, p.0.long, p.0.short, p.1.0.dashes, p.1.0.long, p.1.0.short, p.1.1.0.dashes, p.1.1.0.long, p.1.1.0.short) refl), refl)
at_made (a ∷ b ∷ c ∷ d ∷ words) p few = absurd (omega (arith, few))

-- a fact of each of these names
abbrev Each : List (List ℕ) → Type 0
Each [] = Unit {0}
Each (name ∷ rest) = IsShort name × Each rest

both_of : (word name : List ℕ) (more : Bool) → same word name || more ≡ true → IsShort name → (more ≡ true → IsShort word) → IsShort word
both_of word name more e this others = by (same word name) refl e
  where
    by : (b : Bool) → same word name ≡ b → b || more ≡ true → IsShort word
    by true is e = subst IsShort (sym ((bytes_decides word name).0 is)) this
    by false is e = others e

named : (word : List ℕ) (some : List (List ℕ)) → Each some → list_any (same word) some ≡ true → IsShort word
named word [] each e = absurd (true≢false (sym e))
named word (name ∷ rest) each e = both_of word name (list_any (same word) rest) e each.0 (λ more. named word rest each.1 more)

all_agree : Each names
all_agree = (at_replay, (at_check, (at_add, (at_remove, (at_write, (at_list, (at_show, (at_status, (at_events, (at_collect, (at_request, (at_forward, (at_serve, (at_made, tt))))))))))))))

few : (n : ℕ) → nat_le n 4 ≡ true → n ≤ 4
few n e = grind (arith, nat_tests, e)

are_plain : (words : List (List ℕ)) → list_any begins_with_dash words ≡ false → ArePlain words
are_plain [] e = tt
are_plain (word ∷ words) e = let parts = neither (begins_with_dash word) (list_any begins_with_dash words) e in (is_plain word parts.0, are_plain words parts.1)

with_no_dash : (words : List (List ℕ)) → list_any begins_with_dash words ≡ false → begins_with_name words ≡ true → nat_le (length words) 4 ≡ true → Agrees words
with_no_dash [] plain name short = absurd (true≢false (sym name))
with_no_dash (name ∷ words) plain is short =
    named name names all_agree is words (are_plain (name ∷ words) plain).1 (let at_most = few (length (name ∷ words)) short in omega (arith, at_most))

false_is : (b : Bool) → not b ≡ true → b ≡ false
false_is false e = refl
false_is true e = absurd (true≢false (sym e))

agrees : (words : List (List ℕ)) → may_be_line words ≡ true → Agrees words × (command_of words ≡ command_in words)
agrees words e =
    let parts = and_parts (not (list_any begins_with_dash words) && begins_with_name words) _ e in
    let first = and_parts (not (list_any begins_with_dash words)) _ parts.0 in
    let plain = false_is (list_any begins_with_dash words) first.0 in
    (with_no_dash words plain first.1 parts.1, rw plain refl)

pub taken : (words : List (List ℕ)) → may_be_line words ≡ true → fault_of app words ≡ [] → command_found (subcommand_of app words) ≡ command_of words
taken words e free = let both = agrees words e in elim both.0 [
  | inl h ↦ h.1 ∙ sym both.1
  | inr h ↦ absurd (h.0 free)
]

pub refused : (words : List (List ℕ)) → may_be_line words ≡ true → (fault_of app words ≡ [] → ⊥) → command_of words ≡ None
refused words e faults = let both = agrees words e in elim both.0 [
  | inl h ↦ absurd (faults h.0)
  | inr h ↦ both.1 ∙ h.1
]

app_is_simple : is_simple_and_free app ≡ true
unfolding clap_on_literals app
app_is_simple = refl

app_is_plain : is_simple app ≡ true
unfolding clap_on_literals app
app_is_plain = refl

-- what is found by an app that is this one
pub parses : (some : App) (words : List (List ℕ)) (found : ArgMatches) → some ≡ app → HasMatchesOf some words found
    → (is_simple_and_free some ≡ true → fault_of some words ≡ []) → Parses words (Some found)
parses some words found is has free =
    let has_app : HasMatchesOf app words found = subst (λ a. HasMatchesOf a words found) is has in
    let free_app : is_simple_and_free app ≡ true → fault_of app words ≡ [] = subst (λ a. is_simple_and_free a ≡ true → fault_of a words ≡ []) is free in
    (free_app app_is_simple, (has_app app_is_plain).1)

-- and what is refused by it
pub refuses : (some : App) (words : List (List ℕ)) (error : Error) → some ≡ app → (kind_of error ≡ OutOfMemory → ⊥)
    → (is_simple_and_free some ≡ true → HasKind (fault_of some words) error) → Parses words None
refuses some words error is not_memory has none =
    let has_app : is_simple_and_free app ≡ true → HasKind (fault_of app words) error = subst (λ a. is_simple_and_free a ≡ true → HasKind (fault_of a words) error) is has in
    elim (subst (λ faults. HasKind faults error) none (has_app app_is_simple)) [
      | inl memory ↦ not_memory memory
      | inr among ↦ among
    ]
