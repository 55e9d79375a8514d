-- Trees that grow by one part after the other.
use Rattle.std.proofs.Common.{◌≡◌, List, [], ◌∷◌, ◌++◌, Some, None, refl, sym, ap, ◌∙◌, append_assoc}
use Rattle.std.specs.List.{fold}
use Rattle.std.proofs.lemmas.List.{append-nil}
use Rattle.wef_query_paths.specs.declared.path.And.{And}
use Rattle.wef_query_paths.specs.declared.path.Or.{Or, out-Or, roll-Or, out-roll-Or, roll-out-Or}
use Rattle.wef_query_paths.specs.declared.path.Path.{Path, out-Path, roll-Path, out-roll-Path, roll-out-Path}
use Rattle.wef_query_paths.specs.declared.path.Predicate.{Predicate}
use Rattle.wef_query_paths.specs.declared.path.Step.{Step}
use Rattle.wef_query_paths.specs.declared.path.Unit as unit
use Rattle.wef_query_paths.specs.Levels.{with_and, with_predicate, with_step, with_unit}

-- a path of its first step and the others
abbrev pub path_of : Step → List Step → Path
path_of first rest = roll-Path (record { first = first; rest = rest })

abbrev pub or_of : And → List And → Or
or_of first rest = roll-Or (record { first = first; rest = rest })

-- a path with more steps
abbrev pub path_with : Path → List Step → Path
path_with p ss = fold (λ (q : Path) (s : Step). with_step (Some q) s) p ss

-- what has to hold in part, with more
abbrev pub or_with : Or → List And → Or
or_with o more = fold (λ (p : Or) (a : And). with_and (Some p) a) o more

-- what has to hold all together, with more
abbrev pub and_with : And → List unit.Unit → And
and_with a us = fold (λ (b : And) (u : unit.Unit). with_unit (Some b) u) a us

-- a step with more predicates
abbrev pub step_with : Step → List Predicate → Step
step_with s xs = fold (λ (t : Step) (x : Predicate). with_predicate t x) s xs

-- a tree that is made of its last parts, and takes one more behind them, takes each of several
parts_of : {A B : Type 0} (make : List B → A) (add : A → B → A) → ((rest : List B) (b : B) → add (make rest) b ≡ make (rest ++ b ∷ [])) → (rest more : List B) → fold add (make rest) more ≡ make (rest ++ more)
parts_of make add one rest [] = ap make (sym (append-nil rest))
parts_of make add one rest (b ∷ more) = ap (λ a. fold add a more) (one rest b) ∙ parts_of make add one (rest ++ b ∷ []) more ∙ ap make (append_assoc rest (b ∷ []) more)

pub path_parts : (first : Step) (rest ss : List Step) → path_with (path_of first rest) ss ≡ path_of first (rest ++ ss)
path_parts first rest ss = parts_of (path_of first) (λ (q : Path) (s : Step). with_step (Some q) s) (λ done s. ap (λ r. path_of r.first (r.rest ++ s ∷ [])) (out-roll-Path (record { first = first; rest = done }))) rest ss

pub path_whole : (p : Path) → path_with (with_step None (out-Path p).first) (out-Path p).rest ≡ p
path_whole p = path_parts (out-Path p).first [] (out-Path p).rest ∙ roll-out-Path p

pub or_parts : (first : And) (rest more : List And) → or_with (or_of first rest) more ≡ or_of first (rest ++ more)
or_parts first rest more = parts_of (or_of first) (λ (p : Or) (a : And). with_and (Some p) a) (λ done a. ap (λ r. or_of r.first (r.rest ++ a ∷ [])) (out-roll-Or (record { first = first; rest = done }))) rest more

pub or_whole : (o : Or) → or_with (with_and None (out-Or o).first) (out-Or o).rest ≡ o
or_whole o = or_parts (out-Or o).first [] (out-Or o).rest ∙ roll-out-Or o

pub and_parts : (first : unit.Unit) (rest us : List unit.Unit) → and_with (record { first = first; rest = rest }) us ≡ record { first = first; rest = rest ++ us }
and_parts first rest us = parts_of {A = And} (λ (all : List unit.Unit). record { first = first; rest = all }) (λ (b : And) (u : unit.Unit). with_unit (Some b) u) (λ done u. refl) rest us

pub and_whole : (a : And) → and_with (with_unit None a.first) a.rest ≡ a
and_whole a = and_parts a.first [] a.rest

pub step_whole : (s : Step) → step_with (record { axis = s.axis; test = s.test; predicates = [] }) s.predicates ≡ s
step_whole s = parts_of {A = Step} (λ (all : List Predicate). record { axis = s.axis; test = s.test; predicates = all }) (λ (t : Step) (x : Predicate). with_predicate t x) (λ done x. refl) [] s.predicates
