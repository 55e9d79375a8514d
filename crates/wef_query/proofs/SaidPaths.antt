-- The text `*` says the path that each event meets, so a list of all events is one that can be written and read.
use Rattle.std.proofs.Common.{◌≡◌, true, List, ℕ, refl, ap, sym, subst, ◌∙◌, [], ◌∷◌}
use Rattle.std.specs.Prelude.{codes, Some, is_some}
use Rattle.std.specs.Str.{chars}
use lib.Utf8.{encode}
use Rattle.std.proofs.lemmas.Bool.{and_from}
use Rattle.std.specs.Cmp.Lexicographic.{bytes_decides}
use Rattle.wef_base.specs.Names.{same, trimmed}
use Rattle.wef_query_paths.proofs.AnyPath.{star_is_any}
use Rattle.wef_query_paths.specs.Paths.{any_path, path_of}
use Rattle.wef_query_paths.specs.declared.path.Path.{Path}
use Rattle.wef_query.specs.Items.{says_path}
use Rattle.wef_query.specs.Laws.{groups_rise}
use Rattle.wef_query.specs.Queries.{all_events_of}

pub any_trimmed : trimmed (codes "*") ≡ codes "*"
unfolding chars encode
any_trimmed = refl

pub any_found : is_some (path_of (codes "*")) ≡ true
any_found = ap is_some star_is_any

-- a text and a path that are those say each other
pub any_says : (text : List ℕ) (path : Path) → text ≡ codes "*" → path ≡ any_path → (trimmed text ≡ text) × (path_of text ≡ Some path)
any_says text path said found = (subst (λ t. trimmed t ≡ t) (sym said) any_trimmed, ap path_of said ∙ star_is_any ∙ ap (λ p. Some p) (sym found))

-- what a text says that has no spaces at its ends and says a path
pub says : (text : List ℕ) (path : Path) → trimmed text ≡ text → path_of text ≡ Some path → says_path text ≡ true
says text path kept found = and_from (same (trimmed text) text) (is_some (path_of text)) ((bytes_decides (trimmed text) text).1 kept) (ap is_some found)

pub any_says_path : says_path (codes "*") ≡ true
any_says_path = says (codes "*") any_path any_trimmed star_is_any

-- the items of all events are in one group
pub all_grouped : (channels : List (List ℕ)) → groups_rise 0 (all_events_of channels) ≡ true
all_grouped [] = refl
all_grouped (c ∷ cs) = all_grouped cs
