-- The path that `*` says.
use Rattle.std.proofs.Common.{◌≡◌, codes, Some, refl}
use Rattle.std.specs.Str.{chars}
use lib.Utf8.{encode}
use Rattle.wef_query_tokens.specs.Tokens.{token_from, tokens_in}
use Rattle.wef_query_paths.specs.Paths.{any_path, path_of}

pub star_is_any : path_of (codes "*") ≡ Some any_path
unfolding path_of tokens_in token_from any_path chars encode
star_is_any = refl
