-- What the statements on one key mean, by their texts.
use Rattle.std.proofs.Common.{◌≡◌, ℕ, false, pos, negsuc, List, [], ◌∷◌, None, codes, refl}
use Rattle.sqlite.proofs.Callers.{IsPlain, command_of}
use Rattle.sqlite.specs.Listing.{understood, reads_listing}
use Rattle.sqlite_schema.specs.declared.command.Command.TheVariants.{Select, InsertOr, Delete}
use Rattle.sqlite_schema.specs.declared.command.Conflict.TheVariants.{Replace}
use Rattle.sqlite_schema.specs.declared.command.Source.TheVariants.{Values}
use Rattle.sqlite_sql.specs.Query.{Query, inner, end}
use Rattle.sqlite_sql.specs.Term.{Term, lit, col, op2}
use Rattle.sqlite_sql.specs.declared.ops.BinaryOp.TheVariants.{Compare}
use Rattle.sqlite_sql.specs.declared.ops.CompareOp.TheVariants.{Eq}
use Rattle.sqlite_tied.specs.Compute.{everything}
use Rattle.sqlite_value.specs.declared.keys.Collation.TheVariants.{Binary}
use Rattle.sqlite_value.specs.declared.value.Value.TheVariants.{Null, Int}
use Rattle.wef_sqlite.specs.Schema.{kept_schema}
use Rattle.wef_sqlite.specs.declared.read.TheConstants.{GET}
use Rattle.wef_sqlite.specs.declared.write.TheConstants.{PUT, DELETE}

-- a column is what a parameter says
abbrev pub is_given : ℕ → ℕ → Term
is_given at parameter = op2 (Compare Eq Binary) (col 1 at) (col 0 parameter)

-- the columns of a key are what the parameters say
abbrev pub key_given : List Term
key_given = is_given 1 0 ∷ is_given 2 1 ∷ is_given 3 2 ∷ is_given 4 3 ∷ is_given 5 4 ∷ []

abbrev pub key_query : List Term → Query
key_query project = record {
  from = inner 0 end;
  filter = key_given;
  group = None;
  project = project;
  distinct = false;
  collations = [];
  order = [];
  limit = lit (Int (negsuc 0));
  offset = lit (Int (pos 0));
}

-- the columns that are shown
abbrev pub all_columns : List Term
all_columns = col 1 1 ∷ col 1 2 ∷ col 1 3 ∷ col 1 4 ∷ col 1 5 ∷ col 1 6 ∷ col 1 7 ∷ []

abbrev pub names : List (List ℕ)
names = codes "kind" ∷ codes "sub" ∷ codes "source" ∷ codes "channel" ∷ codes "number" ∷ codes "value" ∷ codes "body" ∷ []

abbrev pub row_terms : List Term
row_terms = lit Null ∷ col 0 0 ∷ col 0 1 ∷ col 0 2 ∷ col 0 3 ∷ col 0 4 ∷ col 0 5 ∷ col 0 6 ∷ []

pub get_is : (command_of (understood kept_schema GET.now) ≡ Select (record { lets = []; body = key_query all_columns }) names) × (reads_listing kept_schema GET.now ≡ false)
unfolding understood everything
get_is = (refl, refl)

pub delete_is : command_of (understood kept_schema DELETE.now) ≡ Delete 0 (record { lets = []; body = key_query (col 1 0 ∷ []) })
unfolding understood everything
delete_is = refl

pub delete_plain : IsPlain (understood kept_schema DELETE.now)
unfolding understood everything
delete_plain = (refl, refl)

pub put_is : command_of (understood kept_schema PUT.now) ≡ InsertOr 0 Replace (Values row_terms 8) []
unfolding understood everything
put_is = refl

pub put_plain : IsPlain (understood kept_schema PUT.now)
unfolding understood everything
put_plain = (refl, refl)
