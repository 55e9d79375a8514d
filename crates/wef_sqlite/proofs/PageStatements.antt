-- What the statements of a page mean.
use Rattle.std.proofs.Common.{◌≡◌, ℕ, pos, List, [], ◌∷◌, None, refl, false}
use Rattle.sqlite.specs.Listing.{understood, reads_listing}
use Rattle.sqlite.proofs.Callers.{command_of}
use Rattle.sqlite_tied.specs.Compute.{everything}
use Rattle.sqlite_value.specs.Keys.{ascending}
use Rattle.sqlite_value.specs.declared.keys.Key.{Key}
use Rattle.sqlite_value.specs.declared.keys.Collation.TheVariants.{Binary}
use Rattle.sqlite_value.specs.declared.value.Value.TheVariants.{Int}
use Rattle.sqlite_schema.specs.declared.command.Command.TheVariants.{Select}
use Rattle.sqlite_sql.specs.Term.{Term, lit, col, op2}
use Rattle.sqlite_sql.specs.Query.{Query, inner, end}
use Rattle.sqlite_sql.specs.declared.ops.BinaryOp.TheVariants.{Compare}
use Rattle.sqlite_sql.specs.declared.ops.CompareOp.TheVariants.{Gt, Ge}
use Rattle.wef_sqlite.proofs.Texts.{all_columns, is_given, names}
use Rattle.wef_sqlite.specs.Schema.{kept_schema}
use Rattle.wef_sqlite.specs.Statements.{text_behind}
use Rattle.wef_sqlite.specs.declared.read.Section.{Section}
use Rattle.wef_sqlite.specs.declared.read.Section.TheVariants.{Number, Channel, Source, Sub, Kind}

-- a column is greater than a parameter, and no less than one
abbrev exceeds : ℕ → ℕ → Term
exceeds place param = op2 (Compare Gt Binary) (col 1 place) (col 0 param)

abbrev is_from : ℕ → ℕ → Term
is_from place param = op2 (Compare Ge Binary) (col 1 place) (col 0 param)

-- what a section asks of a row
abbrev pub wants : Section → List Term
wants Number = is_given 1 0 ∷ is_given 2 1 ∷ is_given 3 2 ∷ is_given 4 3 ∷ exceeds 5 4 ∷ []
wants Channel = is_given 1 0 ∷ is_given 2 1 ∷ is_given 3 2 ∷ is_from 4 3 ∷ []
wants Source = is_given 1 0 ∷ is_given 2 1 ∷ is_from 3 2 ∷ []
wants Sub = is_given 1 0 ∷ is_from 2 1 ∷ []
wants Kind = is_from 1 0 ∷ []

-- the parameter that limits its rows
abbrev pub limit_at : Section → ℕ
limit_at Number = 5
limit_at Channel = 4
limit_at Source = 3
limit_at Sub = 2
limit_at Kind = 1

-- what the rows are sorted by, each part upwards
abbrev pub order_terms : List Term
order_terms = col 1 1 ∷ col 1 2 ∷ col 1 3 ∷ col 1 4 ∷ col 1 5 ∷ []

abbrev pub sort_keys : List Key
sort_keys = ascending Binary ∷ ascending Binary ∷ ascending Binary ∷ ascending Binary ∷ ascending Binary ∷ []

-- what a section's statement asks
abbrev pub query_behind : Section → Query
query_behind section = record {
  from = inner 0 end;
  filter = wants section;
  group = None;
  project = all_columns;
  distinct = false;
  collations = [];
  order = (col 1 1, ascending Binary) ∷ (col 1 2, ascending Binary) ∷ (col 1 3, ascending Binary) ∷ (col 1 4, ascending Binary) ∷ (col 1 5, ascending Binary) ∷ [];
  limit = col 0 (limit_at section);
  offset = lit (Int (pos 0));
}

-- the statements ask what they should, by their texts
pub behind_is : (section : Section) → command_of (understood kept_schema (text_behind section)) ≡ Select (record { lets = []; body = query_behind section }) names
unfolding understood everything
behind_is Number = refl
behind_is Channel = refl
behind_is Source = refl
behind_is Sub = refl
behind_is Kind = refl

-- and read our table
pub behind_unlisted : (section : Section) → reads_listing kept_schema (text_behind section) ≡ false
unfolding understood everything
behind_unlisted Number = refl
behind_unlisted Channel = refl
behind_unlisted Source = refl
behind_unlisted Sub = refl
behind_unlisted Kind = refl
