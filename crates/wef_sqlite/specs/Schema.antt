-- The schema of the file: one table, with the index of its key.
use Rattle.std.specs.Prelude.{ℕ, true, false, List, [], ◌∷◌, None, codes}
use Rattle.sqlite_value.specs.declared.value.Value.TheVariants.{Null}
use Rattle.sqlite_value.specs.declared.keys.Collation.TheVariants.{Binary}
use Rattle.sqlite_schema.specs.declared.schema.Column.{Column}
use Rattle.sqlite_schema.specs.declared.schema.Index.{Index}
use Rattle.sqlite_schema.specs.declared.schema.Kind.{Kind}
use Rattle.sqlite_schema.specs.declared.schema.Kind.TheVariants.{Integer, Text}
use Rattle.sqlite_schema.specs.declared.schema.Schema.{Schema}
use Rattle.sqlite_schema.specs.declared.schema.Table.{Table}

-- a column of one type, which is never null
abbrev pub kept_column : List ℕ → Kind → Column
kept_column name kind = record { name = name; kind = kind; is_strict = true; not_null = true; default = Null; collation = Binary }

-- the parts of a key, and what stands there
abbrev pub kept_columns : List Column
kept_columns =
    kept_column (codes "kind") Integer
    ∷ kept_column (codes "sub") Text
    ∷ kept_column (codes "source") Text
    ∷ kept_column (codes "channel") Text
    ∷ kept_column (codes "number") Integer
    ∷ kept_column (codes "value") Integer
    ∷ kept_column (codes "body") Text
    ∷ []

-- the places of the columns of a key, of which the first is 1
abbrev pub key_places : List ℕ
key_places = 1 ∷ 2 ∷ 3 ∷ 4 ∷ 5 ∷ []

-- the table, whose key is no rowid
abbrev pub kept_table : Table
kept_table = record {
  name = codes "kept";
  tree = 0;
  columns = kept_columns;
  key = None;
  primary = key_places;
  uniques = key_places ∷ [];
  orders = record { digits = 0 } ∷ [];
  checks = [];
  references = [];
  computed = [];
  stamps = record { places = []; terms = []; formats = [] };
  is_counted = false;
}

-- the index of the key
abbrev pub kept_index : Index
kept_index = record {
  name = codes "sqlite_autoindex_kept_1";
  tree = 1;
  table = 0;
  columns = key_places;
  order = record { digits = 0 };
  is_unique = true;
}

-- the schema with the table alone
abbrev pub kept_schema : Schema
kept_schema = record { tables = kept_table ∷ []; indexes = kept_index ∷ []; views = [] }

-- the schema of a new database
abbrev pub no_schema : Schema
no_schema = record { tables = []; indexes = []; views = [] }
