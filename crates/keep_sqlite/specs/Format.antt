-- The tables of format 1, and what they tell.
--
-- The table `about` names the format by its one row. The table `commits` has the rows of the
-- content, each at its place.
use Rattle.std.specs.Prelude.{◌≡◌, ⊤, ℕ, zero, suc, ◌==◌, pos, Bool, true, false, ◌&&◌, if◌then◌else◌, List, [], ◌∷◌, length, find, codes, Option, Some, None, option_map, option_and_then}
use Rattle.sqlite_value.specs.declared.keys.Collation.TheVariants.{Binary}
use Rattle.sqlite_value.specs.declared.value.Value.{Value}
use Rattle.sqlite_value.specs.declared.value.Value.TheVariants.{Null, Int, Blob}
use Rattle.sqlite_value.specs.Order.{Row, column}
use Rattle.sqlite_trees.specs.Tree.{Trees, rowid}
use Rattle.sqlite_schema.specs.declared.schema.Kind.{Kind}
use Rattle.sqlite_schema.specs.declared.schema.Kind.TheVariants.{Integer, Any}
use Rattle.sqlite_schema.specs.declared.schema.Column.{Column}
use Rattle.sqlite_schema.specs.declared.schema.Table.{Table}
use Rattle.sqlite_schema.specs.declared.schema.Schema.{Schema}
use Rattle.keep_port.specs.declared.kept.Kept.{Kept}

-- a column with a name, a kind, and whether it takes no NULL, and with nothing else
abbrev pub plain_column : List ℕ → Kind → Bool → Column
plain_column name kind required =
    record {
      name = name;
      kind = kind;
      is_strict = false;
      not_null = required;
      default = Null;
      collation = Binary;
    }

-- a table in a tree whose first column is its INTEGER PRIMARY KEY, with no other rule
abbrev pub plain_table : List ℕ → ℕ → List Column → Table
plain_table name tree columns =
    record {
      name = name;
      tree = tree;
      columns = columns;
      key = Some 0;
      primary = 0 ∷ [];
      uniques = [];
      orders = [];
      checks = [];
      references = [];
      computed = [];
      stamps = record { places = []; terms = []; formats = [] };
      is_counted = false;
    }

abbrev pub about_columns : List Column
about_columns =
    plain_column (codes "item") Integer false ∷ plain_column (codes "value") Integer true ∷ []

abbrev pub commits_columns : List Column
commits_columns =
    plain_column (codes "place") Integer false ∷ plain_column (codes "bytes") Any true ∷ []

-- `CREATE TABLE about (item INTEGER PRIMARY KEY, value INTEGER NOT NULL)`, in this tree
abbrev pub about_table : ℕ → Table
about_table tree = plain_table (codes "about") tree about_columns

-- `CREATE TABLE commits (place INTEGER PRIMARY KEY, bytes BLOB NOT NULL)`, in this tree
abbrev pub commits_table : ℕ → Table
commits_table tree = plain_table (codes "commits") tree commits_columns

-- the two tables in the first two trees, and nothing else
abbrev pub our_schema : Schema
our_schema = record { tables = about_table 0 ∷ commits_table 1 ∷ []; indexes = []; views = [] }

-- the table `about` alone, in the first tree
abbrev pub half_schema : Schema
half_schema = record { tables = about_table 0 ∷ []; indexes = []; views = [] }

-- no table, index or view
abbrev pub no_schema : Schema
no_schema = record { tables = []; indexes = []; views = [] }

abbrev pub is_number : ℕ → Value → Bool
is_number n (Int (pos m)) = m == n
is_number n _ = false

abbrev pub bytes_in : Value → Option (List ℕ)
bytes_in (Blob bytes) = Some bytes
bytes_in _ = None

-- the one row (1, 1)
abbrev pub names_format : List Row → Bool
names_format (row ∷ []) = is_number 1 (rowid row) && is_number 1 (column row 2)
names_format _ = false

-- the bytes of the row at this place
abbrev pub bytes_at : List Row → ℕ → Option (List ℕ)
bytes_at rows place =
    option_and_then (λ row. bytes_in (column row 2))
    (find (λ row. is_number place (rowid row)) rows)

-- the bytes of so many rows by their places, from this place on
abbrev pub bytes_from : List Row → ℕ → ℕ → Option (List (List ℕ))
bytes_from rows zero place = Some []
bytes_from rows (suc count) place =
    option_and_then (λ bytes. option_map (λ more. bytes ∷ more) (bytes_from rows count (suc place)))
    (bytes_at rows place)

-- the content that has these rows and no base
abbrev pub kept_rows : List (List ℕ) → Kept
kept_rows rows = record { base = None; rows = rows }

-- The content that the tables in the first two trees tell: `about` has the one row (1, 1), the
-- places of `commits` are 1 to their number, and the rows are their bytes by place. What is of
-- another form tells nothing.
abbrev pub told : Trees → Option Kept
told db =
    if names_format (db 0)
    then option_map kept_rows (bytes_from (db 1) (length (db 1)) 1)
    else None

-- the two columns of a row, as a query shows them
abbrev pub shown : Row → Row
shown row = rowid row ∷ column row 2 ∷ []

-- the rows that a query shows are numbered from this place on, and these are their bytes
abbrev pub AreNumbered : ℕ → List Row → List (List ℕ) → Type 0
AreNumbered place [] [] = ⊤
AreNumbered place [] (bytes ∷ more) = ⊥
AreNumbered place (row ∷ rows) [] = ⊥
AreNumbered place (row ∷ rows) (bytes ∷ more) =
    (column row 0 ≡ Int (pos place)) × (column row 1 ≡ Blob bytes)
    × AreNumbered (suc place) rows more

-- the one row (1, 1), as a query shows it
pub record ShowsFormat (rows : List Row) : Type 0 where
  pub row : Row
  pub is : rows ≡ row ∷ []
  pub item : column row 0 ≡ Int (pos 1)
  pub value : column row 1 ≡ Int (pos 1)
