-- What the texts of the keeper's statements are to the database, under the schema of the format.
use Rattle.std.proofs.Common.{◌≡◌, ℕ, pos, negsuc, List, [], ◌∷◌, codes, false, None, Ok, refl}
use Rattle.sqlite.specs.Collation.TheVariants.{Binary}
use Rattle.sqlite.specs.declared.types.Value.TheVariants.{Null, Int}
use Rattle.sqlite.specs.Term.{Term, lit, col}
use Rattle.sqlite.specs.Query.{Query, inner, end}
use Rattle.sqlite.specs.Source.TheVariants.{Values}
use Rattle.sqlite.specs.Command.TheVariants.{Insert, Select, CreateTable, Delete}
use Rattle.sqlite.specs.Compile.{table_defined_by}
use Rattle.sqlite.specs.Listing.{understood, reads_listing}
use Rattle.sqlite.proofs.Callers.{IsPlain, command_of, statement_of}
use Rattle.sqlite_tied.specs.Compute.{everything}
use Rattle.sqlite_value.specs.declared.keys.Key.{Key}
use Rattle.keep_sqlite.specs.Format.{our_schema, half_schema, no_schema, about_table, commits_table}

abbrev pub insert_text : List ℕ
insert_text = codes "INSERT INTO commits (place, bytes) VALUES (?1, ?2)"

abbrev pub insert_terms : List Term
insert_terms = col 0 0 ∷ lit Null ∷ col 0 1 ∷ []

pub insert_is : command_of (understood our_schema insert_text) ≡ Insert 1 (Values insert_terms 3)
unfolding understood everything
insert_is = refl

pub insert_plain : IsPlain (understood our_schema insert_text)
unfolding understood everything
insert_plain = (refl, refl)

-- a query of the two columns of a table, in the order of the first
abbrev pub columns_of : ℕ → Query
columns_of tree =
    let key : Key = record { collation = Binary; descending = false } in
    record {
      from = inner tree end;
      filter = [];
      group = None;
      project = col 1 0 ∷ col 1 2 ∷ [];
      distinct = false;
      collations = [];
      order = (col 1 0, key) ∷ [];
      limit = lit (Int (negsuc 0));
      offset = lit (Int (pos 0));
    }

abbrev pub about_text : List ℕ
about_text = codes "SELECT item, value FROM about ORDER BY item"

abbrev pub commits_text : List ℕ
commits_text = codes "SELECT place, bytes FROM commits ORDER BY place"

pub about_is : (command_of (understood our_schema about_text) ≡ Select (record { lets = []; body = columns_of 0 }) (codes "item" ∷ codes "value" ∷ [])) × (reads_listing our_schema about_text ≡ false)
unfolding understood everything
about_is = (refl, refl)

pub about_plain : IsPlain (understood our_schema about_text)
unfolding understood everything
about_plain = (refl, refl)

pub commits_is : (command_of (understood our_schema commits_text) ≡ Select (record { lets = []; body = columns_of 1 }) (codes "place" ∷ codes "bytes" ∷ [])) × (reads_listing our_schema commits_text ≡ false)
unfolding understood everything
commits_is = (refl, refl)

pub commits_plain : IsPlain (understood our_schema commits_text)
unfolding understood everything
commits_plain = (refl, refl)

abbrev pub make_about_text : List ℕ
make_about_text = codes "CREATE TABLE about (item INTEGER PRIMARY KEY, value INTEGER NOT NULL)"

abbrev pub make_commits_text : List ℕ
make_commits_text = codes "CREATE TABLE commits (place INTEGER PRIMARY KEY, bytes BLOB NOT NULL)"

abbrev pub name_text : List ℕ
name_text = codes "INSERT INTO about (item, value) VALUES (1, 1)"

pub make_about_is : (command_of (understood no_schema make_about_text) ≡ CreateTable) × (statement_of make_about_text (understood no_schema make_about_text) ≡ make_about_text) × (table_defined_by make_about_text ≡ Ok (about_table 0))
unfolding understood everything
make_about_is = (refl, refl, refl)

pub make_about_plain : IsPlain (understood no_schema make_about_text)
unfolding understood everything
make_about_plain = (refl, refl)

pub make_commits_is : (command_of (understood half_schema make_commits_text) ≡ CreateTable) × (statement_of make_commits_text (understood half_schema make_commits_text) ≡ make_commits_text) × (table_defined_by make_commits_text ≡ Ok (commits_table 0))
unfolding understood everything
make_commits_is = (refl, refl, refl)

pub make_commits_plain : IsPlain (understood half_schema make_commits_text)
unfolding understood everything
make_commits_plain = (refl, refl)

abbrev pub name_terms : List Term
name_terms = lit (Int (pos 1)) ∷ lit Null ∷ lit (Int (pos 1)) ∷ []

pub name_is : command_of (understood our_schema name_text) ≡ Insert 0 (Values name_terms 3)
unfolding understood everything
name_is = refl

pub name_plain : IsPlain (understood our_schema name_text)
unfolding understood everything
name_plain = (refl, refl)

-- the query of the rows that a deletion of all rows of a table takes out
abbrev pub rowids_of : ℕ → Query
rowids_of tree =
    record {
      from = inner tree end;
      filter = [];
      group = None;
      project = col 1 0 ∷ [];
      distinct = false;
      collations = [];
      order = [];
      limit = lit (Int (negsuc 0));
      offset = lit (Int (pos 0));
    }

abbrev pub delete_text : List ℕ
delete_text = codes "DELETE FROM commits"

pub delete_is : command_of (understood our_schema delete_text) ≡ Delete 1 (record { lets = []; body = rowids_of 1 })
unfolding understood everything
delete_is = refl

pub delete_plain : IsPlain (understood our_schema delete_text)
unfolding understood everything
delete_plain = (refl, refl)
