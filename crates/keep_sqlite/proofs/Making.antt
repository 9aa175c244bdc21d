-- What the statements that make the tables do to a database without tables.
use Rattle.std.proofs.Common.{◌≡◌, ℕ, pos, false, List, [], ◌∷◌, length, None, Ok, refl, sym, ap, subst, ◌∙◌}
use Rattle.sqlite_value.specs.declared.value.Value.TheVariants.{Null, Int}
use Rattle.sqlite_value.specs.Order.{Row}
use Rattle.sqlite_trees.specs.Tree.{Trees, put_row}
use Rattle.sqlite_schema.specs.declared.schema.Keys.TheVariants.{Enforced}
use Rattle.sqlite_rules.specs.Edit.{Edit, edit_of, with_rowid, put_all, Applies}
use Rattle.sqlite.specs.Cast.{cast_row}
use Rattle.sqlite.specs.Change.{created, next_tree, KeepsRows}
use Rattle.sqlite.specs.Rowids.TheVariants.{Chosen}
use Rattle.sqlite.specs.Source.TheVariants.{Values}
use Rattle.sqlite.specs.Command.TheVariants.{Insert, CreateTable}
use Rattle.sqlite.specs.Does.{Tally, Does, lacks_sequence}
use Rattle.sqlite.specs.Rows.{Written}
use Rattle.sqlite.specs.Listing.{understood}
use Rattle.sqlite.specs.Effect.{Database}
use Rattle.sqlite.specs.State.{State, mode_of, Writes, ExecutesInside}
use Rattle.sqlite.proofs.Callers.{statement_of, runs_as, one_step}
use Rattle.keep_sqlite.specs.Format.{our_schema, half_schema, no_schema, about_table, commits_table, names_format, bytes_from, told, kept_rows}
use Rattle.keep_sqlite.specs.Telling.{Changes, Stages, HasAbout, HasTables}
use Rattle.keep_sqlite.proofs.Places.{told_from}
use Rattle.keep_sqlite.proofs.Inserting.{cast_int, cast_null, went, same_value}
use Rattle.keep_sqlite.proofs.Texts.{make_about_text, make_about_is, make_about_plain, make_commits_text, make_commits_is, make_commits_plain, name_text, name_terms, name_is, name_plain}

pub creates_about : (old new : State) (count : ℕ) → old.now.schema ≡ no_schema → ExecutesInside 0 make_about_text [] old new (Ok count) → Stages old new HasAbout
creates_about old new count has h =
    let w = subst (λ t. Writes old new None CreateTable t [] count) make_about_is.1 (runs_as make_about_text [] old new no_schema has CreateTable make_about_is.0 make_about_plain count h.0) in
    let all = went w.changed in
    let first = went all.1 in
    let made = first.1 in
    let both : Ok made.table ≡ Ok (about_table 0) = sym made.defined ∙ make_about_is.2 in
    let same : made.table ≡ about_table 0 = cc in
    let schema : first.0.schema ≡ half_schema = made.is ∙ ap (λ s. created s made.table) has ∙ ap (created no_schema) same in
    let plain : lacks_sequence first.0.schema ≡ false = ap lacks_sequence schema in
    let now : new.now ≡ first.0 = ap (λ (p : Tally × Database). p.1) (same_value all.2) ∙ same_value (rw plain at first.2) in
    record {
      is_open = h.1.is_open;
      so = record {
        is = ap (λ (d : Database). d.schema) now ∙ schema;
        about = ap (λ (d : Database). d.trees 0) now ∙ subst (λ s. first.0.trees (next_tree s) ≡ []) has made.empty;
      };
      sound = w.sound;
      committed = h.1.committed_is;
      inside = h.1.mode;
    }

pub creates_commits : (old new : State) (count : ℕ) → HasAbout old.now → ExecutesInside 0 make_commits_text [] old new (Ok count) → Stages old new HasTables
creates_commits old new count has h =
    let w = subst (λ t. Writes old new None CreateTable t [] count) make_commits_is.1 (runs_as make_commits_text [] old new half_schema has.is CreateTable make_commits_is.0 make_commits_plain count h.0) in
    let all = went w.changed in
    let first = went all.1 in
    let made = first.1 in
    let both : Ok made.table ≡ Ok (commits_table 0) = sym made.defined ∙ make_commits_is.2 in
    let same : made.table ≡ commits_table 0 = cc in
    let schema : first.0.schema ≡ our_schema = made.is ∙ ap (λ s. created s made.table) has.is ∙ ap (created half_schema) same in
    let plain : lacks_sequence first.0.schema ≡ false = ap lacks_sequence schema in
    let now : new.now ≡ first.0 = ap (λ (p : Tally × Database). p.1) (same_value all.2) ∙ same_value (rw plain at first.2) in
    let others : KeepsRows half_schema.tables old.now.trees first.0.trees = subst (λ s. KeepsRows s.tables old.now.trees first.0.trees) has.is made.others in
    record {
      is_open = h.1.is_open;
      so = record {
        is = ap (λ (d : Database). d.schema) now ∙ schema;
        about = ap (λ (d : Database). d.trees 0) now ∙ others.0 ∙ has.about;
        commits = ap (λ (d : Database). d.trees 1) now ∙ subst (λ s. first.0.trees (next_tree s) ≡ []) has.is made.empty;
      };
      sound = w.sound;
      committed = h.1.committed_is;
      inside = h.1.mode;
    }

-- the row that names the format, as it is stored
abbrev format_row : Row
format_row = Int (pos 1) ∷ Null ∷ Int (pos 1) ∷ []

cast_format : cast_row (about_table 0) format_row ≡ format_row
cast_format = rw (cast_int (pos 1), cast_null)

-- the edit of an insertion into the table `about`
abbrev edit_for : Trees → List Row → Edit
edit_for db rows = edit_of db (about_table 0) [] Chosen 0 rows

edit_is : (db : Trees) → (edit_for db (format_row ∷ [])).news ≡ format_row ∷ []
edit_is db = ap (λ row. with_rowid Chosen (db 0) row ∷ []) cast_format

-- the trees once the format is named
record IsNamed (db next : Trees) : Type 0 where
  about : next 0 ≡ put_row format_row (db 0)
  commits : next 1 ≡ db 1

named_by : (db next : Trees) (rows : List Row) → rows ≡ format_row ∷ [] → Applies our_schema Enforced db (edit_for db rows) next → IsNamed db next
named_by db next rows is applied =
    let news : (edit_for db rows).news ≡ format_row ∷ [] = ap (λ all. (edit_for db all).news) is ∙ edit_is db in
    record {
      about = applied.rows ∙ ap (put_all (db 0)) news;
      commits = applied.tables.1.0 (λ same. absurd cc);
    }

pub names_it : (old new : State) (count : ℕ) → HasTables old.now → ExecutesInside 0 name_text [] old new (Ok count) → Changes old new (kept_rows [])
names_it old new count has h =
    let db = old.now.trees in
    let command = Insert 0 (Values name_terms 3) in
    let w = runs_as name_text [] old new our_schema has.is command name_is name_plain count h.0 in
    let text = statement_of name_text (understood our_schema name_text) in
    let done = went (subst (λ s. Does old.step_limit (mode_of old) [] (record old.now { schema = s }) text None command (Ok (w.tally, new.now))) has.is w.changed) in
    let now = ap (λ (p : Tally × Database). p.1) (same_value (went (went done.2).2).2) in
    let given = went done.1 in
    let written = went (went given.2).2 in
    let counted = went written.2 in
    let trees : done.0.trees ≡ written.0 = ap (λ (it : Written). it.trees) (same_value counted.2) ∙ same_value counted.1 in
    let applied = one_step our_schema _ db written.0 (edit_for db given.0) refl written.1 in
    let put : IsNamed db written.0 = named_by db written.0 given.0 given.1.1 applied in
    let after : new.now.trees ≡ written.0 = ap (λ (d : Database). d.trees) now ∙ trees in
    let about : written.0 0 ≡ format_row ∷ [] = put.about ∙ ap (put_row format_row) has.about in
    let commits : written.0 1 ≡ [] = put.commits ∙ has.commits in
    record {
      shows = record {
        is_open = h.1.is_open;
        now = record {
          ours = ap (λ (d : Database). d.schema) now;
          sound = w.sound;
          tells = ap told after ∙ told_from written.0 [] (ap names_format about) (ap (λ rows. bytes_from rows (length rows) 1) commits);
        };
      };
      committed = h.1.committed_is;
      inside = h.1.mode;
    }
