-- What the names of the two tables are to a database.
use Rattle.std.proofs.Common.{◌≡◌, ℕ, Bool, false, List, codes, Option, Some, None, slice_get, option_map, option_and_then, IsTrue, refl, sym, ap, ◌∙◌, true≢false}
use Rattle.sqlite_schema.specs.declared.schema.Schema.{Schema}
use Rattle.sqlite_schema.specs.declared.schema.Table.{Table}
use Rattle.sqlite_schema.specs.Names.{same_name, table_named}
use Rattle.keep_sqlite.specs.Format.{our_schema, about_table, commits_table}

abbrev named : Schema → List ℕ → Option Table
named schema name = option_and_then (slice_get schema.tables) (table_named schema name)

about_named : named our_schema (codes "about") ≡ Some (about_table 0)
unfolding same_name
about_named = refl

commits_named : named our_schema (codes "commits") ≡ Some (commits_table 1)
unfolding same_name
commits_named = refl

pub found_about : (schema : Schema) → schema ≡ our_schema → named schema (codes "about") ≡ Some (about_table 0)
found_about schema ours = ap (λ s. named s (codes "about")) ours ∙ about_named

pub found_commits : (schema : Schema) → schema ≡ our_schema → named schema (codes "commits") ≡ Some (commits_table 1)
found_commits schema ours = ap (λ s. named s (codes "commits")) ours ∙ commits_named

pub never_none : {X Y : Type 0} (f : X → Y) {y : Y} (o : Option X) → o ≡ None → option_map f o ≡ Some y → ⊥
never_none f None is h = absurd cc
never_none f (Some x) is h = absurd cc

pub only_some : {X Y : Type 0} (f : X → Y) {y : Y} (o : Option X) (x : X) → o ≡ Some x → option_map f o ≡ Some y → f x ≡ y
only_some f o x is h = let it : Some (f x) ≡ Some _ = sym (ap (option_map f) is) ∙ h in cc

pub never_both : {b : Bool} → b ≡ false → IsTrue b → ⊥
never_both bad good = true≢false (sym good ∙ bad)

pub its_tree : (form : ℕ → Table) (t : Table) (n : ℕ) → (form n).tree ≡ n → t ≡ form n → t ≡ form t.tree
its_tree form t n same h = h ∙ ap form (sym same ∙ sym (ap (λ (x : Table). x.tree) h))
