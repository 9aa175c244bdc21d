-- What the insertion of a row makes of the tables.
use Rattle.std.proofs.Common.{◌≡◌, ◌⊎◌, inl, inr, ℕ, suc, ℤ, pos, Bool, true, false, cond, List, [], ◌∷◌, length, None, Ok, Err, Result, refl, ap, subst, ◌∙◌}
use Rattle.std.proofs.lemmas.Bool.{and_parts, not-true}
use Rattle.sqlite_value.specs.declared.value.Value.{Value}
use Rattle.sqlite_value.specs.declared.value.Value.TheVariants.{Null, Int, Blob}
use Rattle.sqlite_value.specs.Order.{Row}
use Rattle.sqlite_trees.specs.Tree.{Trees, put_row}
use Rattle.sqlite_rules.specs.Edit.{Edit, edit_of, with_rowid, put_all, are_fresh, is_taken, Applies}
use Rattle.sqlite_schema.specs.declared.schema.Keys.TheVariants.{Enforced}
use Rattle.sqlite.specs.Ops.{unary}
use Rattle.sqlite.specs.Kind.TheVariants.{Integer}
use Rattle.sqlite.specs.Cast.{cast, cast_row}
use Rattle.sqlite.specs.Rowids.TheVariants.{Chosen}
use Rattle.sqlite.specs.Source.TheVariants.{Values}
use Rattle.sqlite.specs.Command.TheVariants.{Insert}
use Rattle.sqlite.specs.Does.{Tally, Does}
use Rattle.sqlite.specs.Rows.{Written}
use Rattle.sqlite.specs.Listing.{understood}
use Rattle.sqlite.specs.Effect.{Database}
use Rattle.sqlite.specs.State.{State, mode_of, ExecutesInside}
use Rattle.sqlite.proofs.Callers.{statement_of, runs_as, one_step}
use Rattle.keep_port.specs.Keeping.{with_row}
use Rattle.keep_port.specs.declared.kept.Kept.{Kept}
use Rattle.keep_sqlite.specs.Format.{our_schema, commits_table, told}
use Rattle.keep_sqlite.specs.Telling.{Shows, Changes}
use Rattle.keep_sqlite.proofs.Places.{stored, told_push}
use Rattle.keep_sqlite.proofs.Texts.{insert_text, insert_terms, insert_is, insert_plain}

either : (b : Bool) (x : Value) → cond b x x ≡ x
either true x = refl
either false x = refl

pub cast_int : (n : ℤ) → cast Integer (Int n) ≡ Int n
unfolding unary
cast_int n = either _ (Int n)

pub cast_null : cast Integer Null ≡ Null
unfolding unary
cast_null = either _ Null

-- a part that gave a value did not stop on the way
pub went : {B E R : Type 0} {b : B} {Stops : E → Type 0} → ((stop : E) × Stops stop × (Ok b ≡ Err stop)) ⊎ R → R
went (inl stopped) = absurd (let e = stopped.2 in cc)
went (inr on) = on

pub same_value : {B E : Type 0} {a b : B} → ◌≡◌ {A = Result B E} (Ok a) (Ok b) → a ≡ b
same_value e = cc

abbrev given_row : ℤ → List ℕ → Row
given_row n bytes = Int n ∷ Null ∷ Blob bytes ∷ []

cast_given : (n : ℤ) (bytes : List ℕ) → cast_row (commits_table 1) (given_row n bytes) ≡ given_row n bytes
cast_given n bytes = rw (cast_int n, cast_null)

abbrev pub params_of : ℕ → List ℕ → Row
params_of n bytes = Int (pos n) ∷ Blob bytes ∷ []

-- the trees after an insertion into the table `commits`
pub record IsPut (n : ℕ) (bytes : List ℕ) (db next : Trees) : Type 0 where
  pub about : next 0 ≡ db 0
  pub commits : next 1 ≡ put_row (stored n bytes) (db 1)
  pub free : is_taken (db 1) (stored n bytes) ≡ false

-- the edit of an insertion
abbrev edit_for : Trees → List Row → Edit
edit_for db rows = edit_of db (commits_table 1) [] Chosen 0 rows

edit_is : (db : Trees) (n : ℕ) (bytes : List ℕ) → (edit_for db (given_row (pos n) bytes ∷ [])).news ≡ stored n bytes ∷ []
edit_is db n bytes = ap (λ row. with_rowid Chosen (db 1) row ∷ []) (cast_given (pos n) bytes)

put_by : (db next : Trees) (n : ℕ) (bytes : List ℕ) (rows : List Row) → rows ≡ given_row (pos n) bytes ∷ [] → Applies our_schema Enforced db (edit_for db rows) next → IsPut n bytes db next
put_by db next n bytes rows is applied =
    let news : (edit_for db rows).news ≡ stored n bytes ∷ [] = ap (λ all. (edit_for db all).news) is ∙ edit_is db n bytes in
    let fresh : are_fresh (db 1) (stored n bytes ∷ []) ≡ true = subst (λ all. are_fresh (db 1) all ≡ true) news applied.fresh in
    record {
      about = applied.tables.0 (λ same. absurd cc);
      commits = applied.rows ∙ ap (put_all (db 1)) news;
      free = not-true _ (and_parts _ _ fresh).0;
    }

pub inserts : (old new : State) (k : Kept) (bytes : List ℕ) (n count : ℕ) → Shows old k → n ≡ suc (length k.rows) → ExecutesInside 0 insert_text (params_of n bytes) old new (Ok count)
    → Changes old new (with_row bytes k)
inserts old new k bytes n count is number h =
    let params = params_of n bytes in
    let db = old.now.trees in
    let command = Insert 1 (Values insert_terms 3) in
    let w = runs_as insert_text params old new our_schema is.now.ours command insert_is insert_plain count h.0 in
    let text = statement_of insert_text (understood our_schema insert_text) in
    let done = went (subst (λ s. Does old.step_limit (mode_of old) params (record old.now { schema = s }) text None command (Ok (w.tally, new.now))) is.now.ours w.changed) in
    let now = ap (λ (p : Tally × Database). p.1) (same_value (went (went done.2).2).2) in
    let given = went done.1 in
    let written = went (went given.2).2 in
    let counted = went written.2 in
    let trees : done.0.trees ≡ written.0 = ap (λ (it : Written). it.trees) (same_value counted.2) ∙ same_value counted.1 in
    let applied = one_step our_schema _ db written.0 (edit_for db given.0) refl written.1 in
    let put : IsPut n bytes db written.0 = put_by db written.0 n bytes given.0 given.1.1 applied in
    let after : new.now.trees ≡ written.0 = ap (λ (d : Database). d.trees) now ∙ trees in
    record {
      shows = record {
        is_open = h.1.is_open;
        now = record {
          ours = ap (λ (d : Database). d.schema) now;
          sound = w.sound;
          tells = ap told after ∙ told_push db written.0 k n bytes is.now.tells number put.about put.commits put.free;
        };
      };
      committed = h.1.committed_is;
      inside = h.1.mode;
    }
