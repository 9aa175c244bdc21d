-- What a connection keeps once its rows were read.
use Rattle.std.proofs.Common.{◌≡◌, List, [], ℕ, Bool, true, Some, Ok, Err, Result, IsTrue, ap, subst, sym, ◌∙◌, arith}
use Rattle.sqlite.specs.Order.{Row}
use Rattle.sqlite.specs.Effect.{Database}
use Rattle.sqlite.specs.State.{State, IsLive, Survives}
use Rattle.sqlite.proofs.StateLemmas.{survives_then, survives_weaker}
use Rattle.sqlite_trees.specs.declared.store.Store.{Ghosts}
use Rattle.sqlite_trees.specs.Tree.{Trees}
use Rattle.sqlite.specs.Held.{Held, state}
use Rattle.keep_port.specs.declared.kept.Kept.{Kept}
use Rattle.keep_sqlite.specs.Format.{our_schema, no_schema, kept_rows, AreNumbered}
use Rattle.keep_sqlite.specs.Telling.{StaysShut, Tells, Keeps, Leaves, AreFound, IsRead}
use Rattle.keep_sqlite.proofs.Places.{told_from}
use Rattle.keep_sqlite.proofs.Reading.{rows_told}

pub kept_by_load : (old new : State) (rows : List Row) (all : List (List ℕ)) → old.now.schema ≡ our_schema → IsLive old → AreFound old.now.trees rows → IsRead old new → AreNumbered 1 rows all
    → Keeps new (kept_rows all)
kept_by_load old new rows all ours live found read numbered =
    let tells : Tells old.now (kept_rows all) = record {
      ours = ours;
      sound = (live read.was_open).0;
      tells = told_from old.now.trees all found.named (rows_told (old.now.trees 1) rows all found.found numbered);
    } in
    record {
      shows = record { is_open = read.is_open; now = subst (λ d. Tells d (kept_rows all)) (sym read.same) tells };
      committed = read.committed;
    }

-- the trees of a database that tells a content, without its schema
pub leaves_by : (d : Database) (db : Trees) (k : Kept) → Tells d k → db ≡ d.trees → Leaves db k
leaves_by d db k tells trees =
    let at : Database = record { schema = our_schema; trees = db } in
    let mid : Database = record { schema = our_schema; trees = d.trees } in
    let whole : at ≡ d = ap (λ t. let x : Database = record { schema = our_schema; trees = t } in x) trees
    ∙ ap (λ s. let x : Database = record { schema = s; trees = d.trees } in x) (sym tells.ours) in
    subst (λ x. Tells x k) (sym whole) tells

-- what a crash leaves of a load, which may make the tables before it reads them
pub survives_making : (old new : State) → Survives old new (λ db. IsTrue old.is_open × (old.now.schema ≡ our_schema → ⊥) × (old.now.schema ≡ no_schema → Leaves db (kept_rows [])))
    → Survives old new (λ db. IsTrue old.is_open × ((k : Kept) → Keeps old k → Leaves db k))
survives_making old new h = survives_weaker old new _ _ (λ clean db made. (made.0, λ k keeps. absurd (made.1 keeps.shows.now.ours))) h

pub survives_load : {S : Type 0} (g : Ghosts S) (old mid new : Held S) → (old.schema ≡ our_schema → mid ≡ old) → StaysShut (state g old) (state g mid)
    → Survives (state g old) (state g mid) (λ db. IsTrue (state g old).is_open × (old.schema ≡ our_schema → ⊥) × (old.schema ≡ no_schema → Leaves db (kept_rows [])))
    → Survives (state g mid) (state g new) (λ db. IsTrue (state g mid).is_open × (mid.schema ≡ our_schema → db ≡ (state g mid).now.trees))
    → Survives (state g old) (state g new) (λ db. IsTrue (state g old).is_open × ((k : Kept) → Keeps (state g old) k → Leaves db k))
survives_load g old mid new same shut made read = survives_then (state g old) (state g mid) (state g new) _ _ _
    (λ clean db it. (it.0, λ k keeps. absurd (it.1 keeps.shows.now.ours)))
    (λ clean db it. (
      shut (omega (arith, read.clean, clean)) it.0,
      λ k keeps. let here = subst (λ h. Keeps (state g h) k) (sym (same keeps.shows.now.ours)) keeps in leaves_by (state g mid).now db k here.shows.now (it.1 here.shows.now.ours),
    ))
    made read

pub kept_by_read : (old new : State) (k : Kept) → Keeps old k → IsRead old new → Keeps new k
kept_by_read old new k keeps read = record {
  shows = record { is_open = read.is_open; now = subst (λ d. Tells d k) (sym read.same) keeps.shows.now };
  committed = read.committed;
}

-- a connection keeps one content
pub one_content : (s : State) (k other : Kept) → Keeps s k → Keeps s other → k ≡ other
one_content s k other a b = let both : Some k ≡ Some other = sym a.shows.now.tells ∙ b.shows.now.tells in cc

pub never_ok : {T E : Type 0} (r : Result T E) (e : E) (x : T) → r ≡ Err e → r ≡ Ok x → ⊥
never_ok {T} {E} r e x bad good = let both : ◌≡◌ {A = Result T E} (Err e) (Ok x) = sym bad ∙ good in cc

pub is_true_if_ok : {E : Type 0} (r : Result Bool E) (b : Bool) → r ≡ Ok b → r ≡ Ok true → IsTrue b
is_true_if_ok {E} r b is ours = let both : ◌≡◌ {A = Result Bool E} (Ok b) (Ok true) = sym is ∙ ours in cc
