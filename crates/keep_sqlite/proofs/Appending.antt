-- What a crash leaves of what a connection keeps.
use Rattle.std.proofs.Common.{◌≡◌, inl, Option, Some, IsTrue, refl, sym, ap, subst, ◌∙◌, arith}
use Rattle.sqlite_trees.specs.declared.store.Store.{Ghosts}
use Rattle.sqlite_trees.specs.Tree.{Trees}
use Rattle.sqlite.specs.Effect.{Database}
use Rattle.sqlite.specs.State.{State, Survives}
use Rattle.sqlite.specs.Held.{Held, state}
use Rattle.keep_port.specs.declared.kept.Kept.{Kept}
use Rattle.keep_sqlite.specs.Format.{our_schema}
use Rattle.keep_sqlite.specs.Telling.{Tells, Keeps, Leaves}

-- the law of a store that while it is open a crash leaves the last commit
abbrev pub IsSettled : {S : Type 0} → Ghosts S → Type 0
IsSettled {S} g = (s : S) (db : Trees) → IsTrue (g.view s).is_open → g.recovers s db → db ≡ (g.view s).committed

pub settled_leaves : {S : Type 0} (g : Ghosts S) → IsSettled g → (h : Held S) (k : Kept) → Keeps (state g h) k → (db : Trees) → (state g h).may_leave db → Leaves db k
settled_leaves g law h k keeps db left =
    let trees : db ≡ (state g h).now.trees = law h.store db keeps.shows.is_open left ∙ ap (λ (d : Database). d.trees) keeps.committed in
    let at : Database = record { schema = our_schema; trees = db } in
    let mid : Database = record { schema = our_schema; trees = (state g h).now.trees } in
    let whole : at ≡ (state g h).now = ap (λ t. let d : Database = record { schema = our_schema; trees = t } in d) trees
    ∙ ap (λ s. let d : Database = record { schema = s; trees = (state g h).now.trees } in d) (sym keeps.shows.now.ours) in
    subst (λ d. Tells d k) (sym whole) keeps.shows.now

pub survives_same : (s : State) (P : Trees → Type 0) → Survives s s P
survives_same s P = record {
  clean = omega arith;
  shield = λ h. h;
  counts = omega arith;
  limit = refl;
  closes = λ clean h. inl h;
  crash = λ clean db h. inl h;
}

pub same_held : {X : Type 0} (o : Option X) (x y : X) → o ≡ Some x → o ≡ Some y → x ≡ y
same_held o x y a b = let both : Some x ≡ Some y = sym a ∙ b in cc
