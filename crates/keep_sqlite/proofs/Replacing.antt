-- What a loop that inserts rows makes of the tables, and what is left of it when it stops.
use Rattle.std.proofs.Common.{◌≡◌, ℕ, suc, ◌<◌, List, [], ◌∷◌, ◌++◌, length, take, true, false, get_or, IsTrue, refl, sym, ap, subst, ◌∙◌, arith}
use Rattle.std.proofs.Math.Seq.{take-suc, take-length}
use Rattle.std.proofs.lemmas.List.{length-take-le}
use Rattle.sqlite_trees.specs.declared.store.Store.{Ghosts}
use Rattle.sqlite.specs.State.{State, HasCleanDisk, KeepsCommit, Shows as Commits, Survives}
use Rattle.sqlite.specs.Held.{Held, state}
use Rattle.sqlite.proofs.Callers.{survives_begin}
use Rattle.sqlite.proofs.InsideLemmas.{keeps_then}
use Rattle.sqlite.proofs.StateLemmas.{survives_then}
use Rattle.keep_port.specs.Keeping.{with_row}
use Rattle.keep_port.specs.declared.kept.Kept.{Kept}
use Rattle.keep_sqlite.specs.Format.{kept_rows}
use Rattle.keep_sqlite.specs.Telling.{IsInside, Tells, Shows, Keeps, Leaves, Changes}
use Rattle.keep_sqlite.proofs.Appending.{survives_same}
use Rattle.keep_sqlite.proofs.Loading.{leaves_by}

-- what so many of the rows make of a connection that showed no row
pub record IsInserting (old new : State) (rows : List (List ℕ)) (count : ℕ) : Type 0 where
  pub survives : Survives old new (λ _. ⊥)
  pub keeps : HasCleanDisk new → IsTrue old.in_transaction → KeepsCommit old new
  pub mode : HasCleanDisk new → IsTrue old.in_transaction → IsTrue new.in_transaction
  pub told : HasCleanDisk new → IsTrue old.in_transaction → Shows old (kept_rows []) → Changes old new (kept_rows (take count rows))

pub insert_none : (s : State) (rows : List (List ℕ)) → IsInserting s s rows 0
insert_none s rows = record {
  survives = survives_same s (λ _. ⊥);
  keeps = λ clean inside. record { was_open = λ h. h; committed = λ _. refl };
  mode = λ clean inside. inside;
  told = λ clean inside shows. record { shows = shows; committed = refl; inside = inside };
}

module _ (old mid new : State) (rows : List (List ℕ)) (count : ℕ) (was : IsInserting old mid rows count) (survives : Survives mid new (λ _. ⊥)) where
  earlier : HasCleanDisk new → HasCleanDisk mid
  earlier clean = omega (arith, survives.clean, clean)

  pub survives_more : Survives old new (λ _. ⊥)
  survives_more = survives_then old mid new _ _ _ (λ _ db none. absurd none) (λ _ db none. absurd none) was.survives survives

  pub keeps_more : (HasCleanDisk new → IsTrue mid.in_transaction → KeepsCommit mid new) → HasCleanDisk new → IsTrue old.in_transaction → KeepsCommit old new
  keeps_more keeps clean inside = keeps_then old mid new (was.keeps (earlier clean) inside) (keeps clean (was.mode (earlier clean) inside))

  pub insert_more : count < length rows → (d row : List ℕ) → row ≡ get_or rows count d
      → (HasCleanDisk new → IsTrue mid.in_transaction → (k : Kept) → Shows mid k → suc count ≡ suc (length k.rows) → Changes mid new (with_row row k))
      → (HasCleanDisk new → IsTrue mid.in_transaction → KeepsCommit mid new) → (HasCleanDisk new → IsTrue mid.in_transaction → IsInside mid new) → IsInserting old new rows (suc count)
  insert_more low d row item told keeps inside = record {
    survives = survives_more;
    keeps = keeps_more keeps;
    mode = λ clean was_inside. (inside clean (was.mode (earlier clean) was_inside)).mode;
    told = λ clean was_inside shows.
        let here = was.told (earlier clean) was_inside shows in
        let size : suc count ≡ suc (length (take count rows)) = ap suc (sym (length-take-le count rows (omega (arith, low)))) in
        let next = told clean (was.mode (earlier clean) was_inside) (kept_rows (take count rows)) here.shows size in
        let more : take count rows ++ row ∷ [] ≡ take (suc count) rows = ap (λ r. take count rows ++ r ∷ []) item ∙ sym (take-suc rows count d low) in
        record { shows = subst (λ all. Shows new (kept_rows all)) more next.shows; committed = next.committed ∙ here.committed; inside = next.inside };
  }

pub insert_whole : (old new : State) (rows : List (List ℕ)) (count : ℕ) → count ≡ length rows → IsInserting old new rows count → HasCleanDisk new → IsTrue old.in_transaction → Shows old (kept_rows [])
    → (count ≡ length rows) × Changes old new (kept_rows rows)
insert_whole old new rows count is was clean inside shows = (is, subst (λ all. Changes old new (kept_rows all)) (ap (λ n. take n rows) is ∙ take-length rows) (was.told clean inside shows))

-- a deletion of all rows, an insertion of these, and the commit
module _ {S : Type 0} (g : Ghosts S) (old begun bare full : Held S) (begins : begun ≡ record old { in_transaction = true }) (rows : List (List ℕ)) (last : ℕ)
    (deletes : HasCleanDisk (state g bare) → IsTrue begun.in_transaction → (k : Kept) → Shows (state g begun) k → Changes (state g begun) (state g bare) (kept_rows []))
    (inside : HasCleanDisk (state g bare) → IsTrue begun.in_transaction → IsInside (state g begun) (state g bare)) (first : Survives (state g begun) (state g bare) (λ _. ⊥))
    (inserts : HasCleanDisk (state g full) → IsTrue bare.in_transaction → Shows (state g bare) (kept_rows []) → (last ≡ length rows) × Changes (state g bare) (state g full) (kept_rows rows))
    (second : Survives (state g bare) (state g full) (λ _. ⊥)) where
  before : HasCleanDisk (state g full) → HasCleanDisk (state g bare)
  before clean = omega (arith, second.clean, clean)

  within : IsTrue begun.in_transaction
  within = rw begins refl

  was_open : HasCleanDisk (state g full) → IsTrue (state g old).is_open
  was_open clean = subst (λ h. IsTrue (state g h).is_open) begins (inside (before clean) within).was_open

  whole : HasCleanDisk (state g full) → (k : Kept) → Keeps (state g old) k → (last ≡ length rows) × Changes (state g bare) (state g full) (kept_rows rows)
  whole clean k keeps =
      let shows : Shows (state g (record old { in_transaction = true })) k = record { is_open = keeps.shows.is_open; now = keeps.shows.now } in
      let none = deletes (before clean) within k (subst (λ h. Shows (state g h) k) (sym begins) shows) in
      inserts clean none.inside none.shows

  pub replaced_told : (end : Held S) → Survives (state g full) (state g end) (λ db. db ≡ (state g full).now.trees) → HasCleanDisk (state g end)
      → Commits (state g full) (state g end) (state g full).now (state g full).now false → (k : Kept) → Keeps (state g old) k → (last ≡ length rows) × Keeps (state g end) (kept_rows rows)
  replaced_told end third clean done k keeps =
      let it = whole (omega (arith, third.clean, clean)) k keeps in (
        it.0,
        record {
          shows = record { is_open = done.is_open; now = subst (λ d. Tells d (kept_rows rows)) (sym done.now_is) it.1.shows.now };
          committed = done.committed_is ∙ sym done.now_is;
        },
      )

  pub replaced_crash : (end : Held S) → Survives (state g full) (state g end) (λ db. db ≡ (state g full).now.trees)
      → Survives (state g old) (state g end) (λ db. IsTrue (state g old).is_open × ((k : Kept) → Keeps (state g old) k → Leaves db (kept_rows rows)))
  replaced_crash end third =
      let both = survives_then (state g begun) (state g bare) (state g full) _ _ (λ _. ⊥) (λ _ db none. none) (λ _ db none. none) first second in
      survives_then (state g old) (state g full) (state g end) _ _ _ (λ _ db none. absurd none) (λ clean db is.
      let clean_full : HasCleanDisk (state g full) = omega (arith, third.clean, clean) in
      (was_open clean_full, λ k keeps. leaves_by (state g full).now db (kept_rows rows) (whole clean_full k keeps).1.shows.now is))
      (survives_begin g old (state g full) _ (subst (λ h. Survives (state g h) (state g full) (λ _. ⊥)) begins both)) third
