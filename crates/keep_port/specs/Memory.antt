-- What a crash may leave of a keeper in memory, and what each call makes of the keeper.
use Rattle.std.specs.Prelude.{◌≡◌, ℕ, true, false, List, [], ◌∷◌, ◌++◌, Result, Ok, Err, ◌⊎◌}
use Rattle.jm_edge.specs.declared.fault.EdgeFault.{EdgeFault}
use Rattle.jm_edge.specs.declared.fault.EdgeFault.TheVariants.{Failed, NoMemory}
use Rattle.keep_port.specs.Keeping.{with_row}
use Rattle.keep_port.specs.declared.kept.Kept.{Kept}
use Rattle.keep_port.specs.declared.memory.MemoryKeeper.{MemoryKeeper}
pub use Rattle.jm_edge.specs.Schedules.{not_called, fails_next, passed, failed}

-- the keeper of this content before its first call
abbrev pub opened : Kept → List ℕ → List ℕ → List ℕ → MemoryKeeper
opened kept loads appends replaces =
    record {
      kept = kept;
      refused_rows = [];
      refused_wholes = [];
      loads = not_called loads;
      appends = not_called appends;
      replaces = not_called replaces;
    }

-- the item is in the list
abbrev pub IsOneOf : {A : Type 0} → List A → A → Type 0
IsOneOf [] x = ⊥
IsOneOf (y ∷ ys) x = (x ≡ y) ⊎ IsOneOf ys x

-- What a crash may leave: the content; the content with one row that was refused; or one content
-- that was refused. Refused are those of the calls since the last `append` or `replace` that
-- returned `Ok`.
abbrev pub may_be_left : MemoryKeeper → Kept → Type 0
may_be_left m k =
    (k ≡ m.kept) ⊎ ((row : List ℕ) × IsOneOf m.refused_rows row × (k ≡ with_row row m.kept))
    ⊎ IsOneOf m.refused_wholes k

-- What `load` returns, and what it makes of the keeper. It fails exactly at the listed calls. A
-- call that runs out of memory changes nothing and is not counted.
abbrev pub Loads : MemoryKeeper → MemoryKeeper → Result Kept EdgeFault → Type 0
Loads old new (Ok k) = (fails_next old.loads ≡ false) × (k ≡ old.kept)
    × (new ≡ record old { loads = passed old.loads })
Loads old new (Err Failed) = (fails_next old.loads ≡ true)
    × (new ≡ record old { loads = failed old.loads })
Loads old new (Err NoMemory) = new ≡ old

-- What `append` makes of the keeper: the row is added after the others, and what was refused before
-- is forgotten; or the call fails, and the row is one of those that a crash may leave.
abbrev pub Appends : {T : Type 0} → List ℕ → MemoryKeeper → MemoryKeeper → Result T EdgeFault
    → Type 0
Appends row old new (Ok _) =
    (fails_next old.appends ≡ false) × (new ≡ record old {
      kept = with_row row old.kept;
      refused_rows = [];
      refused_wholes = [];
      appends = passed old.appends;
    })
Appends row old new (Err Failed) =
    (fails_next old.appends ≡ true)
    × (new ≡ record old {
      refused_rows = old.refused_rows ++ row ∷ [];
      appends = failed old.appends;
    })
Appends row old new (Err NoMemory) = new ≡ old

-- What `replace` makes of the keeper: the new content takes the place of the old one; or the call
-- fails, and the new content is one of those that a crash may leave.
abbrev pub Replaces : {T : Type 0} → Kept → MemoryKeeper → MemoryKeeper → Result T EdgeFault
    → Type 0
Replaces whole old new (Ok _) =
    (fails_next old.replaces ≡ false) × (new ≡ record old {
      kept = whole;
      refused_rows = [];
      refused_wholes = [];
      replaces = passed old.replaces;
    })
Replaces whole old new (Err Failed) =
    (fails_next old.replaces ≡ true)
    × (new ≡ record old {
      refused_wholes = old.refused_wholes ++ whole ∷ [];
      replaces = failed old.replaces;
    })
Replaces whole old new (Err NoMemory) = new ≡ old
