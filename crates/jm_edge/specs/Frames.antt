-- What a call that only reads a link, or only writes to one, leaves as it was. A contract names
-- what it knows of the links of a type and the link before and after, as in
-- `OnlyReads L.held L.read_faults L.put_faults link.old link.new`.
use Rattle.std.specs.Prelude.{◌≡◌, ◌≤◌, ℕ, List, Option}

-- what was written and the faults of writing are as before, and those of reading did not become
-- less
pub record OnlyReads {L : Type 0} (held_of : L → Option (List ℕ)) (reads_of puts_of : L → ℕ)
    (old new : L) : Type 0 where
  pub later : reads_of old ≤ reads_of new
  pub held : held_of new ≡ held_of old
  pub put_faults : puts_of new ≡ puts_of old

-- what is to be read and the faults of reading are as before, and those of writing did not become
-- less
pub record OnlyWrites {L : Type 0} (left_of : L → Option (List ℕ)) (reads_of puts_of : L → ℕ)
    (old new : L) : Type 0 where
  pub later : puts_of old ≤ puts_of new
  pub left : left_of new ≡ left_of old
  pub read_faults : reads_of new ≡ reads_of old
