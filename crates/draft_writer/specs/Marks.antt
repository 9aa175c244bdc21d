-- Numbers of boundaries that may not be used: those that a line of a part begins with.
use Rattle.std.specs.Prelude.{◌≡◌, ℕ, ◌≤◌, ◌<◌, ◌^◌, Bool, true, false, ◌||◌, List, [], ◌∷◌, ◌++◌, is_some}
use Rattle.std.specs.List.{list_any}
use Rattle.mime_lines.specs.Lines.{lines}
use Rattle.mime_lines.specs.Written.{crlf}
use Rattle.mime_cut.specs.DelimiterLines.{after_prefix, dashes}
use Rattle.mime_tree.specs.Boundaries.{boundary_start}
use Rattle.draft_form.specs.declared.draft.Row.{Row}
use Rattle.draft_form.specs.declared.draft.Row.TheVariants.{Opens, Holds, Closes}
use Rattle.draft_writer.specs.Parts.{blobs_after}
use Rattle.draft_writer.specs.Steps.{leaf_text}

-- a line of a text begins with this mark
abbrev pub has_line : List ℕ → List ℕ → Bool
has_line mark t = list_any (λ l. is_some (after_prefix mark l)) (lines t)

-- so does one of a text with a line end after it
abbrev pub has_mark : List ℕ → List ℕ → Bool
has_mark mark t = has_line mark (t ++ crlf)

-- the text of a step, if it is a part that is no multipart, has such a line
abbrev pub row_has_mark : List ℕ → List (List ℕ) → Row → Bool
row_has_mark mark blobs (Holds h c) = has_mark mark (leaf_text blobs h c)
row_has_mark mark blobs (Opens h) = false
row_has_mark mark blobs Closes = false

-- the blobs of the parts after a step
abbrev pub blobs_past : List (List ℕ) → Row → List (List ℕ)
blobs_past blobs (Holds h c) = blobs_after blobs c
blobs_past blobs (Opens h) = blobs
blobs_past blobs Closes = blobs

abbrev pub rows_have_mark : List ℕ → List (List ℕ) → List Row → Bool
rows_have_mark mark blobs [] = false
rows_have_mark mark blobs (r ∷ rs) =
    row_has_mark mark blobs r || rows_have_mark mark (blobs_past blobs r) rs

-- a line of a part that is no multipart begins with two dashes and the start of the boundaries of a
-- number
abbrev pub is_used : ℕ → List (List ℕ) → List Row → Bool
is_used n blobs rows = rows_have_mark (dashes ++ boundary_start n) blobs rows

-- the least number from 1 that is not used
pub record IsBoundaryFree (n : ℕ) (blobs : List (List ℕ)) (rows : List Row) : Type 0 where
  pub from_one : 1 ≤ n
  pub below : n < 2 ^ 64
  pub free : is_used n blobs rows ≡ false
  pub least : (m : ℕ) → 1 ≤ m → m < n → is_used m blobs rows ≡ true

abbrev pub opens_first : List Row → Bool
opens_first [] = false
opens_first (Holds h c ∷ rows) = false
opens_first (Opens h ∷ rows) = true
opens_first (Closes ∷ rows) = false

-- the number of the boundaries of steps that begin with a multipart; others have none
abbrev pub IsNumberFor : ℕ → List (List ℕ) → List Row → Type 0
IsNumberFor n blobs rows = opens_first rows ≡ true → IsBoundaryFree n blobs rows
