-- The steps through the parts of a draft in walk order.
use Rattle.std.specs.Prelude.{ℕ, ◌+◌, List, [], ◌∷◌, ◌++◌}
use Rattle.draft_form.specs.Structures.{Body, DraftParts, blob, leaf, multipart, none, value}
use Rattle.draft_form.specs.declared.draft.Content.{Content}
use Rattle.draft_form.specs.declared.draft.Content.TheVariants.{Value, Blob}
use Rattle.draft_form.specs.declared.draft.Row.{Row}
use Rattle.draft_form.specs.declared.draft.Row.TheVariants.{Opens, Holds, Closes}

abbrev pub content_of : Body → Content
content_of (value t) = Value t
content_of (blob id) = Blob

abbrev pub rows_of : DraftParts → List Row
rows_of none = []
rows_of (leaf h b later) = Holds h (content_of b) ∷ rows_of later
rows_of (multipart h inner later) = Opens h ∷ (rows_of inner ++ Closes ∷ rows_of later)

-- one for the beginning of a part
abbrev pub part_of : Row → ℕ
part_of (Opens h) = 1
part_of (Holds h c) = 1
part_of Closes = 0

-- how many parts there are
abbrev pub row_count : List Row → ℕ
row_count [] = 0
row_count (r ∷ rs) = part_of r + row_count rs
