-- The text of parts, step by step in walk order.
use Rattle.std.specs.Prelude.{ℕ, zero, suc, ◌+◌, Bool, false, ◌||◌, List, [], ◌∷◌, ◌++◌, Some, None}
use Rattle.std.specs.List.{flat_map}
use Rattle.mime_lines.specs.Written.{crlf, field_line}
use Rattle.mime_cut.specs.DelimiterLines.{dashes}
use Rattle.mime_type.specs.HeadText.{part_fields}
use Rattle.mime_tree.specs.Boundaries.{boundary_text}
use Rattle.mime_tree.specs.WrittenParts.{message_text}
use Rattle.mime_writer.specs.Heads.{head_text}
use Rattle.mime_writer.specs.declared.heads.PartHead.{PartHead}
use Rattle.draft_form.specs.declared.draft.Content.{Content}
use Rattle.draft_form.specs.declared.draft.Row.{Row}
use Rattle.draft_form.specs.declared.draft.Row.TheVariants.{Opens, Holds, Closes}
use Rattle.draft_writer.specs.Parts.{blobs_after, bytes_of, coding_of, coding_within, encoded_body, is_raw}

-- whether a message is in what is left of a multipart, with so many multiparts open within it
abbrev pub holds_raw : ℕ → List Row → Bool
holds_raw depth [] = false
holds_raw depth (Holds h c ∷ rows) = is_raw h c || holds_raw depth rows
holds_raw depth (Opens h ∷ rows) = holds_raw (suc depth) rows
holds_raw zero (Closes ∷ rows) = false
holds_raw (suc depth) (Closes ∷ rows) = holds_raw depth rows

-- the head and the body of a part that is no multipart
abbrev pub leaf_text : List (List ℕ) → PartHead → Content → List ℕ
leaf_text blobs h c =
    message_text [] (head_text h None (Some (coding_of h c)))
    (encoded_body (coding_of h c) (bytes_of blobs c))

-- the head of the multipart of this number, which these steps follow
abbrev pub opening : ℕ → ℕ → PartHead → List Row → List ℕ
opening n k h rows =
    flat_map field_line
    (part_fields (head_text h (Some (boundary_text n k)) (coding_within (holds_raw 0 rows))))
    ++ crlf

-- before a part: the delimiter line of the innermost open multipart, if one is open
abbrev pub lead : ℕ → List ℕ → List ℕ
lead n [] = []
lead n (k ∷ opened) = dashes ++ (boundary_text n k ++ crlf)

-- after a part: a line end, if a multipart is open
abbrev pub trail : List ℕ → List ℕ
trail [] = []
trail (k ∷ opened) = crlf

-- a multipart ends: its close-delimiter
abbrev pub closing : ℕ → List ℕ → List ℕ
closing n [] = []
closing n (k ∷ opened) = dashes ++ (boundary_text n k ++ dashes)

abbrev pub outer : List ℕ → List ℕ
outer [] = []
outer (k ∷ opened) = opened

-- the text of steps, where the next multipart has the number k, multiparts of these numbers are
-- open, the innermost first, and the next blobs are these
abbrev pub rows_text : ℕ → ℕ → List ℕ → List (List ℕ) → List Row → List ℕ
rows_text n k opened blobs [] = []
rows_text n k opened blobs (Holds h c ∷ rows) =
    lead n opened ++ (leaf_text blobs h c ++ (trail opened
    ++ rows_text n k opened (blobs_after blobs c) rows))
rows_text n k opened blobs (Opens h ∷ rows) =
    lead n opened ++ (opening n k h rows ++ rows_text n (1 + k) (k ∷ opened) blobs rows)
rows_text n k opened blobs (Closes ∷ rows) =
    closing n opened ++ (trail (outer opened) ++ rows_text n k (outer opened) blobs rows)
