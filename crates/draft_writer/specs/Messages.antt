-- The message of a draft (RFC 5322, section 3.6; RFC 2046, section 5.1.1).
use Rattle.std.specs.Prelude.{◌≡◌, ℕ, ◌≤◌, ◌<◌, ◌^◌, List, []}
use Rattle.jm_json.specs.Tree.{Tree}
use Rattle.mime_lines.specs.FieldTexts.{FieldText}
use Rattle.mime_lines.specs.Written.{header_and_body}
use Rattle.mime_tree.specs.Boundaries.{AreQuiet}
use Rattle.mime_tree.specs.WrittenParts.{WrittenParts, body_text, leaf, message_text, multipart, none, part_texts}
use Rattle.draft_form.specs.Bodies.{structure_in}
use Rattle.draft_form.specs.Drafts.{draft_in}
use Rattle.draft_form.specs.Structures.{DraftParts}
use Rattle.draft_form.specs.Structures as draft
use Rattle.draft_writer.specs.Fields.{message_fields}
use Rattle.draft_writer.specs.Parts.{written_parts}

-- a message with these fields and one part
abbrev pub text_of_parts : List FieldText → WrittenParts → List ℕ
text_of_parts fields none = header_and_body fields []
text_of_parts fields (leaf h body later) = message_text fields h body
text_of_parts fields (multipart h inner later) =
    message_text fields h (body_text h (part_texts inner))

-- The number of the boundaries: the least one from 1 such that no line of a part that is no
-- multipart begins with two dashes and the start of the boundaries.
pub record IsBoundaryNumber (n : ℕ) (blobs : List (List ℕ)) (parts : DraftParts) : Type 0 where
  pub from_one : 1 ≤ n
  pub below : n < 2 ^ 64
  pub quiet : AreQuiet n (written_parts n 1 blobs parts)
  pub least : (m : ℕ) → 1 ≤ m → m < n → AreQuiet m (written_parts m 1 blobs parts) → ⊥

-- a message with these fields and parts, which are one part; only multiparts need a boundary
abbrev pub IsMessage : List FieldText → List (List ℕ) → DraftParts → List ℕ → Type 0
IsMessage fields blobs draft.none text = text ≡ text_of_parts fields none
IsMessage fields blobs (draft.leaf h b later) text =
    text ≡ text_of_parts fields (written_parts 1 1 blobs (draft.leaf h b later))
IsMessage fields blobs (draft.multipart h inner later) text =
    (n : ℕ) × IsBoundaryNumber n blobs (draft.multipart h inner later)
    × (text ≡ text_of_parts fields (written_parts n 1 blobs (draft.multipart h inner later)))

-- the message of a create with these members and blobs, as the email of this number, at this
-- timestamp in Unix seconds
abbrev pub IsDraftText :
    List (List ℕ × Tree) → List (List ℕ) → ℕ → ℕ → List ℕ → Type 0
IsDraftText ms blobs number moment text =
    IsMessage (message_fields (draft_in ms) number moment) blobs (structure_in ms) text
