-- The parts of a draft's message as they are written (RFC 2045, section 6; RFC 2046, sections 5.1
-- and 5.2.1).
use Rattle.std.specs.Prelude.{ℕ, ◌+◌, Bool, false, ◌&&◌, ◌||◌, List, [], ◌∷◌, drop, length, Option, Some, None, codes, if◌then◌else◌}
use Rattle.mail_text.specs.Texts.{is_same_name}
use Rattle.mime_codec.specs.Base64Text.{base64_text}
use Rattle.mime_codec.specs.QuotedText.{quoted_printable_text}
use Rattle.mime_codec.specs.declared.coding.Coding.{Coding}
use Rattle.mime_codec.specs.declared.coding.Coding.TheVariants.{Plain, Quoted, Base64, Unknown}
use Rattle.mime_tree.specs.Boundaries.{boundary_text}
use Rattle.mime_tree.specs.WrittenParts.{WrittenParts}
use Rattle.mime_tree.specs.WrittenParts as written
use Rattle.mime_writer.specs.Heads.{head_text}
use Rattle.mime_writer.specs.declared.heads.PartHead.{PartHead}
use Rattle.draft_form.specs.Structures.{DraftParts, ids_of, leaf, multipart, none}
use Rattle.draft_form.specs.Rows.{content_of}
use Rattle.draft_form.specs.declared.draft.Content.{Content}
use Rattle.draft_form.specs.declared.draft.Content.TheVariants.{Value, Blob}

-- a part of type message/rfc822, in either case
abbrev pub is_message : PartHead → Bool
is_message h =
    is_same_name h.main (codes "message") && is_same_name h.sub (codes "rfc822")

-- A text is in quoted-printable and a blob in base64. A message stands as it is: no other transfer
-- encoding is allowed for it (RFC 2046, section 5.2.1).
abbrev pub coding_of : PartHead → Content → Coding
coding_of h (Value t) = Quoted
coding_of h Blob = if is_message h then Plain else Base64

-- a body in a transfer encoding
abbrev pub encoded_body : Coding → List ℕ → List ℕ
encoded_body Plain bytes = bytes
encoded_body Quoted bytes = quoted_printable_text bytes
encoded_body Base64 bytes = base64_text bytes
encoded_body Unknown bytes = bytes

abbrev pub first_blob : List (List ℕ) → List ℕ
first_blob [] = []
first_blob (b ∷ bs) = b

-- the bytes of a body, where the next blobs are these
abbrev pub bytes_of : List (List ℕ) → Content → List ℕ
bytes_of blobs (Value t) = t
bytes_of blobs Blob = first_blob blobs

-- the blobs of the parts after a body
abbrev pub blobs_after : List (List ℕ) → Content → List (List ℕ)
blobs_after blobs (Value t) = blobs
blobs_after blobs Blob = drop 1 blobs

abbrev pub is_raw : PartHead → Content → Bool
is_raw h (Value t) = false
is_raw h Blob = is_message h

-- whether a message is among parts, at any depth
abbrev pub holds_message : DraftParts → Bool
holds_message none = false
holds_message (leaf h b later) = is_raw h (content_of b) || holds_message later
holds_message (multipart h inner later) = holds_message inner || holds_message later

-- a multipart has the transfer encoding 8bit if a message is within it (RFC 2045, section 6.4)
abbrev pub coding_within : Bool → Option Coding
coding_within raw = if raw then Some Plain else None

abbrev pub multiparts : DraftParts → ℕ
multiparts none = 0
multiparts (leaf h b later) = multiparts later
multiparts (multipart h inner later) = 1 + (multiparts inner + multiparts later)

-- Parts with the blobs that they hold, in walk order. The multiparts have boundaries of one number,
-- and are counted from `k` on in walk order.
abbrev pub written_parts : ℕ → ℕ → List (List ℕ) → DraftParts → WrittenParts
written_parts n k blobs none = written.none
written_parts n k blobs (leaf h b later) =
    written.leaf (head_text h None (Some (coding_of h (content_of b))))
    (encoded_body (coding_of h (content_of b)) (bytes_of blobs (content_of b)))
    (written_parts n k (blobs_after blobs (content_of b)) later)
written_parts n k blobs (multipart h inner later) =
    written.multipart
    (head_text h (Some (boundary_text n k)) (coding_within (holds_message inner)))
    (written_parts n (1 + k) blobs inner)
    (written_parts n (1 + (k + multiparts inner)) (drop (length (ids_of inner)) blobs) later)
