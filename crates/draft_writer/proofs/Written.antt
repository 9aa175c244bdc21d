-- What is written is the message of the create.
use Rattle.std.proofs.Common.{◌≡◌, ℕ, suc, true, false, cond, eqb, List, [], ◌++◌, length, Option, Some, None, codes, refl, sym, ap, subst, ◌∙◌}
use Rattle.std.specs.List.{flat_map}
use Rattle.std.proofs.lemmas.List.{append-nil}
use Rattle.jm_json.specs.Tree.{Tree}
use Rattle.jm_json.specs.Find.{find}
use Rattle.mime_lines.specs.FieldTexts.{FieldText}
use Rattle.mime_lines.specs.Written.{field_line}
use Rattle.draft_form.specs.Bodies.{first_part, mixed_before, structure_in, structure_with, text_before, values_in, whole_part, with_attached}
use Rattle.draft_form.specs.Drafts.{draft_in}
use Rattle.draft_form.specs.Members.{items_in, members_in}
use Rattle.draft_form.specs.Parts.{head_of, is_multipart}
use Rattle.draft_form.specs.Rows.{rows_of}
use Rattle.draft_form.specs.Structures.{DraftParts, body_of, leaf, multipart, multipart_with, none, part_before}
use Rattle.draft_form.specs.declared.draft.Draft.{Draft}
use Rattle.draft_writer.specs.Fields.{message_fields}
use Rattle.draft_writer.specs.Marks.{IsBoundaryFree, IsNumberFor}
use Rattle.draft_writer.specs.Messages.{IsDraftText, IsMessage}
use Rattle.draft_writer.specs.Steps.{rows_text}
use Rattle.draft_writer.proofs.Quiet.{number_is}
use Rattle.draft_writer.proofs.RowTexts.{IsOne, message_is}

part_one : (values : List (List ℕ × Tree)) (t : Tree) (levels : ℕ) → IsOne (part_before (suc levels) values t none)
part_one values t levels = elim (is_multipart (members_in t)) as (λ v. IsOne (cond v (multipart_with (part_before levels values) (members_in t) none) (leaf (head_of (members_in t)) (body_of values (members_in t)) none))) [
  | true ↦ refl
  | false ↦ refl
]

text_one : (values : List (List ℕ × Tree)) (t h : Option Tree) → IsOne (text_before values t h none)
text_one values None None = refl
text_one values (Some t) None = part_one values t 0
text_one values None (Some h) = part_one values h 0
text_one values (Some t) (Some h) = refl

attached_one : (values : List (List ℕ × Tree)) (t h : Option Tree) (attached : List Tree) → IsOne (with_attached values t h attached)
attached_one values t h attached = elim (eqb (length attached) 0) as (λ v. IsOne (cond v (text_before values t h none) (mixed_before values t h attached))) [
  | true ↦ text_one values t h
  | false ↦ refl
]

whole_one : (ms : List (List ℕ × Tree)) (t : Tree) → IsOne (whole_part (values_in ms) t)
unfolding whole_part
whole_one ms t = part_one (values_in ms) t 31

pub structure_one : (ms : List (List ℕ × Tree)) (o : Option Tree) → IsOne (structure_with ms o)
structure_one ms (Some t) = whole_one ms t
structure_one ms None = attached_one (values_in ms) (first_part (codes "textBody") ms) (first_part (codes "htmlBody") ms) (items_in (find (codes "attachments") ms))

is_message : (fields : List FieldText) (n : ℕ) (blobs : List (List ℕ)) (p : DraftParts) → IsOne p → IsNumberFor n blobs (rows_of p)
    → IsMessage fields blobs p (flat_map field_line fields ++ rows_text n 1 [] blobs (rows_of p))
is_message fields n blobs none one number = absurd one
is_message fields n blobs (leaf h b later) one number = message_is fields n blobs (leaf h b later) one
is_message fields n blobs (multipart h inner later) one number =
    (n, number_is n blobs (multipart h inner later) [] refl (subst (λ r. IsBoundaryFree n blobs r) (sym (append-nil (rows_of (multipart h inner later)))) (number refl)), message_is fields n blobs (multipart h inner later) one)

pub draft_is : (ms : List (List ℕ × Tree)) (draft : Draft) (n number moment : ℕ) (blobs : List (List ℕ)) (text : List ℕ) → draft ≡ draft_in ms
    → IsNumberFor n blobs draft.parts.rows
    → text ≡ flat_map field_line (message_fields draft number moment) ++ rows_text n 1 [] blobs draft.parts.rows
    → IsDraftText ms blobs number moment text
draft_is ms draft n number moment blobs text same free is =
    subst (λ t. IsDraftText ms blobs number moment t)
    (sym (is ∙ ap (λ (d : Draft). flat_map field_line (message_fields d number moment) ++ rows_text n 1 [] blobs d.parts.rows) same))
    (is_message (message_fields (draft_in ms) number moment) n blobs (structure_in ms) (structure_one ms (find (codes "bodyStructure") ms))
    (subst (λ (d : Draft). IsNumberFor n blobs d.parts.rows) same free))
