use Rattle.std.proofs.Common.{◌≡◌, ℕ, List, [], ◌++◌, sym, subst}
use Rattle.std.specs.Prelude.{codes}
use Rattle.jm_json.specs.Tree.{Tree}
use Rattle.jm_json.specs.Find.{find}
use Rattle.mime_lines.specs.Written.{header_and_body}
use Rattle.mime_type.specs.HeadText.{HeadText, IsHead, part_fields}
use Rattle.draft_form.specs.Bodies.{structure_in}
use Rattle.draft_form.specs.Drafts.{bad_names, draft_in}
use Rattle.draft_writer.specs.Fields.{message_fields}
use Rattle.draft_writer.specs.Messages.{IsDraftText}
use Rattle.draft_writer.specs.ReadBack.{AreFieldsShown, AreTextsShown, IsTextDraft}
use Rattle.draft_writer.proofs.DatesFit.{message_other}
use Rattle.draft_writer.proofs.FieldsBack.{fields_shown}
use Rattle.draft_writer.proofs.PartsBack.{message_headed}
use Rattle.draft_writer.proofs.PartsFit.{structure_fit}
use Rattle.draft_writer.proofs.TextFieldsBack.{texts_shown}
use Rattle.draft_writer.proofs.TextTrees.{draft_text}
use Rattle.draft_writer.proofs.Written.{structure_one}
use Rattle.draft_writer.proofs.laws.fields_are_read_back.Goals as goal

-- what is so of each message with these fields is so of a draft's
of_message : (P : List ℕ → Type 0) (ms : List (List ℕ × Tree)) (blobs : List (List ℕ)) (n m : ℕ) (text : List ℕ) → bad_names ms ≡ [] → IsTextDraft ms
    → IsDraftText ms blobs n m text → ((h : HeadText) (body : List ℕ) → IsHead h → P (header_and_body (message_fields (draft_in ms) n m ++ part_fields h) body)) → P text
of_message P ms blobs n m text good texts is by =
    let fit = structure_fit ms good in
    let headed = message_headed (message_fields (draft_in ms) n m) blobs (structure_in ms) text (structure_one ms (find (codes "bodyStructure") ms)) fit.fit texts.parts is in
    subst P (sym headed.is) (by headed.head headed.body headed.good)

pub returns : goal.returns
returns c = record {
  properties = λ ms blobs n m text good strings low small is. of_message (AreFieldsShown ms n m) ms blobs n m text good (draft_text ms strings) is
      (λ h body k. fields_shown ms n m h body good (draft_text ms strings) low small (message_other ms n m good (draft_text ms strings) low small) k);
  texts = λ ms blobs n m text good strings low small is. of_message (AreTextsShown ms) ms blobs n m text good (draft_text ms strings) is
      (λ h body k. texts_shown ms n m h body good (draft_text ms strings) (message_other ms n m good (draft_text ms strings) low small) k);
}
