use Rattle.std.specs.Prelude.{codes}
use Rattle.jm_json.specs.Find.{find}
use Rattle.draft_form.specs.Bodies.{structure_in}
use Rattle.draft_form.specs.Drafts.{draft_in}
use Rattle.draft_writer.specs.Fields.{message_fields}
use Rattle.draft_writer.proofs.DatesFit.{message_other}
use Rattle.draft_writer.proofs.PartsBack.{message_back}
use Rattle.draft_writer.proofs.PartsFit.{structure_fit}
use Rattle.draft_writer.proofs.TextTrees.{draft_text}
use Rattle.draft_writer.proofs.Written.{structure_one}
use Rattle.draft_writer.proofs.laws.parts_are_read_back.Goals as goal

pub returns : goal.returns
returns c = λ ms blobs number moment text good strings bytes low small is.
    let texts = draft_text ms strings in
    let fit = structure_fit ms good in
    message_back (message_fields (draft_in ms) number moment) blobs (structure_in ms) text (message_other ms number moment good texts low small)
    (structure_one ms (find (codes "bodyStructure") ms)) fit.fit fit.few texts.parts bytes is
