use Rattle.std.proofs.Common.{sym, ◌∙◌}
use Rattle.std.proofs.lemmas.List.{append-nil}
use Rattle.draft_form.specs.Structures.{none}
use Rattle.draft_form.proofs.bodies.push_text_alone.Goals as goal

pub returns-clause-rows : goal.returns-clause-rows
returns-clause-rows c = sym (append-nil c.push_text.new.parts.rows) ∙ c.in_ok-push_text.ensures.rows none

pub returns-clause-ids : goal.returns-clause-ids
returns-clause-ids c = sym (append-nil c.push_text.new.parts.blob_ids) ∙ c.in_ok-push_text.ensures.ids none
