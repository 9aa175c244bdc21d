use Rattle.std.proofs.Common.{sym, ◌∙◌}
use Rattle.std.proofs.lemmas.List.{append-nil}
use Rattle.draft_form.specs.Bodies.{whole_part}
use Rattle.draft_form.specs.Structures.{none}
use Rattle.draft_form.proofs.bodies.push_whole.Goals as goal

pub returns-clause-rows : goal.returns-clause-rows
unfolding whole_part
returns-clause-rows c = sym (append-nil c.push_part.new.parts.rows) ∙ c.in_ok-push_part.ensures.rows none

pub returns-clause-ids : goal.returns-clause-ids
unfolding whole_part
returns-clause-ids c = sym (append-nil c.push_part.new.parts.blob_ids) ∙ c.in_ok-push_part.ensures.ids none
