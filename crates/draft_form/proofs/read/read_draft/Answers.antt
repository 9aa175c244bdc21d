use Rattle.std.proofs.Common.{◌∙◌}
use Rattle.draft_form.specs.Bodies.{structure_in}
use Rattle.draft_form.proofs.read.read_draft.Goals as goal

pub collect_bad_names-requires-clause-few : goal.collect_bad_names-requires-clause-few
collect_bad_names-requires-clause-few c = c.has_few_parts-few.ensures (structure_in c.args.create.now) (c.as_slice-2.ensures ∙ c.in_ok-parts.ensures.rows)
