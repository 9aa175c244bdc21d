use Rattle.std.proofs.Common.{ap, ◌∙◌}
use Rattle.std.specs.Prelude.{nat_le}
use Rattle.draft_form.specs.Rows.{row_count}
use Rattle.draft_form.specs.declared.bodies.TheConstants.{MAX_PARTS}
use Rattle.draft_form.proofs.RowLists.{rows_counted}
use Rattle.draft_form.proofs.bodies.has_few_parts.Goals as goal

pub returns : goal.returns
returns c = λ p same. ap (λ n. nat_le n MAX_PARTS) (c.count_parts.ensures ∙ ap row_count same ∙ rows_counted p)
