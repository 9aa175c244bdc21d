use Rattle.std.proofs.Common.{ap, ◌∙◌}
use Rattle.draft_form.specs.Dates.{date_time_at}
use Rattle.draft_writer.proofs.Months.{has_month}
use Rattle.draft_writer.proofs.moments.read_utc_date.Goals as goal

pub returns-clause-month : goal.returns-clause-month
returns-clause-month c =
    has_month c.args.date.now c.read_date_time.result c.show_that_dates_read_back.ensures c.requires
    (c.read_date_time.ensures ∙ ap (λ t. date_time_at t) (c.as_bytes.ensures.value ∙ c.in_ok-text.ensures))
