-- The months of timestamps.
use Rattle.std.proofs.Common.{◌≡◌, ◌≤◌, sym, subst}
use Rattle.jm_base.specs.UtcDates.{DatesReadBack, IsUtcDate, utc_text}
use Rattle.jm_base.specs.declared.identifiers.UtcDate.{UtcDate}
use Rattle.mime_writer.specs.declared.dates.DateTime.{DateTime}
use Rattle.draft_form.specs.Dates.{date_time_at}

pub has_month : (date : UtcDate) (d : DateTime) → DatesReadBack → IsUtcDate date → d ≡ date_time_at (utc_text date) → (1 ≤ d.month) × (d.month ≤ 12)
has_month date d back is e =
    let day = (back date is).0.date_time.day in
    (subst (λ (x : DateTime). 1 ≤ x.month) (sym e) day.from_month, subst (λ (x : DateTime). x.month ≤ 12) (sym e) day.to_month)
