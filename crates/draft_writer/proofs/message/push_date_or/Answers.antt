use Rattle.std.proofs.Common.{◌≡◌, ◌++◌, OnOk, subst, sym, ap, ◌∙◌}
use Rattle.mime_lines.specs.Written.{field_line}
use Rattle.mime_writer.specs.declared.dates.DateTime.{DateTime}
use Rattle.draft_writer.specs.Fields.{date_field, date_or}
use Rattle.draft_writer.proofs.message.push_date_or.Goals as goal

pub returns-in_ok-read_moment-in-None : goal.returns-in_ok-read_moment-in-None
returns-in_ok-read_moment-in-None c =
    subst (λ (d : DateTime). OnOk c.push_date.result (c.push_date.new.out.items ≡ c.args.out.now.items ++ field_line (date_field d)))
    (c.in_ok-read_moment-in-None.ensures.date ∙ sym (ap (λ o. date_or c.args.moment o) c.in-None.is)) c.push_date.ensures
