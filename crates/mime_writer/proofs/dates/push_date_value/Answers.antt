use Rattle.std.proofs.Common.{◌≡◌, ◌++◌, ◌∷◌, ◌-◌, ◌/◌, [], ℕ, List, OnOk, subst}
use Rattle.std.specs.Prelude.{slice_index_or}
use Rattle.header_forms.specs.Dates.{two_digits}
use Rattle.header_forms.specs.WrittenForms.{month_names, zone_text}
use Rattle.mime_writer.proofs.DateSteps.{date_steps}
use Rattle.mime_writer.proofs.dates.push_date_value.Goals as goal

pub returns : goal.returns
returns c =
    let d = c.args.date.now in
    subst (λ (t : List ℕ). OnOk c.push_zone.result (c.push_zone.new.out.items ≡ t))
    (date_steps c.args.out.now.items c.push_day.new.out.items c.push.new.self.items c.push_year.new.out.items c.push-2.new.self.items c.push_time.new.out.items c.push-3.new.self.items
    (two_digits d.day) (slice_index_or month_names (d.month - 1) []) (two_digits (d.year / 100) ++ two_digits d.year)
    (two_digits d.hour ++ 58 ∷ (two_digits d.minute ++ 58 ∷ two_digits d.second)) (zone_text d.behind d.offset)
    c.in_ok-push_day.ensures c.in_ok-push.ensures.items c.in_ok-push_year.ensures c.in_ok-push-2.ensures.items c.in_ok-push_time.ensures c.in_ok-push-3.ensures.items)
    c.push_zone.ensures
