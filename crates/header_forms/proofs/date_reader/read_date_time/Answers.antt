use Rattle.std.proofs.Common.{sym, ◌∙◌}
use Rattle.header_forms.proofs.DateWalk.{nothing_said, word_alone, day_first, other_first, weekday_first}
use Rattle.header_forms.proofs.date_reader.read_date_time.Goals as goal

pub returns-in_err-first-clause-value : goal.returns-in_err-first-clause-value
returns-in_err-first-clause-value c = c.from_residual.ensures ∙ sym (nothing_said c.args.text.now c.in_err-first.ensures.none)

pub returns-in_err-second-clause-value : goal.returns-in_err-second-clause-value
returns-in_err-second-clause-value c =
    c.from_residual-in_err-second.ensures ∙ sym (word_alone _ c.args.text.now _ c.in_ok-first.ensures.value c.in_err-second.ensures.none)

pub returns-then-not-is_comma-clause-value : goal.returns-then-not-is_comma-clause-value
returns-then-not-is_comma-clause-value c =
    c.read_after_month.ensures.value
    ∙ sym (day_first _ _ c.args.text.now _ _ c.in_ok-first.ensures.value c.in_ok-second.ensures.value (sym c.is_comma.ensures ∙ c.if-not-is_comma.true))

pub returns-in_err-_day-clause-value : goal.returns-in_err-_day-clause-value
returns-in_err-_day-clause-value c =
    c.from_residual-in_err-_day.ensures
    ∙ sym (other_first _ _ c.args.text.now _ _ c.in_ok-first.ensures.value c.in_ok-second.ensures.value (sym c.is_comma.ensures ∙ c.if-not-is_comma.false) (sym c.in_err-_day.ensures))

pub returns-clause-value : goal.returns-clause-value
returns-clause-value c =
    c.read_after_comma.ensures.value
    ∙ sym (weekday_first _ _ c.args.text.now _ _ _ c.in_ok-first.ensures.value c.in_ok-second.ensures.value (sym c.is_comma.ensures ∙ c.if-not-is_comma.false) (sym c.in_ok-_day.ensures))
