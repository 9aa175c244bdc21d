use Rattle.std.proofs.Common.{sym, ◌∙◌}
use Rattle.header_forms.proofs.DateWalk.{more_words, last_words}
use Rattle.header_forms.proofs.date_reader.read_after_month.Goals as goal

pub returns-then-not-is_done-clause-value : goal.returns-then-not-is_done-clause-value
returns-then-not-is_done-clause-value c =
    sym (more_words _ _ _ _ _ _ _ _ _ c.in_ok-year.ensures.value c.in_ok-time.ensures.value c.in_ok-zone.ensures.value (sym c.is_done.ensures ∙ c.if-not-is_done.true))

pub returns-clause-value : goal.returns-clause-value
returns-clause-value c =
    c.read_date_time_words.ensures.value
    ∙ sym (last_words _ _ _ _ _ _ _ _ _ c.in_ok-year.ensures.value c.in_ok-time.ensures.value c.in_ok-zone.ensures.value (sym c.is_done.ensures ∙ c.if-not-is_done.false))
