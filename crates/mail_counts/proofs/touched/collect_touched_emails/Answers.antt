use Rattle.std.proofs.Common.{◌≡◌, ap, ◌∙◌}
use Rattle.mail_counts.specs.Touched.{is_one_of}
use Rattle.mail_counts.proofs.Sorted.{is_one_of-rising}
use Rattle.mail_counts.proofs.touched.collect_touched_emails.Goals as goal

pub returns-clause-named : goal.returns-clause-named
returns-clause-named c =
    λ n h.
    ap (λ ns. is_one_of ns n) c.put_in_order.ensures.is
    ∙ (is_one_of-rising c.add_emails_of.new.numbers.items n
    ∙ c.in_ok-add_emails_of.ensures.kept n (ap (λ ns. is_one_of ns n) c.in_ok-numbers.ensures ∙ h))

pub returns-clause-there : goal.returns-clause-there
returns-clause-there c =
    λ e there of.
    ap (λ ns. is_one_of ns e.number) c.put_in_order.ensures.is
    ∙ (is_one_of-rising c.add_emails_of.new.numbers.items e.number ∙ c.in_ok-add_emails_of.ensures.added e there of)
