use Rattle.std.proofs.Common.{◌≡◌, ap, ◌∙◌}
use Rattle.mail_records.specs.Contents.{thread_number}
use Rattle.mail_records.specs.Tables.{without_all}
use Rattle.mail_records.proofs.WithoutAll.{without_same}
use Rattle.mail_records.proofs.waiting.drop_threads.Goals as goal

pub returns-clause-content : goal.returns-clause-content
returns-clause-content c =
    let old = c.args.content.now.content in
    let sorted : c.deref-2.result.now ≡ c.put_in_order.new.numbers.items = c.deref-2.ensures.value in
    c.drop_many_threads.ensures.content
    ∙ ap (λ rs. record old { threads = rs })
    (ap (λ ns. without_all thread_number ns old.threads) sorted ∙ without_same thread_number c.put_in_order.new.numbers.items c.args.dropped.items c.put_in_order.ensures.same old.threads)
