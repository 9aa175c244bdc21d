use Rattle.std.proofs.Common.{ap}
use Rattle.jm_base.specs.Splices.{has}
use Rattle.mail_records.proofs.WithoutAll.{threads-dropped}
use Rattle.mail_records.proofs.waiting.settle_thread.Goals as goal

pub returns-clause-past : goal.returns-clause-past
returns-clause-past c = ap (λ ns. has ns c.args.number) c.take_all.ensures.rest

pub returns-clause-content : goal.returns-clause-content
returns-clause-content c =
    λ others.
    threads-dropped c.args.content.now.content c.drop_threads.new.content.content others c.take_all.new.self c.args.threads.now c.take_all.result.items
    c.take_all.ensures.numbers c.take_all.ensures.rest c.drop_threads.ensures.content
