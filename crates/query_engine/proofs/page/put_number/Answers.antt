use Rattle.std.proofs.Common.{sym, ◌∙◌}
use Rattle.query_engine.proofs.Pages.{puts}
use Rattle.query_engine.proofs.page.put_number.Goals as goal

pub returns : goal.returns
returns c =
    puts c.args.page.now c.add_thread.new.page c.add_number-2.new.page c.args.thread c.args.number c.add_number-2.result (sym c.has_thread.ensures ∙ c.if-has_thread.false)
    c.in_ok-add_thread.ensures.threads c.add_thread.ensures.numbers c.add_thread.ensures.collapse c.add_thread.ensures.max
    c.add_number-2.ensures.threads c.add_number-2.ensures.collapse c.add_number-2.ensures.max c.add_number-2.ensures.numbers
