use Rattle.std.proofs.Common.{Some, arith}
use Rattle.client_cache.specs.Records.{set_results}
use Rattle.client_cache.specs.Views.{list_view}
use Rattle.client_cache.proofs.Listed.{not_updated, updated}
use Rattle.client_cache.proofs.list_steps.set_results.Goals as goal

pub returns-then-index-len : goal.returns-then-index-len
returns-then-index-len c =
    updated list_view (set_results c.args.ids (Some c.args.state)) c.args.lists.now.items c.args.index c.index_mut.result.now c.set_results_of.new.list
    (omega (arith, c.if-index-len.true, c.len.ensures)) c.index_mut.ensures.value c.set_results_of.ensures

pub returns-else-index-len : goal.returns-else-index-len
returns-else-index-len c =
    not_updated list_view (set_results c.args.ids (Some c.args.state)) c.args.lists.now.items c.args.index (omega (arith, c.if-index-len.false, c.len.ensures))
