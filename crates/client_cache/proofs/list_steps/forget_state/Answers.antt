use Rattle.std.proofs.Common.{arith}
use Rattle.client_cache.specs.Records.{forget_state}
use Rattle.client_cache.specs.Views.{list_view}
use Rattle.client_cache.proofs.Listed.{not_updated, updated}
use Rattle.client_cache.proofs.list_steps.forget_state.Goals as goal

pub returns-then-index-len : goal.returns-then-index-len
returns-then-index-len c =
    updated list_view forget_state c.args.lists.now.items c.args.index c.index_mut.result.now c.forget_state_of.new.list
    (omega (arith, c.if-index-len.true, c.len.ensures)) c.index_mut.ensures.value c.forget_state_of.ensures

pub returns-else-index-len : goal.returns-else-index-len
returns-else-index-len c = not_updated list_view forget_state c.args.lists.now.items c.args.index (omega (arith, c.if-index-len.false, c.len.ensures))
