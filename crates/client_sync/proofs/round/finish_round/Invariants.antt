use Rattle.std.proofs.Common.{◌≡◌, ◌-◌, List}
use Rattle.jm_edge.specs.declared.answer.Asked.{Asked}
use Rattle.client_cache.specs.RoundViews.{round_of}
use Rattle.client_sync.specs.Syncing.{Goes, told_all}
use Rattle.client_sync.proofs.round.finish_round.Given as goal

abbrev pub invariant-request : goal.invariant-request
invariant-request g l = record {
  way : (asked : List Asked) × (g.X.Exchange.told l.exchange ≡ told_all (g.X.Exchange.told l.fn.exchange) asked) × Goes l.fn.cache (round_of l.fn.round) asked l.cache (round_of l.round);
  faults : g.X.Exchange.faults l.exchange ≡ g.X.Exchange.faults l.fn.exchange;
}

abbrev pub decreases-request : goal.decreases-request
decreases-request g l = 100000 - (round_of l.round).replies
