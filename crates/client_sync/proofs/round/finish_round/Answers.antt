use Rattle.std.proofs.Common.{◌∷◌, ◌++◌, [], ◌∙◌, ap}
use Rattle.jm_edge.specs.Exchanges.{told_with}
use Rattle.client_cache.specs.RoundViews.{round_of}
use Rattle.client_sync.specs.Syncing.{Stops}
use Rattle.client_sync.proofs.Handed.{handed}
use Rattle.client_sync.proofs.Steps.{goes_on, stops_later, told_more}
use Rattle.client_sync.proofs.round.finish_round.Goals as goal

pub request-preserved : goal.request-preserved
request-preserved g c =
    let told = g.X.Exchange.told in
    let way = c.request.invariant.way in
    let step = c.in_ok-go_on.ensures.ok in record {
      way = (
        way.0 ++ step.0 ∷ [],
        step.1 ∙ ap (λ t. told_with t step.0) way.1 ∙ told_more (told c.args.exchange.now) way.0 step.0,
        goes_on c.args.cache.now (round_of c.args.round.now) way.0 c.request.cache (round_of c.request.round) step.0 c.go_on.new.cache (round_of c.go_on.new.round) way.2 step.2,
      );
      faults = c.in_ok-go_on.ensures.faults ∙ c.request.invariant.faults;
    }

pub returns-in_err-go_on-clause-fault : goal.returns-in_err-go_on-clause-fault
returns-in_err-go_on-clause-fault g c =
    let told = g.X.Exchange.told in
    let faults = g.X.Exchange.faults in
    let way = c.request.invariant.way in
    let e = c.in_err-go_on.field-0.0 in
    handed
    (Stops (told c.args.exchange.now) (told c.go_on.new.exchange) (faults c.args.exchange.now) (faults c.go_on.new.exchange) c.args.cache.now (round_of c.args.round.now) c.go_on.new.cache)
    c.from_residual-in_err-go_on.result e c.from_residual-in_err-go_on.ensures.1
    (stops_later (told c.args.exchange.now) (told c.request.exchange) (told c.go_on.new.exchange) (faults c.args.exchange.now) (faults c.request.exchange) (faults c.go_on.new.exchange) c.args.cache.now (round_of c.args.round.now) way.0 c.request.cache (round_of c.request.round) c.go_on.new.cache e
    way.1 c.request.invariant.faults way.2 c.in_err-go_on.ensures.fault)
