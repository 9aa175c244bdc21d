use Rattle.jm_json.specs.Json.{tree_of}
use Rattle.query_engine.proofs.Within.{among_at, among_next}
use Rattle.query_engine.proofs.walks.find_mailbox_among.Goals as goal

pub returns-in-Some : goal.returns-in-Some
returns-in-Some c =
    c.loop-filter.invariant c.in-Some.mailbox
    (among_at tree_of c.in-Some.mailbox c.args.filters.now c.loop-filter.filter-index c.filter-item.result c.loop-filter-test.true c.filter-item.is c.in-Some.ensures)

pub loop-filter-preserved : goal.loop-filter-preserved
loop-filter-preserved c =
    λ m among. c.loop-filter.invariant m (among_next tree_of m c.args.filters.now c.loop-filter.filter-index c.filter-item.result c.loop-filter-test.true among)
