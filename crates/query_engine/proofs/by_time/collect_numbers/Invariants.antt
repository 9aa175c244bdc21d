use Rattle.std.proofs.Common.{◌≡◌, ◌++◌, drop, map}
use Rattle.mail_records.specs.Orders.{dated_owner}
use Rattle.query_engine.proofs.by_time.collect_numbers.Given as goal

abbrev pub invariant-loop-dated : goal.invariant-loop-dated
invariant-loop-dated l = l.numbers.items ++ map dated_owner (drop l.dated-index l.all) ≡ map dated_owner l.all
