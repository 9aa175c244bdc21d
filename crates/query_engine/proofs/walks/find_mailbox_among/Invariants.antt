use Rattle.std.proofs.Common.{ℕ, drop, map}
use Rattle.jm_json.specs.Json.{tree_of}
use Rattle.query_engine.specs.Walks.{IsAmong}
use Rattle.query_engine.proofs.walks.find_mailbox_among.Given as goal

abbrev pub invariant-loop-filter : goal.invariant-loop-filter
invariant-loop-filter l = (m : ℕ) → IsAmong m (map tree_of (drop l.filter-index l.filters)) → IsAmong m (map tree_of l.filters)
