use Rattle.std.proofs.Common.{◌≡◌, ◌≤◌, ◌+◌, length}
use Rattle.json.specs.Lex.{tokens}
use Rattle.jm_json.specs.Containers.{containers_in}
use Rattle.jm_json.specs.declared.containers.TheConstants.{MAX_CONTAINERS}
use Rattle.jm_json.proofs.containers.count_few_containers.Given as goal

abbrev pub invariant-tokens : goal.invariant-tokens
invariant-tokens l = (l.count + containers_in l.reader ≡ containers_in (tokens l.text)) × (l.count ≤ MAX_CONTAINERS)

abbrev pub decreases-tokens : goal.decreases-tokens
decreases-tokens l = length l.reader
