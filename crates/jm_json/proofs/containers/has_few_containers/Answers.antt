use Rattle.std.proofs.Common.{arith}
use Rattle.jm_json.proofs.ContainerCounts.{containers_le}
use Rattle.jm_json.proofs.containers.has_few_containers.Goals as goal

pub returns-then-text-le-MAX_CONTAINERS : goal.returns-then-text-le-MAX_CONTAINERS
returns-then-text-le-MAX_CONTAINERS c = λ few. omega (arith, containers_le c.args.text.now)
