use Rattle.std.proofs.Common.{refl}
use Rattle.jm_json.specs.Json.{tree_of}
use Rattle.method_batch.proofs.Together.{tree_not_begun}
use Rattle.method_batch.proofs.answer.perform_tree.Goals as goal

pub returns-in-Err-clause-begun : goal.returns-in-Err-clause-begun
returns-in-Err-clause-begun g c = tree_not_begun g.P.Port.answers g.P.Port.stops g.met.P.Port.stays c.args.port.now c.args.port.now (tree_of c.args.request) refl
