use Rattle.jm_json.proofs.ReadTrees.{read_depth, read_valid}
use Rattle.jm_json.proofs.laws.show_that_what_was_read_reads_back.Goals as goal

pub returns-clause-depth : goal.returns-clause-depth
returns-clause-depth c text t e = read_depth text t e

pub returns-clause-numbers : goal.returns-clause-numbers
returns-clause-numbers c text t e = read_valid text t e
