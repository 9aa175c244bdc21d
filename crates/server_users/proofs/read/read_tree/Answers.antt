use Rattle.std.proofs.Common.{◌∙◌, sym}
use Rattle.jm_json.proofs.Least.{least_is, none_left}
use Rattle.server_users.proofs.read.read_tree.Goals as goal

pub build_users-requires-clause-good : goal.build_users-requires-clause-good
build_users-requires-clause-good c = none_left _ (sym c.in_ok-found.ensures ∙ c.in-None.is)

pub returns-in-Some-clause-fault : goal.returns-in-Some-clause-fault
returns-in-Some-clause-fault c = least_is _ _ (sym c.in_ok-found.ensures ∙ c.in-Some.is)

pub returns-in_ok-build_users-in-None-clause-good : goal.returns-in_ok-build_users-in-None-clause-good
returns-in_ok-build_users-in-None-clause-good c = none_left _ (sym c.in_ok-found.ensures ∙ c.in-None.is)
