use Rattle.jm_json.proofs.Least.{is_least_alone}
use Rattle.server_users.proofs.read.name_place.Goals as goal

pub returns : goal.returns
returns c = is_least_alone c.args.place
