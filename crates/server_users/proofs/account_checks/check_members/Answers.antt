use Rattle.std.proofs.Common.{◌++◌, not, is_none, codes}
use Rattle.jm_json.specs.Json.{tree_of}
use Rattle.server_users.specs.Values.{text_at, flag_at}
use Rattle.server_users.specs.BadPlaces.{account_pointer, bad_if, is_good_id}
use Rattle.jm_json.proofs.Least.{least_three}
use Rattle.server_users.proofs.account_checks.check_members.Goals as goal

pub returns : goal.returns
returns c =
    least_three c.args.least c.in_ok-with_id.with_id c.in_ok-with_name.with_name c.in_ok-all.all
    (bad_if (not (is_good_id c.args.ids.now c.args.repeated (text_at (codes "id") (tree_of c.args.account.now)))) (account_pointer c.args.at.user c.args.at.index ++ codes "/id"))
    (bad_if (is_none (text_at (codes "name") (tree_of c.args.account.now))) (account_pointer c.args.at.user c.args.at.index ++ codes "/name"))
    (bad_if (is_none (flag_at (codes "readOnly") (tree_of c.args.account.now))) (account_pointer c.args.at.user c.args.at.index ++ codes "/readOnly"))
    c.in_ok-with_id.ensures c.in_ok-with_name.ensures c.in_ok-all.ensures
