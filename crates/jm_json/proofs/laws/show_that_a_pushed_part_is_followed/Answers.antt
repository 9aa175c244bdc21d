use Rattle.std.proofs.Common.{decimal}
use Rattle.jm_json.specs.Integers.{pointer_part}
use Rattle.jm_json.proofs.PushedParts.{name_is_one, index_is_one, pointed_after, member_is}
use Rattle.jm_json.proofs.laws.show_that_a_pushed_part_is_followed.Goals as goal

pub returns-clause-name : goal.returns-clause-name
returns-clause-name c pointer name t = pointed_after pointer (pointer_part name) t (name_is_one name)

pub returns-clause-member : goal.returns-clause-member
returns-clause-member c name members = member_is name members

pub returns-clause-index : goal.returns-clause-index
returns-clause-index c pointer index t fits = pointed_after pointer (decimal index) t (index_is_one index fits)
