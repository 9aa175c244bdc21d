use Rattle.std.proofs.Common.{map, subst}
use Rattle.jm_json.specs.Json.{member_of}
use Rattle.jm_json.specs.Order.{KeysRise, put_all}
use Rattle.jm_json.proofs.Merging.{merged_rises}
use Rattle.jm_json.proofs.member_runs.merge.Goals as goal

pub from_rising-requires : goal.from_rising-requires
from_rising-requires c =
    merged_rises c.args.newer c.args.older (map member_of c.loop-member.merged.items) (put_all (map member_of c.loop-member.upper.items) (map member_of c.loop-member.lower.items))
    (subst KeysRise c.into_vec.ensures.value c.into_vec.ensures.order) c.loop-member.invariant.0 c.in_default.ensures.first
