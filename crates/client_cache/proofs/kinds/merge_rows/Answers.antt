use Rattle.std.proofs.Common.{map}
use Rattle.jm_json.specs.Json.{member_of}
use Rattle.jm_json.specs.Order.{put_all}
use Rattle.jm_json.proofs.Merging.{merged_rises}
use Rattle.client_cache.proofs.kinds.merge_rows.Goals as goal

pub returns-clause-order : goal.returns-clause-order
returns-clause-order c =
    merged_rises (map member_of c.args.newer.items) (map member_of c.args.older.items) (map member_of c.loop-member.merged.items) (put_all (map member_of c.loop-member.upper.items) (map member_of c.loop-member.lower.items))
    c.requires.older c.loop-member.invariant.value c.in_default.ensures.first
