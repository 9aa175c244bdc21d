use Rattle.std.proofs.Common.{ap, ◌∙◌}
use Rattle.jm_json.specs.Json.{tree_of}
use Rattle.jm_json.specs.Order.{put_all}
use Rattle.jm_json.proofs.Merging.{rises_at_end, put_all_end}
use Rattle.jm_json.proofs.member_runs.MemberRuns.extend_run.Goals as goal

pub push-requires : goal.push-requires
push-requires c = rises_at_end c.args.name (tree_of c.args.value) c.args.run c.requires.rise c.requires.past

pub returns : goal.returns
returns c =
    ap (λ ns. put_all ns c.args.merged) c.in_ok-push.ensures.ok ∙ put_all_end c.args.name (tree_of c.args.value) c.args.run c.args.merged
