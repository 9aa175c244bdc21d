use Rattle.std.proofs.Common.{◌≡◌, ◌++◌, map, drop}
use Rattle.jm_json.specs.Json.{member_of}
use Rattle.draft_form.specs.Drafts.{bad_among}
use Rattle.draft_form.proofs.read.collect_bad_names.Given as goal

abbrev pub invariant-loop-member : goal.invariant-loop-member
invariant-loop-member l =
    l.names ++ bad_among l.setting.members.now (map member_of (drop l.member-index l.member-items)) ≡ bad_among l.setting.members.now (map member_of l.member-items)
