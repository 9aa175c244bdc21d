use Rattle.std.proofs.Common.{◌≡◌, map, drop}
use Rattle.std.specs.Prelude.{[]}
use Rattle.jm_json.specs.Json.{member_of}
use Rattle.draft_form.specs.Names.{put_fields}
use Rattle.draft_form.proofs.names.order_fields.Given as goal

abbrev pub invariant-loop-member : goal.invariant-loop-member
invariant-loop-member l =
    put_fields (map member_of (drop l.member-index l.members)) l.fields ≡ put_fields (map member_of l.members) []
