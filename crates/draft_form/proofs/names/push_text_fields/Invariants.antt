use Rattle.std.proofs.Common.{◌≡◌, ◌++◌, map, drop}
use Rattle.jm_json.specs.Json.{member_of}
use Rattle.draft_form.specs.Names.{text_field}
use Rattle.draft_form.proofs.names.push_text_fields.Given as goal

abbrev pub invariant-loop-member : goal.invariant-loop-member
invariant-loop-member l =
    l.fields ++ map text_field (map member_of (drop l.member-index l.member-items)) ≡ l.fn.fields ++ map text_field (map member_of l.member-items)
