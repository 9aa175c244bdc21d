use Rattle.std.proofs.Common.{◌≡◌, map, drop, ◌++◌, option_map}
use Rattle.jm_json.specs.Json.{member_of}
use Rattle.set_parts.specs.Names.{keyword_meant, meanings}
use Rattle.set_parts.proofs.names.collect_keywords.Given as goal

abbrev pub invariant-loop-member : goal.invariant-loop-member
invariant-loop-member l =
    option_map (λ xs. l.keywords.items ++ xs) (meanings keyword_meant (map member_of (drop l.member-index l.members)))
    ≡ meanings keyword_meant (map member_of l.members)
