use Rattle.std.proofs.Common.{◌≡◌, map, drop, ◌++◌, option_map}
use Rattle.jm_json.specs.Json.{member_of}
use Rattle.set_parts.specs.Names.{meanings}
use Rattle.mail_copies.specs.Carried.{kept_keyword}
use Rattle.mail_copies.proofs.carried.collect_kept_keywords.Given as goal

abbrev pub invariant-loop-member : goal.invariant-loop-member
invariant-loop-member l =
    option_map (λ xs. l.keywords.items ++ xs) (meanings kept_keyword (map member_of (drop l.member-index l.members)))
    ≡ meanings kept_keyword (map member_of l.members)
