use Rattle.std.proofs.Common.{◌≡◌, map, drop, ◌++◌, option_map}
use Rattle.jm_json.specs.Json.{member_of}
use Rattle.set_parts.specs.Names.{meanings}
use Rattle.email_set.specs.Filings.{as_written}
use Rattle.email_set.proofs.filings.collect_names.Given as goal

abbrev pub invariant-loop-member : goal.invariant-loop-member
invariant-loop-member l =
    option_map (λ xs. l.names ++ xs) (meanings as_written (map member_of (drop l.member-index l.members)))
    ≡ meanings as_written (map member_of l.members)
