use Rattle.std.proofs.Common.{◌≡◌, map, drop, ◌++◌, option_map}
use Rattle.jm_base.specs.declared.identifiers.Kind.TheVariants.{Mailbox as OfMailbox}
use Rattle.jm_json.specs.Json.{member_of}
use Rattle.method_args.specs.Ids.{id_number}
use Rattle.set_parts.specs.Names.{meanings}
use Rattle.email_set.proofs.filings.collect_numbers.Given as goal

abbrev pub invariant-loop-member : goal.invariant-loop-member
invariant-loop-member l =
    option_map (λ xs. l.numbers.items ++ xs) (meanings (id_number OfMailbox) (map member_of (drop l.member-index l.members)))
    ≡ meanings (id_number OfMailbox) (map member_of l.members)
