use Rattle.std.proofs.Common.{◌≡◌, List, map, drop, ◌++◌, option_map}
use Rattle.jm_base.specs.declared.identifiers.Kind.TheVariants.{Mailbox as OfMailbox}
use Rattle.jm_json.specs.Json.{member_of}
use Rattle.jm_json.specs.declared.invocation.Created.{Created}
use Rattle.set_parts.specs.CreationIds.{number_meant}
use Rattle.set_parts.specs.Names.{meanings}
use Rattle.set_parts.specs.Views.{HoldIds}
use Rattle.set_parts.proofs.names.collect_mailboxes.Given as goal

abbrev pub invariant-loop-member : goal.invariant-loop-member
invariant-loop-member g l =
    (made : List Created) → HoldIds l.ids made
    → option_map (λ xs. l.numbers.items ++ xs) (meanings (number_meant OfMailbox (g.N.MailboxNumbers.numbers l.mailboxes) made) (map member_of (drop l.member-index l.members)))
    ≡ meanings (number_meant OfMailbox (g.N.MailboxNumbers.numbers l.mailboxes) made) (map member_of l.members)
