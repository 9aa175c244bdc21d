use Rattle.jm_base.specs.declared.identifiers.Kind.TheVariants.{Mailbox as OfMailbox}
use Rattle.set_parts.proofs.creation_ids.read_mailbox_number.Goals as goal

pub returns-in-Err : goal.returns-in-Err
returns-in-Err c = λ n h e. c.in-Err.ensures.err (record { kind = OfMailbox; number = n }) (record { from_one = h.from_one; below = h.below }) e
