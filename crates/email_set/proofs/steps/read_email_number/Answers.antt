use Rattle.std.proofs.Common.{sym, ◌∙◌}
use Rattle.jm_base.specs.declared.identifiers.Kind.TheVariants.{Email as OfEmail}
use Rattle.email_set.proofs.Naming.{no_id}
use Rattle.email_set.proofs.steps.read_email_number.Goals as goal

pub returns-in-Err : goal.returns-in-Err
returns-in-Err c = λ n.
    no_id c.args.text.now n
    (λ w. c.in-Err.ensures.err (record { kind = OfEmail; number = n }) (record { from_one = w.0.0; below = w.0.1 }) (c.as_bytes.ensures.value ∙ sym w.1))
