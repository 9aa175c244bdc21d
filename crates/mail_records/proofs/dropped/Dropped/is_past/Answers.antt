use Rattle.std.proofs.Common.{sym, ap, ◌∙◌}
use Rattle.std.proofs.lemmas.Bool.{ltb-true}
use Rattle.jm_base.specs.Splices.{has}
use Rattle.mail_records.proofs.WithoutAll.{has-above}
use Rattle.mail_records.proofs.dropped.Dropped.is_past.Goals as goal

pub returns : goal.returns
returns c =
    λ above.
    ap (λ ns. has ns c.args.number) (sym c.self.view_is)
    ∙ has-above c.self.inside.bound c.args.number (ltb-true c.self.inside.bound c.args.number above) c.self.inside.numbers.items c.self.invariant
