use Rattle.std.proofs.Common.{◌∙◌, sym, ap}
use Rattle.std.specs.Prelude.{unwrap_or}
use Rattle.state_log.proofs.Spanned.{last_is}
use Rattle.state_log.proofs.kind_positions.last_or.Goals as goal

pub returns-in-Some : goal.returns-in-Some
returns-in-Some c =
    ap (λ o. unwrap_or o c.args.otherwise) c.in-Some.ensures.value ∙ sym (last_is c.args.positions.now c.args.otherwise)
