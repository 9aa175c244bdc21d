use Rattle.std.proofs.Common.{map, ◌++◌, sym, ap, ◌∙◌}
use Rattle.jm_json.specs.Invocations.{call_of}
use Rattle.account_hall.proofs.Parts.{first_replied}
use Rattle.account_hall.proofs.held_accounts.push_first.Goals as goal

pub returns-in-Ok : goal.returns-in-Ok
returns-in-Ok c =
    c.push_first_of.ensures ∙ ap (λ rs. map call_of c.args.responses.now.items ++ rs) (sym (first_replied c.args.answer c.in-Ok.replied (sym c.in-Ok.ensures)))
