use Rattle.std.proofs.Common.{not, rules}
use Rattle.std.proofs.lemmas.Fn.{filter_same}
use Rattle.jm_base.specs.Splices.{has}
use Rattle.mail_records.proofs.table.take_out_all.Goals as goal

pub returns-clause-items : goal.returns-clause-items
returns-clause-items g c =
    filter_same _ (λ r. not (has c.args.numbers.now (g.R.Record.number r))) _ (λ x b f' k. search rules) _ _ c.retain.ensures.filtered
