use Rattle.std.proofs.Common.{◌≡◌, not, filter, rules}
use Rattle.std.proofs.lemmas.Fn.{filter_same}
use Rattle.jm_base.specs.Splices.{has}
use Rattle.mail_records.proofs.WithoutAll.{left_all}
use Rattle.mail_records.proofs.order_drops.forget_all.Goals as goal

pub returns-clause-exact : goal.returns-clause-exact
returns-clause-exact g c =
    let e = g.E.Entry in
    let ns = c.args.numbers.now in
    let es = c.args.entries.now.items in
    let kept : c.retain.new.self.items ≡ filter (λ x. not (has ns (e.owner x))) es =
    filter_same _ (λ x. not (has ns (e.owner x))) _ (λ x b f' k. search rules) _ _ c.retain.ensures.filtered in
    left_all g.R.Record.number e.owner e.key e.keys g.met.E.Entry.key_number ns c.args.table.now.rows es c.retain.new.self.items c.requires.exact kept
