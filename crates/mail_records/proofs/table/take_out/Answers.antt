use Rattle.std.proofs.Common.{◌<◌, length, sym, ◌∙◌, subst, arith}
use Rattle.mail_records.specs.Tables.{IsPlace}
use Rattle.mail_records.proofs.Places.{without_end, without_here, without_between}
use Rattle.mail_records.proofs.table.take_out.Goals as goal

pub returns-then-place-len-clause-items : goal.returns-then-place-len-clause-items
returns-then-place-len-clause-items g c =
    let number = g.R.Record.number in
    let xs = c.args.rows.now.items in
    let place : IsPlace number c.args.number xs c.place_of-place.result = subst (λ zs. IsPlace number c.args.number zs c.place_of-place.result) c.deref.ensures.value c.place_of-place.ensures in
    without_end number c.args.number xs c.place_of-place.result place (omega arith)

pub returns-then-number-clause-items : goal.returns-then-number-clause-items
returns-then-number-clause-items g c =
    let number = g.R.Record.number in
    let xs = c.args.rows.now.items in
    let place : IsPlace number c.args.number xs c.place_of-place.result = subst (λ zs. IsPlace number c.args.number zs c.place_of-place.result) c.deref.ensures.value c.place_of-place.ensures in
    let within = place.within in
    let lt : c.place_of-place.result < length xs = omega arith in
    c.remove-gone.ensures.items
    ∙ without_here number c.args.number xs c.place_of-place.result c.index.result.now c.requires place lt c.index.ensures (sym c.number.ensures ∙ c.if-number.true)

pub returns-else-number-clause-items : goal.returns-else-number-clause-items
returns-else-number-clause-items g c =
    let number = g.R.Record.number in
    let xs = c.args.rows.now.items in
    let place : IsPlace number c.args.number xs c.place_of-place.result = subst (λ zs. IsPlace number c.args.number zs c.place_of-place.result) c.deref.ensures.value c.place_of-place.ensures in
    let within = place.within in
    let lt : c.place_of-place.result < length xs = omega arith in
    without_between number c.args.number xs c.place_of-place.result c.index.result.now c.requires place lt c.index.ensures (λ e. c.if-number.false (c.number.ensures ∙ e))
