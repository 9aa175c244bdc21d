use Rattle.std.proofs.Common.{◌<◌, length, sym, ◌∙◌, subst, arith}
use Rattle.mail_records.specs.Tables.{IsPlace}
use Rattle.mail_records.proofs.Places.{put_end, put_between, put_over}
use Rattle.mail_records.proofs.table.put_ready.Goals as goal

pub returns-then-place-len-clause-items : goal.returns-then-place-len-clause-items
returns-then-place-len-clause-items g c =
    let number = g.R.Record.number in
    let xs = c.args.rows.now.items in
    let here : IsPlace number c.number-number.result xs c.place_of-place.result = subst (λ zs. IsPlace number c.number-number.result zs c.place_of-place.result) c.deref.ensures.value c.place_of-place.ensures in
    let place : IsPlace number (number c.args.item) xs c.place_of-place.result = subst (λ n. IsPlace number n xs c.place_of-place.result) c.number-number.ensures here in
    c.insert_ready.ensures.items ∙ put_end number c.args.item xs c.place_of-place.result place (omega arith)

pub returns-then-number-clause-items : goal.returns-then-number-clause-items
returns-then-number-clause-items g c =
    let number = g.R.Record.number in
    let xs = c.args.rows.now.items in
    let here : IsPlace number c.number-number.result xs c.place_of-place.result = subst (λ zs. IsPlace number c.number-number.result zs c.place_of-place.result) c.deref.ensures.value c.place_of-place.ensures in
    let place : IsPlace number (number c.args.item) xs c.place_of-place.result = subst (λ n. IsPlace number n xs c.place_of-place.result) c.number-number.ensures here in
    let within = place.within in
    let lt : c.place_of-place.result < length xs = omega arith in
    c.insert_ready-then-number.ensures.items
    ∙ put_between number c.args.item xs c.place_of-place.result c.index.result.now place lt c.index.ensures
    (λ e. c.if-number.true (c.number.ensures ∙ (e ∙ sym c.number-number.ensures)))

pub returns-clause-items : goal.returns-clause-items
returns-clause-items g c =
    let number = g.R.Record.number in
    let xs = c.args.rows.now.items in
    let here : IsPlace number c.number-number.result xs c.place_of-place.result = subst (λ zs. IsPlace number c.number-number.result zs c.place_of-place.result) c.deref.ensures.value c.place_of-place.ensures in
    let place : IsPlace number (number c.args.item) xs c.place_of-place.result = subst (λ n. IsPlace number n xs c.place_of-place.result) c.number-number.ensures here in
    let within = place.within in
    let lt : c.place_of-place.result < length xs = omega arith in
    c.replace.ensures.items
    ∙ put_over number c.args.item xs c.place_of-place.result c.index.result.now place lt c.index.ensures
    (sym c.number.ensures ∙ (c.if-number.false ∙ c.number-number.ensures))
