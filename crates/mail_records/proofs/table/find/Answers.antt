use Rattle.std.proofs.Common.{◌<◌, length, sym, ◌∙◌, arith}
use Rattle.mail_records.proofs.Places.{lookup_end, lookup_here, lookup_between}
use Rattle.mail_records.proofs.table.find.Goals as goal

pub returns-then-place-rows : goal.returns-then-place-rows
returns-then-place-rows g c = lookup_end g.R.Record.number c.args.number c.args.rows.now c.place_of-place.result c.place_of-place.ensures c.if-place-rows.true

pub returns-then-number : goal.returns-then-number
returns-then-number g c =
    let within = c.place_of-place.ensures.within in
    let lt : c.place_of-place.result < length c.args.rows.now = omega arith in
    lookup_here g.R.Record.number c.args.number c.args.rows.now c.place_of-place.result c.index-rows-place.result c.place_of-place.ensures lt c.index-rows-place.is
    (sym c.number.ensures ∙ c.if-number.true)

pub returns-else-number : goal.returns-else-number
returns-else-number g c =
    let within = c.place_of-place.ensures.within in
    let lt : c.place_of-place.result < length c.args.rows.now = omega arith in
    lookup_between g.R.Record.number c.args.number c.args.rows.now c.place_of-place.result c.index-rows-place.result c.requires c.place_of-place.ensures lt c.index-rows-place.is
    (λ e. c.if-number.false (c.number.ensures ∙ e))
