use Rattle.std.proofs.Common.{◌≡◌, ◌<◌, false, true, length, map, sym, ap, ◌∙◌, subst, arith}
use Rattle.std.specs.Ordering.{is_eq}
use Rattle.mail_records.specs.Orders.{key_cmp, key_of}
use Rattle.mail_records.specs.OrderSteps.{IsPlaceBy}
use Rattle.mail_records.proofs.Rising.{out_end, out_between, out_here}
use Rattle.mail_records.proofs.KeyOrder.{key_total}
use Rattle.mail_records.proofs.orders.drop_entry.Goals as goal

pub returns-then-place-len-clause-keys : goal.returns-then-place-len-clause-keys
returns-then-place-len-clause-keys g c =
    let e = g.E.Entry in
    let f = key_of g.R.Record.number e.owner e.key c.args.table.now.rows in
    let k = c.args.key.now in
    let es = c.args.entries.now.items in
    let i = c.place_of-place.result in
    let place : IsPlaceBy key_cmp f k es i = subst (λ zs. IsPlaceBy key_cmp f k zs i) c.deref.ensures.value c.place_of-place.ensures in
    out_end key_total f k es i place (omega arith)

pub returns-then-is_same-clause-keys : goal.returns-then-is_same-clause-keys
returns-then-is_same-clause-keys g c =
    let e = g.E.Entry in
    let f = key_of g.R.Record.number e.owner e.key c.args.table.now.rows in
    let k = c.args.key.now in
    let es = c.args.entries.now.items in
    let i = c.place_of-place.result in
    let place : IsPlaceBy key_cmp f k es i = subst (λ zs. IsPlaceBy key_cmp f k zs i) c.deref.ensures.value c.place_of-place.ensures in
    let within = place.within in
    let lt : i < length es = omega arith in
    let same : is_eq (key_cmp (f c.index.result.now) k) ≡ true =
    subst (λ x. is_eq (key_cmp x k) ≡ true) c.key_in.ensures (sym c.is_same.ensures ∙ c.if-is_same.true) in
    ap (map f) c.remove-gone.ensures.items ∙ out_here key_total f k es i c.index.result.now c.requires.rise place lt c.index.ensures same

pub returns-else-is_same-clause-keys : goal.returns-else-is_same-clause-keys
returns-else-is_same-clause-keys g c =
    let e = g.E.Entry in
    let f = key_of g.R.Record.number e.owner e.key c.args.table.now.rows in
    let k = c.args.key.now in
    let es = c.args.entries.now.items in
    let i = c.place_of-place.result in
    let place : IsPlaceBy key_cmp f k es i = subst (λ zs. IsPlaceBy key_cmp f k zs i) c.deref.ensures.value c.place_of-place.ensures in
    let within = place.within in
    let lt : i < length es = omega arith in
    let other : is_eq (key_cmp (f c.index.result.now) k) ≡ false =
    subst (λ x. is_eq (key_cmp x k) ≡ false) c.key_in.ensures (sym c.is_same.ensures ∙ c.if-is_same.false) in
    out_between key_total f k es i c.index.result.now c.requires.rise place lt c.index.ensures other
