use Rattle.std.proofs.Common.{◌≡◌, ◌<◌, false, true, length, map, refl, sym, ap, ◌∙◌, subst, arith}
use Rattle.std.specs.Ordering.{is_eq}
use Rattle.mail_records.specs.Orders.{key_cmp, key_of}
use Rattle.mail_records.specs.OrderSteps.{IsPlaceBy}
use Rattle.mail_records.proofs.Rising.{put_end, put_between, put_there}
use Rattle.mail_records.proofs.KeyOrder.{key_total}
use Rattle.mail_records.proofs.orders.put_entry.Goals as goal

pub returns-then-place-len-clause-keys : goal.returns-then-place-len-clause-keys
returns-then-place-len-clause-keys g c =
    let e = g.E.Entry in
    let f = key_of g.R.Record.number e.owner e.key c.args.table.now.rows in
    let k = f c.args.entry in
    let es = c.args.entries.now.items in
    let i = c.place_of-place.result in
    let found : IsPlaceBy key_cmp f c.key_in-key.result es i = subst (λ zs. IsPlaceBy key_cmp f c.key_in-key.result zs i) c.deref.ensures.value c.place_of-place.ensures in
    let place : IsPlaceBy key_cmp f k es i = subst (λ x. IsPlaceBy key_cmp f x es i) c.key_in-key.ensures found in
    ap (map f) c.insert_ready.ensures.items ∙ put_end key_total f k es i c.args.entry place refl (omega arith)

pub returns-then-is_same-clause-keys : goal.returns-then-is_same-clause-keys
returns-then-is_same-clause-keys g c =
    let e = g.E.Entry in
    let f = key_of g.R.Record.number e.owner e.key c.args.table.now.rows in
    let k = f c.args.entry in
    let es = c.args.entries.now.items in
    let i = c.place_of-place.result in
    let found : IsPlaceBy key_cmp f c.key_in-key.result es i = subst (λ zs. IsPlaceBy key_cmp f c.key_in-key.result zs i) c.deref.ensures.value c.place_of-place.ensures in
    let place : IsPlaceBy key_cmp f k es i = subst (λ x. IsPlaceBy key_cmp f x es i) c.key_in-key.ensures found in
    let within = place.within in
    let lt : i < length es = omega arith in
    let same : is_eq (key_cmp (f c.index.result.now) k) ≡ true =
    subst (λ x. is_eq (key_cmp x k) ≡ true) c.key_in.ensures
    (subst (λ x. is_eq (key_cmp c.key_in.result x) ≡ true) c.key_in-key.ensures (sym c.is_same.ensures ∙ c.if-is_same.true)) in
    put_there key_total f k es i c.index.result.now place lt c.index.ensures same

pub returns-clause-keys : goal.returns-clause-keys
returns-clause-keys g c =
    let e = g.E.Entry in
    let f = key_of g.R.Record.number e.owner e.key c.args.table.now.rows in
    let k = f c.args.entry in
    let es = c.args.entries.now.items in
    let i = c.place_of-place.result in
    let found : IsPlaceBy key_cmp f c.key_in-key.result es i = subst (λ zs. IsPlaceBy key_cmp f c.key_in-key.result zs i) c.deref.ensures.value c.place_of-place.ensures in
    let place : IsPlaceBy key_cmp f k es i = subst (λ x. IsPlaceBy key_cmp f x es i) c.key_in-key.ensures found in
    let within = place.within in
    let lt : i < length es = omega arith in
    let other : is_eq (key_cmp (f c.index.result.now) k) ≡ false =
    subst (λ x. is_eq (key_cmp x k) ≡ false) c.key_in.ensures
    (subst (λ x. is_eq (key_cmp c.key_in.result x) ≡ false) c.key_in-key.ensures (sym c.is_same.ensures ∙ c.if-is_same.false)) in
    ap (map f) c.insert_ready-2.ensures.items ∙ put_between key_total f k es i c.args.entry c.index.result.now place refl lt c.index.ensures other
