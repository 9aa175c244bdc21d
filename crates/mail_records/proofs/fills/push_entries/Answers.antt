use Rattle.std.proofs.Common.{◌≡◌, ◌<◌, ◌++◌, ◌∷◌, [], Some, take, length, get_or, map, sym, ap, ◌∙◌, arith}
use Rattle.std.proofs.lemmas.List.{append-nil, append_assoc, map-append, take_more}
use Rattle.mail_records.specs.Tables.{lookup}
use Rattle.mail_records.specs.Orders.{key_of, keys_of}
use Rattle.mail_records.proofs.fills.push_entries.Goals as goal

pub loop-index-preserved : goal.loop-index-preserved
loop-index-preserved g c =
    λ rows there.
    let e = g.E.Entry in
    let number = g.R.Record.number in
    let f = key_of number e.owner e.key rows in
    let ks = e.keys c.args.row.now in
    let i = c.loop-index.index in
    let entry = c.entry_of.result in
    let k = f entry in
    let found : lookup number (e.owner entry) rows ≡ Some c.args.row.now = ap (λ m. lookup number m rows) c.entry_of.ensures.owner ∙ there in
    let is : k ≡ get_or ks i k = ap (λ o. e.key o entry) found ∙ c.entry_of.ensures.key k in
    let lt : i < length ks = omega (arith, c.loop-index-test.true, c.count-index-end.ensures) in
    let before = c.loop-index.invariant rows there in
    ap (map f) c.in_ok-push.ensures.items
    ∙ (map-append f c.loop-index.entries.items (entry ∷ [])
    ∙ (ap (λ xs. xs ++ k ∷ []) before
    ∙ (append_assoc (keys_of number e.owner e.key rows c.args.entries.now.items) (take i ks) (k ∷ [])
    ∙ ap (λ xs. keys_of number e.owner e.key rows c.args.entries.now.items ++ xs) (ap (λ x. take i ks ++ x ∷ []) is ∙ sym (take_more ks i k lt)))))

pub loop-index-init : goal.loop-index-init
loop-index-init g c = λ rows there. sym (append-nil _)
