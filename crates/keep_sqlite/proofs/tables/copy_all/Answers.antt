use Rattle.std.proofs.Common.{◌≡◌, suc, [], sym, subst, append-nil, rules}
use Rattle.keep_sqlite.specs.Format.{AreNumbered}
use Rattle.keep_sqlite.proofs.tables.copy_all.Goals as goal

pub returns : goal.returns
returns c =
    let none : c.loop-row.rest.items ≡ [] = search (rules, c.in_default.ensures, c.in_default.is, c.pop_front.ensures) in
    subst (AreNumbered 1 c.args.found.items) (append-nil c.loop-row.rows.items) (c.loop-row.invariant [] (subst (λ r. AreNumbered (suc c.loop-row.last) r []) (sym none) tt))
