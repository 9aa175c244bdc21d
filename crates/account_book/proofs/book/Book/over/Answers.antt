use Rattle.std.proofs.Common.{sym, subst}
use Rattle.account_book.specs.Books.{IsBook}
use Rattle.account_book.proofs.Opened.{knows_loaded}
use Rattle.account_book.proofs.Starting.{IsBook_new, none_since, opened_all}
use Rattle.account_book.proofs.book.Book.over.Goals as goal

pub invariant_of-book : goal.invariant_of-book
invariant_of-book g c =
    let whole = g.R.Rules.is_whole c.args.rules in
    let kept = g.K.Keeper.kept in
    let image = g.K.Keeper.image in
    let faults = g.K.Keeper.append_faults in
    let k = c.args.keeper in
    let n = c.count-before.result in
    let h = c.in-Ok.account.history in
    subst (λ z. IsBook whole (kept z) (image z) (faults z) (kept k) (image k) (faults k) n c.find_greatest_pass-greatest.result h) (sym c.of.ensures)
    (IsBook_new whole (kept k) (image k) (faults k) n c.find_greatest_pass-greatest.result h c.count-before.ensures.count c.find_greatest_pass-greatest.ensures c.in-Ok.ensures.valid
    (knows_loaded (kept k) c.args.content h c.in-Ok.ensures.makes c.requires.known))

pub returns-in-Ok-clause-all : goal.returns-in-Ok-clause-all
returns-in-Ok-clause-all g c = opened_all c.in-Ok.account.history c.count-before.result c.count-before.ensures.count

pub returns-in-Ok-clause-since : goal.returns-in-Ok-clause-since
returns-in-Ok-clause-since g c = none_since c.in-Ok.account.history c.count-before.result c.count-before.ensures.count
