use Rattle.std.proofs.Common.{◌+◌, refl, subst}
use Rattle.mail_records.specs.Histories.{History}
use Rattle.account_book.specs.Opening.{IsLoading, IsRowRefused, TakesRow}
use Rattle.account_book.proofs.Starting.{count_next, loaded_next, rest_next, row_at_fault}
use Rattle.account_book.proofs.loading.load_rows.Goals as goal

pub returns-in-Err-clause-err : goal.returns-in-Err-clause-err
returns-in-Err-clause-err c =
    let l = c.loop-bytes in
    row_at_fault c.args.rows l.rest.items c.pop_front.new.self.items c.in-Some.bytes l.taken l.loading c.in-Err.fault l.invariant.rest c.in-Some.ensures.items l.invariant.loaded
    (subst (λ b. (h : History) → IsLoading l.loading h → IsRowRefused b (l.taken + 1) h c.in-Err.fault) c.as_slice.ensures c.in-Err.ensures.err)

pub loop-bytes-preserved : goal.loop-bytes-preserved
loop-bytes-preserved c =
    let l = c.loop-bytes in
    record {
      rest = rest_next c.args.rows l.rest.items c.pop_front.new.self.items c.in-Some.bytes l.taken (l.taken + 1) l.invariant.rest c.in-Some.ensures.items refl;
      loaded =
          loaded_next c.args.rows l.rest.items c.pop_front.new.self.items c.in-Some.bytes l.taken (l.taken + 1) l.loading c.in-Ok.next l.invariant.rest c.in-Some.ensures.items refl l.invariant.loaded
          (subst (λ b. (h : History) → IsLoading l.loading h → TakesRow b h c.in-Ok.next) c.as_slice.ensures c.in-Ok.ensures.ok);
      count = count_next c.args.rows l.rest.items c.pop_front.new.self.items c.in-Some.bytes l.taken c.in-Some.ensures.items l.invariant.count;
      fits = l.invariant.fits;
    }
