use Rattle.std.proofs.Common.{sym, subst}
use Rattle.account_hall.specs.Building.{IsClosed}
use Rattle.account_hall.proofs.build.close_room.Goals as goal

pub returns-clause-closed : goal.returns-clause-closed
returns-clause-closed g c =
    subst (IsClosed c.args.root) (sym c.into_inner.ensures)
    (record {
      entries_are = record {
        seen = c.close-book.ensures.seen;
        ended = c.close-book.ensures.ended;
        all = c.close-book.ensures.all;
        last = c.requires.last.1;
        names = c.close-book.ensures.names;
      };
      before = c.close-book.ensures.before;
      opening = c.close-book.ensures.opening;
    })
