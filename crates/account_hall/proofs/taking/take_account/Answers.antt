use Rattle.std.proofs.Common.{sym, ap, ◌∙◌, refl}
use Rattle.std.proofs.Math.ListN.{set}
use Rattle.account_hall.proofs.Grips.{grip_lock, grip_there}
use Rattle.account_hall.proofs.taking.take_account.Goals as goal

pub take-book-requires-clause-lock : goal.take-book-requires-clause-lock
take-book-requires-clause-lock g c =
    grip_lock c.args.rooms.now.items c.args.list.now.items c.args.account c.requires.hall c.requires.account c.index-room.result.now c.index_mut-pass.result.now c.index-room.ensures c.index_mut-pass.ensures.value
    ∙ sym (ap (λ v. v.lock.id) c.room.view_is)

pub take-book-requires-clause-free : goal.take-book-requires-clause-free
take-book-requires-clause-free g c =
    c.requires.free c.index_mut-pass.result.now (grip_there c.args.rooms.now.items c.args.list.now.items c.args.account c.requires.hall c.requires.account c.index_mut-pass.result.now c.index_mut-pass.ensures.value)

pub returns : goal.returns
returns g c = record {
  pass = c.index_mut-pass.result.now;
  there = grip_there c.args.rooms.now.items c.args.list.now.items c.args.account c.requires.hall c.requires.account c.index_mut-pass.result.now c.index_mut-pass.ensures.value;
  held = record {
    account_is = refl;
    number_is = c.name.ensures ∙ ap (λ x. x.name) c.take-book.ensures.pass;
    seen = c.take-book.ensures.seen;
    own = c.take-book.ensures.own;
    opened = c.take-book.ensures.opening;
    before = c.take-book.ensures.before;
  };
  list = ap (set c.args.list.now.items c.args.account) c.take-book.ensures.pass;
}
