use Rattle.std.proofs.Common.{sym, ◌∙◌, arith}
use Rattle.account_hall.proofs.Building.{all_built, all_of, first_front}
use Rattle.account_hall.proofs.build.build_hall.Goals as goal

pub invariant_of-front : goal.invariant_of-front
invariant_of-front g c = record {
  few = omega arith;
  each = first_front c.share_all.new.rooms.items c.share_all.new.roots.items c.share_all.ensures.roots;
}

pub returns-then-share_all-clause-built : goal.returns-then-share_all-clause-built
returns-then-share_all-clause-built g c =
    all_built c.args.accounts.items c.share_all.new.accounts.items c.share_all.new.rooms.items c.share_all.new.roots.items
    (sym c.reverse.ensures.items ∙ c.share_all.ensures.accounts) (c.share_all.ensures.all c.if-share_all.true) c.share_all.ensures.roots

pub returns-then-share_all-clause-front : goal.returns-then-share_all-clause-front
returns-then-share_all-clause-front g c = all_of c.share_all.new.rooms.items c.share_all.new.roots.items c.share_all.ensures.roots
