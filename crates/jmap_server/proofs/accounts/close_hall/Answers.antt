use Rattle.std.proofs.Common.{refl, sym, ◌∙◌, ◌∷◌, [], arith, append-nil}
use Rattle.account_hall.specs.Halls.{entries_of}
use Rattle.jmap_server.specs.Openings.{Closing}
use Rattle.jmap_server.proofs.Told.{told_none}
use Rattle.jmap_server.proofs.Keepers.{got_first}
use Rattle.jmap_server.proofs.Openings.{all_out, list_next, taken_out}
use Rattle.jmap_server.proofs.accounts.close_hall.Goals as goal

pub account-init : goal.account-init
account-init g c = record {
  told = ([], [], [], told_none (g.W.World.told c.args.world.now) (g.W.World.told c.args.world.now) refl, sym (append-nil c.args.hall), sym (append-nil c.args.front.roots), tt);
  faults = refl;
  later = omega arith;
  hall = c.requires.hall;
  none_in = c.requires.none_in;
}

pub account-preserved : goal.account-preserved
account-preserved g c =
    let told = g.W.World.told in
    let l = c.account in
    let sofar = l.invariant.told in
    let account = c.in-Some.account in
    let parted = c.in-Some.ensures.some in
    let closing : Closing g.row.W-Keep.Denot = record { name = account.name; keeper = account.book.keeper; entries = entries_of account.book } in
    record {
      told = (
        parted.room ∷ sofar.0,
        parted.root ∷ sofar.1,
        closing ∷ sofar.2,
        got_first (told c.args.world.now) (told l.world) (told c.close_account.new.world) closing sofar.2 sofar.3 c.close_account.ensures.told,
        list_next c.args.hall l.hall c.part.new.self parted.room sofar.0 sofar.4 parted.rooms,
        list_next c.args.front.roots l.front.roots c.part.new.front.roots parted.root sofar.1 sofar.5 parted.roots,
        (taken_out g.W.Keep.Keeper.kept g.W.Keep.Keeper.append_faults parted.room parted.root account parted.name_is parted.closed c.close_account.ensures.kept_by, sofar.6),
      );
      faults = c.close_account.ensures.count ∙ l.invariant.faults;
      later = omega (arith, l.invariant.later, c.close_account.ensures.later);
      hall = c.in-Some.ensures.hall;
      none_in = c.in-Some.ensures.inside.0;
    }

pub returns-clause-told : goal.returns-clause-told
returns-clause-told g c =
    let l = c.account in
    let sofar = l.invariant.told in (
      sofar.2,
      sofar.3,
      all_out g.W.Keep.Keeper.kept g.W.Keep.Keeper.append_faults c.args.hall l.hall sofar.0 c.args.front.roots l.front.roots sofar.1 sofar.2 sofar.4 sofar.5 c.in_default.ensures.none.0 l.invariant.hall sofar.6,
    )
