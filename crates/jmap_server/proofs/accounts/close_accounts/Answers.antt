use Rattle.std.proofs.Common.{refl, sym, ◌∙◌, ◌∷◌, [], ◌++◌, arith, append-nil}
use Rattle.jmap_server.specs.Openings.{keepers_of, lent_of, opening_of, openings_of}
use Rattle.jmap_server.proofs.Told.{told_none}
use Rattle.jmap_server.proofs.Keepers.{all_closed, back_next, got_next}
use Rattle.jmap_server.proofs.Openings.{is_zero, keepers_next, none_held}
use Rattle.jmap_server.proofs.accounts.close_accounts.Goals as goal

pub account-init : goal.account-init
account-init g c = record {
  told = ([], told_none (g.W.World.told c.args.world.now) (g.W.World.told c.args.world.now) refl, sym (append-nil (keepers_of (openings_of c.args.accounts.items))));
  faults = refl;
  later = omega arith;
}

pub account-preserved : goal.account-preserved
account-preserved g c =
    let told = g.W.World.told in
    let l = c.account in
    let back = l.invariant.told.0 in
    let one = lent_of (opening_of c.take_last-account.result) in
    let left = c.take_last-account.new.self.items in
    record {
      told = (
        back ++ one ∷ [],
        got_next (told c.args.world.now) (told l.world) (told c.close_account.new.world) back one l.invariant.told.1 c.close_account.ensures.told,
        back_next (keepers_of (openings_of c.args.accounts.items)) (keepers_of (openings_of l.accounts.items)) (keepers_of (openings_of left)) back one l.invariant.told.2
            (keepers_next l.accounts.items left c.take_last-account.result c.take_last-account.ensures.items),
      );
      faults = c.close_account.ensures.count ∙ l.invariant.faults;
      later = omega (arith, l.invariant.later, c.close_account.ensures.later);
    }

pub returns-clause-told : goal.returns-clause-told
returns-clause-told g c =
    let told = g.W.World.told in
    let l = c.account in
    all_closed (told c.args.world.now) (told l.world) (keepers_of (openings_of c.args.accounts.items)) (keepers_of (openings_of l.accounts.items)) l.invariant.told.0 l.invariant.told.2 (none_held l.accounts.items (omega (arith, is_zero _ (sym c.is_empty.ensures ∙ c.account-test.false), l.accounts.ok.0))) l.invariant.told.1
