use Rattle.std.proofs.Common.{◌≡◌, None, true, refl, sym, ap, ◌∙◌, subst}
use Rattle.std.proofs.Math.ListN.{set}
use Rattle.account_lock.specs.Entries.{ExtendsUnder}
use Rattle.account_hall.specs.HeldAccounts.{entries_in}
use Rattle.account_hall.proofs.Grips.{grip_lock, grip_there, one_there}
use Rattle.account_hall.proofs.Releases.{released_is}
use Rattle.account_hall.proofs.taking.give_back.Goals as goal

pub give-requires-clause-lock : goal.give-requires-clause-lock
give-requires-clause-lock g c =
    grip_lock c.args.rooms.now.items c.args.list.now.items c.args.held.account c.requires.hall c.requires.account c.index-room.result.now c.index_mut-pass.result.now c.index-room.ensures c.index_mut-pass.ensures.value
    ∙ sym (ap (λ v. v.lock.id) c.room.view_is)

pub give-requires-clause-holds : goal.give-requires-clause-holds
give-requires-clause-holds g c =
    let there = grip_there c.args.rooms.now.items c.args.list.now.items c.args.held.account c.requires.hall c.requires.account c.index_mut-pass.result.now c.index_mut-pass.ensures.value in
    let same = one_there c.args.list.now.items c.args.held.account c.index_mut-pass.result.now c.requires.held.pass there c.requires.held.there in
    subst (λ x. x.holds ≡ true) (sym same) c.requires.held.holds

pub give-requires-clause-entries : goal.give-requires-clause-entries
give-requires-clause-entries g c =
    let there = grip_there c.args.rooms.now.items c.args.list.now.items c.args.held.account c.requires.hall c.requires.account c.index_mut-pass.result.now c.index_mut-pass.ensures.value in
    let same = one_there c.args.list.now.items c.args.held.account c.index_mut-pass.result.now c.requires.held.pass there c.requires.held.there in
    subst (λ x. ExtendsUnder x.name x.seen (entries_in c.args.held)) (sym same) c.requires.held.entries

pub give-requires-clause-before : goal.give-requires-clause-before
give-requires-clause-before g c =
    let there = grip_there c.args.rooms.now.items c.args.list.now.items c.args.held.account c.requires.hall c.requires.account c.index_mut-pass.result.now c.index_mut-pass.ensures.value in
    let same = one_there c.args.list.now.items c.args.held.account c.index_mut-pass.result.now c.requires.held.pass there c.requires.held.there in
    c.requires.held.before ∙ ap (λ x. x.before) (sym same)

pub give-requires-clause-opening : goal.give-requires-clause-opening
give-requires-clause-opening g c =
    let there = grip_there c.args.rooms.now.items c.args.list.now.items c.args.held.account c.requires.hall c.requires.account c.index_mut-pass.result.now c.index_mut-pass.ensures.value in
    let same = one_there c.args.list.now.items c.args.held.account c.index_mut-pass.result.now c.requires.held.pass there c.requires.held.there in
    c.requires.held.opened ∙ ap (λ x. x.opening) (sym same)

pub returns : goal.returns
returns g c =
    let there = grip_there c.args.rooms.now.items c.args.list.now.items c.args.held.account c.requires.hall c.requires.account c.index_mut-pass.result.now c.index_mut-pass.ensures.value in
    ap (set c.args.list.now.items c.args.held.account) c.give.ensures ∙ sym (released_is c.args.list.now.items None c.args.held c.args.held.account c.index_mut-pass.result.now refl there)
