use Rattle.std.proofs.Common.{refl, sym, ◌∙◌, ◌∷◌, [], ◌++◌, map, take, arith, length, length-append, ap, subst, List, ℕ}
use Rattle.std.proofs.Math.Seq.{take-length}
use Rattle.std.proofs.lemmas.List.{map-append}
use Rattle.account_hall.specs.Building.{IsFresh}
use Rattle.jmap_server.specs.Deeds.{gave, lent_for}
use Rattle.jmap_server.specs.Openings.{AreOpenings, Opening, opening_of, openings_of}
use Rattle.jmap_server.proofs.Openings.{opened_next}
use Rattle.jmap_server.proofs.Told.{told_none, told_on}
use Rattle.jmap_server.proofs.Keepers.{accounts_next, all_push, gave_next, names_next, opened_all, refused_at}
use Rattle.jmap_server.proofs.accounts.open_each.Goals as goal

pub id-init : goal.id-init
id-init g c = record {
  told = ([], told_none (g.W.World.told c.args.world.now) (g.W.World.told c.args.world.now) refl, refl, refl, rw c.requires.empty tt);
  names = rw c.requires.empty refl;
  count = omega (arith, ap length c.requires.empty, c.args.accounts.now.ok);
  capacity = refl;
  fresh = rw c.requires.empty tt;
  within = omega arith;
  faults = omega arith;
  loads = omega arith;
}

pub returns-in-Err-clause-told : goal.returns-in-Err-clause-told
returns-in-Err-clause-told g c =
    let told = g.W.World.told in
    let l = c.id in
    let given = l.invariant.told.0 in
    let did = c.in-Err.ensures.told.0 in (
      map (gave c.args.folder.now) given ++ did,
      told_on (told c.args.world.now) (told l.world) (told c.open_account.new.world) (map (gave c.args.folder.now) given) did l.invariant.told.1 c.in-Err.ensures.told.1,
      refused_at g.W.Keep.Keeper.kept (g.F.Rules.Rules.is_whole (g.F.RulesSource.rules c.args.source.now)) c.args.folder.now g.row.F-Rules.Denot c.args.ids.now (openings_of l.accounts.items) l.id-index c.id-item.result given did c.in-Err.fault (omega arith) c.id-item.is l.invariant.told.2 l.invariant.told.3 l.invariant.told.4 c.in-Err.ensures.told.2,
    )

pub returns-clause-told : goal.returns-clause-told
returns-clause-told g c =
    let l = c.id in
    let given = l.invariant.told.0 in (
      map (gave c.args.folder.now) given,
      l.invariant.told.1,
      opened_all g.W.Keep.Keeper.kept (g.F.Rules.Rules.is_whole (g.F.RulesSource.rules c.args.source.now)) c.args.folder.now _ c.args.ids.now (openings_of l.accounts.items) given
          (l.invariant.told.3 ∙ ap (λ (n : ℕ). take n c.args.ids.now) (omega (arith, l.invariant.within, c.id-test.false)) ∙ take-length c.args.ids.now) l.invariant.told.4,
    )

pub id-preserved : goal.id-preserved
id-preserved g c =
    let told = g.W.World.told in
    let l = c.id in
    let given = l.invariant.told.0 in
    let one = c.in-Ok.ensures.told in
    let k = one.2.0 in
    let id = c.id-item.result in
    let whole = g.F.Rules.Rules.is_whole (g.F.RulesSource.rules c.args.source.now) in
    record {
      told = (
        given ++ lent_for id k ∷ [],
        gave_next c.args.folder.now (told c.args.world.now) (told l.world) (told c.open_account.new.world) given (lent_for id k) l.invariant.told.1 (rw one.2.1 at one.1),
        omega (arith, length-append given (lent_for id k ∷ []), l.invariant.told.2),
        accounts_next c.args.ids.now l.id-index id given k (omega arith) c.id-item.is l.invariant.told.3,
        subst (λ (os : List (Opening g.row.W-Keep.Denot)). AreOpenings g.W.Keep.Keeper.kept whole (given ++ lent_for id k ∷ []) os)
            (sym (ap (map opening_of) c.push_reserved.ensures.items ∙ map-append opening_of l.accounts.items (c.in-Ok.account ∷ [])))
            (opened_next g.W.Keep.Keeper.kept whole given (openings_of l.accounts.items) (lent_for id k) (opening_of c.in-Ok.account) l.invariant.told.4 one.2.2),
      );
      names = names_next c.args.ids.now l.id-index id l.accounts.items c.push_reserved.new.self.items c.in-Ok.account (omega arith) c.id-item.is l.invariant.names c.in-Ok.ensures.name c.push_reserved.ensures.items;
      count = omega (arith, c.push_reserved.ensures.len, l.invariant.count);
      capacity = c.push_reserved.ensures.capacity ∙ l.invariant.capacity;
      fresh = rw c.push_reserved.ensures.items (all_push (IsFresh {K = g.row.W-Keep.Denot} {R = g.row.F-Rules.Denot}) l.accounts.items c.in-Ok.account l.invariant.fresh c.in-Ok.ensures.fresh);
      within = omega (arith, l.invariant.within);
      faults = omega (arith, l.invariant.faults, c.in-Ok.ensures.later.0);
      loads = omega (arith, l.invariant.loads, c.in-Ok.ensures.later.1);
    }
