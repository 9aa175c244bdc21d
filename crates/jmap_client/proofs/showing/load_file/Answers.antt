use Rattle.std.proofs.Common.{refl, inl, inr, [], ◌∷◌}
use Rattle.client_cache.specs.Caches.{Cached}
use Rattle.jmap_client.specs.ClientDeeds.{GaveStore, GotStore}
use Rattle.jmap_client.proofs.Ended.{outside}
use Rattle.jmap_client.proofs.Told.{told_on}
use Rattle.jmap_client.proofs.showing.load_file.Goals as goal

pub returns-in-Ok-clause-told : goal.returns-in-Ok-clause-told
returns-in-Ok-clause-told g c =
    let told = g.W.ClientWorld.told in
    let back = c.load_and_return.ensures.told in
    let gave = GaveStore c.args.name.now c.in-Ok.store in
    let got = GotStore c.args.name.now back.0 in (
      gave ∷ got ∷ [],
      told_on (told c.args.world.now) (told c.store.new.self) (told c.load_and_return.new.world) (gave ∷ []) (got ∷ []) c.in-Ok.ensures.told back.1,
      inr (record { store = c.in-Ok.store; store' = back.0; did_is = refl; ends = back.2 }),
    )

pub returns-in-Err-clause-told : goal.returns-in-Err-clause-told
returns-in-Err-clause-told g c = ([], c.in-Err.ensures.told, inl (refl, outside Cached c.in-Err.fault c.build_world_fault.result c.build_world_fault.ensures))
