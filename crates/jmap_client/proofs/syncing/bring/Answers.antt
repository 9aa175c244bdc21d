use Rattle.std.proofs.Common.{refl, inl, [], ◌∷◌}
use Rattle.client_cache.specs.Caches.{Cached}
use Rattle.jmap_client.specs.ClientDeeds.{GaveStore}
use Rattle.jmap_client.proofs.Ended.{outside}
use Rattle.jmap_client.proofs.Told.{told_on}
use Rattle.jmap_client.proofs.syncing.bring.Goals as goal

pub returns-in-Ok-clause-told : goal.returns-in-Ok-clause-told
returns-in-Ok-clause-told g c =
    let told = g.W.ClientWorld.told in
    let more = c.sync_store.ensures.told in
    let gave = GaveStore c.args.name.now c.in-Ok.store in (
      gave ∷ more.0,
      told_on (told c.args.world.now) (told c.store.new.self) (told c.sync_store.new.world) (gave ∷ []) more.0 c.in-Ok.ensures.told more.1,
      more.2,
    )

pub returns-in-Err-clause-told : goal.returns-in-Err-clause-told
returns-in-Err-clause-told g c = ([], c.in-Err.ensures.told, inl (refl, outside Cached c.in-Err.fault c.build_world_fault.result c.build_world_fault.ensures))
