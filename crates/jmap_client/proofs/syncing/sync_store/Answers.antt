use Rattle.std.proofs.Common.{refl, inl, inr, [], ◌∷◌}
use Rattle.client_cache.specs.Caches.{Cached}
use Rattle.jmap_client.specs.ClientDeeds.{GaveTalk, GotStore, GotTalk}
use Rattle.jmap_client.proofs.Ended.{outside}
use Rattle.jmap_client.proofs.Told.{told_on}
use Rattle.jmap_client.proofs.syncing.sync_store.Goals as goal

pub returns-in-Ok-clause-told : goal.returns-in-Ok-clause-told
returns-in-Ok-clause-told g c =
    let told = g.W.ClientWorld.told in
    let back = c.sync_talk.ensures.told in
    let gave = GaveTalk c.args.host.now c.args.port c.args.token.now c.in-Ok.talk in
    let got = GotTalk back.0 ∷ GotStore c.args.name.now back.1 ∷ [] in (
      gave ∷ got,
      told_on (told c.args.world.now) (told c.talk.new.self) (told c.sync_talk.new.world) (gave ∷ []) got c.in-Ok.ensures.told back.2,
      inr (inr (record { talk = c.in-Ok.talk; talk' = back.0; store = c.args.store; store' = back.1; did_is = refl; ends = back.3 })),
    )

pub returns-in-Err-clause-told : goal.returns-in-Err-clause-told
returns-in-Err-clause-told g c =
    let told = g.W.ClientWorld.told in
    let got = GotStore c.args.name.now c.args.store ∷ [] in (
      got,
      told_on (told c.args.world.now) (told c.talk.new.self) (told c.return_store.new.self) [] got c.in-Err.ensures.told c.return_store.ensures.told,
      inr (inl (c.args.store, refl, outside Cached c.in-Err.fault c.build_world_fault.result c.build_world_fault.ensures)),
    )
