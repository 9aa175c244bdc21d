use Rattle.std.proofs.Common.{[], ◌∷◌}
use Rattle.jmap_client.specs.ClientDeeds.{GotStore, GotTalk}
use Rattle.jmap_client.proofs.Told.{told_on}
use Rattle.jmap_client.proofs.syncing.sync_talk.Goals as goal

pub returns-clause-told : goal.returns-clause-told
returns-clause-told g c =
    let told = g.W.ClientWorld.told in
    let talk = c.sync_over-synced.new.talk in
    let store = c.sync_over-synced.new.store in (
      talk,
      store,
      told_on (told c.args.world.now) (told c.return_talk.new.self) (told c.return_store.new.self) (GotTalk talk ∷ []) (GotStore c.args.name.now store ∷ []) c.return_talk.ensures.told c.return_store.ensures.told,
      c.sync_over-synced.ensures.ends,
    )
