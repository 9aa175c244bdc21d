use Rattle.std.proofs.Common.{refl, subst, inr, [], ◌∷◌, List, ℕ}
use Rattle.server_users.specs.Lookups.{IsConfigurationOf}
use Rattle.jmap_server.specs.Deeds.{ReadText}
use Rattle.jmap_server.proofs.Told.{told_on}
use Rattle.jmap_server.proofs.server.serve.Goals as goal

pub returns-in-Ok-read_users-clause-told : goal.returns-in-Ok-read_users-clause-told
returns-in-Ok-read_users-clause-told g c =
    let told = g.W.World.told in
    let read = ReadText c.args.config.now c.in-Ok.bytes in
    let served = c.serve_users.ensures.told in (
      read ∷ served.0,
      told_on (told c.args.world.now) (told c.text.new.self) (told c.serve_users.new.world) (read ∷ []) served.0 c.in-Ok.ensures.told served.1,
      inr (
        c.in-Ok.bytes,
        inr (record {
          users = c.in-Ok-read_users.users;
          more = served.0;
          users_are = subst (λ (bytes : List ℕ). IsConfigurationOf bytes c.in-Ok-read_users.users) c.as_slice.ensures c.in-Ok-read_users.ensures.ok;
          did_is = refl;
          served = served.2;
        }),
      ),
    )
