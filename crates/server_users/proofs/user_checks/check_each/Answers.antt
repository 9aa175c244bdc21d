use Rattle.std.proofs.Common.{◌≡◌, ◌∙◌, ◌∷◌, ◌||◌, ap, arith, bytes_eq, map}
use Rattle.jm_json.specs.Json.{tree_of}
use Rattle.server_users.specs.Lookups.{holds}
use Rattle.server_users.proofs.Walks.{users_step}
use Rattle.server_users.proofs.user_checks.check_each.Goals as goal

pub user-preserved : goal.user-preserved
user-preserved c =
    let rest : map tree_of c.user.rest.now ≡ tree_of c.in-Some.user.now ∷ map tree_of c.in-Some.more.now = ap (map tree_of) c.in-Some.ensures.cases.0 in
    record {
      walk =
          users_step c.args.ids.now _ (holds c.user.names) (holds c.add.new.self) (holds c.user.tokens) (holds c.add-in-Some.new.self) c.user.index c.user.least c.in_ok-least.least
          (map tree_of c.user.rest.now) (map tree_of c.in-Some.more.now) (tree_of c.in-Some.user.now) c.in_ok-name.name c.in_ok-token.token
          c.user.invariant.walk rest
          (c.in_ok-name.ensures.held ∙ ap (holds c.user.names) c.find_text_or_empty.ensures)
          (c.in_ok-token.ensures.held ∙ ap (holds c.user.tokens) c.find_text_or_empty-in-Some.ensures)
          c.in_ok-least.ensures
          (λ q. c.in_ok-name.ensures.added q ∙ ap (λ s. holds c.user.names q || bytes_eq s q) c.find_text_or_empty.ensures)
          (λ q. c.in_ok-token.ensures.added q ∙ ap (λ s. holds c.user.tokens q || bytes_eq s q) c.find_text_or_empty-in-Some.ensures);
      within = omega (arith, c.user.invariant.within, c.in-Some.ensures.cases.1);
    }
