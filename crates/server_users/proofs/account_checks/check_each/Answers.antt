use Rattle.std.proofs.Common.{◌≡◌, ◌∙◌, ◌∷◌, ◌||◌, ap, arith, bytes_eq, map}
use Rattle.jm_json.specs.Json.{tree_of}
use Rattle.server_users.specs.Lookups.{holds}
use Rattle.server_users.proofs.Walks.{accounts_step}
use Rattle.server_users.proofs.account_checks.check_each.Goals as goal

pub account-preserved : goal.account-preserved
account-preserved c =
    let rest : map tree_of c.account.rest.now ≡ tree_of c.in-Some.account.now ∷ map tree_of c.in-Some.more.now = ap (map tree_of) c.in-Some.ensures.cases.0 in
    record {
      walk =
          accounts_step c.args.ids.now c.args.user _ (holds c.account.seen) (holds c.add.new.self) c.account.index c.account.least c.in_ok-least.least
          (map tree_of c.account.rest.now) (map tree_of c.in-Some.more.now) (tree_of c.in-Some.account.now) c.in_ok-repeated.repeated
          c.account.invariant.walk rest
          (c.in_ok-repeated.ensures.held ∙ ap (holds c.account.seen) c.find_text_or_empty.ensures)
          c.in_ok-least.ensures
          (λ q. c.in_ok-repeated.ensures.added q ∙ ap (λ s. holds c.account.seen q || bytes_eq s q) c.find_text_or_empty.ensures);
      within = omega (arith, c.account.invariant.within, c.in-Some.ensures.cases.1);
    }
