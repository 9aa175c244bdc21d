use Rattle.std.proofs.Common.{◌≡◌, [], map, drop}
use Rattle.jm_json.specs.Order.{put_all}
use Rattle.jmap_http.specs.Session.{account_tree}
use Rattle.jmap_http.proofs.session.show_accounts.Given as goal

abbrev pub invariant-loop-account : goal.invariant-loop-account
invariant-loop-account l = put_all (map (λ a. (a.id, account_tree a)) (drop l.account-index l.accounts)) l.members ≡ put_all (map (λ a. (a.id, account_tree a)) l.accounts) []
