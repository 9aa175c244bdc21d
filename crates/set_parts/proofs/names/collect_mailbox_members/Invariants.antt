use Rattle.std.proofs.Common.{◌≡◌, [], drop, map, true, ℕ, List}
use Rattle.jm_json.specs.Order.{put_all}
use Rattle.jm_json.specs.Tree.{Tree, boolean}
use Rattle.mail_counts.specs.Views.{mailbox_id}
use Rattle.set_parts.proofs.names.collect_mailbox_members.Given as goal

abbrev true_at : List ℕ → List ℕ × Tree
true_at k = (k, boolean true)

abbrev pub invariant-loop-number : goal.invariant-loop-number
invariant-loop-number l = put_all (map true_at (map mailbox_id (drop l.number-index l.numbers))) l.set ≡ put_all (map true_at (map mailbox_id l.numbers)) []
