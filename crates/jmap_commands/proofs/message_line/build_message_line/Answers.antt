use Rattle.std.proofs.Common.{◌≡◌, IfOk, subst}
use Rattle.jm_json.specs.Tree.{Tree}
use Rattle.batch_lines.specs.Replies.{line_text}
use Rattle.jmap_commands.specs.Read.{read_out}
use Rattle.jmap_commands.proofs.message_line.build_message_line.Goals as goal

pub returns : goal.returns
unfolding read_out
returns c = subst (λ (t : Tree). IfOk c.build_json_line.result (λ b. b ≡ line_text t)) c.in_ok-tree.ensures c.build_json_line.ensures
