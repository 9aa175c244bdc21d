use Rattle.jm_json.specs.Json.{tree_of}
use Rattle.jm_json.proofs.Puts.{rises_after}
use Rattle.jm_json.proofs.tree.Members.put.Goals as goal

pub invariant_of-self : goal.invariant_of-self
invariant_of-self c =
    rises_after c.put_member.result c.args.name (tree_of c.args.value) c.self.inside.members.items c.put_member.new.members.items c.put_member.ensures.ok c.put_member.ensures.err c.self.invariant
