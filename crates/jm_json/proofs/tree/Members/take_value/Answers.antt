use Rattle.jm_json.proofs.Merging.{rises_if_taken}
use Rattle.jm_json.proofs.tree.Members.take_value.Goals as goal

pub invariant_of-self : goal.invariant_of-self
invariant_of-self c =
    rises_if_taken c.take_value_of.result c.as_bytes.result.now c.self.inside.members.items c.take_value_of.new.members.items c.take_value_of.ensures.rest c.self.invariant
