use Rattle.std.proofs.Common.{sym, subst}
use Rattle.jm_json.specs.Order.{KeysRise}
use Rattle.jm_json.proofs.Removals.{KeysRise-take_away}
use Rattle.jm_json.proofs.tree.Members.remove.Goals as goal

pub invariant_of-self : goal.invariant_of-self
invariant_of-self c = subst KeysRise (sym c.remove_member.ensures.rest) (KeysRise-take_away c.as_bytes.result.now _ c.self.invariant)
