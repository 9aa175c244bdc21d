use Rattle.std.proofs.Common.{◌≡◌, map, length, arith}
use Rattle.std.proofs.lemmas.List.{length-map}
use Rattle.jm_json.specs.Json.{member_of}
use Rattle.jm_json.proofs.Merging.{held_not_past, new_past}
use Rattle.jm_json.proofs.tree.is_past_all.Goals as goal

pub returns-in-Held-clause-not_past : goal.returns-in-Held-clause-not_past
returns-in-Held-clause-not_past c = λ low. absurd (held_not_past c.args.name.now (map member_of c.args.members.now) c.in-Held.field-0 c.in-Held.ensures low)

pub returns-in-New-clause-not_past : goal.returns-in-New-clause-not_past
returns-in-New-clause-not_past c = λ low.
    let end : c.in-New.at ≡ length (map member_of c.args.members.now) = new_past c.args.name.now (map member_of c.args.members.now) c.in-New.at c.in-New.ensures.0 c.in-New.ensures.2 low in
    grind (arith, end, length-map c.args.members.now member_of)
