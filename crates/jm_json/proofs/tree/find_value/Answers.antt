use Rattle.std.proofs.Common.{Some, sym, ap, ◌∙◌, arith}
use Rattle.std.proofs.lemmas.List.{length-map}
use Rattle.jm_json.specs.Json.{tree_of, member_of}
use Rattle.jm_json.specs.declared.tree.Member.{Member}
use Rattle.jm_json.proofs.Puts.{found, not_found}
use Rattle.jm_json.proofs.tree.find_value.Goals as goal

pub returns-in-Held : goal.returns-in-Held
returns-in-Held c =
    ap (λ (m : Member). Some (tree_of m.value)) (sym c.index-members-at.is)
    ∙ sym (found c.args.name.now c.args.members.now c.in-Held.at c.index-members-at.result (omega (arith, c.in-Held.ensures.0, length-map c.args.members.now member_of)) c.index-members-at.is c.in-Held.ensures)

pub returns-in-New : goal.returns-in-New
returns-in-New c = sym (not_found c.args.name.now _ _ c.in-New.ensures)
