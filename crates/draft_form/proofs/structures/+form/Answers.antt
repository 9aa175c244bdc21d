use Rattle.std.proofs.Common.{List, ℕ, Bor, option_map, sym, ap, ◌∙◌, arith}
use Rattle.jm_json.specs.Tree.{Tree}
use Rattle.jm_json.specs.Json.{tree_of}
use Rattle.draft_form.proofs.PartSteps.{part_form}
use Rattle.draft_form.proofs.structures.+form.Goals as goal

pub is_part-returns-in-Some : goal.is_part-returns-in-Some
is_part-returns-in-Some t c =
    c.has_parts.ensures
    ∙ sym (part_form c.args.levels c.args.values.now (tree_of c.args.tree.now) c.in-Some.members.now (omega arith)
    (sym (ap (option_map (λ (m : Bor (List (List ℕ × Tree))). m.now)) (sym c.in-Some.is) ∙ c.as_object.ensures)))
