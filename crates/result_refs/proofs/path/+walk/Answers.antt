use Rattle.std.proofs.Common.{◌≡◌, ◌≤◌, ◌+◌, ℕ, Option, Some, None, MatchResult, sym, ap, ap₂, ◌∙◌, subst}
use Rattle.jm_json.specs.Tree.{Tree}
use Rattle.jm_json.specs.Find.{as_list}
use Rattle.jm_json.specs.Json.{tree_of}
use Rattle.result_refs.specs.References.{step, walked}
use Rattle.result_refs.specs.Parts.{later_parts}
use Rattle.result_refs.specs.Causes.{Fails}
use Rattle.result_refs.specs.Costs.{step_bytes, parts_bytes}
use Rattle.result_refs.proofs.Steps.{step_plain, step_bytes_plain, parts_cut}
use Rattle.result_refs.proofs.path.+walk.Goals as goal

pub walk-returns-clause-found : goal.walk-returns-clause-found
walk-returns-clause-found t c =
    let tree = tree_of c.args.tree.now in
    let parts = parts_cut c.args.path.now c.part_end.result c.part_end.ensures.within c.part_end.ensures.last c.part_end.ensures.more in
    let same = ap₂ (λ p m. step p (walked (later_parts m)) tree) c.split_at.ensures.front c.split_at.ensures.back ∙ sym (ap (λ ps. walked ps tree) parts) in
    subst (λ (o : Option Tree). MatchResult c.take_step.result (λ r. o ≡ Some (tree_of r)) (λ e. Fails e o)) same c.take_step.ensures.found

pub take_step-returns-in-None-clause-found : goal.take_step-returns-in-None-clause-found
take_step-returns-in-None-clause-found t c =
    let tree = tree_of c.args.tree.now in
    let none : as_list tree ≡ None = sym c.in-None.ensures in
    let same = sym (step_plain c.args.part.now (walked (later_parts c.args.more.now)) tree none) in
    subst (λ (o : Option Tree). MatchResult c.take_child.result (λ r. o ≡ Some (tree_of r)) (λ e. Fails e o)) same c.take_child.ensures.found

pub walk-returns-clause-room : goal.walk-returns-clause-room
walk-returns-clause-room t c =
    let tree = tree_of c.args.tree.now in
    let parts = parts_cut c.args.path.now c.part_end.result c.part_end.ensures.within c.part_end.ensures.last c.part_end.ensures.more in
    let same = ap₂ (λ p m. step_bytes p (parts_bytes (later_parts m)) tree) c.split_at.ensures.front c.split_at.ensures.back ∙ sym (ap (λ ps. parts_bytes ps tree) parts) in
    subst (λ (n : ℕ). MatchResult c.take_step.result (λ _. n + c.take_step.new.room ≤ c.args.room.now) (λ _. c.take_step.new.room ≤ c.args.room.now)) same c.take_step.ensures.room

pub take_step-returns-in-None-clause-room : goal.take_step-returns-in-None-clause-room
take_step-returns-in-None-clause-room t c =
    let tree = tree_of c.args.tree.now in
    let none : as_list tree ≡ None = sym c.in-None.ensures in
    let same = sym (step_bytes_plain c.args.part.now (parts_bytes (later_parts c.args.more.now)) tree none) in
    subst (λ (n : ℕ). MatchResult c.take_child.result (λ _. n + c.take_child.new.room ≤ c.args.room.now) (λ _. c.take_child.new.room ≤ c.args.room.now)) same c.take_child.ensures.room
