use Rattle.std.proofs.Common.{◌≡◌, None, drop, take, sym, ap, ◌∙◌}
use Rattle.jm_json.specs.Json.{tree_of}
use Rattle.jm_json.specs.Patch.{is_placed, member_named}
use Rattle.jm_json.proofs.Patched.{not_placed}
use Rattle.jm_json.proofs.patches.is_placed.Goals as goal

pub returns-in-None : goal.returns-in-None
returns-in-None c =
    let l = c.parts in
    let t = tree_of l.target.now in
    let none : member_named (take l.end l.rest.now) t ≡ None = ap (λ p. member_named p t) (sym c.split_at.ensures.front) ∙ sym c.in-None.ensures in
    sym (l.invariant.0 ∙ ap (λ ps. is_placed ps t) (l.invariant.3 c.parts-test.true) ∙ not_placed (take l.end l.rest.now) (drop 1 (drop l.end l.rest.now)) t none)
