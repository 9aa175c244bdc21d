use Rattle.std.proofs.Common.{Bor, List, ℕ, map}
use Rattle.jm_json.specs.declared.invocation.Created.{Created}
use Rattle.set_parts.specs.Steps.{Progress}
use Rattle.set_parts.specs.Views.{AreDestroyed, AreMade}
use Rattle.email_set.specs.Views.{Follows}
use Rattle.email_set.proofs.Stepping.{destroys_from, updates_from}
use Rattle.email_set.proofs.steps.perform_steps.Goals as goal

pub returns : goal.returns
returns c =
    λ (made : List Created) (s : Progress) (m : AreMade c.args.setting.now.created made)
    (d : AreDestroyed c.args.setting.now.destroyed made (map (λ (x : Bor (List ℕ)). x.now) c.args.destroys.now))
    (f : Follows c.args.setting.now.content.now.content c.args.planner s).
    let base = c.args.setting.now.content.now.content in
    let destroys : List (List ℕ) = map (λ (x : Bor (List ℕ)). x.now) c.args.destroys.now in
    let after = updates_from made destroys s c.args.updates.now in
    c.finish_steps.ensures base (destroys_from made after destroys)
    (c.in_ok-perform_destroys.ensures made after m (c.in_ok-perform_updates.ensures made destroys s m d f))
