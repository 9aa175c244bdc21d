use Rattle.std.proofs.Common.{Bor, ◌≡◌, ◌<◌, ◌≤◌, List, ℕ, length, map, subst, arith}
use Rattle.std.proofs.lemmas.List.{length-map}
use Rattle.jm_json.specs.declared.invocation.Created.{Created}
use Rattle.set_parts.specs.Steps.{Progress}
use Rattle.set_parts.specs.Views.{AreMade}
use Rattle.email_set.specs.Views.{Follows}
use Rattle.email_set.proofs.Stepping.{destroy_more, destroyed_by, destroys_end}
use Rattle.email_set.proofs.steps.perform_destroys.Goals as goal

pub loop-i-preserved : goal.loop-i-preserved
loop-i-preserved c =
    λ (made : List Created) (s : Progress) (m : AreMade c.args.setting.now.created made) (f : Follows c.args.setting.now.content.now.content c.args.planner.now s).
    let was = c.loop-i.invariant made s m f in
    let ids : List (List ℕ) = map (λ (d : Bor (List ℕ)). d.now) c.args.destroys.now in
    let count : length ids ≡ length c.args.destroys.now = length-map c.args.destroys.now (λ (d : Bor (List ℕ)). d.now) in
    let within : c.loop-i.i < length ids = omega (arith, count, c.loop-i-test.true) in
    let id = c.read_destroy-id.result.now in (
      destroyed_by made was.0 id,
      c.in_ok-perform_destroy.ensures made was.0 m was.1,
      destroy_more made s was.0 ids c.loop-i.i id within c.read_destroy-id.ensures was.2,
    )

pub returns : goal.returns
returns c =
    λ (made : List Created) (s : Progress) (m : AreMade c.args.setting.now.created made) (f : Follows c.args.setting.now.content.now.content c.args.planner.now s).
    let was = c.loop-i.invariant made s m f in
    let ids : List (List ℕ) = map (λ (d : Bor (List ℕ)). d.now) c.args.destroys.now in
    let count : length ids ≡ length c.args.destroys.now = length-map c.args.destroys.now (λ (d : Bor (List ℕ)). d.now) in
    let end : length ids ≤ c.loop-i.i = omega (arith, count) in
    subst (Follows c.args.setting.now.content.now.content c.loop-i.planner) (destroys_end made s was.0 ids c.loop-i.i end was.2) was.1
