use Rattle.std.proofs.Common.{Bor, ◌≡◌, ◌<◌, ◌≤◌, List, ℕ, length, map, subst, arith}
use Rattle.std.proofs.lemmas.List.{length-map}
use Rattle.jm_json.specs.declared.invocation.Created.{Created}
use Rattle.set_parts.specs.CreationIds.{reported_id}
use Rattle.set_parts.specs.Steps.{Progress, after_destroy}
use Rattle.set_parts.specs.Views.{AreMade}
use Rattle.mailbox_set.specs.Destroys.{destroy_mailbox}
use Rattle.mailbox_updates.specs.Views.{Tracks}
use Rattle.mailbox_set.proofs.Tracking.{destroy_more, destroys_end}
use Rattle.mailbox_set.proofs.destroys.perform_destroys.Goals as goal

pub loop-i-preserved : goal.loop-i-preserved
loop-i-preserved c =
    λ (made : List Created) (s : Progress) (are : AreMade c.args.setting.now.created made) (tracks : Tracks c.args.current.now s).
    let step = destroy_mailbox made c.args.setting.now.removes_emails in
    let was = c.loop-i.invariant made s are tracks in
    let ids : List (List ℕ) = map (λ (d : Bor (List ℕ)). d.now) c.args.destroys.now in
    let count : length ids ≡ length c.args.destroys.now = length-map c.args.destroys.now (λ (d : Bor (List ℕ)). d.now) in
    let within : c.loop-i.i < length ids = omega (arith, count, c.loop-i-test.true) in
    let id = c.read_destroy.result.now in (
      after_destroy (reported_id made id) was.0 (step was.0.content id),
      c.in_ok-perform_destroy.ensures made was.0 are was.1,
      destroy_more step made s was.0 ids c.loop-i.i id within c.read_destroy.ensures was.2,
    )

pub returns : goal.returns
returns c =
    λ (made : List Created) (s : Progress) (are : AreMade c.args.setting.now.created made) (tracks : Tracks c.args.current.now s).
    let step = destroy_mailbox made c.args.setting.now.removes_emails in
    let was = c.loop-i.invariant made s are tracks in
    let ids : List (List ℕ) = map (λ (d : Bor (List ℕ)). d.now) c.args.destroys.now in
    let count : length ids ≡ length c.args.destroys.now = length-map c.args.destroys.now (λ (d : Bor (List ℕ)). d.now) in
    let end : length ids ≤ c.loop-i.i = omega (arith, count) in
    subst (Tracks c.loop-i.current) (destroys_end step made s was.0 ids c.loop-i.i end was.2) was.1
