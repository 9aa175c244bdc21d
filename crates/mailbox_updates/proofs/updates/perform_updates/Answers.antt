use Rattle.std.proofs.Common.{◌≡◌, Bool, true, false, cond, map, sym, ap, ◌∙◌, subst}
use Rattle.jm_json.specs.Json.{member_of}
use Rattle.mail_records.specs.Edits.{after_edits}
use Rattle.set_parts.specs.Arguments.{update_in}
use Rattle.set_parts.specs.Steps.{Progress, after_updates, before_steps}
use Rattle.mailbox_updates.specs.UpdateViews.{Updating}
use Rattle.mailbox_updates.specs.Updates.{all_keep_rules, update_as}
use Rattle.mailbox_updates.specs.Views.{Tracks}
use Rattle.mailbox_updates.proofs.updates.perform_updates.Goals as goal

pub returns-then-are_rules_kept : goal.returns-then-are_rules_kept
returns-then-are_rules_kept c =
    λ made destroys are gone puts.
    let s = before_steps (after_edits c.args.content.now.content c.args.creates.now) in
    let xs = map update_in (map member_of c.args.updates.now) in
    let all = after_updates (update_as false made destroys) made s xs in
    let one = after_updates (update_as true made destroys) made s xs in
    let first : Updating c.in_ok-together.together s = record { tracks = c.in_ok-together.ensures.tracks puts; count = c.in_ok-together.ensures.count puts; fresh = c.in_ok-together.ensures.destroyed } in
    let up = c.in_ok-perform_each.ensures made destroys s are gone first in
    let keeps : all_keep_rules all ≡ true = sym (c.are_rules_kept.ensures all up.tracks up.count) ∙ c.if-are_rules_kept.true in
    subst (λ (t : Progress). Tracks c.perform_each.new.current t) (sym (ap (λ (b : Bool). cond b all one) keeps)) up.tracks

pub returns : goal.returns
returns c =
    λ made destroys are gone puts.
    let s = before_steps (after_edits c.args.content.now.content c.args.creates.now) in
    let xs = map update_in (map member_of c.args.updates.now) in
    let all = after_updates (update_as false made destroys) made s xs in
    let one = after_updates (update_as true made destroys) made s xs in
    let first : Updating c.in_ok-together.together s = record { tracks = c.in_ok-together.ensures.tracks puts; count = c.in_ok-together.ensures.count puts; fresh = c.in_ok-together.ensures.destroyed } in
    let up = c.in_ok-perform_each.ensures made destroys s are gone first in
    let keeps : all_keep_rules all ≡ false = sym (c.are_rules_kept.ensures all up.tracks up.count) ∙ c.if-are_rules_kept.false in
    let again : Updating c.in_ok-current.current s = record { tracks = c.in_ok-current.ensures.tracks puts; count = c.in_ok-current.ensures.count puts; fresh = c.in_ok-current.ensures.destroyed } in
    let last = c.in_ok-perform_each-2.ensures made destroys s are gone again in
    subst (λ (t : Progress). Tracks c.perform_each-2.new.current t) (sym (ap (λ (b : Bool). cond b all one) keeps)) last.tracks
