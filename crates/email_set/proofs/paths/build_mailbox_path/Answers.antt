use Rattle.std.proofs.Common.{◌∙◌, ◌++◌, List, ℕ, ap}
use Rattle.jm_json.specs.declared.invocation.Created.{Created}
use Rattle.set_parts.specs.Views.{HoldTexts}
use Rattle.email_set.specs.Patches.{meant_part}
use Rattle.email_set.proofs.paths.build_mailbox_path.Goals as goal

pub returns-in-Some : goal.returns-in-Some
returns-in-Some c =
    λ (made : List Created) (h : HoldTexts c.args.texts.now made).
    c.in-Some.ensures
    ∙ (c.in_ok-push_meant_part.ensures made h
    ∙ ap (λ (xs : List ℕ). xs ++ meant_part made c.args.part.now) c.in_ok-path.ensures.items)
