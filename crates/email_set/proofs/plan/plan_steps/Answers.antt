use Rattle.std.proofs.Common.{sym, subst, List}
use Rattle.mail_counts.specs.TidyBut.{IsTidyButThreadsAndCounts}
use Rattle.mail_records.specs.Edits.{AllFit}
use Rattle.mail_records.specs.declared.edits.Edit.{Edit}
use Rattle.plan_promises.specs.Planned.{AllKeepMessages}
use Rattle.set_parts.specs.Arguments.{destroys_in, updates_in}
use Rattle.email_set.specs.Plans.{KeepTidyBut, steps_of}
use Rattle.email_set.specs.Views.{IsStepsOf}
use Rattle.email_set.specs.declared.steps.Steps.{Steps}
use Rattle.email_set.proofs.Promising.{led_steps}
use Rattle.email_set.proofs.Results.{ok_map}
use Rattle.email_set.proofs.plan.plan_steps.Goals as goal

pub returns : goal.returns
returns c =
    let content = c.args.content.now.content in
    let made = c.args.made.now in
    let ms = c.args.members.now in
    let led = λ (tidy : IsTidyButThreadsAndCounts content). led_steps content made (updates_in ms) (destroys_in ms) tidy in
    let P = λ (p : Steps). IsStepsOf p (steps_of content made ms) in
    record {
      steps = ok_map c.perform_all.result P P (λ p is. is) c.perform_all.ensures;
      fits =
          ok_map c.perform_all.result P _
          (λ p is (tidy : IsTidyButThreadsAndCounts content). subst (λ (es : List Edit). AllFit content es) (sym is.edits) (led tidy).fits)
          c.perform_all.ensures;
      tidy =
          ok_map c.perform_all.result P _
          (λ p is (tidy : IsTidyButThreadsAndCounts content). subst (λ (es : List Edit). KeepTidyBut content es) (sym is.edits) (led tidy).each)
          c.perform_all.ensures;
      kept =
          ok_map c.perform_all.result P _
          (λ p is (tidy : IsTidyButThreadsAndCounts content). subst (λ (es : List Edit). AllKeepMessages content es) (sym is.edits) (led tidy).kept)
          c.perform_all.ensures;
    }
