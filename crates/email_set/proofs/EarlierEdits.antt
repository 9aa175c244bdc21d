-- Updates and destroys after edits that were made before them.
use Rattle.std.proofs.Common.{◌≡◌, ℕ, List, [], ◌∷◌, ◌++◌, refl, sym, ap, ◌∙◌, subst, append_assoc, append-nil}
use Rattle.jm_json.specs.declared.invocation.Created.{Created}
use Rattle.mail_counts.specs.TidyBut.{IsTidyButThreadsAndCounts}
use Rattle.mail_records.specs.Contents.{Content}
use Rattle.mail_records.specs.Edits.{AllFit, after_edits}
use Rattle.mail_records.specs.declared.edits.Edit.{Edit}
use Rattle.mail_records.proofs.Growth.{AllFit-append}
use Rattle.plan_promises.specs.Planned.{AllKeepMessages}
use Rattle.set_parts.specs.Arguments.{Update}
use Rattle.set_parts.specs.CreationIds.{reported_id}
use Rattle.set_parts.specs.Steps.{Progress, after_destroy, after_destroys, after_update, after_updates, before_steps, nothing_reported, note_destroyed, note_updated, with_edits}
use Rattle.set_parts.specs.declared.reported.Reported.{Reported}
use Rattle.set_parts.specs.declared.steps.Step.{Step}
use Rattle.set_parts.specs.declared.steps.Step.TheVariants as step
use Rattle.email_set.specs.Emails.{after_steps, destroy_email, update_email}
use Rattle.email_set.specs.Plans.{KeepTidyBut, put_before}
use Rattle.email_set.proofs.Promising.{Led, kept_append, led_steps, tidy_append}

-- a progress of these parts
abbrev progress : Content → Reported → List Edit → Progress
progress c r es = record { content = c; edits = es; reported = r }

update_before : (first : List Edit) (id : List ℕ) (s : Progress) (x : Step) → after_update id (put_before first s) x ≡ put_before first (after_update id s x)
update_before first id s (step.Rejected error) = refl
update_before first id s (step.Done es) = ap (progress (after_edits s.content es) (note_updated id s.reported)) (append_assoc first s.edits es)

destroy_before : (first : List Edit) (id : List ℕ) (s : Progress) (x : Step) → after_destroy id (put_before first s) x ≡ put_before first (after_destroy id s x)
destroy_before first id s (step.Rejected error) = refl
destroy_before first id s (step.Done es) = ap (progress (after_edits s.content es) (note_destroyed id s.reported)) (append_assoc first s.edits es)

updates_before : (f : Content → Update → Step) (made : List Created) (first : List Edit) (xs : List Update) (s : Progress) → after_updates f made (put_before first s) xs ≡ put_before first (after_updates f made s xs)
updates_before f made first [] s = refl
updates_before f made first (x ∷ xs) s =
    ap (λ t. after_updates f made t xs) (update_before first (reported_id made x.id) s (f s.content x))
    ∙ updates_before f made first xs (after_update (reported_id made x.id) s (f s.content x))

destroys_before : (f : Content → List ℕ → Step) (made : List Created) (first : List Edit) (xs : List (List ℕ)) (s : Progress) → after_destroys f made (put_before first s) xs ≡ put_before first (after_destroys f made s xs)
destroys_before f made first [] s = refl
destroys_before f made first (x ∷ xs) s =
    ap (λ t. after_destroys f made t xs) (destroy_before first (reported_id made x) s (f s.content x))
    ∙ destroys_before f made first xs (after_destroy (reported_id made x) s (f s.content x))

-- Steps that go on from edits are those over the content that the edits leave, with the edits before
-- their own.
pub steps_before : (c : Content) (first : List Edit) (made : List Created) (us : List Update) (ds : List (List ℕ))
    → after_steps (with_edits first (before_steps c)) made us ds ≡ put_before first (after_steps (before_steps (after_edits c first)) made us ds)
steps_before c first made us ds =
    let d : Content = after_edits c first in
    let begins : with_edits first (before_steps c) ≡ put_before first (before_steps d) = ap (progress d nothing_reported) (sym (append-nil first)) in
    ap (λ t. after_steps t made us ds) begins
    ∙ (ap (λ t. after_destroys (destroy_email made) made t ds) (updates_before (update_email made ds) made first us (before_steps d))
    ∙ destroys_before (destroy_email made) made first ds (after_updates (update_email made ds) made (before_steps d) us))

-- ---- what all edits promise

-- edits and the steps after them
pub record AllLed (c : Content) (first all : List Edit) : Type 0 where
  pub fits : AllFit c first → AllFit c all
  pub tidy : KeepTidyBut c first → KeepTidyBut c all
  pub kept : AllKeepMessages c first → AllKeepMessages c all

pub all_led : (c : Content) (first all : List Edit) (made : List Created) (us : List Update) (ds : List (List ℕ)) → all ≡ first ++ (after_steps (before_steps (after_edits c first)) made us ds).edits
    → IsTidyButThreadsAndCounts (after_edits c first) → AllLed c first all
all_led c first all made us ds is tidy =
    let d : Content = after_edits c first in
    let s : Progress = after_steps (before_steps d) made us ds in
    let led : Led d s = led_steps d made us ds tidy in
    record {
      fits = λ fit. subst (λ (es : List Edit). AllFit c es) (sym is) (AllFit-append first s.edits c fit led.fits);
      tidy = λ keep. subst (λ (es : List Edit). KeepTidyBut c es) (sym is) (tidy_append first s.edits c keep led.each);
      kept = λ keep. subst (λ (es : List Edit). AllKeepMessages c es) (sym is) (kept_append first s.edits c keep led.kept);
    }
