use Rattle.std.proofs.Common.{◌≤◌, sym, subst}
use Rattle.mail_records.specs.Histories.{end_after}
use Rattle.mail_records.proofs.Moved.{end_of-moved_up, floors_are}
use Rattle.mail_records.proofs.Outlasting.{edits_between-moved_up, state_at-outlasts}
use Rattle.mail_records.proofs.laws.edits_and_states_outlast_a_floor.Goals as goal

pub returns : goal.returns
returns c = record {
  edits = edits_between-moved_up;
  state = state_at-outlasts;
  reached = λ h kind count s. (
    λ r. (subst (λ p. p ≤ s) (floors_are h kind (end_after h count)) r.0, subst (λ e. s ≤ e) (end_of-moved_up h count) r.1),
    λ r. (subst (λ p. p ≤ s) (sym (floors_are h kind (end_after h count))) r.0, subst (λ e. s ≤ e) (sym (end_of-moved_up h count)) r.1),
  );
}
