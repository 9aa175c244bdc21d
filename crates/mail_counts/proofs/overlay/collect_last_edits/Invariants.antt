use Rattle.std.proofs.Common.{◌≡◌, ℕ, drop, option_map}
use Rattle.std.specs.BTreeMap.{get}
use Rattle.std.specs.Ordering.{nat_cmp}
use Rattle.std.specs.Option.{option_or}
use Rattle.mail_counts.specs.Overlay.{last_edit}
use Rattle.mail_counts.proofs.overlay.collect_last_edits.Given as goal

abbrev pub invariant-loop-edit : goal.invariant-loop-edit
invariant-loop-edit l = (n : ℕ) → option_or (last_edit l.kind n (drop l.edit-index l.edits)) (option_map (λ r. r.now) (get nat_cmp l.last n)) ≡ last_edit l.kind n l.edits
