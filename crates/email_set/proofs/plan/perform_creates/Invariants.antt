use Rattle.std.proofs.Common.{◌≡◌, drop}
use Rattle.mail_records.specs.Contents.{Content}
use Rattle.set_parts.specs.Creates.{Creating, before_creates}
use Rattle.set_parts.specs.CreatesViews.{KeepUp}
use Rattle.email_set.proofs.Planning.{creates_from}
use Rattle.email_set.proofs.plan.perform_creates.Given as goal

abbrev pub invariant-loop-create : goal.invariant-loop-create
invariant-loop-create l =
    (c : Content) → (t : Creating) × KeepUp l.performed t
    × (creates_from t (drop l.create-index l.creates) ≡ creates_from (before_creates c l.made) l.creates)
