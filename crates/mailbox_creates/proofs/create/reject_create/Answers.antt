use Rattle.std.proofs.Common.{List, ℕ, subst}
use Rattle.set_parts.specs.Creates.{Creating, after_create as after_step}
use Rattle.set_parts.specs.CreatesViews.{KeepUp}
use Rattle.set_parts.specs.declared.creates.CreateStep.TheVariants.{Rejected}
use Rattle.set_parts.specs.declared.set_errors.SetError.TheVariants.{InvalidProperties}
use Rattle.mailbox_creates.specs.Views.{Follows}
use Rattle.mailbox_creates.proofs.create.reject_create.Goals as goal

pub returns-clause-follows : goal.returns-clause-follows
returns-clause-follows c =
    λ (s : Creating) (f : Follows c.args.planner.now s).
    record {
      table = f.table;
      base = f.base;
      next = f.next;
      grown = f.grown;
      found = f.found;
      names = f.names;
      roles = f.roles;
      others = f.others;
      creates =
          subst (λ (names : List (List ℕ)). KeepUp c.enter_create.new.creates (after_step c.args.draft.now.creation.now s (Rejected (InvalidProperties names)))) c.in_ok-names.ensures
          (c.in_ok-enter_create.ensures.follows s f.creates);
    }
