use Rattle.std.proofs.Common.{◌≡◌, drop}
use Rattle.std.specs.List.{list_any, list_all}
use Rattle.filter_terms.specs.Compiled.{match_each}
use Rattle.filter_terms.specs.Targets.{AMailbox}
use Rattle.filter_terms.proofs.compiled.+mailbox_holds.Given as goal

abbrev pub invariant-match_all_with_mailbox-loop-item : goal.invariant-match_all_with_mailbox-loop-item
invariant-match_all_with_mailbox-loop-item l =
    list_all (λ c. c) (match_each (drop l.item-index l.items) (AMailbox l.mailbox)) ≡ list_all (λ c. c) (match_each l.items (AMailbox l.mailbox))

abbrev pub invariant-match_some_with_mailbox-loop-item : goal.invariant-match_some_with_mailbox-loop-item
invariant-match_some_with_mailbox-loop-item l =
    list_any (λ c. c) (match_each (drop l.item-index l.items) (AMailbox l.mailbox)) ≡ list_any (λ c. c) (match_each l.items (AMailbox l.mailbox))
