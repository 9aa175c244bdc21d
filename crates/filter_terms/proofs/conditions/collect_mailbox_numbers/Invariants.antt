use Rattle.std.proofs.Common.{◌≡◌, ◌||◌, map, drop, ℕ}
use Rattle.std.specs.Prelude.{◌==◌}
use Rattle.std.specs.List.{list_any}
use Rattle.filter_terms.specs.EmailTerms.{is_mailbox_id}
use Rattle.filter_terms.proofs.conditions.collect_mailbox_numbers.Given as goal

abbrev pub invariant-loop-id : goal.invariant-loop-id
invariant-loop-id l =
    (m : ℕ) → (list_any (λ n. n == m) l.numbers || list_any (λ id. is_mailbox_id id m) (map (λ t. t.now) (drop l.id-index l.ids))) ≡ list_any (λ id. is_mailbox_id id m) (map (λ t. t.now) l.ids)
