use Rattle.std.proofs.Common.{◌≡◌, ℕ, drop}
use Rattle.filter_terms.specs.Compiled.{match_each, all_true, some_true}
use Rattle.filter_terms.specs.Targets.{AnEmail, email_in_thread}
use Rattle.filter_terms.specs.Texts.{MessageTexts}
use Rattle.filter_terms.proofs.compiled.+email_holds.Given as goal

abbrev pub invariant-match_all_terms-loop-item : goal.invariant-match_all_terms-loop-item
invariant-match_all_terms-loop-item o l =
    (o.M.OpenedMessage.contents l.message ≡ o.M.OpenedMessage.contents l.initial.message)
    × ((texts : ℕ → MessageTexts) → texts l.email.blob ≡ o.M.OpenedMessage.contents l.initial.message → all_true (match_each (drop l.item-index l.items) (AnEmail texts (email_in_thread l.content.content.emails l.email))) ≡ all_true (match_each l.items (AnEmail texts (email_in_thread l.content.content.emails l.email))))

abbrev pub invariant-match_some_term-loop-item : goal.invariant-match_some_term-loop-item
invariant-match_some_term-loop-item o l =
    (o.M.OpenedMessage.contents l.message ≡ o.M.OpenedMessage.contents l.initial.message)
    × ((texts : ℕ → MessageTexts) → texts l.email.blob ≡ o.M.OpenedMessage.contents l.initial.message → some_true (match_each (drop l.item-index l.items) (AnEmail texts (email_in_thread l.content.content.emails l.email))) ≡ some_true (match_each l.items (AnEmail texts (email_in_thread l.content.content.emails l.email))))
