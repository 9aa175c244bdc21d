use Rattle.std.proofs.Common.{◌≡◌, IfOk, sym, subst, ◌∙◌, arith, rules}
use Rattle.filter_terms.specs.Compiled.{IsMatch}
use Rattle.filter_terms.specs.Targets.{AnEmail, email_in_thread}
use Rattle.filter_terms.specs.declared.compiled.Terms.{Terms}
use Rattle.filter_terms.proofs.Certain.{all_after, all_end, all_stops, join_decided, some_after, some_end, some_stops}
use Rattle.filter_terms.proofs.compiled.+email_holds.Goals as goal

pub match_all_terms-returns-then-not-branch-clause-value : goal.match_all_terms-returns-then-not-branch-clause-value
match_all_terms-returns-then-not-branch-clause-value g t c =
    λ texts e. all_stops c.args.items.now c.loop-item.item-index c.item-item.result c.in_ok-match_opened_email.field-0 (email_in_thread c.args.content.now.content.emails c.args.email.now) texts (omega arith) c.item-item.is (search rules) (c.in_ok-match_opened_email.ensures.value texts (e ∙ sym c.loop-item.invariant.0)) (c.loop-item.invariant.1 texts e)

pub match_all_terms-loop-item-preserved : goal.match_all_terms-loop-item-preserved
match_all_terms-loop-item-preserved g t c = (
  c.match_opened_email.ensures.same ∙ c.loop-item.invariant.0,
  λ texts e. all_after c.args.items.now c.loop-item.item-index c.item-item.result c.in_ok-match_opened_email.field-0 (email_in_thread c.args.content.now.content.emails c.args.email.now) texts (omega arith) c.item-item.is (search rules) (c.in_ok-match_opened_email.ensures.value texts (e ∙ sym c.loop-item.invariant.0)) (c.loop-item.invariant.1 texts e),
)

pub match_all_terms-returns-clause-value : goal.match_all_terms-returns-clause-value
match_all_terms-returns-clause-value g t c =
    λ texts e. all_end c.args.items.now c.loop-item.item-index (AnEmail texts (email_in_thread c.args.content.now.content.emails c.args.email.now)) (omega arith) (c.loop-item.invariant.1 texts e)

pub match_terms_with_texts-returns-in-Join-clause-value : goal.match_terms_with_texts-returns-in-Join-clause-value
match_terms_with_texts-returns-in-Join-clause-value g t c =
    let s = email_in_thread c.args.content.now.content.emails c.args.email.now in
    let m = g.M.OpenedMessage.contents c.args.message.now in
    subst (λ (terms : Terms). IfOk c.join_email_matches.result (IsMatch terms s m)) (sym c.in-Join.is)
    (join_decided c.in-Join.operator c.in-Join.items s m c.join_email_matches.result (rw c.deref.ensures.value at c.join_email_matches.ensures.value))

pub match_some_term-returns-then-branch-clause-value : goal.match_some_term-returns-then-branch-clause-value
match_some_term-returns-then-branch-clause-value g t c =
    λ texts e. some_stops c.args.items.now c.loop-item.item-index c.item-item.result c.in_ok-match_opened_email.field-0 (email_in_thread c.args.content.now.content.emails c.args.email.now) texts (omega arith) c.item-item.is (search rules) (c.in_ok-match_opened_email.ensures.value texts (e ∙ sym c.loop-item.invariant.0)) (c.loop-item.invariant.1 texts e)

pub match_some_term-loop-item-preserved : goal.match_some_term-loop-item-preserved
match_some_term-loop-item-preserved g t c = (
  c.match_opened_email.ensures.same ∙ c.loop-item.invariant.0,
  λ texts e. some_after c.args.items.now c.loop-item.item-index c.item-item.result c.in_ok-match_opened_email.field-0 (email_in_thread c.args.content.now.content.emails c.args.email.now) texts (omega arith) c.item-item.is (search rules) (c.in_ok-match_opened_email.ensures.value texts (e ∙ sym c.loop-item.invariant.0)) (c.loop-item.invariant.1 texts e),
)

pub match_some_term-returns-clause-value : goal.match_some_term-returns-clause-value
match_some_term-returns-clause-value g t c =
    λ texts e. some_end c.args.items.now c.loop-item.item-index (AnEmail texts (email_in_thread c.args.content.now.content.emails c.args.email.now)) (omega arith) (c.loop-item.invariant.1 texts e)
