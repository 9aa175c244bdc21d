use Rattle.std.proofs.Common.{◌≡◌, sym, subst, arith}
use Rattle.filter_terms.specs.Compiled.{IsAlwaysMatch}
use Rattle.filter_terms.specs.Targets.{email_in_thread}
use Rattle.filter_terms.specs.declared.compiled.Terms.{Terms}
use Rattle.filter_terms.proofs.Certain.{all_after_true, all_after_unknown, all_at_false, all_ends, some_after_false, some_after_unknown, some_at_true, some_ends, join_known}
use Rattle.filter_terms.proofs.without_texts.+known.Goals as goal
use Rattle.filter_terms.proofs.without_texts.+known.Goals.{match_all_without_texts-in-Some-true, match_all_without_texts-in-None, match_some_without_texts-in-Some-false, match_some_without_texts-in-None}
use Rattle.std.proofs.Common.{IfSome}

pub match_all_without_texts-returns-in-Some-false : goal.match_all_without_texts-returns-in-Some-false
match_all_without_texts-returns-in-Some-false t c =
    all_at_false c.args.items.now c.loop-item.item-index c.item-item.result c.loop-item.all (email_in_thread c.args.content.now.content.emails c.args.email.now) (omega arith) c.item-item.is c.in-Some-false.field-0 c.in-Some-false.field-0-test (c.in-Some-false.ensures) c.loop-item.invariant

pub match_all_without_texts-loop-item-preserved : goal.match_all_without_texts-loop-item-preserved
match_all_without_texts-loop-item-preserved t c =
    let s = email_in_thread c.args.content.now.content.emails c.args.email.now in
    elim c.match-match_without_texts.branch [
      | match_all_without_texts-in-Some-true w ↦ rw w.all-is (all_after_true c.args.items.now c.loop-item.item-index c.item-item.result c.loop-item.all s (omega arith) c.item-item.is w.in-Some-true.field-0 w.in-Some-true.field-0-test w.in-Some-true.ensures c.loop-item.invariant)
      | match_all_without_texts-in-None w ↦ rw w.all-is (all_after_unknown c.args.items.now c.loop-item.item-index c.item-item.result c.loop-item.all s (omega arith) c.item-item.is c.loop-item.invariant)
    ]

pub match_all_without_texts-returns-then-all : goal.match_all_without_texts-returns-then-all
match_all_without_texts-returns-then-all t c =
    all_ends c.args.items.now c.loop-item.item-index (email_in_thread c.args.content.now.content.emails c.args.email.now) c.loop-item.all (omega arith) c.if-all.true c.loop-item.invariant

pub match_without_texts-returns-in-Join : goal.match_without_texts-returns-in-Join
match_without_texts-returns-in-Join t c =
    let s = email_in_thread c.args.content.now.content.emails c.args.email.now in
    subst (λ (terms : Terms). IfSome c.join_known_matches.result (IsAlwaysMatch terms s)) (sym c.in-Join.is) (join_known c.in-Join.operator c.in-Join.items s c.join_known_matches.result (rw c.deref.ensures.value at c.join_known_matches.ensures))

pub match_some_without_texts-returns-in-Some-true : goal.match_some_without_texts-returns-in-Some-true
match_some_without_texts-returns-in-Some-true t c =
    some_at_true c.args.items.now c.loop-item.item-index c.item-item.result c.loop-item.all (email_in_thread c.args.content.now.content.emails c.args.email.now) (omega arith) c.item-item.is c.in-Some-true.field-0 c.in-Some-true.field-0-test (c.in-Some-true.ensures) c.loop-item.invariant

pub match_some_without_texts-loop-item-preserved : goal.match_some_without_texts-loop-item-preserved
match_some_without_texts-loop-item-preserved t c =
    let s = email_in_thread c.args.content.now.content.emails c.args.email.now in
    elim c.match-match_without_texts.branch [
      | match_some_without_texts-in-Some-false w ↦ rw w.all-is (some_after_false c.args.items.now c.loop-item.item-index c.item-item.result c.loop-item.all s (omega arith) c.item-item.is w.in-Some-false.field-0 w.in-Some-false.field-0-test w.in-Some-false.ensures c.loop-item.invariant)
      | match_some_without_texts-in-None w ↦ rw w.all-is (some_after_unknown c.args.items.now c.loop-item.item-index c.item-item.result c.loop-item.all s (omega arith) c.item-item.is c.loop-item.invariant)
    ]

pub match_some_without_texts-returns-then-all : goal.match_some_without_texts-returns-then-all
match_some_without_texts-returns-then-all t c =
    some_ends c.args.items.now c.loop-item.item-index (email_in_thread c.args.content.now.content.emails c.args.email.now) c.loop-item.all (omega arith) c.if-all.true c.loop-item.invariant
