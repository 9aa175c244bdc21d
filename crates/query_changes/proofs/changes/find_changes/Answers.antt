use Rattle.std.proofs.Common.{◌≡◌, ap, ◌∙◌, sym, subst}
use Rattle.jm_base.specs.declared.identifiers.Kind.{Kind}
use Rattle.mail_records.specs.Histories.{History}
use Rattle.change_calls.specs.Changes.{reached_state}
use Rattle.query_changes.specs.Deltas.{AreOf, DeltaFails, IsShown, answer_of, answer_within, answered, delta_of}
use Rattle.query_changes.proofs.Finding.{answer_delta, err_so, ok_so, within_fails, within_shown}
use Rattle.query_changes.proofs.changes.find_changes.Goals as goal

pub returns-in_ok-make_delta-in-Some-clause-delta : goal.returns-in_ok-make_delta-in-Some-clause-delta
returns-in_ok-make_delta-in-Some-clause-delta g c =
    let l = c.args.log.now in
    let q = c.args.query.now in
    let texts = g.T.Texts2.texts c.args.texts.now in
    let since = c.args.since.now in
    let d = c.in_ok-make_delta-in-Some.field-0 in
    ok_so c.keep_within.result (λ kept. answer_within c.args.max d ≡ answered kept)
    (λ kept. (h : History) → AreOf h l c.args.content.now.content → IsShown c.args.counted kept (answer_of h q texts since c.args.max))
    (λ kept is h are.
    subst (IsShown c.args.counted kept)
    (sym (answer_delta h q texts since c.args.max c.in-Some.from (c.in-Some.ensures.state h are.log ∙ ap (λ (k : Kind). reached_state h k since) c.kind.ensures)))
    (within_shown c.args.counted c.args.max d (delta_of h q texts c.in-Some.from) (c.in_ok-make_delta-in-Some.ensures h are) kept is))
    c.keep_within.ensures.delta

pub returns-in_ok-make_delta-in-Some-clause-fault : goal.returns-in_ok-make_delta-in-Some-clause-fault
returns-in_ok-make_delta-in-Some-clause-fault g c =
    let l = c.args.log.now in
    let q = c.args.query.now in
    let texts = g.T.Texts2.texts c.args.texts.now in
    let since = c.args.since.now in
    let d = c.in_ok-make_delta-in-Some.field-0 in
    err_so c.keep_within.result (λ fault. DeltaFails fault (answer_within c.args.max d))
    (λ fault. (h : History) → AreOf h l c.args.content.now.content → DeltaFails fault (answer_of h q texts since c.args.max))
    (λ fault is h are.
    subst (DeltaFails fault)
    (sym (answer_delta h q texts since c.args.max c.in-Some.from (c.in-Some.ensures.state h are.log ∙ ap (λ (k : Kind). reached_state h k since) c.kind.ensures)))
    (within_fails c.args.counted c.args.max d (delta_of h q texts c.in-Some.from) (c.in_ok-make_delta-in-Some.ensures h are) fault is))
    c.keep_within.ensures.fault
