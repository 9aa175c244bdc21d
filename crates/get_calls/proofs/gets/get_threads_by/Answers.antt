use Rattle.std.proofs.Common.{◌≡◌, ℕ, List, length, ◌≤◌, ◌∙◌, subst, sym, ap, map, option_map, Option}
use Rattle.mail_records.specs.declared.records.Thread.{Thread}
use Rattle.mail_view.specs.Gets.{Got, got, got_unless, get_records}
use Rattle.mail_view.specs.Threads.{thread_named, thread_properties, thread_view}
use Rattle.method_args.specs.declared.TheConstants.{MAX_OBJECTS_PER_CALL}
use Rattle.mail_view.specs.Records.{asked_records, asked_count}
use Rattle.get_args.specs.Selection.{names_in, invalid_selection, invalid_properties}
use Rattle.get_calls.specs.Members.{thread_without}
use Rattle.get_calls.proofs.Answered.{answered, refused_first, refused_next, thread_views, too_many}
use Rattle.get_calls.proofs.gets.get_threads_by.Goals as goal

pub returns-clause-ok : goal.returns-clause-ok
returns-clause-ok c =
    let ts = c.args.content.now.content.threads in
    let args = c.args.args.now in
    let names = names_in args in
    let ids : Option (List (List ℕ)) = option_map (λ v. map (λ t. t.now) v.items) c.in_ok-selection.selection.ids in
    let records : List Thread = asked_records (thread_named ts) ts ids in
    let answer : Got = get_records (thread_named ts) (thread_view names) ts c.args.state args in
    let hidden = ap (map (λ h. h.now)) c.as_slice.ensures.value ∙ c.in_ok-hidden.ensures.hidden in
    let objects = c.in_ok-found.ensures.objects ∙ ap (λ hs. map (thread_without hs) records) hidden ∙ thread_views names records in
    ap (λ o. got_unless o (got_unless (invalid_properties thread_properties args) answer)) c.in_ok-selection.ensures.ok
    ∙ ap (λ o. got_unless o answer) c.in_ok-hidden.ensures.ok
    ∙ answered (thread_named ts) (thread_view names) ts c.args.state args _ _ _ _ c.in_ok-selection.ensures.account c.in_ok-selection.ensures.ids
    (subst (λ n. n ≤ MAX_OBJECTS_PER_CALL) (c.count_asked.ensures ∙ ap (λ n. asked_count n ids) (ap length c.threads.ensures.items)) c.if-count_asked-gt-MAX_OBJECTS_PER_CALL.false)
    objects c.in_ok-found.ensures.unknown
    ∙ ap got (sym c.in_ok-write_response.ensures)

pub returns-in_err-selection-clause-err : goal.returns-in_err-selection-clause-err
returns-in_err-selection-clause-err c =
    let ts = c.args.content.now.content.threads in
    let args = c.args.args.now in
    let answer : Got = get_records (thread_named ts) (thread_view (names_in args)) ts c.args.state args in
    refused_first c.from_residual.result _ (invalid_selection args) (got_unless (invalid_properties thread_properties args) answer) c.from_residual.ensures.1 c.in_err-selection.ensures.err

pub returns-in_err-hidden-clause-err : goal.returns-in_err-hidden-clause-err
returns-in_err-hidden-clause-err c =
    let ts = c.args.content.now.content.threads in
    let args = c.args.args.now in
    let answer : Got = get_records (thread_named ts) (thread_view (names_in args)) ts c.args.state args in
    refused_next c.from_residual-in_err-hidden.result _ (invalid_selection args) (invalid_properties thread_properties args) answer c.from_residual-in_err-hidden.ensures.1 c.in_ok-selection.ensures.ok c.in_err-hidden.ensures.err

pub returns-then-count_asked-gt-MAX_OBJECTS_PER_CALL-clause-err : goal.returns-then-count_asked-gt-MAX_OBJECTS_PER_CALL-clause-err
returns-then-count_asked-gt-MAX_OBJECTS_PER_CALL-clause-err c =
    let ts = c.args.content.now.content.threads in
    let args = c.args.args.now in
    let names = names_in args in
    let ids : Option (List (List ℕ)) = option_map (λ v. map (λ t. t.now) v.items) c.in_ok-selection.selection.ids in
    let answer : Got = get_records (thread_named ts) (thread_view names) ts c.args.state args in
    ap (λ o. got_unless o (got_unless (invalid_properties thread_properties args) answer)) c.in_ok-selection.ensures.ok
    ∙ ap (λ o. got_unless o answer) c.in_ok-hidden.ensures.ok
    ∙ too_many (thread_named ts) (thread_view names) ts c.args.state args ids _ c.in_ok-selection.ensures.ids (c.count_asked.ensures ∙ ap (λ n. asked_count n ids) (ap length c.threads.ensures.items))
    c.if-count_asked-gt-MAX_OBJECTS_PER_CALL.true
