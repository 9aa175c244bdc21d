use Rattle.std.proofs.Common.{◌≡◌, ℕ, List, length, ◌≤◌, ◌∙◌, subst, sym, ap, map, option_map, Option, Some, false}
use Rattle.mail_view.specs.Gets.{got, got_unless, emails_by}
use Rattle.mail_view.specs.Emails.{email_named, email_view}
use Rattle.method_args.specs.declared.TheConstants.{MAX_OBJECTS_PER_CALL}
use Rattle.mail_view.specs.Records.{asked_count}
use Rattle.get_args.specs.Wanted.{wanted_by}
use Rattle.get_args.specs.Selection.{invalid_selection}
use Rattle.get_calls.proofs.Answered.{answered, refused_first, refused_wanted, too_many}
use Rattle.get_calls.proofs.gets.get_emails_by.Goals as goal

pub returns-clause-ok : goal.returns-clause-ok
returns-clause-ok c =
    let content = c.args.content.now.content in
    let es = content.emails in
    let args = c.args.args.now in
    let blobs = c.args.blobs.now.blobs in
    let wanted = c.in_ok-wanted.wanted in
    ap (λ o. got_unless o (emails_by content blobs c.args.state args (wanted_by (Some args) false))) c.in_ok-selection.ensures.ok
    ∙ ap (emails_by content blobs c.args.state args) c.in_ok-wanted.ensures.ok
    ∙ answered (email_named es) (email_view blobs wanted) es c.args.state args _ _ _ _ c.in_ok-selection.ensures.account c.in_ok-selection.ensures.ids
    (subst (λ n. n ≤ MAX_OBJECTS_PER_CALL) (c.count_asked.ensures ∙ ap (λ n. asked_count n (option_map (λ v. map (λ t. t.now) v.items) c.in_ok-selection.selection.ids)) (ap length c.emails.ensures.items)) c.if-count_asked-gt-MAX_OBJECTS_PER_CALL.false)
    c.in_ok-found.ensures.objects c.in_ok-found.ensures.unknown
    ∙ ap got (sym c.in_ok-write_response.ensures)

pub returns-in_err-selection-clause-err : goal.returns-in_err-selection-clause-err
returns-in_err-selection-clause-err c =
    let args = c.args.args.now in
    refused_first c.from_residual.result _ (invalid_selection args) (emails_by c.args.content.now.content c.args.blobs.now.blobs c.args.state args (wanted_by (Some args) false)) c.from_residual.ensures.1 c.in_err-selection.ensures.err

pub returns-in_err-wanted-clause-err : goal.returns-in_err-wanted-clause-err
returns-in_err-wanted-clause-err c =
    let args = c.args.args.now in
    refused_wanted c.from_residual-in_err-wanted.result _ (invalid_selection args) (wanted_by (Some args) false) c.args.content.now.content c.args.blobs.now.blobs c.args.state args
    c.from_residual-in_err-wanted.ensures.1 c.in_ok-selection.ensures.ok c.in_err-wanted.ensures.err

pub returns-then-count_asked-gt-MAX_OBJECTS_PER_CALL-clause-err : goal.returns-then-count_asked-gt-MAX_OBJECTS_PER_CALL-clause-err
returns-then-count_asked-gt-MAX_OBJECTS_PER_CALL-clause-err c =
    let content = c.args.content.now.content in
    let es = content.emails in
    let args = c.args.args.now in
    let blobs = c.args.blobs.now.blobs in
    let wanted = c.in_ok-wanted.wanted in
    let ids : Option (List (List ℕ)) = option_map (λ v. map (λ t. t.now) v.items) c.in_ok-selection.selection.ids in
    ap (λ o. got_unless o (emails_by content blobs c.args.state args (wanted_by (Some args) false))) c.in_ok-selection.ensures.ok
    ∙ ap (emails_by content blobs c.args.state args) c.in_ok-wanted.ensures.ok
    ∙ too_many (email_named es) (email_view blobs wanted) es c.args.state args ids _ c.in_ok-selection.ensures.ids (c.count_asked.ensures ∙ ap (λ n. asked_count n ids) (ap length c.emails.ensures.items))
    c.if-count_asked-gt-MAX_OBJECTS_PER_CALL.true
