use Rattle.std.proofs.Common.{◌≡◌, List, [], ◌++◌, map, drop, sym, ap, ◌∙◌, subst, append-nil}
use Rattle.std.proofs.lemmas.List.{drop_all}
use Rattle.mail_records.specs.Contents.{email_number}
use Rattle.mail_records.specs.Orders.{threaded_owner}
use Rattle.mail_records.specs.Tables.{IsTable}
use Rattle.mail_records.specs.declared.entries.Threaded.{Threaded}
use Rattle.query_changes.proofs.ThreadMembers.{with_thread}
use Rattle.query_changes.proofs.touched.push_thread.Goals as goal

pub returns : goal.returns
returns c =
    let entries = c.find_in_thread-entries.result.now in
    let numbers = c.loop-entry.numbers.items in
    let none : drop c.loop-entry.entry-index entries ≡ [] = drop_all c.loop-entry.entry-index entries c.loop-entry-test.false in
    let all : numbers ≡ c.args.numbers.now.items ++ map threaded_owner entries =
    sym (append-nil numbers) ∙ (ap (λ (ts : List Threaded). numbers ++ map threaded_owner ts) (sym none) ∙ c.loop-entry.invariant) in
    with_thread c.args.content.now.content c.args.thread entries c.args.numbers.now.items numbers
    (subst (IsTable email_number) c.emails-emails.ensures.items c.emails-emails.ensures.table) c.find_in_thread-entries.ensures all
