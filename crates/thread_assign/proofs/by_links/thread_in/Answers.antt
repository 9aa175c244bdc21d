use Rattle.std.proofs.Common.{◌∙◌, ap₂, subst}
use Rattle.mail_records.specs.Contents.{email_number}
use Rattle.mail_records.specs.Tables.{IsTable}
use Rattle.thread_assign.specs.Candidates.{lesser}
use Rattle.thread_assign.proofs.by_links.thread_in.Goals as goal
use Rattle.thread_assign.proofs.Lesser.{no_link, one_link_more}

pub loop-link-init : goal.loop-link-init
loop-link-init c = no_link c.args.summary.now.subject c.args.content.now.content.emails

pub loop-link-preserved : goal.loop-link-preserved
loop-link-preserved c =
    let emails = c.args.content.now.content.emails in
    c.choose_lesser-best.ensures
    ∙ (ap₂ lesser c.loop-link.invariant c.find_first_with_link.ensures
    ∙ one_link_more c.as_slice-links.result.now c.args.summary.now.subject emails c.loop-link.link-index c.link-item.result
    (subst (IsTable email_number) c.emails-emails.ensures.items c.emails-emails.ensures.table) c.loop-link-test.true c.link-item.is)
