use Rattle.std.proofs.Common.{◌∙◌, subst}
use Rattle.mail_records.specs.Orders.{AreWithLink}
use Rattle.thread_assign.proofs.by_links.find_first_with_link.Goals as goal
use Rattle.thread_assign.proofs.Links.{first_with_link}

pub returns : goal.returns
returns c =
    let content = c.args.content.now.content in
    let entries = c.with_link.result.now in
    c.find_first_on_subject.ensures
    ∙ first_with_link content c.args.link.now c.args.subject.now entries c.requires.table
    (subst (λ text. AreWithLink content text entries) c.as_bytes.ensures.value c.with_link.ensures)
