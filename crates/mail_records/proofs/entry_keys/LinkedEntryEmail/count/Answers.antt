use Rattle.std.proofs.Common.{◌∙◌, sym}
use Rattle.mail_records.proofs.Links.{link_count}
use Rattle.mail_records.proofs.entry_keys.LinkedEntryEmail.count.Goals as goal

pub returns : goal.returns
returns c = c.len.ensures ∙ sym (link_count c.args.row.now.number 0 c.args.row.now.summary.links)
