use Rattle.std.proofs.Common.{◌<◌, length, arith, subst}
use Rattle.mail_records.proofs.Links.{link_at, link_count}
use Rattle.mail_records.proofs.entry_keys.LinkedEntryEmail.entry_of.Goals as goal

pub returns-clause-key : goal.returns-clause-key
returns-clause-key c d =
    let row = c.args.row.now in
    let lt : c.args.index < length row.summary.links = subst (λ n. c.args.index < n) (link_count row.number 0 row.summary.links) c.requires in
    link_at row.number 0 c.args.index c.args.index row.summary.links d lt (omega arith)
