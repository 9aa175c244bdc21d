use Rattle.std.proofs.Common.{◌≡◌, ◌++◌, OnOk, map, refl, subst}
use Rattle.mail_counts.proofs.Found.{mailboxes_found}
use Rattle.mail_counts.proofs.following.add_recounted.Goals as goal

pub returns : goal.returns
returns c =
    let were = c.in_ok-were.were in
    let are = c.in_ok-are.are in
    subst (λ zs. OnOk c.add_counted_edits.result (c.add_counted_edits.new.edits.items ≡ c.args.edits.now.items ++ zs))
    (mailboxes_found c.args.content.now (map (λ r. r.now) c.args.were.now) (map (λ r. r.now) c.args.are.now) were are _
    c.in_ok-were.ensures c.in_ok-are.ensures refl c.requires.mailboxes)
    c.add_counted_edits.ensures
