use Rattle.std.proofs.Common.{◌++◌, ◌∷◌, sym, ap, ◌∙◌}
use Rattle.draft_writer.specs.Steps.{rows_text}
use Rattle.draft_writer.proofs.RowTexts.{holds_step}
use Rattle.draft_writer.proofs.parts.push_row.Goals as goal

pub returns-in_ok-push_holds-in-Holds-clause-text : goal.returns-in_ok-push_holds-in-Holds-clause-text
returns-in_ok-push_holds-in-Holds-clause-text c =
    let past = c.in_ok-push_holds-in-Holds.ensures in
    holds_step c.args.number c.args.progress.now.next c.push_holds.new.progress.next c.args.out.now.items c.push_holds.new.out.items
    c.args.progress.now.opened.items c.push_holds.new.progress.opened.items c.args.progress.now.blobs.now c.push_holds.new.progress.blobs.now
    c.in-Holds.head c.in-Holds.content c.args.more.now past.text past.next past.opened past.blobs
    ∙ ap (λ r. c.args.out.now.items ++ rows_text c.args.number c.args.progress.now.next c.args.progress.now.opened.items c.args.progress.now.blobs.now (r ∷ c.args.more.now))
    (sym c.in-Holds.is)
