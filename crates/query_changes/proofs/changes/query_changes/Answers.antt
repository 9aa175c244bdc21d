use Rattle.std.proofs.Common.{◌≡◌, true}
use Rattle.mail_records.specs.Histories.{History}
use Rattle.query_changes.specs.Deltas.{AreOf, IsShown, answer_of, answered}
use Rattle.query_changes.proofs.Finding.{ok_so, shown_whole}
use Rattle.query_changes.proofs.changes.query_changes.Goals as goal

pub returns-clause-delta : goal.returns-clause-delta
returns-clause-delta g c =
    let l = c.args.log.now in
    let q = c.args.query.now in
    let texts = g.T.Texts2.texts c.args.texts.now in
    let since = c.args.since.now in
    ok_so c.find_changes.result (λ d. (h : History) → AreOf h l c.args.content.now.content → IsShown true d (answer_of h q texts since c.args.max))
    (λ d. (h : History) → AreOf h l c.args.content.now.content → answer_of h q texts since c.args.max ≡ answered d)
    (λ d is h are. shown_whole d (answer_of h q texts since c.args.max) (is h are))
    c.find_changes.ensures.delta
