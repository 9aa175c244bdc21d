use Rattle.std.proofs.Common.{◌≡◌, ℕ, List, OnOk, Some, sym, subst}
use Rattle.mail_records.specs.Contents.{email_at, email_number}
use Rattle.mail_records.proofs.KeyTables.{lookup_number}
use Rattle.query_engine.specs.Walks.{Follows}
use Rattle.query_engine.proofs.Walked.{visited}
use Rattle.query_engine.proofs.rows.visit.Goals as goal

pub visit_email-requires-clause-there : goal.visit_email-requires-clause-there
visit_email-requires-clause-there g c =
    let cc = c.args.content.now.content in
    subst (λ (n : ℕ). email_at cc n ≡ Some c.in-Some.email.now) (sym (lookup_number email_number c.args.number cc.emails c.in-Some.email.now c.in-Some.ensures)) c.in-Some.ensures

pub returns-in-Some : goal.returns-in-Some
returns-in-Some g c =
    let cc = c.args.content.now.content in
    subst (λ (ns : List ℕ). OnOk c.visit_email.result (Follows cc c.args.page.now c.visit_email.new.page ns))
    (visited c.args.query.now cc (g.T.Texts2.texts c.args.texts.now) c.args.number c.in-Some.email.now c.in-Some.ensures c.requires) c.visit_email.ensures
