use Rattle.std.proofs.Common.{◌≡◌, ◌↔◌, IsTrue, sym, ap, ◌∙◌, subst}
use Rattle.mail_records.specs.Contents.{Content}
use Rattle.mail_records.specs.Edits.{KeepsThread}
use Rattle.mail_records.specs.Waiting.{without_records}
use Rattle.mail_records.proofs.WithoutAll.{KeepsThread-waiting}
use Rattle.mail_records.proofs.waiting.Waiting.keeps_thread.Goals as goal

pub returns-clause-same : goal.returns-clause-same
returns-clause-same c = c.settle.ensures.content ∙ ap (λ h. h.content) c.self.view_is

pub returns-clause-keeps : goal.returns-clause-keeps
returns-clause-keeps c =
    let e = c.args.edit.now in
    let now = c.settle.new.content.content in
    let same : without_records now c.settle.new.emails c.settle.new.threads ≡ c.args.self.now.content = c.settle.ensures.content ∙ ap (λ h. h.content) c.self.view_is in
    subst (λ (x : Content). IsTrue c.keeps_thread.result ↔ KeepsThread x e) same
    (subst (λ (t : Type 0). IsTrue c.keeps_thread.result ↔ t) (sym (KeepsThread-waiting now c.settle.new.emails c.settle.new.threads e c.settle.ensures.past)) c.keeps_thread.ensures)
