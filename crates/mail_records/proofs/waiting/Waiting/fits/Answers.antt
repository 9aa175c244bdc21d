use Rattle.std.proofs.Common.{◌≡◌, ◌↔◌, IsTrue, sym, ap, ◌∙◌, subst}
use Rattle.mail_records.specs.Contents.{Content}
use Rattle.mail_records.specs.Edits.{Fits}
use Rattle.mail_records.specs.Waiting.{without_records}
use Rattle.mail_records.proofs.WithoutAll.{Fits-waiting}
use Rattle.mail_records.proofs.waiting.Waiting.fits.Goals as goal

pub returns-clause-same : goal.returns-clause-same
returns-clause-same c = c.settle.ensures.content ∙ ap (λ h. h.content) c.self.view_is

pub returns-clause-fits : goal.returns-clause-fits
returns-clause-fits c =
    let e = c.args.edit.now in
    let now = c.settle.new.content.content in
    let same : without_records now c.settle.new.emails c.settle.new.threads ≡ c.args.self.now.content = c.settle.ensures.content ∙ ap (λ h. h.content) c.self.view_is in
    subst (λ (x : Content). IsTrue c.fits.result ↔ Fits x e) same
    (subst (λ (t : Type 0). IsTrue c.fits.result ↔ t) (sym (Fits-waiting now c.settle.new.emails c.settle.new.threads e c.settle.ensures.past)) c.fits.ensures)
