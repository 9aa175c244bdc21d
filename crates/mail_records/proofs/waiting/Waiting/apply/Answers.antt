use Rattle.std.proofs.Common.{◌≡◌, sym, ap, ap₂, ◌∙◌, subst}
use Rattle.mail_records.specs.Contents.{Content}
use Rattle.mail_records.specs.Edits.{Fits, HasNext, after_edit}
use Rattle.mail_records.specs.Waiting.{without_records}
use Rattle.mail_records.proofs.WithoutAll.{Fits-waiting, HasNext-waiting, after-waiting, on_ok}
use Rattle.mail_records.proofs.waiting.Waiting.apply.Goals as goal

pub apply-requires-clause-fits : goal.apply-requires-clause-fits
apply-requires-clause-fits c =
    let e = c.args.edit.now in
    let now = c.settle.new.content.content in
    let same : without_records now c.settle.new.emails c.settle.new.threads ≡ c.args.self.now.content = c.settle.ensures.content ∙ ap (λ h. h.content) c.self.view_is in
    subst (λ (t : Type 0). t) (Fits-waiting now c.settle.new.emails c.settle.new.threads e c.settle.ensures.past) (subst (λ (x : Content). Fits x e) (sym same) c.requires.fits)

pub apply-requires-clause-next : goal.apply-requires-clause-next
apply-requires-clause-next c =
    let e = c.args.edit.now in
    let now = c.settle.new.content.content in
    let same : without_records now c.settle.new.emails c.settle.new.threads ≡ c.args.self.now.content = c.settle.ensures.content ∙ ap (λ h. h.content) c.self.view_is in
    subst (λ (t : Type 0). t) (HasNext-waiting now c.settle.new.emails c.settle.new.threads e) (subst (λ (x : Content). HasNext x e) (sym same) c.requires.next)

pub returns-then-note_drop : goal.returns-then-note_drop
returns-then-note_drop c =
    let e = c.args.edit.now in
    let now = c.settle.new.content.content in
    let same : without_records now c.settle.new.emails c.settle.new.threads ≡ c.args.self.now.content = c.settle.ensures.content ∙ ap (λ h. h.content) c.self.view_is in
    c.note_drop.ensures.noted c.if-note_drop.true now ∙ ap (λ (x : Content). after_edit x e) same

pub returns : goal.returns
returns c =
    let e = c.args.edit.now in
    let now = c.settle.new.content.content in
    let same : without_records now c.settle.new.emails c.settle.new.threads ≡ c.args.self.now.content = c.settle.ensures.content ∙ ap (λ h. h.content) c.self.view_is in
    let kept = c.note_drop.ensures.same c.if-note_drop.false in
    let es = c.settle.new.emails in
    let ts = c.settle.new.threads in
    on_ok c.apply.result
    (λ is.
    ap₂ (without_records c.apply.new.content.content) kept.0 kept.1
    ∙ (ap (λ (x : Content). without_records x es ts) is
    ∙ (sym (after-waiting now es ts e c.settle.ensures.tables c.settle.ensures.past) ∙ ap (λ (x : Content). after_edit x e) same)))
    c.apply.ensures.ok
