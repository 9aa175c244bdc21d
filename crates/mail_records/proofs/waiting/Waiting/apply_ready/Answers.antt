use Rattle.std.proofs.Common.{◌≡◌, sym, ap, ap₂, ◌∙◌, subst}
use Rattle.mail_records.specs.Contents.{Content}
use Rattle.mail_records.specs.Edits.{Fits, HasNext, after_edit}
use Rattle.mail_records.specs.Waiting.{without_records}
use Rattle.mail_records.proofs.WithoutAll.{Fits-waiting, HasNext-waiting, after-waiting}
use Rattle.mail_records.proofs.waiting.Waiting.apply_ready.Goals as goal

pub apply_ready-requires-clause-fits : goal.apply_ready-requires-clause-fits
apply_ready-requires-clause-fits c =
    let e = c.args.edit in
    let now = c.settle.new.content.content in
    let same : without_records now c.settle.new.emails c.settle.new.threads ≡ c.args.self.now.content = c.settle.ensures.content ∙ ap (λ h. h.content) c.self.view_is in
    subst (λ (t : Type 0). t) (Fits-waiting now c.settle.new.emails c.settle.new.threads e c.settle.ensures.past) (subst (λ (x : Content). Fits x e) (sym same) c.requires.fits)

pub apply_ready-requires-clause-next : goal.apply_ready-requires-clause-next
apply_ready-requires-clause-next c =
    let e = c.args.edit in
    let now = c.settle.new.content.content in
    let same : without_records now c.settle.new.emails c.settle.new.threads ≡ c.args.self.now.content = c.settle.ensures.content ∙ ap (λ h. h.content) c.self.view_is in
    subst (λ (t : Type 0). t) (HasNext-waiting now c.settle.new.emails c.settle.new.threads e) (subst (λ (x : Content). HasNext x e) (sym same) c.requires.next)

pub returns-then-note_drop-clause-content : goal.returns-then-note_drop-clause-content
returns-then-note_drop-clause-content c =
    let e = c.args.edit in
    let now = c.settle.new.content.content in
    let same : without_records now c.settle.new.emails c.settle.new.threads ≡ c.args.self.now.content = c.settle.ensures.content ∙ ap (λ h. h.content) c.self.view_is in
    c.note_drop.ensures.noted c.if-note_drop.true now ∙ ap (λ (x : Content). after_edit x e) same

pub returns-clause-content : goal.returns-clause-content
returns-clause-content c =
    let e = c.args.edit in
    let now = c.settle.new.content.content in
    let same : without_records now c.settle.new.emails c.settle.new.threads ≡ c.args.self.now.content = c.settle.ensures.content ∙ ap (λ h. h.content) c.self.view_is in
    let kept = c.note_drop.ensures.same c.if-note_drop.false in
    ap₂ (without_records c.apply_ready.new.self.content) kept.0 kept.1
    ∙ (ap (λ (x : Content). without_records x c.settle.new.emails c.settle.new.threads) c.apply_ready.ensures.content
    ∙ (sym (after-waiting now c.settle.new.emails c.settle.new.threads e c.settle.ensures.tables c.settle.ensures.past) ∙ ap (λ (x : Content). after_edit x e) same))
