use Rattle.std.proofs.Common.{rules, ◌≡◌, ◌↔◌, ◌+◌, ◌∷◌, IsTrue, drop, sym, ap, ◌∙◌, subst}
use Rattle.std.proofs.lemmas.List.{drop_more}
use Rattle.mail_records.specs.Contents.{Content}
use Rattle.mail_records.specs.Edits.{Fits, KeepsThread, after_edit}
use Rattle.mail_records.proofs.EditSteps.{come_further}
use Rattle.mail_records.proofs.fitting.apply_fitting.Goals as goal

pub loop-edit-preserved : goal.loop-edit-preserved
loop-edit-preserved c =
    let edits = c.args.edits.now in
    let i = c.loop-edit.edit-index in
    let e = c.edit-item.result in
    let old = c.loop-edit.waiting.content in
    let tried : c.fits.new.self.content ≡ old = c.fits.ensures.same in
    let seen : c.has_kept_threads-keeps_threads.new.waiting.content ≡ old = c.has_kept_threads-keeps_threads.ensures.same ∙ tried in
    let fit : Fits old e = search rules in
    let keep : IsTrue c.has_kept_threads-keeps_threads.result ↔ (IsTrue c.loop-edit.keeps_threads × KeepsThread old e) =
    subst (λ (x : Content). IsTrue c.has_kept_threads-keeps_threads.result ↔ (IsTrue c.loop-edit.keeps_threads × KeepsThread x e)) tried c.has_kept_threads-keeps_threads.ensures.kept in
    let rest : drop i edits ≡ e ∷ drop (i + 1) edits = drop_more edits i e c.loop-edit-test.true ∙ ap (λ x. x ∷ drop (i + 1) edits) (sym c.edit-item.is) in
    come_further c.args.content.content old c.apply.new.self.content edits (drop i edits) (drop (i + 1) edits) e c.loop-edit.keeps_threads
    c.has_kept_threads-keeps_threads.result rest (c.in_ok-apply.ensures ∙ ap (λ (x : Content). after_edit x e) seen) fit keep c.loop-edit.invariant
