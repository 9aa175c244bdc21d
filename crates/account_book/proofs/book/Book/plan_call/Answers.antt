use Rattle.std.proofs.Common.{◌≡◌, ◌++◌, ap, ap₂, sym, ◌∙◌, subst}
use Rattle.mail_records.specs.Commits.{IsFormed}
use Rattle.mail_records.specs.Histories.{Committed, IsSound, blobs_of, grown}
use Rattle.mail_records.specs.declared.edits.Stamp.{Stamp}
use Rattle.mail_records.proofs.Prefixes.{blobs_of-grown}
use Rattle.blob_store.specs.Blobs.{AreBlobsFew}
use Rattle.record_codec.specs.Sizes.{edit_bytes}
use Rattle.account_book.specs.Replies.{IsWithin, commit_of}
use Rattle.account_book.specs.declared.plans.Plan.{Plan}
use Rattle.account_book.proofs.Answering.{IfOk-weaken}
use Rattle.account_book.proofs.book.Book.plan_call.Goals as goal

pub returns-clause-keeps : goal.returns-clause-keeps
returns-clause-keeps g c =
    let r = c.args.self.now.rules in
    let h = c.args.self.now.history in
    let whole = g.R.Rules.is_whole in
    let plan = g.R.Rules.plan_of r h c.args.call.now c.args.moment in
    let Leaves = λ (p : Plan). IsWithin edit_bytes h p.edits → (stamp : Stamp) → whole r (grown h (Committed (commit_of p stamp))) in
    let stands : whole r h = subst (whole r) c.account.ensures.history c.account.ensures.whole in
    let laws = g.met.R.Rules g.world.𝓛 g.world.𝓜 g.world.𝓡 ((λ s x. x), (λ x. x), (λ x. x), λ x. x) in
    let leaves : Leaves plan = λ within stamp. laws.keeps r h c.args.call.now c.args.moment stamp c.requires.moment stands within in
    let is : g.R.Rules.plan_of c.self.inside.rules c.account.result.now.history c.args.call.now c.args.moment ≡ plan = ap₂ (λ s z. g.R.Rules.plan_of s z c.args.call.now c.args.moment) (ap (λ v. v.rules) c.self.view_is) c.account.ensures.history in
    IfOk-weaken c.plan.result _ Leaves (λ p e. subst Leaves (sym (e ∙ is)) leaves) c.plan.ensures

pub returns-clause-few : goal.returns-clause-few
returns-clause-few g c =
    let r = c.args.self.now.rules in
    let h = c.args.self.now.history in
    let whole = g.R.Rules.is_whole in
    let plan = g.R.Rules.plan_of r h c.args.call.now c.args.moment in
    let Leaves = λ (p : Plan). IsWithin edit_bytes h p.edits → AreBlobsFew (blobs_of h ++ p.blobs) in
    let stands : whole r h = subst (whole r) c.account.ensures.history c.account.ensures.whole in
    let laws = g.met.R.Rules g.world.𝓛 g.world.𝓜 g.world.𝓡 ((λ s x. x), (λ x. x), (λ x. x), λ x. x) in
    let stamp : Stamp = record { pass = 0; serial = 0 } in
    let leaves : Leaves plan = λ within. subst AreBlobsFew (blobs_of-grown h (Committed (commit_of plan stamp)))
    (laws.blobs r (grown h (Committed (commit_of plan stamp))) (laws.keeps r h c.args.call.now c.args.moment stamp c.requires.moment stands within)) in
    let is : g.R.Rules.plan_of c.self.inside.rules c.account.result.now.history c.args.call.now c.args.moment ≡ plan = ap₂ (λ s z. g.R.Rules.plan_of s z c.args.call.now c.args.moment) (ap (λ v. v.rules) c.self.view_is) c.account.ensures.history in
    IfOk-weaken c.plan.result _ Leaves (λ p e. subst Leaves (sym (e ∙ is)) leaves) c.plan.ensures

pub returns-clause-formed : goal.returns-clause-formed
returns-clause-formed g c =
    let r = c.args.self.now.rules in
    let h = c.args.self.now.history in
    let plan = g.R.Rules.plan_of r h c.args.call.now c.args.moment in
    let Leaves = λ (p : Plan). (stamp : Stamp) → IsFormed (commit_of p stamp) in
    let stands : g.R.Rules.is_whole r h = subst (g.R.Rules.is_whole r) c.account.ensures.history c.account.ensures.whole in
    let laws = g.met.R.Rules g.world.𝓛 g.world.𝓜 g.world.𝓡 ((λ s x. x), (λ x. x), (λ x. x), λ x. x) in
    let leaves : Leaves plan = λ stamp. laws.formed r h c.args.call.now c.args.moment stamp c.requires.moment stands in
    let is : g.R.Rules.plan_of c.self.inside.rules c.account.result.now.history c.args.call.now c.args.moment ≡ plan = ap₂ (λ s z. g.R.Rules.plan_of s z c.args.call.now c.args.moment) (ap (λ v. v.rules) c.self.view_is) c.account.ensures.history in
    IfOk-weaken c.plan.result _ Leaves (λ p e. subst Leaves (sym (e ∙ is)) leaves) c.plan.ensures

pub returns-clause-sound : goal.returns-clause-sound
returns-clause-sound g c =
    let r = c.args.self.now.rules in
    let h = c.args.self.now.history in
    let plan = g.R.Rules.plan_of r h c.args.call.now c.args.moment in
    let Leaves = λ (p : Plan). IsWithin edit_bytes h p.edits → (stamp : Stamp) → IsSound (grown h (Committed (commit_of p stamp))) in
    let stands : g.R.Rules.is_whole r h = subst (g.R.Rules.is_whole r) c.account.ensures.history c.account.ensures.whole in
    let laws = g.met.R.Rules g.world.𝓛 g.world.𝓜 g.world.𝓡 ((λ s x. x), (λ x. x), (λ x. x), λ x. x) in
    let leaves : Leaves plan = λ within stamp. laws.sound r (grown h (Committed (commit_of plan stamp))) (laws.keeps r h c.args.call.now c.args.moment stamp c.requires.moment stands within) in
    let is : g.R.Rules.plan_of c.self.inside.rules c.account.result.now.history c.args.call.now c.args.moment ≡ plan = ap₂ (λ s z. g.R.Rules.plan_of s z c.args.call.now c.args.moment) (ap (λ v. v.rules) c.self.view_is) c.account.ensures.history in
    IfOk-weaken c.plan.result _ Leaves (λ p e. subst Leaves (sym (e ∙ is)) leaves) c.plan.ensures
