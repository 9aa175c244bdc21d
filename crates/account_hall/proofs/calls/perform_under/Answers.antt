use Rattle.std.proofs.Common.{◌≡◌, ℕ, ◌^◌, ◌<◌, ◌++◌, drop, length, IfOk, OnErr, sym, ap, ◌∙◌, subst, arith}
use Rattle.mail_records.specs.Histories.{account_after, grown_by}
use Rattle.record_codec.specs.Sizes.{edit_bytes}
use Rattle.account_book.specs.Passes.{greatest_pass, named_since, numbered_since, pass_from}
use Rattle.account_book.specs.Replies.{IsReply}
use Rattle.account_hall.specs.Calls.{IsPerformed, point_at}
use Rattle.account_hall.specs.Halls.{entries_of}
use Rattle.account_hall.proofs.Gains.{extends_if, none_if, performed_if}
use Rattle.account_hall.proofs.calls.perform_under.Goals as goal

pub returns-clause-done : goal.returns-clause-done
returns-clause-done g c =
    let b = c.args.book.now.value in
    let n = c.perform-done.new.self in
    let r = c.perform-done.result in
    let e1 : c.deref.result.now ≡ b = c.deref.ensures in
    let e2 : c.deref-2.result.now ≡ b = c.deref-2.ensures in
    let em : c.deref_mut.result.now ≡ b = c.deref_mut.ensures.value in
    let e3 : c.deref-3.result.now ≡ n = c.deref-3.ensures in
    let o : n.opened ≡ b.opened = c.perform-done.ensures.opened ∙ ap (λ v. v.opened) em in
    let was : b.history ≡ grown_by b.opened b.since = subst (λ v. v.history ≡ grown_by v.opened v.since) e1 c.keeps.ensures.parts in
    let now : n.history ≡ grown_by n.opened n.since = subst (λ v. v.history ≡ grown_by v.opened v.since) e3 c.keeps-2.ensures.parts in
    let is : n.history ≡ grown_by b.opened n.since = now ∙ ap (λ h. grown_by h n.since) o in
    let more : n.since ≡ b.since ++ drop (length b.history.entries) n.history.entries = subst (λ v. n.since ≡ v.since ++ drop (length v.history.entries) n.history.entries) em c.perform-done.ensures.since in
    let named : named_since n.opened (numbered_since n.opened n.since) ≡ n.since = subst (λ v. named_since v.opened (numbered_since v.opened v.since) ≡ v.since) e3 c.keeps-2.ensures.passes in
    let named' : named_since b.opened (numbered_since b.opened n.since) ≡ n.since = subst (λ h. named_since h (numbered_since h n.since) ≡ n.since) o named in
    let far : c.args.number < 2 ^ 64 = omega arith in
    let pass : c.pass_of.result ≡ pass_from (greatest_pass b.opened.entries) c.args.number = c.pass_of.ensures ∙ ap (λ v. pass_from (greatest_pass v.opened.entries) c.args.number) e2 in
    let before = subst (λ v. IfOk r (λ d. d.before ≡ length v.history.entries)) em c.perform-done.ensures.before in
    let begins = subst (λ v. IfOk r (λ d. account_after n.history d.before ≡ v.history)) em c.perform-done.ensures.begins in
    let reply = subst (λ v. IfOk r (λ d. (account : ℕ) → IsReply (g.R.Rules.plan_of v.rules) edit_bytes n.history (point_at account d.before d.after c.args.moment) c.args.call.now (record { pass = c.pass_of.result; serial = c.args.serial }) d.out)) em c.perform-done.ensures.reply in
    let reply' = subst (λ p. IfOk r (λ d. (account : ℕ) → IsReply (g.R.Rules.plan_of b.rules) edit_bytes n.history (point_at account d.before d.after c.args.moment) c.args.call.now (record { pass = p; serial = c.args.serial }) d.out)) pass reply in
    let done = performed_if b.opened c.args.number c.args.serial far (g.R.Rules.plan_of b.rules) b.history n.history b.since n.since c.args.moment c.args.call.now r was is more named' before c.perform-done.ensures.after begins reply' in
    subst (λ h. IfOk r (λ d. IsPerformed (g.R.Rules.plan_of b.rules) b.opened (entries_of b) (numbered_since h n.since) c.args.number c.args.serial c.args.call.now c.args.moment d.before d.after d.out)) (sym o) done

pub returns-clause-none : goal.returns-clause-none
returns-clause-none g c =
    let b = c.args.book.now.value in
    let n = c.perform-done.new.self in
    let em : c.deref_mut.result.now ≡ b = c.deref_mut.ensures.value in
    let o : n.opened ≡ b.opened = c.perform-done.ensures.opened ∙ ap (λ v. v.opened) em in
    let more : n.since ≡ b.since ++ drop (length b.history.entries) n.history.entries = subst (λ v. n.since ≡ v.since ++ drop (length v.history.entries) n.history.entries) em c.perform-done.ensures.since in
    let same = subst (λ v. OnErr c.perform-done.result (n.history ≡ v.history)) em c.perform-done.ensures.no_memory in
    none_if c.perform-done.result b.history n.history b.opened n.opened b.since n.since o more same

pub returns-clause-extends : goal.returns-clause-extends
returns-clause-extends g c =
    extends_if (g.R.Rules.plan_of c.args.book.now.value.rules) c.args.book.now.value.opened (entries_of c.args.book.now.value) (entries_of c.perform-done.new.self) c.args.number c.args.serial c.args.moment c.args.call.now c.perform-done.result
    (returns-clause-done g c) (returns-clause-none g c)
