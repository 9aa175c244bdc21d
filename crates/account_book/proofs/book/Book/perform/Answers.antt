use Rattle.std.proofs.Common.{rules, ◌≡◌, inl, length, subst}
use Rattle.jm_base.specs.declared.memory.NoMemory.{NoMemory}
use Rattle.record_codec.specs.Sizes.{edit_bytes}
use Rattle.account_book.specs.Keeping.{IsLeftBy}
use Rattle.account_book.specs.Replies.{IsIdle, IsWithin, commit_of}
use Rattle.account_book.proofs.Answering.{IsReply-entered, IsReply-unavailable, kept_entered, none_of_same, unrefused_counted}
use Rattle.account_book.proofs.Parts.{begins_entered, cause_entered, entered_grows}
use Rattle.account_book.proofs.book.Book.perform.Goals as goal

pub returns-in_default-clause-reply : goal.returns-in_default-clause-reply
returns-in_default-clause-reply g c =
    let h = c.args.self.now.history in
    let p = c.in_ok-plan.plan in
    let count : c.count-before.result ≡ length h.entries = search rules in
    let some : ¬ IsIdle p = search rules in
    let past : ¬ IsWithin edit_bytes h p.edits = search rules in
    IsReply-unavailable (g.R.Rules.plan_of c.args.self.now.rules) h p c.count-before.result c.args.moment c.args.call.now c.args.stamp c.in_ok-build_refusal.field-0
    count c.in_ok-plan.ensures.plan some past c.in_ok-build_refusal.ensures

pub returns-clause-reply : goal.returns-clause-reply
returns-clause-reply g c =
    let h = c.args.self.now.history in
    let p = c.in_ok-plan.plan in
    let count : c.count-before.result ≡ length h.entries = search rules in
    let more : c.count.result ≡ length c.enter.new.self.history.entries = search rules in
    let some : ¬ IsIdle p = search rules in
    let within : IsWithin edit_bytes h p.edits = search rules in
    IsReply-entered NoMemory (g.R.Rules.plan_of c.args.self.now.rules) h c.enter.new.self.history p c.count-before.result c.count.result c.args.moment c.args.call.now c.args.stamp c.in_ok-kept.kept c.answer_of.result c.in_ok-refused.refused
    count more c.in_ok-plan.ensures.plan some within c.in_ok-kept.ensures.entered c.answer_of.ensures c.in_ok-refused.ensures

pub returns-clause-begins : goal.returns-clause-begins
returns-clause-begins g c =
    let h = c.args.self.now.history in
    let count : c.count-before.result ≡ length h.entries = search rules in
    begins_entered c.enter.result h c.enter.new.self.history (commit_of c.in_ok-plan.plan c.args.stamp) c.count-before.result count c.enter.ensures.entered

pub returns-clause-cause : goal.returns-clause-cause
returns-clause-cause g c same =
    cause_entered c.enter.result c.args.self.now.history c.enter.new.self.history (commit_of c.in_ok-plan.plan c.args.stamp) _ _ c.enter.ensures.entered c.enter.ensures.cause same

pub enter-requires-clause-formed : goal.enter-requires-clause-formed
enter-requires-clause-formed g c = λ κs lives. c.in_ok-plan.ensures.formed c.args.stamp

pub enter-requires-clause-sound : goal.enter-requires-clause-sound
enter-requires-clause-sound g c =
    let within : IsWithin edit_bytes c.args.self.now.history c.in_ok-plan.plan.edits = search rules in
    λ κs lives. c.in_ok-plan.ensures.sound within c.args.stamp

pub returns-in_default-clause-kept : goal.returns-in_default-clause-kept
returns-in_default-clause-kept g c = inl (none_of_same c.args.self.now.history)

pub returns-clause-kept : goal.returns-clause-kept
returns-clause-kept g c =
    kept_entered c.enter.result c.args.self.now.history c.enter.new.self.history (commit_of c.in_ok-plan.plan c.args.stamp) _ _ c.enter.ensures.entered c.enter.ensures.cause

pub returns-clause-left : goal.returns-clause-left
returns-clause-left g c =
    let h = c.args.self.now.history in
    let k = c.enter.new.self.history in
    let image = g.K.Keeper.image in
    subst (λ p. IsLeftBy (image c.args.self.now.keeper) (image c.enter.new.self.keeper) h k (commit_of p c.args.stamp)) c.in_ok-plan.ensures.plan c.enter.ensures.left

pub returns-in_err-kept-clause-left : goal.returns-in_err-kept-clause-left
returns-in_err-kept-clause-left g c =
    let h = c.args.self.now.history in
    let k = c.enter.new.self.history in
    let image = g.K.Keeper.image in
    subst (λ p. IsLeftBy (image c.args.self.now.keeper) (image c.enter.new.self.keeper) h k (commit_of p c.args.stamp)) c.in_ok-plan.ensures.plan c.enter.ensures.left

pub returns-clause-untouched : goal.returns-clause-untouched
returns-clause-untouched g c same =
    absurd (entered_grows NoMemory c.in_ok-kept.kept c.args.self.now.history c.enter.new.self.history (commit_of c.in_ok-plan.plan c.args.stamp) c.in_ok-kept.ensures.entered same)

pub returns-clause-append_count : goal.returns-clause-append_count
returns-clause-append_count g c none =
    unrefused_counted NoMemory c.in_ok-kept.kept c.args.self.now.history c.enter.new.self.history (commit_of c.in_ok-plan.plan c.args.stamp) _ _ c.in_ok-kept.ensures.entered c.in_ok-kept.ensures.cause none
