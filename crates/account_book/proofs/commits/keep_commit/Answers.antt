use Rattle.std.proofs.Common.{inl, inr, sym, ap, ◌∙◌, subst}
use Rattle.mail_records.specs.Histories.{Committed, Refused, grown}
use Rattle.record_codec.specs.Offsets.{IsEncodingOf}
use Rattle.account_book.specs.Keeping.{KnowsHistory, LeavesHistory}
use Rattle.account_book.proofs.KeptHistories.{knows_refused, knows_same, knows_taken, left_entered, left_not_taken, left_refused, left_taken, left_unentered, whole_refused}
use Rattle.account_book.proofs.commits.keep_commit.Goals as goal

pub returns-in_err-reserve-clause-content : goal.returns-in_err-reserve-clause-content
returns-in_err-reserve-clause-content g c =
    subst (KnowsHistory (g.K.Keeper.kept c.args.keeper.now)) (sym c.reserve.ensures.same) c.requires.content

pub returns-in_err-reserve-clause-left : goal.returns-in_err-reserve-clause-left
returns-in_err-reserve-clause-left g c leaves =
    subst (LeavesHistory (g.R.Rules.is_whole c.args.rules.now) (g.K.Keeper.image c.args.keeper.now)) (sym c.reserve.ensures.same) leaves

pub returns-in_err-reserve-clause-left_by : goal.returns-in_err-reserve-clause-left_by
returns-in_err-reserve-clause-left_by g c = inr (inl c.reserve.ensures.same, λ k i. inl i)

pub returns-in-Ok-clause-content : goal.returns-in-Ok-clause-content
returns-in-Ok-clause-content g c =
    let h = c.args.account.now.history in
    let one : IsEncodingOf c.as_slice-4.result.now c.args.commit = subst (λ b. IsEncodingOf b c.args.commit) (sym c.as_slice-4.ensures) c.in_ok-row.ensures.encoded in
    knows_taken (g.K.Keeper.kept c.args.keeper.now) (g.K.Keeper.kept c.append.new.self) h c.commit_ready.new.self.history c.as_slice-4.result.now c.args.commit c.requires.content one c.in-Ok.ensures.kept
    (c.commit_ready.ensures ∙ ap (λ k. grown k (Committed c.args.commit)) c.reserve.ensures.same)

pub returns-in-Ok-clause-left : goal.returns-in-Ok-clause-left
returns-in-Ok-clause-left g c leaves =
    let h = c.args.account.now.history in
    let one : IsEncodingOf c.as_slice-4.result.now c.args.commit = subst (λ b. IsEncodingOf b c.args.commit) (sym c.as_slice-4.ensures) c.in_ok-row.ensures.encoded in
    left_taken (g.R.Rules.is_whole c.args.rules.now) (g.K.Keeper.kept c.args.keeper.now) (g.K.Keeper.image c.append.new.self) h c.commit_ready.new.self.history c.as_slice-4.result.now c.args.commit c.requires.content one c.in-Ok.ensures.image
    (c.commit_ready.ensures ∙ ap (λ k. grown k (Committed c.args.commit)) c.reserve.ensures.same)

pub returns-in-Ok-clause-left_by : goal.returns-in-Ok-clause-left_by
returns-in-Ok-clause-left_by g c =
    let h = c.args.account.now.history in
    let one : IsEncodingOf c.as_slice-4.result.now c.args.commit = subst (λ b. IsEncodingOf b c.args.commit) (sym c.as_slice-4.ensures) c.in_ok-row.ensures.encoded in
    left_entered (g.K.Keeper.image c.args.keeper.now) (g.K.Keeper.image c.append.new.self) (g.K.Keeper.kept c.args.keeper.now) h c.commit_ready.new.self.history c.as_slice-4.result.now c.args.commit c.requires.content one c.in-Ok.ensures.image
    (c.commit_ready.ensures ∙ ap (λ k. grown k (Committed c.args.commit)) c.reserve.ensures.same)

pub returns-in-Err-Failed-clause-valid : goal.returns-in-Err-Failed-clause-valid
returns-in-Err-Failed-clause-valid g c =
    let laws = g.met.R.Rules g.world.𝓛 g.world.𝓜 g.world.𝓡 ((λ s x. x), (λ x. x), (λ x. x), λ x. x) in
    whole_refused (g.R.Rules.is_whole c.args.rules.now) (laws.ignores c.args.rules.now) c.args.account.now.history c.refuse_ready.new.self.history c.args.commit.stamp c.requires.valid
    (c.refuse_ready.ensures ∙ ap (λ k. grown k (Refused c.args.commit.stamp)) c.reserve.ensures.same)

pub returns-in-Err-Failed-clause-content : goal.returns-in-Err-Failed-clause-content
returns-in-Err-Failed-clause-content g c =
    knows_refused (g.K.Keeper.kept c.append.new.self) c.reserve.new.self.history c.refuse_ready.new.self.history c.args.commit.stamp
    (knows_same (g.K.Keeper.kept c.args.keeper.now) (g.K.Keeper.kept c.append.new.self) c.args.account.now.history c.reserve.new.self.history c.requires.content c.in-Err-Failed.ensures.kept c.reserve.ensures.same)
    c.refuse_ready.ensures

pub returns-in-Err-Failed-clause-left : goal.returns-in-Err-Failed-clause-left
returns-in-Err-Failed-clause-left g c leaves =
    let h = c.args.account.now.history in
    let whole = g.R.Rules.is_whole c.args.rules.now in
    let laws = g.met.R.Rules g.world.𝓛 g.world.𝓜 g.world.𝓡 ((λ s x. x), (λ x. x), (λ x. x), λ x. x) in
    let one : IsEncodingOf c.as_slice-4.result.now c.args.commit = subst (λ b. IsEncodingOf b c.args.commit) (sym c.as_slice-4.ensures) c.in_ok-row.ensures.encoded in
    left_refused whole (laws.ignores c.args.rules.now) (g.K.Keeper.image c.append.new.self) c.reserve.new.self.history c.refuse_ready.new.self.history c.args.commit.stamp
    (left_not_taken whole (g.K.Keeper.kept c.args.keeper.now) (g.K.Keeper.image c.args.keeper.now) (g.K.Keeper.image c.append.new.self)
    h c.reserve.new.self.history c.as_slice-4.result.now c.args.commit c.requires.content one c.requires.keeps c.in-Err-Failed.ensures.image c.reserve.ensures.same leaves)
    c.refuse_ready.ensures

pub returns-in-Err-Failed-clause-left_by : goal.returns-in-Err-Failed-clause-left_by
returns-in-Err-Failed-clause-left_by g c =
    let h = c.args.account.now.history in
    let one : IsEncodingOf c.as_slice-4.result.now c.args.commit = subst (λ b. IsEncodingOf b c.args.commit) (sym c.as_slice-4.ensures) c.in_ok-row.ensures.encoded in
    left_unentered (g.K.Keeper.image c.args.keeper.now) (g.K.Keeper.image c.append.new.self) (g.K.Keeper.kept c.args.keeper.now) h c.refuse_ready.new.self.history c.as_slice-4.result.now c.args.commit c.requires.content one c.in-Err-Failed.ensures.image
    (inr (c.refuse_ready.ensures ∙ ap (λ k. grown k (Refused c.args.commit.stamp)) c.reserve.ensures.same))

pub returns-clause-content : goal.returns-clause-content
returns-clause-content g c =
    knows_same (g.K.Keeper.kept c.args.keeper.now) (g.K.Keeper.kept c.append.new.self) c.args.account.now.history c.reserve.new.self.history c.requires.content c.in-Err-NoMemory.ensures.kept c.reserve.ensures.same

pub returns-clause-left : goal.returns-clause-left
returns-clause-left g c leaves =
    let h = c.args.account.now.history in
    let whole = g.R.Rules.is_whole c.args.rules.now in
    let one : IsEncodingOf c.as_slice-4.result.now c.args.commit = subst (λ b. IsEncodingOf b c.args.commit) (sym c.as_slice-4.ensures) c.in_ok-row.ensures.encoded in
    left_not_taken whole (g.K.Keeper.kept c.args.keeper.now) (g.K.Keeper.image c.args.keeper.now) (g.K.Keeper.image c.append.new.self)
    h c.reserve.new.self.history c.as_slice-4.result.now c.args.commit c.requires.content one c.requires.keeps c.in-Err-NoMemory.ensures.image c.reserve.ensures.same leaves

pub returns-clause-left_by : goal.returns-clause-left_by
returns-clause-left_by g c =
    let h = c.args.account.now.history in
    let one : IsEncodingOf c.as_slice-4.result.now c.args.commit = subst (λ b. IsEncodingOf b c.args.commit) (sym c.as_slice-4.ensures) c.in_ok-row.ensures.encoded in
    left_unentered (g.K.Keeper.image c.args.keeper.now) (g.K.Keeper.image c.append.new.self) (g.K.Keeper.kept c.args.keeper.now) h c.reserve.new.self.history c.as_slice-4.result.now c.args.commit c.requires.content one c.in-Err-NoMemory.ensures.image
    (inl c.reserve.ensures.same)
