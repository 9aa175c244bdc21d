use Rattle.std.proofs.Common.{◌≡◌, ◌+◌, cond, sym, ap, ◌∙◌, arith, length}
use Rattle.mail_records.specs.Edits.{id_of}
use Rattle.mail_records.specs.States.{is_kind_of}
use Rattle.mail_counts.specs.Plans.{Ground}
use Rattle.mail_counts.proofs.StateAfter.{state_after-none, state_after-more, state_after-all}
use Rattle.mail_counts.proofs.state.find_state_after.Goals as goal

pub loop-i-init : goal.loop-i-init
loop-i-init c = λ (g : Ground) state end. sym state ∙ sym (state_after-none c.args.kind g c.args.edits.now)

pub loop-i-preserved : goal.loop-i-preserved
loop-i-preserved c =
    λ (g : Ground) state end.
    c.compute_state_after_edit-after.ensures
    ∙ (ap (λ n. cond (is_kind_of c.args.kind (id_of c.index-edits-i.result)) (c.args.last + c.loop-i.i + 1) n) (c.loop-i.invariant g state end)
    ∙ sym (state_after-more c.args.kind g c.args.edits.now c.loop-i.i c.args.last c.index-edits-i.result end c.loop-i-test.true c.index-edits-i.is))

pub returns : goal.returns
returns c =
    λ (g : Ground) state end.
    let all : length c.args.edits.now ≡ c.loop-i.i = omega (arith, c.loop-i.auto.i-end, c.loop-i-test.false) in
    c.loop-i.invariant g state end ∙ state_after-all c.args.kind g c.args.edits.now c.loop-i.i all
