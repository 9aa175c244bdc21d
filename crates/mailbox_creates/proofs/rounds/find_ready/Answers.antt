use Rattle.std.proofs.Common.{◌≡◌, length, sym, ap, ◌∙◌, arith}
use Rattle.set_parts.specs.Creates.{Creating}
use Rattle.mailbox_creates.specs.Views.{Follows}
use Rattle.set_parts.specs.Views.{create_of}
use Rattle.mailbox_creates.specs.Rounds.{stands}
use Rattle.mailbox_creates.proofs.Rounding.{searched_none, searched_more, searched_here, searched_all}
use Rattle.mailbox_creates.proofs.rounds.find_ready.Goals as goal

pub loop-i-init : goal.loop-i-init
loop-i-init c = λ (s : Creating) (f : Follows c.args.planner.now s). searched_none (stands s.made) c.args.drafts.now

pub loop-i-preserved : goal.loop-i-preserved
loop-i-preserved c =
    λ (s : Creating) (f : Follows c.args.planner.now s).
    searched_more (stands s.made) c.args.drafts.now c.loop-i.i c.index-drafts-i.result c.loop-i-test.true
    (ap (λ d. stands s.made (create_of d)) (sym c.index-drafts-i.is) ∙ (sym (c.is_ready.ensures s f) ∙ c.if-is_ready.false)) (c.loop-i.invariant s f)

pub returns-then-is_ready-clause-first : goal.returns-then-is_ready-clause-first
returns-then-is_ready-clause-first c =
    λ (s : Creating) (f : Follows c.args.planner.now s).
    searched_here (stands s.made) c.args.drafts.now c.loop-i.i c.index-drafts-i.result c.loop-i-test.true c.index-drafts-i.is (sym (c.is_ready.ensures s f) ∙ c.if-is_ready.true) (c.loop-i.invariant s f)

pub returns-clause-first : goal.returns-clause-first
returns-clause-first c =
    λ (s : Creating) (f : Follows c.args.planner.now s).
    let end : length c.args.drafts.now ≡ c.loop-i.i = omega arith in
    searched_all (stands s.made) c.args.drafts.now c.loop-i.i end (c.loop-i.invariant s f)
