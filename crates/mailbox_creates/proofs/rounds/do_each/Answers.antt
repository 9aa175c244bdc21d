use Rattle.std.proofs.Common.{refl, sym, ◌∙◌, subst, arith}
use Rattle.set_parts.specs.Creates.{Creating}
use Rattle.mailbox_creates.specs.Creates.{after_create}
use Rattle.mailbox_creates.specs.Views.{Follows}
use Rattle.set_parts.specs.Views.{create_of}
use Rattle.mailbox_creates.proofs.Rounding.{each_step, each_end}
use Rattle.mailbox_creates.proofs.rounds.do_each.Goals as goal

pub loop-i-init : goal.loop-i-init
loop-i-init c = record { room = omega arith; follows = λ (s : Creating) f. (s, f, refl) }

pub loop-i-preserved : goal.loop-i-preserved
loop-i-preserved c =
    let room = c.loop-i.invariant.room in
    let next = c.in_ok-perform_create.ensures.next in
    record {
      room = omega arith;
      follows = λ (s : Creating) f.
          let was = c.loop-i.invariant.follows s f in (
            after_create was.0 (create_of c.index-drafts-i.result),
            c.in_ok-perform_create.ensures.follows was.0 was.1,
            sym (each_step was.0 c.args.drafts.now c.loop-i.i c.index-drafts-i.result c.loop-i-test.true c.index-drafts-i.is) ∙ was.2,
          );
    }

pub returns : goal.returns
returns c =
    λ (s : Creating) f.
    let was = c.loop-i.invariant.follows s f in
    subst (Follows c.loop-i.planner) (sym (each_end was.0 c.args.drafts.now c.loop-i.i c.loop-i-test.false) ∙ was.2) was.1
