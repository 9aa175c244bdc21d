use mir.Val.{to_z, of_z}
use Rattle.std.proofs.Common.{◌≡◌, ℤ, map, rules, subst, w64, ◌∙◌}
use Rattle.query_engine.specs.Walks.{IsRunStart, descending, matching}
use Rattle.query_engine.proofs.Walking.{before_on, before_rise, others_rise}
use Rattle.query_engine.proofs.rows.walk_descending.Goals as goal

pub run_start-requires : goal.run_start-requires
run_start-requires g c =
    others_rise g.E.Candidate.timed c.loop-last.left.now c.in-Some.others.now c.in-Some.last.now c.in-Some.ensures.cases.0 c.loop-last.invariant.0

pub loop-last-preserved : goal.loop-last-preserved
loop-last-preserved g c =
    let f = g.E.Candidate.timed in
    let left = c.loop-last.left.now in
    let others = c.in-Some.others.now in
    let last = c.in-Some.last.now in
    let is = c.in-Some.ensures.cases.0 in
    let rise = c.loop-last.invariant.0 in
    let start = c.run_start.result in
    let same : to_z w64 (of_z w64 c.received.result) ≡ c.received.result = search rules in
    let begins : IsRunStart (map f others) start (f last).received = subst (λ (t : ℤ). IsRunStart (map f others) start t) (same ∙ c.received.ensures) c.run_start.ensures in
    let q = c.args.query.now in
    let cc = c.args.content.now.content in
    let texts = g.T.Texts2.texts c.args.texts.now in
    let before = c.split_at.result.0.now in
    let run = c.split_at.result.1.now in (
      before_rise f left others last is rise start begins before c.split_at.ensures.front,
      before_on f left others last is rise start begins q cc texts c.args.page.now c.loop-last.page c.walk_ascending.new.page (matching q cc texts (descending (map f c.args.entries.now))) before run
          c.split_at.ensures.front c.split_at.ensures.back c.loop-last.invariant.1 c.in_ok-walk_ascending.ensures,
    )
