use Rattle.std.proofs.Common.{◌+◌, ◌-◌, ◌∙◌, ap}
use Rattle.state_log.specs.Positions.{positions_of}
use Rattle.change_calls.proofs.Spread.{ids-since}
use Rattle.change_calls.proofs.Walked.{page_of-positions}
use Rattle.change_calls.proofs.pages.make_page.Goals as goal

pub mark_positions-requires-clause-positions : goal.mark_positions-requires-clause-positions
mark_positions-requires-clause-positions c =
    let l = c.args.log.now in
    c.positions_between-positions.ensures ∙ ap (positions_of c.args.kind (l.floor + (c.args.from - l.floor))) (ids-since l c.args.from c.end-end.result c.end-end.ensures)

pub returns : goal.returns
returns c =
    let l = c.args.log.now in
    let walk = c.in_ok-walk.walk in
    let positions = c.positions_between-positions.ensures ∙ ap (positions_of c.args.kind (l.floor + (c.args.from - l.floor))) (ids-since l c.args.from c.end-end.result c.end-end.ensures) in
    λ h kept.
    c.in_ok-page.ensures
    ∙ page_of-positions h l c.args.kind c.args.from c.args.max c.positions_between-positions.result.now walk.taken c.find_page_end-upto.result c.end-end.result c.find_state_at-new_state.result
    c.is_below-more.result walk.marks.entries kept c.requires positions c.in_ok-walk.ensures c.end-end.ensures c.find_page_end-upto.ensures c.is_below-more.ensures
    (c.find_state_at-new_state.ensures h kept.log)
