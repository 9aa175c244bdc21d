use Rattle.std.proofs.Common.{◌++◌, ◌∙◌, rules, refl, ap, subst, append_assoc}
use Rattle.jm_edge.proofs.Known.{consumes_on}
use Rattle.http_parts.specs.Searches.{IsSearched}
use Rattle.http_parts.proofs.GoneOn.{searched_on}
use Rattle.http_parts.proofs.Stopped.{stops_at_end, stops_at_fault}
use Rattle.http_parts.proofs.pieces.read_head.Goals as goal

pub returns-in-Err-clause-stops : goal.returns-in-Err-clause-stops
returns-in-Err-clause-stops g c =
    let left = g.L.Link.left in
    let faults = g.L.Link.read_faults in
    let r = c.in-Err.ensures.received in
    stops_at_fault c.args.bytes.now c.turn.bytes (left c.args.link.now) (left c.turn.link) (left c.read_piece.new.link) (faults c.args.link.now) (faults c.turn.link) (faults c.read_piece.new.link) c.in-Err.fault r.piece c.turn.invariant.gained
    r.consumed r.outcome.1 (search rules) c.turn.invariant.faults c.in-Err.ensures.cause

pub returns-then-count-eq0-clause-stops : goal.returns-then-count-eq0-clause-stops
returns-then-count-eq0-clause-stops g c =
    let left = g.L.Link.left in
    let r = c.in-Ok.ensures.received in
    stops_at_end c.args.bytes.now c.turn.bytes c.read_piece.new.bytes (left c.args.link.now) (left c.turn.link) (left c.read_piece.new.link) (g.L.Link.read_faults c.args.link.now) (g.L.Link.read_faults c.read_piece.new.link) c.find_cut.result r.piece c.turn.invariant.gained
    r.consumed (r.outcome.1 ∙ c.if-count-eq0.true) r.outcome.0 (search rules) (r.outcome.2 c.if-count-eq0.true) (search rules)

pub turn-preserved : goal.turn-preserved
turn-preserved g c =
    let left = g.L.Link.left in
    let i = c.turn.invariant in
    let r = c.in-Ok.ensures.received in
    record {
      gained = record {
        taken = i.gained.taken ++ r.piece;
        is = r.outcome.0 ∙ ap (λ b. b ++ r.piece) i.gained.is ∙ append_assoc c.args.bytes.now i.gained.taken r.piece;
        consumed = consumes_on (left c.args.link.now) (left c.turn.link) (left c.read_piece.new.link) i.gained.taken r.piece i.gained.consumed r.consumed;
      };
      searched = searched_on c.turn.bytes r.piece c.read_piece.new.bytes c.find_head.new.search (subst (λ b. IsSearched b c.find_head.new.search) c.as_slice.ensures (c.in-Unfinished.ensures.searched refl)) r.outcome.0;
      sized = search rules;
      faults = search rules;
      held = search rules;
      put_faults = search rules;
    }
