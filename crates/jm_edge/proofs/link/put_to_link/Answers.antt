use Rattle.std.proofs.Common.{ℕ, take, drop, arith, ◌∙◌, length-take, length-drop}
use Rattle.jm_edge.proofs.Known.{appends_on, take_further, take_within}
use Rattle.jm_edge.proofs.link.put_to_link.Goals as goal

pub put-preserved : goal.put-preserved
put-preserved g c =
    let l = c.put in
    let held = g.L.Link.held in
    let n = c.in_ok-count.count in
    let piece = c.args.piece.now in
    let bytes = rw (take_within piece l.at n c.in_ok-count.ensures.bound) at c.in_ok-count.ensures.bytes in record {
      bytes = rw (take_further piece l.at n) (appends_on (held c.args.link.now) (held l.link) (held c.put-in-put.new.self) (take l.at piece) (take n (drop l.at piece)) l.invariant.bytes bytes);
      inside = omega (arith, c.in_ok-count.ensures.bound, length-take {A = ℕ}, length-drop {A = ℕ});
      faults = c.in_ok-count.ensures.ok_count ∙ l.invariant.faults;
      left = c.put-in-put.ensures.left ∙ l.invariant.left;
      read_faults = c.put-in-put.ensures.read_faults ∙ l.invariant.read_faults;
    }
