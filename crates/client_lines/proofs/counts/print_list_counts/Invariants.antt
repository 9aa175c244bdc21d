use Rattle.std.proofs.Common.{◌≡◌, ◌++◌, length, map, string_bytes}
use Rattle.client_cache.specs.Views.{list_view}
use Rattle.client_lines.specs.Lines.{list_counts}
use Rattle.client_lines.specs.Pieces.{HasPut}
use Rattle.client_lines.proofs.counts.print_list_counts.Given as goal

abbrev pub invariant-lists : goal.invariant-lists
invariant-lists g l = record {
  put : HasPut (string_bytes l.fn.lines ++ list_counts (map list_view l.fn.lists)) (string_bytes l.waiting ++ list_counts (map list_view l.rest)) (g.O.Sink.held l.fn.out) (g.O.Sink.held l.out);
  count : g.O.Sink.faults l.out ≡ g.O.Sink.faults l.fn.out;
}

abbrev pub decreases-lists : goal.decreases-lists
decreases-lists g l = length l.rest
