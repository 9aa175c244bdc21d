use Rattle.std.proofs.Common.{◌≡◌, ◌++◌, length, string_bytes}
use Rattle.client_cache.specs.Views.{list_view}
use Rattle.client_lines.specs.Lines.{email_lines, list_text}
use Rattle.client_lines.specs.Pieces.{HasPut}
use Rattle.client_lines.proofs.list.write_list.Given as goal

abbrev pub invariant-emails : goal.invariant-emails
invariant-emails g l = record {
  put : HasPut (list_text l.cache (list_view l.list)) (string_bytes l.waiting ++ email_lines l.cache l.rest) (g.O.Sink.held l.fn.out) (g.O.Sink.held l.out);
  count : g.O.Sink.faults l.out ≡ g.O.Sink.faults l.fn.out;
}

abbrev pub decreases-emails : goal.decreases-emails
decreases-emails g l = length l.rest
