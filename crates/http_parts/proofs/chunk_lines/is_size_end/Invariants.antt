use Rattle.std.proofs.Common.{◌≡◌, length}
use Rattle.httparse.specs.Grammar.{skip_ows}
use Rattle.http_parts.proofs.chunk_lines.is_size_end.Given as goal

abbrev pub invariant-blank : goal.invariant-blank
invariant-blank l = skip_ows l.rest ≡ skip_ows l.text

abbrev pub decreases-blank : goal.decreases-blank
decreases-blank l = length l.rest
