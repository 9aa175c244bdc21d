use Rattle.std.proofs.Common.{◌≡◌, length, reverse}
use Rattle.httparse.specs.Grammar.{skip_ows}
use Rattle.http_wire.proofs.connection.cut_blanks.Given as goal

abbrev pub invariant-blank : goal.invariant-blank
invariant-blank l = reverse (skip_ows (reverse l.rest)) ≡ reverse (skip_ows (reverse l.text))

abbrev pub decreases-blank : goal.decreases-blank
decreases-blank l = length l.rest
