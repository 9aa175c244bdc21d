use Rattle.std.proofs.Common.{◌≡◌, length}
use Rattle.http_wire.specs.Fields.{lists_word}
use Rattle.http_wire.proofs.connection.lists_word.Given as goal

abbrev pub invariant-part : goal.invariant-part
invariant-part l = lists_word l.word l.rest ≡ lists_word l.word l.value

abbrev pub decreases-part : goal.decreases-part
decreases-part l = length l.rest
