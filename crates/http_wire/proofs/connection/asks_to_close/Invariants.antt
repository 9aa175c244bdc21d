use Rattle.std.proofs.Common.{◌≡◌, length, codes}
use Rattle.std.specs.List.{list_any}
use Rattle.http_wire.specs.Fields.{pairs, values_of, lists_word}
use Rattle.http_wire.proofs.connection.asks_to_close.Given as goal

abbrev pub invariant-field : goal.invariant-field
invariant-field l = list_any (lists_word (codes "close")) (values_of (codes "Connection") (pairs l.rest)) ≡ list_any (lists_word (codes "close")) (values_of (codes "Connection") (pairs l.fields))

abbrev pub decreases-field : goal.decreases-field
decreases-field l = length l.rest
