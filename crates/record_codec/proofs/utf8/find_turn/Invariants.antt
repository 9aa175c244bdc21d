use Rattle.std.proofs.Common.{◌≡◌, ◌-◌, drop, Some}
use Rattle.record_codec.specs.NextBytes.{start, turns}
use Rattle.record_codec.proofs.Loops.{from_here}
use Rattle.record_codec.proofs.utf8.find_turn.Given as goal

abbrev pub invariant-loop-at : goal.invariant-loop-at
invariant-loop-at l = from_here l.at l.turn (turns (Some l.follow) (l.room - l.at) (drop l.at l.text)) ≡ turns (Some start) l.room l.text
