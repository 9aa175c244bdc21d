use Rattle.std.proofs.Common.{◌≡◌, ◌≤◌, ◌+◌, min, length, drop, Some}
use Rattle.record_codec.specs.NextBytes.{start, least_length}
use Rattle.record_codec.proofs.utf8.find_least_length.Given as goal

abbrev pub invariant-loop-at : goal.invariant-loop-at
invariant-loop-at l = (l.least ≤ length l.text + 1) × (min (l.at + least_length (Some l.follow) (drop l.at l.text)) l.least ≡ least_length (Some start) l.text)
