use Rattle.std.proofs.Common.{◌≡◌, length}
use Rattle.hall_port.specs.Lines.{first_changeable}
use Rattle.hall_port.proofs.lines.find_changeable.Given as goal

abbrev pub invariant-account : goal.invariant-account
invariant-account l = first_changeable l.rest ≡ first_changeable l.accounts

abbrev pub decreases-account : goal.decreases-account
decreases-account l = length l.rest
