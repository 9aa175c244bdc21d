use Rattle.std.proofs.Common.{◌≡◌, length}
use Rattle.std.specs.List.{list_all}
use Rattle.std.specs.Char.{is_ascii_digit}
use Rattle.http_wire.proofs.SaidLengths.{Says}
use Rattle.http_wire.proofs.lengths.read_number.Given as goal

abbrev pub invariant-digit : goal.invariant-digit
invariant-digit l = record {
  digits : list_all is_ascii_digit l.rest ≡ list_all is_ascii_digit l.text;
  says : Says l.text l.rest l.value;
}

abbrev pub decreases-digit : goal.decreases-digit
decreases-digit l = length l.rest
