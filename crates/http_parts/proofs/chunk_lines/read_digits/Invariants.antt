use Rattle.std.proofs.Common.{◌≡◌, ◌<◌, ◌≤◌, ◌-◌, ◌^◌, length}
use Rattle.std.specs.Str.Parse.{digits_value, digits_value_after}
use Rattle.http_parts.specs.ChunkParts.{AreHexDigits}
use Rattle.http_parts.proofs.chunk_lines.read_digits.Given as goal

abbrev pub invariant-digit : goal.invariant-digit
invariant-digit l = record {
  few : length l.rest ≤ 16;
  digits : AreHexDigits l.rest;
  fits : l.value < 16 ^ (16 - length l.rest);
  same : digits_value_after 16 l.value l.rest ≡ digits_value 16 l.digits;
}

abbrev pub decreases-digit : goal.decreases-digit
decreases-digit l = length l.rest
