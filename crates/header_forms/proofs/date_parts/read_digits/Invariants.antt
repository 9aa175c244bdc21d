use Rattle.std.proofs.Common.{◌≡◌, ◌<◌, ◌^◌, drop}
use Rattle.std.specs.Char.{is_ascii_digit}
use Rattle.std.specs.List.{list_all}
use Rattle.header_forms.specs.Dates.{value_from}
use Rattle.header_forms.proofs.date_parts.read_digits.Given as goal

abbrev pub invariant-loop-byte : goal.invariant-loop-byte
invariant-loop-byte l = record {
  all : list_all is_ascii_digit (drop l.byte-index l.word) ≡ list_all is_ascii_digit l.word;
  same : value_from l.value (drop l.byte-index l.word) ≡ value_from 0 l.word;
  bound : l.value < 10 ^ l.byte-index;
}
