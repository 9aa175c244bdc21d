use Rattle.std.proofs.Common.{◌≡◌, ◌+◌, drop}
use Rattle.std.specs.List.{position_or_len}
use Rattle.header_forms.specs.Addresses.{closes_bracket}
use Rattle.header_forms.proofs.address_items.find_closing_bracket.Given as goal

abbrev pub invariant-loop-i : goal.invariant-loop-i
invariant-loop-i l = l.i + position_or_len closes_bracket (drop l.i l.characters) ≡ position_or_len closes_bracket l.characters
