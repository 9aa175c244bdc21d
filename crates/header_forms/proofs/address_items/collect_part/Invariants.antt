use Rattle.std.proofs.Common.{◌≡◌, ◌++◌, drop, string_bytes}
use Rattle.header_forms.specs.Addresses.{part_text}
use Rattle.header_forms.proofs.address_items.collect_part.Given as goal

abbrev pub invariant-loop-character : goal.invariant-loop-character
invariant-loop-character l = string_bytes l.out ++ part_text l.part (drop l.character-index l.characters) ≡ part_text l.part l.characters
