use Rattle.std.proofs.Common.{◌≡◌, ◌≤◌, ◌++◌, drop}
use Rattle.header_forms.specs.declared.address_characters.State.TheVariants.{Outside}
use Rattle.header_forms.specs.AddressCharacters.{characters_from, depth_of}
use Rattle.header_forms.proofs.character_contexts.read_all.Given as goal

abbrev pub invariant-loop-c : goal.invariant-loop-c
invariant-loop-c l = record {
  same : l.read.items ++ characters_from l.state (drop l.c-index l.characters) ≡ characters_from Outside l.characters;
  depth : depth_of l.state ≤ l.c-index;
}
