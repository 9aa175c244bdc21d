use Rattle.std.proofs.Common.{◌≡◌, drop}
use Rattle.std.specs.List.{list_all}
use Rattle.message_texts.specs.Plain.{is_plain}
use Rattle.message_texts.proofs.plain_value.is_plain_value.Given as goal

abbrev pub invariant-loop-byte : goal.invariant-loop-byte
invariant-loop-byte l = list_all is_plain (drop l.byte-index l.value) ≡ list_all is_plain l.value
