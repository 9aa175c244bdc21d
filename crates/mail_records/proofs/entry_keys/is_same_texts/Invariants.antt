use Rattle.std.proofs.Common.{◌≡◌, take}
use Rattle.mail_records.proofs.entry_keys.is_same_texts.Given as goal

abbrev pub invariant-loop-index : goal.invariant-loop-index
invariant-loop-index l = take l.index l.one ≡ take l.index l.other
