use Rattle.std.proofs.Common.{◌≡◌, drop}
use Rattle.mail_calls.specs.MessageTests.{are_same_texts}
use Rattle.mail_calls.proofs.validity.are_same_texts.Given as goal

abbrev pub invariant-loop-text : goal.invariant-loop-text
invariant-loop-text l = are_same_texts (drop l.text-index l.one) l.rest ≡ are_same_texts l.one l.other
