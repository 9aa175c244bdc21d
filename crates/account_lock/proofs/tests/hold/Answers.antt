use Rattle.std.proofs.Common.{◌++◌, [], sym, ap, ◌∙◌}
use Rattle.std.proofs.lemmas.List.{append-nil}
use Rattle.account_lock.specs.Views.{PassFacts}
use Rattle.account_lock.proofs.tests.hold.Goals as goal

pub give-requires-clause-entries : goal.give-requires-clause-entries
give-requires-clause-entries g c = ([], sym (ap (λ (k : PassFacts). k.seen ++ []) c.take-diary.ensures.pass ∙ append-nil _), tt)
