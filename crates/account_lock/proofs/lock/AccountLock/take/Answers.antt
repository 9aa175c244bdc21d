use Rattle.std.proofs.Common.{rules, ap, ◌∙◌, ◌∷◌, Some}
use Rattle.account_lock.proofs.lock.AccountLock.take.Goals as goal

pub lift-value-requires-clause-ready : goal.lift-value-requires-clause-ready
lift-value-requires-clause-ready g c = let got = c.await_turn.ensures.got in (ap (λ m. m.0.turn) got.1, (got.0, ap (λ m. m.1) got.1 ∙ ap (λ cs. (0, Some got.0) ∷ cs) (search rules)))
