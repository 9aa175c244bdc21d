use Rattle.std.proofs.Common.{length, sym, arith, ◌∙◌}
use Rattle.std.proofs.lemmas.List.Sums.{prefix_len_is}
use Rattle.mime_type.specs.Characters.{is_token}
use Rattle.mime_type.proofs.values.count_token_bytes.Goals as goal

pub returns-then-not-is_token-clause-value : goal.returns-then-not-is_token-clause-value
returns-then-not-is_token-clause-value c =
    sym (prefix_len_is is_token c.args.text.now c.loop-i.i 0 (omega arith) c.loop-i.invariant (λ _. sym c.is_token.ensures ∙ c.if-not-is_token.true))

pub returns-clause-value : goal.returns-clause-value
returns-clause-value c =
    sym (prefix_len_is is_token c.args.text.now (length c.args.text.now) 0 (omega arith) (λ k low. c.loop-i.invariant k (omega arith)) (λ low. absurd (omega arith)))
