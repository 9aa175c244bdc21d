use Rattle.std.proofs.Common.{length, sym, arith, ◌∙◌}
use Rattle.std.proofs.lemmas.List.Sums.{prefix_len_is}
use Rattle.mime_lines.specs.Fields.{is_name_byte}
use Rattle.mime_lines.proofs.scan.count_name_bytes.Goals as goal

pub returns-then-not-is_in_name-clause-value : goal.returns-then-not-is_in_name-clause-value
returns-then-not-is_in_name-clause-value c =
    sym (prefix_len_is is_name_byte c.args.line.now c.loop-i.i 0 (omega arith) c.loop-i.invariant (λ _. sym c.is_in_name.ensures ∙ c.if-not-is_in_name.true))

pub returns-clause-value : goal.returns-clause-value
returns-clause-value c =
    sym (prefix_len_is is_name_byte c.args.line.now (length c.args.line.now) 0 (omega arith) (λ k low. c.loop-i.invariant k (omega arith)) (λ low. absurd (omega arith)))
