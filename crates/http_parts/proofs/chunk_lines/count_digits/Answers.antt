use Rattle.std.proofs.Common.{length, sym, arith, ◌∙◌}
use Rattle.std.proofs.lemmas.List.Sums.{prefix_len_is}
use Rattle.std.specs.Char.{is_ascii_hexdigit}
use Rattle.http_parts.proofs.chunk_lines.count_digits.Goals as goal

pub returns-then-not-is_ascii_hexdigit-clause-value : goal.returns-then-not-is_ascii_hexdigit-clause-value
returns-then-not-is_ascii_hexdigit-clause-value c =
    sym (prefix_len_is is_ascii_hexdigit c.args.text.now c.loop-i.i 0 (omega arith) c.loop-i.invariant (λ _. sym c.is_ascii_hexdigit.ensures.value ∙ c.if-not-is_ascii_hexdigit.true))

pub returns-clause-value : goal.returns-clause-value
returns-clause-value c =
    sym (prefix_len_is is_ascii_hexdigit c.args.text.now (length c.args.text.now) 0 (omega arith) (λ k low. c.loop-i.invariant k (omega arith)) (λ low. absurd (omega arith)))
