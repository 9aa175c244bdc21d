use Rattle.std.proofs.Common.{length, sym, arith, ◌∙◌}
use Rattle.std.proofs.lemmas.List.Sums.{prefix_len_is}
use Rattle.header_forms.specs.DateWords.{is_in_word}
use Rattle.header_forms.proofs.date_words.count_word_bytes.Goals as goal

pub returns-then-not-is_in_word-clause-value : goal.returns-then-not-is_in_word-clause-value
returns-then-not-is_in_word-clause-value c =
    sym (prefix_len_is is_in_word c.args.text.now c.loop-i.i 0 (omega arith) c.loop-i.invariant (λ _. sym c.is_in_word.ensures ∙ c.if-not-is_in_word.true))

pub returns-clause-value : goal.returns-clause-value
returns-clause-value c =
    sym (prefix_len_is is_in_word c.args.text.now (length c.args.text.now) 0 (omega arith) (λ k low. c.loop-i.invariant k (omega arith)) (λ low. absurd (omega arith)))
