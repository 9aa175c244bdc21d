use Rattle.std.proofs.Common.{◌≡◌, ℕ, ◌<◌, get_or, true}
use Rattle.header_forms.specs.DateWords.{is_in_word}
use Rattle.header_forms.proofs.date_words.count_word_bytes.Given as goal

abbrev pub invariant-loop-i : goal.invariant-loop-i
invariant-loop-i l = (k : ℕ) → k < l.i → is_in_word (get_or l.text k 0) ≡ true
