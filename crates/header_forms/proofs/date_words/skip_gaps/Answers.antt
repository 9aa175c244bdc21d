use Rattle.header_forms.proofs.Gaps.{words_left, word_left}
use Rattle.header_forms.proofs.date_words.skip_gaps.Goals as goal

pub returns-clause-value : goal.returns-clause-value
returns-clause-value c = words_left c.args.text.now c.skip_gap.result c.skip_gap.ensures.value

pub returns-clause-begins : goal.returns-clause-begins
returns-clause-begins c = word_left c.args.text.now c.skip_gap.result c.skip_gap.ensures.value
