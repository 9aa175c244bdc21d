use Rattle.std.proofs.Common.{ap, ◌∙◌, string_bytes}
use Rattle.jmap_commands.specs.Arguments.{showing}
use Rattle.jmap_commands.proofs.Numbers.{two_words, three_words, four_words}
use Rattle.jmap_commands.proofs.arguments.Command.of_arguments.Goals as goal

pub returns-in-len3 : goal.returns-in-len3
returns-in-len3 c = c.showing.ensures ∙ ap showing c.as_str-in-len3.ensures.value ∙ three_words string_bytes c.args.words.now c.word-item-then-words-lt4.result c.in-len3.len_at_least c.in-len3.len_below c.word-item-then-words-lt4.is

pub returns-in_default-2 : goal.returns-in_default-2
returns-in_default-2 c = two_words string_bytes c.args.words.now c.in_default.len_at_least c.in_default.len_below

pub returns-in_default-3 : goal.returns-in_default-3
returns-in_default-3 c = four_words string_bytes c.args.words.now c.in_default.len_at_least c.in_default.len_below
