use Rattle.std.proofs.Common.{refl}
use Rattle.std.specs.Str.{chars}
use lib.Utf8.{encode}
use Rattle.mime_words.specs.Words.{shape_at, word_at}
use Rattle.header_forms.proofs.laws.check_example_forms.Goals as goal

pub returns-clause-identifiers : goal.returns-clause-identifiers
unfolding chars encode
returns-clause-identifiers c = refl

pub returns-clause-addresses : goal.returns-clause-addresses
unfolding chars encode word_at shape_at
returns-clause-addresses c = refl

pub returns-clause-groups : goal.returns-clause-groups
unfolding chars encode word_at shape_at
returns-clause-groups c = refl

pub returns-clause-unclosed_quote : goal.returns-clause-unclosed_quote
unfolding chars encode word_at shape_at
returns-clause-unclosed_quote c = refl

pub returns-clause-unclosed_comment : goal.returns-clause-unclosed_comment
unfolding chars encode word_at shape_at
returns-clause-unclosed_comment c = refl

pub returns-clause-unclosed_bracket : goal.returns-clause-unclosed_bracket
unfolding chars encode word_at shape_at
returns-clause-unclosed_bracket c = refl

pub returns-clause-quotes_in_bracket : goal.returns-clause-quotes_in_bracket
unfolding chars encode word_at shape_at
returns-clause-quotes_in_bracket c = refl

pub returns-clause-plain_signs : goal.returns-clause-plain_signs
unfolding chars encode word_at shape_at
returns-clause-plain_signs c = refl
