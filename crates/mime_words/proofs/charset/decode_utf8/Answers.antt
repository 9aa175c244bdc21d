use Rattle.std.proofs.Common.{◌≡◌, sym, subst, ◌∙◌}
use Rattle.std.specs.Result.{MatchResult}
use Rattle.std.specs.Str.{IsUtf8, IsValidUpTo, valid_up_to}
use Rattle.std.proofs.lemmas.Str.{utf8_lossy-IsUtf8}
use Rattle.mime_words.proofs.Bytes.{broken_utf8}
use Rattle.mime_words.proofs.charset.decode_utf8.Goals as goal

pub returns-in_ok-from_str-in-Ok-clause-text : goal.returns-in_ok-from_str-in-Ok-clause-text
returns-in_ok-from_str-in-Ok-clause-text c =
    let bytes = c.args.bytes.now in
    let valid = subst (λ r. MatchResult r (λ s. (s.now ≡ bytes) × IsUtf8 bytes) (λ e. ¬ IsUtf8 bytes × IsValidUpTo bytes (valid_up_to e)))
    c.in-Ok.is c.from_utf8-read.ensures.cases in
    c.from_string.ensures ∙ c.in_ok-from_str-in-Ok.ensures.ok ∙ valid.0 ∙ sym (utf8_lossy-IsUtf8 bytes valid.1)

pub returns-in_ok-from_str-in-Ok-clause-problem : goal.returns-in_ok-from_str-in-Ok-clause-problem
returns-in_ok-from_str-in-Ok-clause-problem c =
    let bytes = c.args.bytes.now in
    c.is_err-problem.ensures.value
    ∙ broken_utf8 bytes (λ s. s.now ≡ bytes) (λ e. IsValidUpTo bytes (valid_up_to e)) c.from_utf8-read.result c.from_utf8-read.ensures.cases

pub returns-in_ok-from_utf8_lossy-in-Err-clause-problem :
    goal.returns-in_ok-from_utf8_lossy-in-Err-clause-problem
returns-in_ok-from_utf8_lossy-in-Err-clause-problem c =
    let bytes = c.args.bytes.now in
    c.is_err-problem.ensures.value
    ∙ broken_utf8 bytes (λ s. s.now ≡ bytes) (λ e. IsValidUpTo bytes (valid_up_to e)) c.from_utf8-read.result c.from_utf8-read.ensures.cases
