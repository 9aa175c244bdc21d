use Rattle.std.proofs.Common.{◌≡◌, ap, sym, ◌∙◌}
use Rattle.std.specs.Str.{IsValidUpTo, valid_up_to}
use Rattle.mime_words.specs.Charsets.{is_broken}
use Rattle.mime_words.proofs.Bytes.{broken_utf8, broken_ascii}
use Rattle.mime_words.proofs.charset.is_broken.Goals as goal

pub returns-in-Utf8 : goal.returns-in-Utf8
returns-in-Utf8 c =
    let bytes = c.args.bytes.now in
    c.is_err.ensures.value ∙ broken_utf8 bytes (λ s. s.now ≡ bytes) (λ e. IsValidUpTo bytes (valid_up_to e)) c.from_utf8.result c.from_utf8.ensures.cases
    ∙ sym (ap (λ k. is_broken k bytes) c.in-Utf8.is)

pub returns-in-Ascii : goal.returns-in-Ascii
returns-in-Ascii c =
    broken_ascii c.args.bytes.now c.is_ascii.result c.is_ascii.ensures.cases ∙ sym (ap (λ k. is_broken k c.args.bytes.now) c.in-Ascii.is)
