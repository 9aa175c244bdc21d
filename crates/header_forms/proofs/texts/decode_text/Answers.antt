use Rattle.std.proofs.Common.{◌≡◌, ◌∙◌, subst}
use Rattle.std.specs.Prelude.{IfOk}
use Rattle.std.proofs.lemmas.Str.{utf8_lossy-IsUtf8}
use Rattle.mime_words.specs.Words.{decoded_words}
use Rattle.header_forms.proofs.texts.decode_text.Goals as goal

pub returns : goal.returns
returns c =
    subst (λ s. IfOk c.decode_words.result (λ t. t ≡ decoded_words s)) (utf8_lossy-IsUtf8 c.as_bytes.result.now c.as_bytes.ensures.utf8 ∙ c.as_bytes.ensures.value)
    c.decode_words.ensures
