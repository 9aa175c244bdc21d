use Rattle.std.proofs.Common.{◌≡◌, ◌∙◌, ap, sym}
use Rattle.std.specs.Prelude.{option_map, Some}
use Rattle.std.proofs.lemmas.Str.{utf8_lossy-IsUtf8}
use Rattle.jm_json.specs.Tree.{text}
use Rattle.mime_words.specs.Words.{decoded_words}
use Rattle.header_forms.specs.Forms.{text_or_null}
use Rattle.mail_view.proofs.part.write_name.Goals as goal

pub returns-in_ok-decode_words-in-Some : goal.returns-in_ok-decode_words-in-Some
returns-in_ok-decode_words-in-Some c =
    ap text (c.in_ok-decode_words-in-Some.ensures
    ∙ ap decoded_words (utf8_lossy-IsUtf8 _ c.as_bytes.ensures.utf8 ∙ c.as_bytes.ensures.value))
    ∙ ap (λ o. text_or_null (option_map decoded_words o)) (sym c.in-Some.is)
