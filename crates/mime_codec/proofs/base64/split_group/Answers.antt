use Rattle.std.proofs.Common.{◌-◌, ◌∷◌, length, drop, length-drop, ap, sym, ◌∙◌, arith}
use Rattle.std.proofs.lemmas.List.{take_all}
use Rattle.mime_codec.specs.Base64.{letters}
use Rattle.mime_codec.proofs.Letters.{four_letters}
use Rattle.mime_codec.proofs.base64.split_group.Goals as goal

pub returns-clause-value : goal.returns-clause-value
returns-clause-value c =
    let text = c.args.text.now in
    let a = c.decode_letter-a.result in
    let b = c.decode_letter-b.result in
    let c' = c.decode_letter-c.result in
    let d = c.decode_letter-d.result in
    four_letters text a b c' d c.if-text-lt4.false
    (c.decode_letter-a.ensures.some c.if-a-eq-NO_LETTER.false) (c.decode_letter-b.ensures.some c.if-b-eq-NO_LETTER.false)
    (c.decode_letter-c.ensures.some c.if-c-eq-NO_LETTER.false) (c.decode_letter-d.ensures.some c.if-d-eq-NO_LETTER.false)
    ∙ ap (λ t. a ∷ b ∷ c' ∷ d ∷ letters t) (sym (take_all (length text - 4) (drop 4 text) (omega (arith, length-drop 4 text))))
