use Rattle.std.proofs.Common.{not, ap, ◌∙◌, string_bytes, rules}
use Rattle.std.specs.List.{filter}
use Rattle.std.specs.Str.{IsUtf8, encode_utf8_all}
use Rattle.std.proofs.lemmas.List.Elements.{filter_from_retain}
use Rattle.std.proofs.lemmas.Str.{chars_from_encodes}
use Rattle.header_forms.specs.Texts.{is_zero}
use Rattle.header_forms.proofs.texts.drop_zeros.Goals as goal

pub returns : goal.returns
returns c =
    let r = c.retain.ensures.filtered in
    let utf8 : IsUtf8 (string_bytes c.args.text.now) = (r.all, (r.are, r.spell)) in
    r.stay ∙ ap encode_utf8_all (filter_from_retain _ (λ x. not (is_zero x)) (λ p x b q k. search rules) _ r.all r.kept r.chosen
    ∙ ap (filter (λ x. not (is_zero x))) (chars_from_encodes r.all _ utf8 r.spell))
