use Rattle.std.proofs.Common.{◌≡◌, take, IfOk, ap, subst, ◌∙◌}
use Rattle.std.specs.Str.{encode_utf8_all}
use Rattle.mail_summary.specs.Texts.{without_space}
use Rattle.mail_summary.specs.declared.characters.TheConstants.{MAX_SHOWN_CHARACTERS}
use Rattle.mail_summary.proofs.Prefixes.{front_without_space}
use Rattle.mail_summary.proofs.characters.shorten_spaced.Goals as goal

pub returns : goal.returns
returns c = subst (λ bytes. IfOk c.shorten.result (λ t. t ≡ bytes))
    (ap (λ cs. encode_utf8_all (take MAX_SHOWN_CHARACTERS cs)) (c.skip_space.ensures ∙ ap without_space c.as_slice.ensures.value)
    ∙ ap encode_utf8_all (front_without_space MAX_SHOWN_CHARACTERS _ _ c.in_ok-out.ensures.text))
    c.shorten.ensures
