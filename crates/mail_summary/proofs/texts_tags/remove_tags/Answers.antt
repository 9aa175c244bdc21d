use Rattle.std.proofs.Common.{◌++◌, ◌∷◌, None, Some, string_bytes, sym, ap, ◌∙◌, lit<, append_assoc, rules}
use Rattle.std.proofs.lemmas.Str.Pattern.{split_parts}
use Rattle.mail_summary.specs.Texts.{without_tags}
use Rattle.mail_summary.proofs.Tags.{tags_front, tags_last}
use Rattle.mail_summary.proofs.texts_tags.remove_tags.Goals as goal

pub loop-front-preserved : goal.loop-front-preserved
loop-front-preserved c =
    let out = string_bytes c.loop-front.out in
    let front = c.in-Some.front.now in
    let after = c.in-Some.after.now in
    let parts = split_parts 60 c.loop-front.rest.now (Some (c.in-Some.front, c.in-Some.after)) c.in-Some.ensures.cases (lit< tt) in
    record {
      text = search rules;
      same = c.in_ok-rest.ensures.value ∙ ap (λ t. t ++ without_tags (60 ∷ after)) c.in_ok-push_str.ensures.bytes
          ∙ append_assoc out front (without_tags (60 ∷ after))
          ∙ ap (λ t. out ++ t) (sym (ap without_tags parts.0 ∙ tags_front front (60 ∷ after) parts.1)) ∙ c.loop-front.invariant.same;
    }

pub returns : goal.returns
returns c =
    let none = split_parts 60 c.loop-front.rest.now None c.in_default.ensures.cases (lit< tt) in
    c.from_string.ensures ∙ c.in_ok-push_str-2.ensures.bytes
    ∙ ap (λ t. string_bytes c.loop-front.out ++ t) (sym (tags_last c.loop-front.rest.now none)) ∙ c.loop-front.invariant.same
