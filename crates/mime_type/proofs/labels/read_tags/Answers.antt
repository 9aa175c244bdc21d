use Rattle.std.proofs.Common.{◌++◌, ◌∷◌, [], sym, ap, subst, ◌∙◌, append_assoc, lit<}
use Rattle.std.specs.Str.{IsUtf8}
use Rattle.mime_type.specs.Labels.{items, languages_in}
use Rattle.mime_type.proofs.Tags.{tags_first, tags_last, after_comma-utf8}
use Rattle.mime_type.proofs.labels.read_tags.Goals as goal

pub loop-tag-preserved : goal.loop-tag-preserved
loop-tag-preserved c =
    let rest = c.loop-tag.rest.now in
    let tag = c.in-Some.tag.now in
    let after = c.in-Some.after.now in
    let found = c.in-Some.ensures.byte (lit< tt) (λ w o f. f) in
    record {
      utf8 = subst IsUtf8 (sym found.1) (after_comma-utf8 rest c.loop-tag.invariant.utf8 found.2);
      tags = ap (λ t. t ++ languages_in after) c.in_ok-push_tag.ensures ∙ append_assoc c.loop-tag.tags (items (tag ∷ [])) (languages_in after)
          ∙ ap (λ t. c.loop-tag.tags ++ t) (sym (tags_first rest tag after found.0 found.1 found.2)) ∙ c.loop-tag.invariant.tags;
    }

pub returns : goal.returns
returns c = c.in_ok-push_tag-2.ensures ∙ ap (λ t. c.loop-tag.tags ++ t) (sym (tags_last c.loop-tag.rest.now (c.in_default.ensures.byte (lit< tt) (λ w o f. f)))) ∙ c.loop-tag.invariant.tags
