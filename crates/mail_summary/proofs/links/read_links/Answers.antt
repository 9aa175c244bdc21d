use Rattle.std.proofs.Common.{◌≡◌, List, ℕ, [], ◌++◌, filter, codes, ap, ◌∙◌}
use Rattle.mime_lines.specs.FieldOffsets.{last_value_of}
use Rattle.mail_summary.specs.Links.{if_value, ids_of, gathered, is_short}
use Rattle.mail_summary.proofs.LinkFacts.{three}
use Rattle.mail_summary.proofs.links.read_links.Goals as goal

pub returns : goal.returns
returns c =
    let bytes = c.args.bytes.now in
    let ids : (name : List ℕ) → if_value (last_value_of bytes name c.args.fields.now) ≡ ids_of bytes name =
    λ name. ap (λ fs. if_value (last_value_of bytes name fs)) c.requires.fields in
    let own : List (List ℕ) = c.in_ok-own.own in
    let parent : List (List ℕ) = c.in_ok-parent.parent in
    let others : List (List ℕ) = c.in_ok-others.others in
    record {
      value = c.from_vec.ensures
          ∙ three c.new.result.items own parent others c.in_ok-kept.kept.items c.in_ok-kept-2.kept.items c.in_ok-put_all.field-0.items
          c.new.ensures.items c.in_ok-kept.ensures c.in_ok-kept-2.ensures c.in_ok-put_all.ensures
          ∙ ap (λ ids. gathered [] (filter is_short (ids ++ (parent ++ others)))) (c.in_ok-own.ensures ∙ ids (codes "Message-ID"))
          ∙ ap (λ more. gathered [] (filter is_short (ids_of bytes (codes "Message-ID") ++ (more ++ others)))) (c.in_ok-parent.ensures ∙ ids (codes "In-Reply-To"))
          ∙ ap (λ more. gathered [] (filter is_short (ids_of bytes (codes "Message-ID") ++ (ids_of bytes (codes "In-Reply-To") ++ more)))) (c.in_ok-others.ensures ∙ ids (codes "References"));
    }
