use Rattle.std.proofs.Common.{◌++◌, ◌∷◌, [], None, Some, string_bytes, sym, ap, ◌∙◌, lit<, append_assoc, rules}
use Rattle.std.proofs.lemmas.Str.Pattern.{split_parts}
use Rattle.mime_lines.specs.Lines.{text, unfolded}
use Rattle.header_forms.proofs.Folds.{first_unfolded, last_unfolded}
use Rattle.header_forms.proofs.texts.unfold_text.Goals as goal

pub loop-line-preserved : goal.loop-line-preserved
loop-line-preserved c =
    let line = c.in-Some.line.now in
    let more = c.in-Some.more.now in
    let parts = split_parts 10 c.loop-line.rest.now (Some (c.in-Some.line, c.in-Some.more)) c.in-Some.ensures.cases (lit< tt) in
    record {
      text = search rules;
      same = ap (λ t. t ++ unfolded more) c.in_ok-push_line.ensures ∙ append_assoc (string_bytes c.loop-line.out) (text (line ++ 10 ∷ [])) (unfolded more)
          ∙ ap (λ t. string_bytes c.loop-line.out ++ t) (sym (ap unfolded parts.0 ∙ first_unfolded line more parts.1)) ∙ c.loop-line.invariant.same;
    }

pub returns : goal.returns
returns c =
    let none = split_parts 10 c.loop-line.rest.now None c.in_default.ensures.cases (lit< tt) in
    c.in_ok-push_str.ensures.bytes ∙ ap (λ t. string_bytes c.loop-line.out ++ t) (sym (last_unfolded c.loop-line.rest.now none)) ∙ c.loop-line.invariant.same
