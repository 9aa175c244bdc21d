use Rattle.std.proofs.Common.{◌++◌, ◌∷◌, [], None, Some, string_bytes, sym, ap, ◌∙◌, lit<}
use Rattle.std.proofs.lemmas.Str.Pattern.{strip_suffix_char}
use Rattle.mime_lines.specs.Lines.{text}
use Rattle.header_forms.proofs.Folds.{text_crlf, text_lf}
use Rattle.header_forms.proofs.texts.push_line.Goals as goal

pub returns-in_ok-push_str-in-Some : goal.returns-in_ok-push_str-in-Some
returns-in_ok-push_str-in-Some c =
    let is = strip_suffix_char 13 c.args.line.now (Some c.in-Some.front) c.in-Some.ensures.cases (lit< tt) in
    c.in_ok-push_str-in-Some.ensures.bytes
    ∙ ap (λ t. string_bytes c.args.out.now ++ t) (sym (ap (λ l. text (l ++ 10 ∷ [])) is ∙ text_crlf c.in-Some.front.now))

pub returns-in_ok-push_str-in-None : goal.returns-in_ok-push_str-in-None
returns-in_ok-push_str-in-None c =
    let other = strip_suffix_char 13 c.args.line.now None c.in-None.ensures.cases (lit< tt) in
    c.in_ok-push_str-in-None.ensures.bytes ∙ ap (λ t. string_bytes c.args.out.now ++ t) (sym (text_lf c.args.line.now other))
