use Rattle.std.proofs.Common.{◌++◌, ◌∷◌, None, Some, ap, ◌∙◌, lit<}
use Rattle.std.proofs.lemmas.Str.Pattern.{split_parts}
use Rattle.header_forms.specs.Angles.{read}
use Rattle.header_forms.proofs.Angled.{no_bracket, not_closed, first_angle}
use Rattle.header_forms.proofs.angles.next_angle.Goals as goal

pub returns-in_default-clause-value : goal.returns-in_default-clause-value
returns-in_default-clause-value c = no_bracket c.args.text.now (split_parts 60 c.args.text.now None c.in_default.ensures.cases (lit< tt))

pub returns-in_default-split_once-clause-value : goal.returns-in_default-split_once-clause-value
returns-in_default-split_once-clause-value c =
    let opens = split_parts 60 c.args.text.now (Some (c.in-Some.field-0-0, c.in-Some.inner)) c.in-Some.ensures.cases (lit< tt) in
    let none = split_parts 62 c.in-Some.inner.now None c.in_default-split_once.ensures.cases (lit< tt) in
    ap (λ t. (read t).outside) opens.0 ∙ not_closed c.in-Some.field-0-0.now c.in-Some.inner.now opens.1 none

pub returns-clause-value : goal.returns-clause-value
returns-clause-value c =
    let front = c.in-Some.field-0-0.now in
    let text = c.in-Some-split_once.text.now in
    let rest = c.in-Some-split_once.rest.now in
    let opens = split_parts 60 c.args.text.now (Some (c.in-Some.field-0-0, c.in-Some.inner)) c.in-Some.ensures.cases (lit< tt) in
    let closes = split_parts 62 c.in-Some.inner.now (Some (c.in-Some-split_once.text, c.in-Some-split_once.rest)) c.in-Some-split_once.ensures.cases (lit< tt) in
    ap (λ t. (read t).outside) opens.0 ∙ ap (λ t. (read (front ++ 60 ∷ t)).outside) closes.0 ∙ first_angle front text rest opens.1 closes.1
