use Rattle.std.proofs.Common.{◌≡◌, ℕ, List, sym, ap, ◌∙◌, subst}
use Rattle.std.specs.Str.{IsUtf8}
use Rattle.std.proofs.lemmas.Str.{IsUtf8-past_char}
use Rattle.client_lines.specs.Lines.{printed}
use Rattle.client_lines.proofs.Printing.{printed_empty, printed_same}
use Rattle.client_lines.proofs.subjects.has_control.Goals as goal

pub loop-c-init : goal.loop-c-init
loop-c-init c =
    let start : c.into_iter-c-iterator.result.rest.now ≡ c.args.text.now =
    ap (λ r. r.rest.now) c.into_iter-c-iterator.ensures.into_iter_gives ∙ c.chars-c-items.ensures.rest in
    record {
      utf8 = subst IsUtf8 (sym start) c.utf8.text;
      same = subst (λ (t : List ℕ). printed t ≡ t → printed c.args.text.now ≡ c.args.text.now) (sym start) (λ h. h);
    }

pub loop-c-preserved : goal.loop-c-preserved
loop-c-preserved c =
    let held = c.loop-c.invariant in
    let parts = c.in-Some.ensures.steps.0 in
    record {
      utf8 = IsUtf8-past_char _ _ c.in-Some.c held.utf8 parts;
      same = λ h. held.same (printed_same _ _ c.in-Some.c held.utf8 parts (sym c.if-is_control.ensures) h);
    }

pub returns : goal.returns
returns c = λ _. c.loop-c.invariant.same (printed_empty c.loop-c.c-iterator.rest.now c.in-None.ensures.steps.0.0)
