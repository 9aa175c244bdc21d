use Rattle.std.proofs.Common.{◌≡◌, ◌++◌, sym, ap, ◌∙◌, subst, string_bytes}
use Rattle.std.specs.Str.{IsUtf8}
use Rattle.std.proofs.lemmas.Str.{IsUtf8-past_char}
use Rattle.std.proofs.Math.Utf8.{encode}
use Rattle.client_lines.specs.Lines.{printed}
use Rattle.client_lines.proofs.Printing.{printed_all, printed_more}
use Rattle.client_lines.proofs.Written.{none_left}
use Rattle.client_lines.proofs.subjects.push_characters.Goals as goal

pub loop-c-init : goal.loop-c-init
loop-c-init c =
    let start : c.into_iter-c-iterator.result.rest.now ≡ c.args.text.now =
    ap (λ r. r.rest.now) c.into_iter-c-iterator.ensures.into_iter_gives ∙ c.chars-c-items.ensures.rest in
    record {
      utf8 = subst IsUtf8 (sym start) c.utf8.text;
      same = ap (λ t. string_bytes c.args.line.now ++ printed t) start;
    }

pub loop-c-preserved : goal.loop-c-preserved
loop-c-preserved c =
    let held = c.loop-c.invariant in
    let parts = c.in-Some.ensures.steps.0 in
    record {
      utf8 = IsUtf8-past_char _ _ c.in-Some.c held.utf8 parts;
      same = printed_more (string_bytes c.loop-c.line) (string_bytes c.push.new.self) _ _ (string_bytes c.args.line.now) (printed c.args.text.now) c.in-Some.c held.utf8 parts
          (c.in_ok-push.ensures.bytes ∙ ap (λ d. string_bytes c.loop-c.line ++ encode d) c.print_character.ensures) held.same;
    }

pub returns : goal.returns
returns c =
    printed_all (string_bytes c.loop-c.line) c.loop-c.c-iterator.rest.now (string_bytes c.args.line.now) (printed c.args.text.now)
    (none_left c.loop-c.c-iterator.rest.now c.in-None.ensures.steps.0.0) c.loop-c.invariant.same
