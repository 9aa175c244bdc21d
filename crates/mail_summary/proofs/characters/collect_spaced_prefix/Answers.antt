use Rattle.std.proofs.Common.{◌+◌, ◌++◌, take, arith, ap, sym, ◌∙◌}
use Rattle.std.specs.Str.{chars}
use Rattle.std.proofs.lemmas.Str.{chars_past_char, IsUtf8-past_char}
use Rattle.mail_summary.specs.Texts.{with_gap_if, spaced}
use Rattle.mail_summary.specs.declared.characters.TheConstants.{MAX_SHOWN_CHARACTERS}
use Rattle.mail_summary.proofs.Prefixes.{take_front, at_end}
use Rattle.mail_summary.proofs.characters.collect_spaced_prefix.Goals as goal
use Rattle.mail_summary.proofs.characters.collect_spaced_prefix.Goals.{in-None, in-Some+then-len-gt-MAX_SHOWN_CHARACTERS}

pub loop-c-preserved : goal.loop-c-preserved
loop-c-preserved c =
    let held = c.loop-c.invariant in
    let parts = c.in-Some.ensures.steps.0 in
    let past = sym (chars_past_char _ _ c.in-Some.c held.utf8 parts) in
    record {
      utf8 = IsUtf8-past_char _ _ c.in-Some.c held.utf8 parts;
      same = c.in_ok-gap.ensures (chars c.next.new.self.rest.now)
          ∙ ap (λ cs. c.loop-c.out.items ++ with_gap_if c.loop-c.gap (spaced cs)) past
          ∙ held.same;
      more = λ later. c.in_ok-gap.ensures (chars c.next.new.self.rest.now ++ later)
          ∙ ap (λ cs. c.loop-c.out.items ++ with_gap_if c.loop-c.gap (spaced (cs ++ later))) past
          ∙ held.more later;
    }

pub returns-clause-text : goal.returns-clause-text
returns-clause-text c = elim c.match-next.branch [
  | in-None w ↦ at_end (MAX_SHOWN_CHARACTERS + 1) _ _ _ _ w.in-None.ensures.steps.0.0 c.loop-c.invariant.same
  | in-Some+then-len-gt-MAX_SHOWN_CHARACTERS w ↦ take_front (MAX_SHOWN_CHARACTERS + 1) _ _ (omega (arith, w.if-len-gt-MAX_SHOWN_CHARACTERS)) ∙ ap (λ cs. take (MAX_SHOWN_CHARACTERS + 1) cs) c.loop-c.invariant.same
]

pub returns-clause-settled : goal.returns-clause-settled
returns-clause-settled c = λ long later.
    take_front (MAX_SHOWN_CHARACTERS + 1) _ _ (omega (arith, long)) ∙ ap (λ cs. take (MAX_SHOWN_CHARACTERS + 1) cs) (c.loop-c.invariant.more later)
