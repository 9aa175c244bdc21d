use Rattle.std.proofs.Common.{◌≡◌, ◌∙◌, ◌-◌, ◌<◌, true, length, sym, eq-eqb, arith}
use Rattle.filter_terms.specs.Contains.{begins_with}
use Rattle.filter_terms.proofs.LastByte.{has_each}
use Rattle.filter_terms.proofs.containment.has_last.Goals as goal

pub returns-then-len-text : goal.returns-then-len-text
returns-then-len-text c = λ (h : begins_with c.args.needle.now c.args.text.now ≡ true).
    let last = length c.args.needle.now - 1 in
    let some : last < length c.args.needle.now = omega (arith, c.if-len-eq0.false) in
    eq-eqb c.to_ascii_lowercase.result c.to_ascii_lowercase-then-len-text.result
    (c.to_ascii_lowercase.ensures.value ∙ ((has_each c.args.needle.now c.args.text.now last h some).1 ∙ sym c.to_ascii_lowercase-then-len-text.ensures.value))

pub returns-else-len-text : goal.returns-else-len-text
returns-else-len-text c = λ (h : begins_with c.args.needle.now c.args.text.now ≡ true).
    let last = length c.args.needle.now - 1 in
    let some : last < length c.args.needle.now = omega (arith, c.if-len-eq0.false) in
    absurd (omega (arith, c.if-len-text.false, (has_each c.args.needle.now c.args.text.now last h some).0))
