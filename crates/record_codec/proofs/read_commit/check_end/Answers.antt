use Rattle.std.proofs.Common.{length, sym, ◌∙◌, arith}
use Rattle.std.proofs.lemmas.Bool.{eqb-true, eqb-false}
use Rattle.record_codec.proofs.Whole.{input_of, whole_read, over_place}
use Rattle.record_codec.proofs.read_commit.check_end.Goals as goal

pub returns-then-is_empty : goal.returns-then-is_empty
returns-then-is_empty c =
    let input = input_of c.args.bytes.now (λ i. omega (arith, c.type_inv.bytes i)) c.requires.short in
    whole_read c.args.bytes.now c.args.commit c.args.rest.now input c.requires.read (eqb-true (length c.args.rest.now) 0 (sym c.is_empty.ensures ∙ c.if-is_empty.true))

pub overflow_sub-result : goal.overflow_sub-result
overflow_sub-result c =
    let input = input_of c.args.bytes.now (λ i. omega (arith, c.type_inv.bytes i)) c.requires.short in
    (over_place c.args.bytes.now c.args.commit c.args.rest.now input c.requires.read (eqb-false (length c.args.rest.now) 0 (sym c.is_empty.ensures ∙ c.if-is_empty.false))).0

pub returns : goal.returns
returns c =
    let input = input_of c.args.bytes.now (λ i. omega (arith, c.type_inv.bytes i)) c.requires.short in
    (over_place c.args.bytes.now c.args.commit c.args.rest.now input c.requires.read (eqb-false (length c.args.rest.now) 0 (sym c.is_empty.ensures ∙ c.if-is_empty.false))).1
