use Rattle.jm_base.proofs.Decimals.{zero_is_no_id}
use Rattle.jm_base.proofs.id_texts.read_id.Goals as goal

pub returns-then-number-eq0-clause-err : goal.returns-then-number-eq0-clause-err
returns-then-number-eq0-clause-err c id real e =
    zero_is_no_id c.args.text.now c.in-Some.digits.now c.in-Some.letter.now c.in-Some-read_number.number id c.in-Some.ensures.cases.0 c.in-Some-read_number.ensures c.if-number-eq0.true real e
