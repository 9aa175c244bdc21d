use Rattle.std.proofs.lemmas.Bool.{false≢true}
use Rattle.jm_base.proofs.Decimals.{decimal_begins, decimal_utf8}
use Rattle.jm_base.proofs.id_texts.read_decimal.Goals as goal

pub returns-then-not-is_number_candidate : goal.returns-then-not-is_number_candidate
returns-then-not-is_number_candidate c n is =
    let b = decimal_begins c.args.text.now n is in false≢true (c.if-not-is_number_candidate.ensures.1 (b.some, b.no_plus, b.no_zero))

pub returns-in-Err : goal.returns-in-Err
returns-in-Err c n is = c.in-Err.ensures.cases.0 (decimal_utf8 c.args.text.now n is)
