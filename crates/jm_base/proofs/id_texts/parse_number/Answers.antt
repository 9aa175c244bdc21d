use Rattle.jm_base.proofs.Decimals.{read_back, never_fails}
use Rattle.jm_base.proofs.id_texts.parse_number.Goals as goal

pub returns-in-Ok : goal.returns-in-Ok
returns-in-Ok c = read_back c.args.text.now c.in-Ok.number c.in-Ok.ensures.value.0 c.requires.no_plus c.requires.no_zero

pub returns-in-Err : goal.returns-in-Err
returns-in-Err c n is = never_fails c.args.text.now c.in-Err.field-0 n c.in-Err.ensures.value.0 is.0 is.1
