use Rattle.std.proofs.Common.{rules, arith}
use Rattle.record_codec.specs.Widths.{LengthFitsIn64Bits}
use Rattle.record_codec.proofs.Wide.{all_fit}
use Rattle.record_codec.proofs.memory.confirm_numbers_fit.Goals as goal

pub returns : goal.returns
returns c =
    let long : LengthFitsIn64Bits c.args.numbers.now = search rules in
    (long, all_fit c.args.numbers.now (λ i. omega (arith, c.type_inv.numbers i)))
