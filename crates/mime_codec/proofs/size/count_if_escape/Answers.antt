use Rattle.std.proofs.Common.{eqb}
use Rattle.mime_codec.specs.Quoted.{is_hex}
use Rattle.mime_codec.proofs.Escapes.{all_three}
use Rattle.mime_codec.proofs.size.count_if_escape.Goals as goal

pub returns-clause-value : goal.returns-clause-value
returns-clause-value c =
    (all_three (eqb c.args.byte 61) (is_hex c.args.high) (is_hex c.args.low) _ _ _ c.count_if_equals_sign.ensures c.count_if_hex_digit.ensures c.count_if_hex_digit-2.ensures).0

pub returns-clause-within : goal.returns-clause-within
returns-clause-within c =
    (all_three (eqb c.args.byte 61) (is_hex c.args.high) (is_hex c.args.low) _ _ _ c.count_if_equals_sign.ensures c.count_if_hex_digit.ensures c.count_if_hex_digit-2.ensures).1
