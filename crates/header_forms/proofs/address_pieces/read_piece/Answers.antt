use Rattle.std.proofs.Common.{sym, ◌∙◌, arith}
use Rattle.header_forms.proofs.Cutting.{first_piece, no_piece_yet, last_piece}
use Rattle.header_forms.proofs.address_pieces.read_piece.Goals as goal

pub returns-in-Some-clause-value : goal.returns-in-Some-clause-value
returns-in-Some-clause-value c =
    first_piece c.args.characters.now c.args.in_group c.loop-i.i _ c.in-Some.sign (omega arith) (sym c.find_sign.ensures ∙ c.in-Some.is) c.loop-i.invariant

pub loop-i-preserved : goal.loop-i-preserved
loop-i-preserved c = no_piece_yet c.args.characters.now c.args.in_group c.loop-i.i _ (omega arith) (sym c.find_sign.ensures ∙ c.in_default.is) c.loop-i.invariant

pub returns-clause-value : goal.returns-clause-value
returns-clause-value c = last_piece c.args.characters.now c.args.in_group c.loop-i.i (omega arith) c.loop-i.invariant
