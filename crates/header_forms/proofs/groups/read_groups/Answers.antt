use Rattle.std.proofs.Common.{sym}
use Rattle.header_forms.proofs.Turned.{groups_in_turn}
use Rattle.header_forms.proofs.groups.read_groups.Goals as goal

pub loop-piece-init : goal.loop-piece-init
loop-piece-init c = rw (c.new.ensures, c.new-2.ensures) (sym (groups_in_turn c.args.characters.now))
