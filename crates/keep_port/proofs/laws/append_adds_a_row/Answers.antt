use Rattle.keep_port.proofs.Known.{added, only_row, or_row, same}
use Rattle.keep_port.proofs.laws.append_adds_a_row.Goals as goal

pub returns-clause-added : goal.returns-clause-added
returns-clause-added g c k is = added _ _ _ _ k c.append.ensures.kept is

pub returns-clause-only : goal.returns-clause-only
returns-clause-only g c k is = only_row _ _ _ _ _ k c.append.ensures.image is

pub returns-clause-same : goal.returns-clause-same
returns-clause-same g c k is = same _ _ _ _ k c.append.ensures.kept is

pub returns-clause-left : goal.returns-clause-left
returns-clause-left g c k is = or_row _ _ _ _ _ k c.append.ensures.image is
