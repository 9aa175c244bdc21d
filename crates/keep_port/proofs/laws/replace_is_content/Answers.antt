use Rattle.keep_port.proofs.Known.{is_whole, only_whole, or_whole, same}
use Rattle.keep_port.proofs.laws.replace_is_content.Goals as goal

pub returns-clause-known : goal.returns-clause-known
returns-clause-known g c = is_whole _ _ _ _ c.replace.ensures.kept

pub returns-clause-only : goal.returns-clause-only
returns-clause-only g c = only_whole _ _ _ _ c.replace.ensures.image

pub returns-clause-same : goal.returns-clause-same
returns-clause-same g c k is = same _ _ _ _ k c.replace.ensures.kept is

pub returns-clause-left : goal.returns-clause-left
returns-clause-left g c = or_whole _ _ _ _ c.replace.ensures.image
