use Rattle.keep_port.proofs.Known.{loaded_left, loaded_same}
use Rattle.keep_port.proofs.laws.load_is_content.Goals as goal

pub returns-clause-left : goal.returns-clause-left
returns-clause-left g c = loaded_left _ _ _ _ c.load.ensures.loaded c.load.ensures.image

pub returns-clause-same : goal.returns-clause-same
returns-clause-same g c k is = loaded_same _ _ _ k c.load.ensures.kept is
