use Rattle.std.proofs.Common.{◌∙◌, sym}
use Rattle.jm_json.proofs.Least.{none_left}
use Rattle.client_cache.proofs.replies.take_tree.Goals as goal

pub returns-in_ok-take_valid-in-None-clause-form : goal.returns-in_ok-take_valid-in-None-clause-form
returns-in_ok-take_valid-in-None-clause-form c = none_left _ (sym c.in_ok-place.ensures ∙ c.in-None.is)
