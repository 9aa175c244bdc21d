use Rattle.std.proofs.Common.{◌≡◌, IfOk, sym, subst}
use Rattle.client_cache.proofs.AskedIds.{texts_of_ids}
use Rattle.client_cache.proofs.requests.make_asked_ids.Goals as goal

pub returns : goal.returns
returns c = subst (λ ts. IfOk c.make_ids.result (λ r. r ≡ ts)) (sym (texts_of_ids c.args.kind c.args.numbers.now)) c.make_ids.ensures
