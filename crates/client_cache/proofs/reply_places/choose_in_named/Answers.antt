use Rattle.std.proofs.Common.{◌≡◌, IfOk, None, bytes_eq, codes, subst}
use Rattle.jm_json.specs.Json.{tree_of}
use Rattle.jm_json.specs.LeastPlaces.{least_from}
use Rattle.client_cache.specs.ReplyForms.{arguments_pointer, method_at}
use Rattle.client_cache.specs.RoundViews.{round_of}
use Rattle.client_cache.proofs.Answered.{same_answered}
use Rattle.client_cache.proofs.reply_places.choose_in_named.Goals as goal

pub returns : goal.returns
returns c =
    subst (λ ps. IfOk c.choose_in_answered.result (λ o. o ≡ least_from None ps))
    (same_answered c.args.cache.now (round_of c.args.round.now) (tree_of c.args.args.now) c.is_error_name.result (bytes_eq c.args.name.now (codes "error"))
    c.is_called.result (bytes_eq c.args.name.now (method_at (round_of c.args.round.now).step)) c.in_ok-pointer.pointer arguments_pointer
    c.is_error_name.ensures c.is_called.ensures c.in_ok-pointer.ensures)
    c.choose_in_answered.ensures
