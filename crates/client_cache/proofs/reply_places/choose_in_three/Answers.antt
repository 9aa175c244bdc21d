use Rattle.std.proofs.Common.{◌≡◌, IfOk, None, codes, ap₂, sym, ◌∙◌, subst}
use Rattle.jm_json.specs.Find.{as_text}
use Rattle.jm_json.specs.Json.{tree_of}
use Rattle.jm_json.specs.LeastPlaces.{least_from}
use Rattle.method_args.specs.Places.{place_unless, places_in}
use Rattle.client_cache.specs.ReplyForms.{is_call_id, named_places}
use Rattle.client_cache.specs.RoundViews.{round_of}
use Rattle.client_cache.proofs.Kept.{least_append}
use Rattle.client_cache.proofs.reply_places.choose_in_three.Goals as goal

pub returns : goal.returns
returns c =
    let first = places_in (named_places c.args.cache.now (round_of c.args.round.now) (tree_of c.args.args.now)) (codes "/methodResponses/0/0") (as_text (tree_of c.args.name.now)) in
    let last = place_unless (is_call_id (tree_of c.args.id.now)) (codes "/methodResponses/0/2") in
    subst (λ p. IfOk c.choose_literal.result (λ o. o ≡ p))
    (ap₂ (λ l b. least_from l (place_unless b (codes "/methodResponses/0/2"))) c.in_ok-least.ensures c.is_call_id.ensures ∙ sym (least_append None first last))
    c.choose_literal.ensures
