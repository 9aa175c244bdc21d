use Rattle.std.proofs.Common.{◌≡◌, IfOk, option_and_then, option_map, sym, subst}
use Rattle.jm_json.specs.Invocations.{call_of}
use Rattle.account_hall.proofs.Parts.{first_read}
use Rattle.account_hall.proofs.held_accounts.find_set.Goals as goal

pub returns-in-Some : goal.returns-in-Some
returns-in-Some g c =
    let first = first_read c.as_slice.result.now c.in-Some.response.now c.args.placed.now.responses c.in-Some.ensures.value c.as_slice.ensures in
    subst (λ f. IfOk c.build_set.result (λ o. option_map call_of o ≡ option_and_then (g.O.Originals.set_of (call_of c.args.copy.now)) f)) (sym first) c.build_set.ensures
