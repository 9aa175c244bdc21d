use Rattle.std.proofs.Common.{map, sym, ap, ◌∙◌}
use Rattle.jm_json.specs.Invocations.{call_of}
use Rattle.account_hall.proofs.Parts.{first_added}
use Rattle.account_hall.proofs.held_accounts.push_first_of.Goals as goal

pub returns-in-Some : goal.returns-in-Some
returns-in-Some c =
    ap (map call_of) c.push_reserved.ensures.items
    ∙ first_added c.args.responses.now.items c.into_vec.result.items c.in-Some.first c.pop_front.new.self.items c.args.replied.responses (sym c.from_vec-rest.ensures.items ∙ c.in-Some.ensures.items) c.into_vec.ensures
