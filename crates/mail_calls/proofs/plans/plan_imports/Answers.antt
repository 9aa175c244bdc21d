use Rattle.std.proofs.Common.{◌≡◌}
use Rattle.jm_json.specs.Invocations.{call_of}
use Rattle.jm_json.specs.Json.{tree_of}
use Rattle.mail_import.specs.Plans.{import_in}
use Rattle.mail_calls.proofs.Sets.{answer_to, outcome_told}
use Rattle.mail_calls.proofs.plans.plan_imports.Goals as goal

pub returns : goal.returns
returns c =
    let outcome = import_in c.args.account.now.history (tree_of c.args.call.now.args) c.args.made.now c.args.moment in
    answer_to c.answer_set.result (call_of c.args.call.now) c.plan_import-returned.result outcome
    (outcome_told c.plan_import-returned.result outcome c.plan_import-returned.ensures.outcome c.plan_import-returned.ensures.fault)
    c.answer_set.ensures
