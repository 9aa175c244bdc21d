use Rattle.std.proofs.Common.{List, map, ◌++◌, ap, ◌∙◌}
use Rattle.jm_json.specs.Call.{Call as Invocation}
use Rattle.jm_json.specs.Invocations.{call_of}
use Rattle.account_book.specs.declared.plans.Out.{Out}
use Rattle.account_book.specs.declared.plans.Out.TheVariants as out
use Rattle.account_hall.specs.Copies.{first_response}
use Rattle.account_hall.proofs.Parts.{gained_none}
use Rattle.account_hall.proofs.held_accounts.ask_set.Goals as goal

pub returns-in_err-reserve-clause-gained : goal.returns-in_err-reserve-clause-gained
returns-in_err-reserve-clause-gained g c = gained_none c.args.from.now

pub returns-in-Ok-clause-asked : goal.returns-in-Ok-clause-asked
returns-in-Ok-clause-asked g c = record {
  reply = c.in-Ok.answer;
  asked = c.in-Ok.ensures.step;
  answer_is =
      ap (λ (rs : List Invocation). let o : Out = out.Replies (record { responses = rs; made = c.args.placed.made }) in o)
      (c.from_vec.ensures ∙ (c.push_first.ensures ∙ ap (λ (rs : List Invocation). rs ++ first_response c.in-Ok.answer) (ap (map call_of) c.reserve.ensures.items ∙ c.into_vec-responses.ensures)));
}

pub returns-in-Ok-clause-gained : goal.returns-in-Ok-clause-gained
returns-in-Ok-clause-gained g c = c.perform_held.ensures.gained

pub returns-in-Err-clause-gained : goal.returns-in-Err-clause-gained
returns-in-Err-clause-gained g c = c.perform_held.ensures.gained
