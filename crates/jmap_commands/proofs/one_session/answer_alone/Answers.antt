use Rattle.std.proofs.Common.{ℕ, ◌≤◌, sym, subst}
use Rattle.account_hall.specs.Halls.{entries_of}
use Rattle.jmap_commands.proofs.Alone.{refusals_numbered}
use Rattle.jmap_commands.proofs.one_session.answer_alone.Goals as goal

pub returns : goal.returns
returns g c =
    let book = c.let_out-book.result in
    record {
      after = c.answer_hall_lines-answered.result.1;
      entries = entries_of book;
      keeper = book.keeper;
      answered = c.answer_hall_lines-answered.ensures.answered;
      alone = c.let_out-book.ensures;
      refusals = subst (λ (n : ℕ). n ≤ g.K.Keeper.append_faults book.keeper) (sym (refusals_numbered book.opened book.since)) c.keeps.ensures.refusals;
    }
