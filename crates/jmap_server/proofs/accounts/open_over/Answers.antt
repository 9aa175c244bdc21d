use Rattle.std.proofs.Common.{refl, sym, subst}
use Rattle.mail_records.specs.Histories.{History}
use Rattle.account_book.specs.Opening.{IsOpened}
use Rattle.jmap_server.proofs.accounts.open_over.Goals as goal

pub returns-in-Ok-clause-opened : goal.returns-in-Ok-clause-opened
returns-in-Ok-clause-opened g c =
    let started = c.in-Ok.ensures in
    let b = c.in-Ok.book in
    record {
      name_is = refl;
      opened = subst (λ (h : History). IsOpened (g.W.Keep.Keeper.kept c.args.keeper) (g.W.Keep.Keeper.kept b.keeper) h) (sym started.all) started.opened;
      valid = subst (λ (r : g.row.R.Denot). g.R.Rules.is_whole r b.opened) started.rules (subst (λ (h : History). g.R.Rules.is_whole b.rules h) (sym started.all) c.keeps.ensures.valid);
    }
