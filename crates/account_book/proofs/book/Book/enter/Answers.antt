use Rattle.std.proofs.Common.{◌≡◌, ◌++◌, drop, length, ap, ◌∙◌, subst, arith}
use Rattle.account_book.specs.Keeping.{IsLeftBy}
use Rattle.account_book.proofs.Parts.{always_entered, count_entered, greatest_entered, opened_entered, passes_entered, refusals_entered, rise_entered, since_entered}
use Rattle.account_book.proofs.book.Book.enter.Goals as goal

pub invariant_of-self : goal.invariant_of-self
invariant_of-self g c =
    let h = c.self.inside.account.history in
    let k = c.keep_commit-kept.new.account.history in
    let r = c.keep_commit-kept.result in
    let was = c.self.invariant in
    let is = c.keep_commit-kept.ensures.entered in
    record {
      valid = c.keep_commit-kept.ensures.valid;
      always = always_entered (g.R.Rules.is_whole c.self.inside.rules) r h k c.args.commit c.self.inside.before is c.keep_commit-kept.ensures.valid was.always;
      kept = record { content = c.keep_commit-kept.ensures.content; left = λ ready. c.keep_commit-kept.ensures.left (was.kept.left ready) };
      count = count_entered r h k c.args.commit c.self.inside.before was.count is;
      refusals = refusals_entered r h k c.args.commit c.self.inside.before _ _ was.count is c.keep_commit-kept.ensures.cause c.count-count.ensures.fits was.refusals;
      rise = rise_entered r h k c.args.commit c.self.inside.before _ _ _ was.count is c.keep_commit-kept.ensures.cause was.rise;
      greatest_is = greatest_entered r h k c.args.commit c.self.inside.before c.self.inside.greatest was.count is was.greatest_is;
      passes = passes_entered r h k c.args.commit c.self.inside.before was.count is (omega arith) was.passes;
    }

pub returns-clause-opened : goal.returns-clause-opened
returns-clause-opened g c =
    opened_entered c.keep_commit-kept.result c.self.inside.account.history c.keep_commit-kept.new.account.history c.args.commit c.self.inside.before c.self.invariant.count c.keep_commit-kept.ensures.entered
    ∙ ap (λ v. v.opened) c.self.view_is

pub returns-clause-since : goal.returns-clause-since
returns-clause-since g c =
    let k = c.keep_commit-kept.new.account.history in
    subst (λ v. drop c.self.inside.before k.entries ≡ v.since ++ drop (length v.history.entries) k.entries) c.self.view_is
    (since_entered c.keep_commit-kept.result c.self.inside.account.history k c.args.commit c.self.inside.before c.self.invariant.count c.keep_commit-kept.ensures.entered)

pub returns-clause-left : goal.returns-clause-left
returns-clause-left g c =
    let k = c.keep_commit-kept.new.account.history in
    let now = g.K.Keeper.image c.keep_commit-kept.new.keeper in
    subst (λ v. IsLeftBy (g.K.Keeper.image v.keeper) now v.history k c.args.commit) c.self.view_is c.keep_commit-kept.ensures.left_by
