use Rattle.std.proofs.Common.{rules, ◌≡◌, ◌+◌, ◌<◌, ◌^◌, ◌++◌, ◌∷◌, [], length, ap, ◌∙◌, subst}
use Rattle.mail_records.specs.Histories.{Committed, blobs_of, content_of}
use Rattle.account_book.specs.Accounts.{history_of, kept_entry}
use Rattle.account_book.specs.declared.growing.Grown.TheVariants.{Misfit, Overfull, Fitting}
use Rattle.account_book.proofs.Entering.{IsAccountOf-entered, history_of-commit}
use Rattle.account_book.proofs.Taking.{grown_as, not_taken, taken_fitting, taken_over}
use Rattle.account_book.proofs.account.Account.with_commit.Goals as goal

pub returns-in-Misfit : goal.returns-in-Misfit
returns-in-Misfit c =
    let inside = c.self.inside in
    let commit = c.args.commit in
    let g = grown_as inside.content.content c.end-end.result commit.edits c.as_slice.result.now inside.blobs.blobs commit.blobs c.in-Ok.grown Misfit c.in-Ok.ensures c.in-Misfit.is c.as_slice.ensures in
    not_taken inside.content.content c.args.self.history commit (c.self.invariant.content_is ∙ ap (λ v. content_of v.history) c.self.view_is) g

pub returns-in-Overfull : goal.returns-in-Overfull
returns-in-Overfull c =
    let inside = c.self.inside in
    let commit = c.args.commit in
    let g = grown_as inside.content.content c.end-end.result commit.edits c.as_slice.result.now inside.blobs.blobs commit.blobs c.in-Ok.grown (Overfull c.in-Overfull.content) c.in-Ok.ensures c.in-Overfull.is c.as_slice.ensures in
    taken_over inside.content.content c.in-Overfull.content.content c.args.self.history inside.blobs.blobs commit
    (c.self.invariant.content_is ∙ ap (λ v. content_of v.history) c.self.view_is) (c.self.invariant.blobs_are ∙ ap (λ v. blobs_of v.history) c.self.view_is) g.0 g.1 g.2

pub note_more-requires : goal.note_more-requires
note_more-requires c =
    let inside = c.self.inside in
    let commit = c.args.commit in
    let g = grown_as inside.content.content c.end-end.result commit.edits c.as_slice.result.now inside.blobs.blobs commit.blobs c.in-Ok.grown (Fitting c.in-Fitting.applied c.in-Fitting.blobs) c.in-Ok.ensures c.in-Fitting.is c.as_slice.ensures in
    subst (λ e. e + length commit.edits < 2 ^ 64) c.end-end.ensures g.5

pub build_account-account-requires : goal.build_account-account-requires
build_account-account-requires c =
    let inside = c.self.inside in
    let commit = c.args.commit in
    let g = grown_as inside.content.content c.end-end.result commit.edits c.as_slice.result.now inside.blobs.blobs commit.blobs c.in-Ok.grown (Fitting c.in-Fitting.applied c.in-Fitting.blobs) c.in-Ok.ensures c.in-Fitting.is c.as_slice.ensures in
    let entries : c.in_ok-noted-in-Fitting.noted.entries.items ≡ inside.entries.items ++ kept_entry (Committed commit) ∷ [] = search rules in
    IsAccountOf-entered inside.log c.in_ok-noted-in-Fitting.noted.log inside.base.content inside.content.content c.in-Fitting.applied.content.content inside.entries.items c.in_ok-noted-in-Fitting.noted.entries.items inside.blobs.blobs c.in-Fitting.blobs.blobs inside.base_blobs inside.edit_bytes c.in_ok-noted-in-Fitting.noted.bytes
    inside.keeps_threads c.in-Fitting.applied.keeps_threads c.are_both-threads.result commit c.self.invariant c.requires g.0 g.1 g.2 g.3 g.4 c.in_ok-noted-in-Fitting.ensures.log entries c.in_ok-noted-in-Fitting.ensures.bytes c.are_both-threads.ensures

pub returns-in_ok-noted-in-Fitting : goal.returns-in_ok-noted-in-Fitting
returns-in_ok-noted-in-Fitting c =
    let inside = c.self.inside in
    let commit = c.args.commit in
    let g = grown_as inside.content.content c.end-end.result commit.edits c.as_slice.result.now inside.blobs.blobs commit.blobs c.in-Ok.grown (Fitting c.in-Fitting.applied c.in-Fitting.blobs) c.in-Ok.ensures c.in-Fitting.is c.as_slice.ensures in
    let entries : c.in_ok-noted-in-Fitting.noted.entries.items ≡ inside.entries.items ++ kept_entry (Committed commit) ∷ [] = search rules in
    taken_fitting inside.content.content c.args.self.history (history_of inside.log inside.base.content inside.base_blobs inside.entries.items inside.blobs.blobs) c.build_account-account.result.history commit c.self.invariant.content_is (ap (λ v. v.history) c.self.view_is) g.0
    (c.build_account-account.ensures ∙ history_of-commit inside.log c.in_ok-noted-in-Fitting.noted.log inside.base.content inside.content.content inside.entries.items c.in_ok-noted-in-Fitting.noted.entries.items inside.blobs.blobs c.in-Fitting.blobs.blobs inside.base_blobs inside.edit_bytes inside.keeps_threads commit
    c.self.invariant c.in_ok-noted-in-Fitting.ensures.log entries g.3)
