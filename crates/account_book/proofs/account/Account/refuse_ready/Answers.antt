use Rattle.std.proofs.Common.{rules, ◌≡◌, ◌++◌, ◌∷◌, [], ap, sym, ◌∙◌, subst}
use Rattle.mail_records.specs.Histories.{Refused, grown}
use Rattle.account_book.specs.Accounts.{IsAccountOf, history_of, kept_entry}
use Rattle.account_book.proofs.Entering.{IsAccountOf-refused, history_of-refused}
use Rattle.account_book.proofs.account.Account.refuse_ready.Goals as goal

pub returns : goal.returns
returns c =
    let inside = c.self.inside in
    let entries : c.push_reserved.new.self.items ≡ inside.entries.items ++ kept_entry (Refused c.args.stamp) ∷ [] = search rules in
    history_of-refused inside.log inside.base.content inside.content.content inside.entries.items c.push_reserved.new.self.items inside.blobs.blobs inside.base_blobs inside.edit_bytes inside.keeps_threads c.args.stamp c.self.invariant entries
    ∙ ap (λ v. grown v.history (Refused c.args.stamp)) c.self.view_is

pub invariant_of-self : goal.invariant_of-self
invariant_of-self c =
    let inside = c.self.inside in
    let entries : c.push_reserved.new.self.items ≡ inside.entries.items ++ kept_entry (Refused c.args.stamp) ∷ [] = search rules in
    let h = history_of inside.log inside.base.content inside.base_blobs inside.entries.items inside.blobs.blobs in
    let grows = history_of-refused inside.log inside.base.content inside.content.content inside.entries.items c.push_reserved.new.self.items inside.blobs.blobs inside.base_blobs inside.edit_bytes inside.keeps_threads c.args.stamp c.self.invariant entries in
    subst (λ k. IsAccountOf k inside.content.content inside.log c.push_reserved.new.self.items inside.blobs.blobs inside.base_blobs inside.edit_bytes inside.keeps_threads) (sym grows)
    (IsAccountOf-refused h inside.content.content inside.log inside.entries.items c.push_reserved.new.self.items inside.blobs.blobs inside.base_blobs inside.edit_bytes inside.keeps_threads c.args.stamp c.self.invariant entries)
