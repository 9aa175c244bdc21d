use Rattle.std.proofs.Common.{map, refl, sym, ap, ◌∙◌, subst}
use Rattle.mail_records.specs.Contents.{blob_of, email_number}
use Rattle.mail_records.specs.Orders.{AreKeys, any_key, keys_of, dated_key, dated_owner, link_keys, linked_key, linked_owner, mailbox_keys, placed_key, placed_owner, received_keys, thread_keys, threaded_key, threaded_owner}
use Rattle.mail_records.specs.Tables.{without_all}
use Rattle.mail_records.proofs.WithoutAll.{map_without_all}
use Rattle.mail_records.proofs.emails.Emails.take_out_all.Goals as goal

pub invariant_of-self : goal.invariant_of-self
invariant_of-self c =
    let gone = c.take_out_all.ensures.rows in
    let n = c.args.numbers.now in (
      c.take_out_all-2.ensures.rows
          ∙ (ap (without_all (λ b. b.email) n) c.self.invariant.0
          ∙ (sym (map_without_all email_number (λ b. b.email) blob_of (λ x. refl) n c.self.inside.table.rows) ∙ sym (ap (map blob_of) gone))),
      subst (λ rs. AreKeys any_key email_number received_keys rs (keys_of email_number dated_owner dated_key rs c.forget_all.new.entries.items)) (sym gone) c.forget_all.ensures.exact,
      subst (λ rs. AreKeys any_key email_number thread_keys rs (keys_of email_number threaded_owner threaded_key rs c.forget_all-2.new.entries.items)) (sym gone) c.forget_all-2.ensures.exact,
      subst (λ rs. AreKeys any_key email_number mailbox_keys rs (keys_of email_number placed_owner placed_key rs c.forget_all-3.new.entries.items)) (sym gone) c.forget_all-3.ensures.exact,
      subst (λ rs. AreKeys any_key email_number link_keys rs (keys_of email_number linked_owner linked_key rs c.forget_all-4.new.entries.items)) (sym gone) c.forget_all-4.ensures.exact,
    )
