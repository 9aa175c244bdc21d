use Rattle.std.proofs.Common.{◌≡◌, ◌++◌, map, sym, subst, ap, ap₂, ◌∙◌}
use Rattle.std.specs.List.{flat_map}
use Rattle.mail_records.specs.Contents.{email_number}
use Rattle.mail_records.specs.Tables.{IsTable}
use Rattle.mail_counts.specs.DerivedEdits.{count_edits}
use Rattle.mail_counts.specs.Members.{member_cmp, thread_members}
use Rattle.mail_counts.specs.Overlay.{emails_among}
use Rattle.mail_counts.specs.Steps.{listed_edits}
use Rattle.mail_counts.specs.Touched.{sorted_once}
use Rattle.mail_counts.proofs.Found.{HasAll, all_found, among_after, among_before, found_before, found_now}
use Rattle.mail_counts.proofs.following.build_derived_edits.Goals as goal

pub add_recounted-requires : goal.add_recounted-requires
add_recounted-requires c =
    let before = c.args.before.now.content in
    let edits = c.args.edits.now in
    let threads = c.in_ok-threads.threads.items in
    let numbers = c.in_ok-numbers.numbers.items in
    let old = c.in_ok-old.old in
    let new = c.in_ok-new.new in
    let there = subst (λ ts. HasAll ts before.emails numbers) c.deref.ensures.value c.in_ok-numbers.ensures.there in
    record {
      before =
          subst (λ v. IsTable email_number (map (λ r. r.now) v)) (sym c.deref-8.ensures.value)
          (found_before before edits old threads numbers _ c.in_ok-numbers.ensures.rise there c.in_ok-old.ensures.is c.in_ok-old.ensures.tables
          (c.in_ok-emails_before.ensures ∙ ap₂ (λ ts ns. emails_among ts old.emails ns) c.deref-3.ensures.value c.deref-2.ensures.value));
      after =
          subst (λ v. IsTable email_number (map (λ r. r.now) v)) (sym c.deref-9.ensures.value)
          (found_now before edits new threads numbers _ c.in_ok-numbers.ensures.rise c.in_ok-numbers.ensures.named there c.in_ok-new.ensures.is
          c.in_ok-new.ensures.tables
          (c.in_ok-emails_after.ensures ∙ ap₂ (λ ts ns. emails_among ts new.emails ns) c.deref-5.ensures.value c.deref-4.ensures.value));
      mailboxes = c.in_ok-new.ensures.tables.mailboxes;
    }

pub returns : goal.returns
returns c =
    let before = c.args.before.now.content in
    let edits = c.args.edits.now in
    let threads = c.in_ok-threads.threads.items in
    let numbers = c.in_ok-numbers.numbers.items in
    let old = c.in_ok-old.old in
    let new = c.in_ok-new.new in
    let there = subst (λ ts. HasAll ts before.emails numbers) c.deref.ensures.value c.in_ok-numbers.ensures.there in
    let one =
    among_before before edits old threads numbers _ c.in_ok-numbers.ensures.rise there c.in_ok-old.ensures.is c.in_ok-old.ensures.tables
    (c.in_ok-emails_before.ensures ∙ ap₂ (λ ts ns. emails_among ts old.emails ns) c.deref-3.ensures.value c.deref-2.ensures.value) in
    let other =
    among_after before edits new threads numbers _ c.in_ok-numbers.ensures.rise c.in_ok-numbers.ensures.named there c.in_ok-new.ensures.is
    c.in_ok-new.ensures.tables
    (c.in_ok-emails_after.ensures ∙ ap₂ (λ ts ns. emails_among ts new.emails ns) c.deref-5.ensures.value c.deref-4.ensures.value) in
    all_found before edits new threads (map (λ r. r.now) c.in_ok-emails_before.emails_before.items) (map (λ r. r.now) c.in_ok-emails_after.emails_after.items)
    c.add_listed_edits.new.edits.items _ c.in_ok-threads.ensures.is c.in_ok-new.ensures.is one other
    (c.in_ok-add_listed_edits.ensures
    ∙ (ap (λ zs. zs ++ flat_map (listed_edits new (sorted_once member_cmp (thread_members (map (λ r. r.now) c.deref-6.result.now)))) c.deref-7.result.now) c.new-all.ensures.items
    ∙ ap₂ (λ v ts. flat_map (listed_edits new (sorted_once member_cmp (thread_members (map (λ r. r.now) v)))) ts) c.deref-6.ensures.value c.deref-7.ensures.value))
    (c.in_ok-add_recounted.ensures
    ∙ ap₂ (λ v w. c.add_listed_edits.new.edits.items ++ flat_map (count_edits (map (λ r. r.now) v) (map (λ r. r.now) w)) new.mailboxes)
    c.deref-8.ensures.value c.deref-9.ensures.value)
