-- What follows from the promises of a plan.
use Rattle.std.proofs.Common.{◌≡◌, ℕ, ◌-◌, ◌<◌, ◌≤◌, Bool, true, false, not, eqb, List, [], ◌∷◌, ◌++◌, length, Some, get_or, refl, sym, ap, ◌∙◌, subst, arith, length-append, is_some, Option, None}
use Rattle.std.specs.List.{AllByRecursion}
use Rattle.std.proofs.lemmas.Bool.{true≢false}
use Rattle.std.proofs.lemmas.List.{get_or_append_left}
use Rattle.jm_base.specs.UtcDates.{IsUtcDate}
use Rattle.mail_records.specs.Commits.{IsFormedEdit}
use Rattle.mail_records.specs.Contents.{Content, email_at, email_number}
use Rattle.mail_records.specs.Edits.{AllFit, AllKeepThread, IsSmall, after_edit, after_edits}
use Rattle.mail_records.specs.declared.records.Email.{Email}
use Rattle.mail_records.specs.declared.records.Summary.{Summary}
use Rattle.mail_records.specs.declared.edits.Edit.{Edit}
use Rattle.mail_records.specs.declared.edits.Edit.TheVariants.{PutMailbox, DropMailbox, PutEmail, DropEmail, PutThread, DropThread}
use Rattle.mail_records.proofs.Tables.{All-put, All-kept}
use Rattle.mail_records.proofs.Growth.{found, all_map}
use Rattle.mail_counts.specs.CountsFlag.{AreCountsFlagsRight}
use Rattle.mail_counts.specs.Derived.{LeavesEmails}
use Rattle.mail_counts.specs.Tidy.{IsTidy, IsTidyEmail}
use Rattle.plan_promises.specs.Messages.{IsMessageOf, HasMessage, IsFormedSummary}
use Rattle.plan_promises.specs.Planned.{HaveOneMessage, AllKeepMessages, IsDelivered, PutsEmail, PutsNewEmail, IsFiled, IsPlanned}

-- ---- more blobs

-- an email keeps its message as blobs are added
pub HasMessage-more : (summary : List ℕ → Summary) (blobs more : List (List ℕ)) (e : Email) → HasMessage summary blobs e → HasMessage summary (blobs ++ more) e
HasMessage-more summary blobs more e has =
    let one = has.from_one in
    let there = has.there in
    let same : get_or (blobs ++ more) (e.blob - 1) [] ≡ get_or blobs (e.blob - 1) [] = get_or_append_left blobs more [] (e.blob - 1) (omega arith) in
    record {
      from_one = has.from_one;
      there = omega (arith, length-append blobs more);
      message = subst (IsMessageOf summary e) (sym same) has.message;
    }

-- the record of an email that changed in mailboxes and keywords alone has the message
pub HasMessage-same : (summary : List ℕ → Summary) (blobs : List (List ℕ)) (x y : Email) → HaveOneMessage x y → HasMessage summary blobs x → HasMessage summary blobs y
HasMessage-same summary blobs x y same has = record {
  from_one = subst (λ (n : ℕ). 1 ≤ n) same.blob has.from_one;
  there = subst (λ (n : ℕ). n ≤ length blobs) same.blob has.there;
  message = record {
    size = sym same.size ∙ has.message.size ∙ ap (λ (n : ℕ). length (get_or blobs (n - 1) [])) same.blob;
    summary_is = sym same.summary ∙ has.message.summary_is ∙ ap (λ (n : ℕ). summary (get_or blobs (n - 1) [])) same.blob;
  };
}

IsDelivered-same : (summary : List ℕ → Summary) (blobs : List (List ℕ)) (x y : Email) → HaveOneMessage x y → IsDelivered summary blobs x → IsDelivered summary blobs y
IsDelivered-same summary blobs x y same is = record {
  message = HasMessage-same summary blobs x y same is.message;
  received = subst IsUtcDate same.received is.received;
}

-- ---- the emails that are put, and those that are there afterwards

some_of : (o : Option Email) → true ≡ is_some o → (x : Email) × (o ≡ Some x)
some_of None h = absurd (true≢false h)
some_of (Some x) h = (x, refl)

-- all emails that are put are so, and all emails afterwards
abbrev Both : (Email → Type 0) → Content → List Edit → Type 0
Both P c es = AllByRecursion (PutsEmail P) es × AllByRecursion P (after_edits c es).emails

module _ (P : Email → Type 0) (same : (x y : Email) → HaveOneMessage x y → P x → P y) where
  with_put : (c : Content) (item : Email) (was : Bool) (es : List Edit) → P item → AllByRecursion P c.emails → (AllByRecursion P (after_edit c (PutEmail item was)).emails → Both P (after_edit c (PutEmail item was)) es) → Both P c (PutEmail item was ∷ es)
  with_put c item was es is all rest =
      let next = rest (All-put P email_number item is c.emails all) in ((is, next.0), next.1)

  pub emails_hold : (es : List Edit) (c : Content) → AllFit c es → AllKeepMessages c es → AllByRecursion (PutsNewEmail P) es → AllByRecursion P c.emails → Both P c es
  emails_hold [] c fit keep new all = (tt, all)
  emails_hold (PutMailbox item was counts ∷ es) c fit keep new all =
      let rest = emails_hold es (after_edit c (PutMailbox item was counts)) fit.1 keep.1 new.1 all in ((tt, rest.0), rest.1)
  emails_hold (DropMailbox number ∷ es) c fit keep new all =
      let rest = emails_hold es (after_edit c (DropMailbox number)) fit.1 keep.1 new.1 all in ((tt, rest.0), rest.1)
  emails_hold (PutEmail item true ∷ es) c fit keep new all =
      let old = some_of (email_at c item.number) fit.0.0 in
      let was = found P email_number item.number old.0 c.emails all old.1 in
      with_put c item true es (same old.0 item (keep.0 old.0 old.1) was.0) all (λ after. emails_hold es (after_edit c (PutEmail item true)) fit.1 keep.1 new.1 after)
  emails_hold (PutEmail item false ∷ es) c fit keep new all =
      with_put c item false es new.0 all (λ after. emails_hold es (after_edit c (PutEmail item false)) fit.1 keep.1 new.1 after)
  emails_hold (DropEmail number thread ∷ es) c fit keep new all =
      let rest = emails_hold es (after_edit c (DropEmail number thread)) fit.1 keep.1 new.1 (All-kept P (λ (x : Email). not (eqb x.number number)) c.emails all) in ((tt, rest.0), rest.1)
  emails_hold (PutThread item was ∷ es) c fit keep new all =
      let rest = emails_hold es (after_edit c (PutThread item was)) fit.1 keep.1 new.1 all in ((tt, rest.0), rest.1)
  emails_hold (DropThread number ∷ es) c fit keep new all =
      let rest = emails_hold es (after_edit c (DropThread number)) fit.1 keep.1 new.1 all in ((tt, rest.0), rest.1)

-- ---- threads

pub threads_kept : (es : List Edit) (c : Content) → AllKeepMessages c es → AllKeepThread c es
threads_kept [] c keep = tt
threads_kept (PutMailbox item was counts ∷ es) c keep = (tt, threads_kept es (after_edit c (PutMailbox item was counts)) keep.1)
threads_kept (DropMailbox number ∷ es) c keep = (tt, threads_kept es (after_edit c (DropMailbox number)) keep.1)
threads_kept (PutEmail item was ∷ es) c keep = (λ old is. (keep.0 old is).thread, threads_kept es (after_edit c (PutEmail item was)) keep.1)
threads_kept (DropEmail number thread ∷ es) c keep = (tt, threads_kept es (after_edit c (DropEmail number thread)) keep.1)
threads_kept (PutThread item was ∷ es) c keep = (tt, threads_kept es (after_edit c (PutThread item was)) keep.1)
threads_kept (DropThread number ∷ es) c keep = (tt, threads_kept es (after_edit c (DropThread number)) keep.1)

-- ---- each edit by itself

abbrev Formed : (List ℕ → Summary) → Type 0
Formed summary = (bytes : List ℕ) → IsFormedSummary (summary bytes)

-- the summary of an email that has its message can be kept
summary_formed : (summary : List ℕ → Summary) (blobs : List (List ℕ)) (e : Email) → Formed summary → IsDelivered summary blobs e → IsFormedSummary e.summary
summary_formed summary blobs e formed is = subst IsFormedSummary (sym is.message.message.summary_is) (formed (get_or blobs (e.blob - 1) []))

edits_small : (summary : List ℕ → Summary) (blobs : List (List ℕ)) (es : List Edit) → Formed summary → AllByRecursion (PutsEmail IsFiled) es → AllByRecursion (PutsEmail (IsDelivered summary blobs)) es → AllByRecursion IsSmall es
edits_small summary blobs [] formed filed is = tt
edits_small summary blobs (PutMailbox item was counts ∷ es) formed filed is = (tt, edits_small summary blobs es formed filed.1 is.1)
edits_small summary blobs (DropMailbox number ∷ es) formed filed is = (tt, edits_small summary blobs es formed filed.1 is.1)
edits_small summary blobs (PutEmail item was ∷ es) formed filed is =
    ((filed.0.few_mailboxes, (summary_formed summary blobs item formed is.0).few_links), edits_small summary blobs es formed filed.1 is.1)
edits_small summary blobs (DropEmail number thread ∷ es) formed filed is = (tt, edits_small summary blobs es formed filed.1 is.1)
edits_small summary blobs (PutThread item was ∷ es) formed filed is = (tt, edits_small summary blobs es formed filed.1 is.1)
edits_small summary blobs (DropThread number ∷ es) formed filed is = (tt, edits_small summary blobs es formed filed.1 is.1)

edits_formed : (summary : List ℕ → Summary) (blobs : List (List ℕ)) (es : List Edit) → Formed summary → AllByRecursion (PutsEmail IsFiled) es → AllByRecursion (PutsEmail (IsDelivered summary blobs)) es → AllByRecursion IsFormedEdit es
edits_formed summary blobs [] formed filed is = tt
edits_formed summary blobs (PutMailbox item was counts ∷ es) formed filed is = (tt, edits_formed summary blobs es formed filed.1 is.1)
edits_formed summary blobs (DropMailbox number ∷ es) formed filed is = (tt, edits_formed summary blobs es formed filed.1 is.1)
edits_formed summary blobs (PutEmail item was ∷ es) formed filed is =
    let kept = summary_formed summary blobs item formed is.0 in (
      record { mailboxes = filed.0.mailboxes_rise; keywords = filed.0.keywords_rise; links = kept.links_rise; received = is.0.received; sent = kept.sent },
      edits_formed summary blobs es formed filed.1 is.1,
    )
edits_formed summary blobs (DropEmail number thread ∷ es) formed filed is = (tt, edits_formed summary blobs es formed filed.1 is.1)
edits_formed summary blobs (PutThread item was ∷ es) formed filed is = (tt, edits_formed summary blobs es formed filed.1 is.1)
edits_formed summary blobs (DropThread number ∷ es) formed filed is = (tt, edits_formed summary blobs es formed filed.1 is.1)

-- ---- all of it, from a content whose emails have their messages

delivered_now : (summary : List ℕ → Summary) (blobs : List (List ℕ)) (c : Content) (es : List Email) → AllByRecursion (IsTidyEmail c) es → AllByRecursion (HasMessage summary blobs) es → AllByRecursion (IsDelivered summary blobs) es
delivered_now summary blobs c [] tidy has = tt
delivered_now summary blobs c (e ∷ es) tidy has = (record { message = has.0; received = tidy.0.received }, delivered_now summary blobs c es tidy.1 has.1)

module _ (summary : List ℕ → Summary) (blobs : List (List ℕ)) (c : Content) (es : List Edit) (formed : Formed summary) (tidy : IsTidy c) (has : AllByRecursion (HasMessage summary blobs) c.emails) (plan : IsPlanned summary blobs c es) where
  both : Both (IsDelivered summary blobs) c es
  both = emails_hold (IsDelivered summary blobs) (IsDelivered-same summary blobs) es c plan.fits plan.kept plan.delivered (delivered_now summary blobs c c.emails tidy.emails.each has)

  -- each email that they put has at most 64 mailboxes and 100 links
  pub planned_small : AllByRecursion IsSmall es
  planned_small = edits_small summary blobs es formed plan.filed both.0

  -- each edit can be kept
  pub planned_formed : AllByRecursion IsFormedEdit es
  planned_formed = edits_formed summary blobs es formed plan.filed both.0

  -- each email afterwards has its message
  pub planned_messages : AllByRecursion (HasMessage summary blobs) (after_edits c es).emails
  planned_messages = all_map (IsDelivered summary blobs) (HasMessage summary blobs) (after_edits c es).emails (λ (e : Email) (is : IsDelivered summary blobs e). is.message) both.1

-- ---- edits that leave emails

kept_by : (es : List Edit) (c : Content) → AllByRecursion LeavesEmails es → AllKeepMessages c es
kept_by [] c leave = tt
kept_by (PutMailbox item was counts ∷ es) c leave = (tt, kept_by es (after_edit c (PutMailbox item was counts)) leave.1)
kept_by (DropMailbox number ∷ es) c leave = (tt, kept_by es (after_edit c (DropMailbox number)) leave.1)
kept_by (PutEmail item was ∷ es) c leave = absurd (true≢false leave.0)
kept_by (DropEmail number thread ∷ es) c leave = absurd (true≢false leave.0)
kept_by (PutThread item was ∷ es) c leave = (tt, kept_by es (after_edit c (PutThread item was)) leave.1)
kept_by (DropThread number ∷ es) c leave = (tt, kept_by es (after_edit c (DropThread number)) leave.1)

puts_none : (P : Email → Type 0) (es : List Edit) → AllByRecursion LeavesEmails es → AllByRecursion (PutsEmail P) es × AllByRecursion (PutsNewEmail P) es
puts_none P [] leave = (tt, tt)
puts_none P (PutMailbox item was counts ∷ es) leave = let rest = puts_none P es leave.1 in ((tt, rest.0), (tt, rest.1))
puts_none P (DropMailbox number ∷ es) leave = let rest = puts_none P es leave.1 in ((tt, rest.0), (tt, rest.1))
puts_none P (PutEmail item was ∷ es) leave = absurd (true≢false leave.0)
puts_none P (DropEmail number thread ∷ es) leave = absurd (true≢false leave.0)
puts_none P (PutThread item was ∷ es) leave = let rest = puts_none P es leave.1 in ((tt, rest.0), (tt, rest.1))
puts_none P (DropThread number ∷ es) leave = let rest = puts_none P es leave.1 in ((tt, rest.0), (tt, rest.1))

-- edits that leave emails as they are need only fit, leave the content tidy and have right flags
pub planned_mailboxes : (summary : List ℕ → Summary) (blobs : List (List ℕ)) (c : Content) (es : List Edit) → AllFit c es → AllByRecursion LeavesEmails es → IsTidy (after_edits c es) → AreCountsFlagsRight c es → IsPlanned summary blobs c es
planned_mailboxes summary blobs c es fit leave tidy flags = record {
  fits = fit;
  kept = kept_by es c leave;
  delivered = (puts_none (IsDelivered summary blobs) es leave).1;
  filed = (puts_none IsFiled es leave).0;
  tidy = tidy;
  flags = flags;
}
