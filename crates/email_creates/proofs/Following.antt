-- A planner keeps in step with the course of creates.
use Rattle.std.proofs.Common.{◌≡◌, ℕ, ◌+◌, ◌<◌, ◌≤◌, false, List, [], ◌∷◌, ◌++◌, length, Option, Some, None, is_some, sym, ap, ap₂, ◌∙◌, subst, arith, length-append}
use Rattle.std.specs.List.{AllByRecursion}
use Rattle.std.specs.Option.{option_or}
use Rattle.mail_records.specs.Contents.{Content, AreNumbered, Held, email_at, email_number}
use Rattle.mail_records.specs.Edits.{Fits, after_edit}
use Rattle.mail_records.specs.Tables.{put}
use Rattle.mail_records.specs.declared.edits.Edit.{Edit}
use Rattle.mail_records.specs.declared.edits.Edit.TheVariants.{PutEmail}
use Rattle.mail_records.specs.declared.records.Email.{Email}
use Rattle.mail_records.specs.declared.records.Summary.{Summary}
use Rattle.mail_records.proofs.Growth.{AreNumbered-after_edit, all_map}
use Rattle.mail_counts.proofs.Growth.{put-last, lookup-above}
use Rattle.set_parts.specs.Creates.{Creating, after_create}
use Rattle.set_parts.specs.CreatesViews.{KeepUp}
use Rattle.set_parts.specs.declared.creates.CreateStep.TheVariants.{Rejected, Done}
use Rattle.set_parts.specs.declared.set_errors.SetError.{SetError}
use Rattle.thread_assign.specs.Threads.{joined_thread}
use Rattle.email_creates.specs.Emails.{Progress, after_made, after_rejected, new_record, next_after}
use Rattle.email_creates.specs.NewEmails.{thread_if_related}
use Rattle.email_creates.specs.Views.{Follows, HasNumbersFor}
use Rattle.email_creates.specs.declared.planner.Planner.{Planner}
use Rattle.email_creates.proofs.Joining.{joined_append, or_assoc, related_same}

-- ---- an email after all others

pub below_new : (c : Content) (e : Email) → AreNumbered c → e.number ≡ c.next_email → AllByRecursion (λ (x : Email). x.number < e.number) c.emails
below_new c e numbered is =
    all_map (λ (x : Email). x.number < c.next_email) (λ (x : Email). x.number < e.number) c.emails (λ (x : Email) (lt : x.number < c.next_email). omega arith) numbered.emails.below_next

pub emails-new : (c : Content) (e : Email) → AreNumbered c → e.number ≡ c.next_email → put email_number e c.emails ≡ c.emails ++ e ∷ []
emails-new c e numbered is = put-last email_number e c.emails (below_new c e numbered is)

pub not_there : (c : Content) (e : Email) → AreNumbered c → e.number ≡ c.next_email → email_at c e.number ≡ None
not_there c e numbered is = lookup-above email_number e.number c.emails (below_new c e numbered is)

pub Fits-new_email : (c : Content) (e : Email) → AreNumbered c → e.number ≡ c.next_email → Fits c (PutEmail e false)
Fits-new_email c e numbered is = (sym (ap is_some (not_there c e numbered is)), λ no. is)

pub numbered-new : (c : Content) (e : Email) → AreNumbered c → e.number ≡ c.next_email → AreNumbered (after_edit c (PutEmail e false))
numbered-new c e numbered is = AreNumbered-after_edit c (PutEmail e false) (Fits-new_email c e numbered is) numbered

pub joined-new : (c : Content) (e : Email) (u : Summary) → AreNumbered c → e.number ≡ c.next_email
    → joined_thread (after_edit c (PutEmail e false)).emails u ≡ option_or (joined_thread c.emails u) (thread_if_related u e.thread e.summary)
joined-new c e u numbered is = ap (λ (es : List Email). joined_thread es u) (emails-new c e numbered is) ∙ joined_append u c.emails e

-- an email of this thread and with this summary was entered
pub record IsEntered (c d : Content) (thread : ℕ) (v : Summary) : Type 0 where
  pub threads : (u : Summary) → joined_thread d.emails u ≡ option_or (joined_thread c.emails u) (thread_if_related u thread v)
  pub numbered : AreNumbered d
  pub next : d.next_email ≡ c.next_email + 1

pub entered : (c d : Content) (e : Email) (thread : ℕ) (v : Summary) → d ≡ after_edit c (PutEmail e false) → AreNumbered c → e.number ≡ c.next_email
    → e.thread ≡ thread → e.summary.links ≡ v.links → e.summary.subject ≡ v.subject → IsEntered c d thread v
entered c d e thread v is numbered number same links subject = record {
  threads = λ u.
      ap (λ (x : Content). joined_thread x.emails u) is
      ∙ (joined-new c e u numbered number ∙ ap (option_or (joined_thread c.emails u)) (related_same u e.thread thread e.summary v same links subject));
  numbered = subst AreNumbered (sym is) (numbered-new c e numbered number);
  next = ap (λ (x : Content). x.next_email) is ∙ ap (λ n. n + 1) number;
}

-- ---- a planner that entered an email

pub record Adds (c : Content) (p q : Planner) (creation : List ℕ) (e : Email) (brought : Option (List ℕ)) : Type 0 where
  pub next_email : q.next_email ≡ p.next_email + 1
  pub next_thread : q.next_thread ≡ next_after (option_or (joined_thread c.emails e.summary) (joined_thread p.new_emails.content.emails e.summary)) p.next_thread
  pub threads : (u : Summary) → joined_thread q.new_emails.content.emails u ≡ option_or (joined_thread p.new_emails.content.emails u) (thread_if_related u e.thread e.summary)
  pub creates : (t : Creating) → KeepUp p.creates t → KeepUp q.creates (after_create creation t (Done (new_record e brought)))

pub Follows-made : (c : Content) (p q : Planner) (s : Progress) (creation : List ℕ) (e : Email) (brought : Option (List ℕ)) → Adds c p q creation e brought → Follows c p s → e.number ≡ s.creating.content.next_email
    → Follows c q (after_made s creation e brought)
Follows-made c p q s creation e brought adds f is =
    let more = ap length (emails-new s.creating.content e f.numbered is) ∙ length-append s.creating.content.emails (e ∷ []) in
    let kept : KeepUp q.creates (after_create creation s.creating (Done (new_record e brought))) = adds.creates s.creating f.creates in
    let edits = ap length (kept.edits ∙ ap (λ (es : List Edit). es ++ PutEmail e false ∷ []) (sym f.creates.edits)) ∙ length-append p.creates.edits (PutEmail e false ∷ []) in
    let count = f.count in
    record {
      mailboxes = f.mailboxes;
      count = omega (arith, more, edits, count);
      numbered = numbered-new s.creating.content e f.numbered is;
      threads = λ u.
          joined-new s.creating.content e u f.numbered is
          ∙ (ap (λ o. option_or o (thread_if_related u e.thread e.summary)) (f.threads u)
          ∙ (or_assoc (joined_thread c.emails u) (joined_thread p.new_emails.content.emails u) (thread_if_related u e.thread e.summary)
          ∙ ap (λ o. option_or (joined_thread c.emails u) o) (sym (adds.threads u))));
      next_email = adds.next_email ∙ ap (λ n. n + 1) (f.next_email ∙ sym is);
      next_thread = adds.next_thread ∙ ap₂ (λ o n. next_after o n) (sym (f.threads e.summary)) f.next_thread;
      creates = kept;
    }

-- a planner that entered one that is rejected
pub Follows-rejected : (c : Content) (p q : Planner) (s : Progress) (creation : List ℕ) (error : SetError) → q.next_email ≡ p.next_email → q.next_thread ≡ p.next_thread → q.new_emails ≡ p.new_emails
    → KeepUp q.creates (after_create creation s.creating (Rejected error)) → Follows c p s → Follows c q (after_rejected s creation error)
Follows-rejected c p q s creation error email thread news kept f = record {
  mailboxes = f.mailboxes;
  count = f.count ∙ ap (λ (es : List Edit). length c.emails + length es) (f.creates.edits ∙ sym kept.edits);
  numbered = f.numbered;
  threads = λ u. f.threads u ∙ ap (λ (d : Held). option_or (joined_thread c.emails u) (joined_thread d.content.emails u)) (sym news);
  next_email = email ∙ f.next_email;
  next_thread = thread ∙ f.next_thread;
  creates = kept;
}

-- a planner that counted bytes
pub Follows-counted : (c : Content) (p : Planner) (n : ℕ) (s : Progress) → Follows c p s → Follows c (record p { blob_bytes = n }) s
Follows-counted c p n s f = record {
  mailboxes = f.mailboxes;
  count = f.count;
  numbered = f.numbered;
  threads = f.threads;
  next_email = f.next_email;
  next_thread = f.next_thread;
  creates = f.creates;
}

pub numbers-fewer : (n : ℕ) (p : Planner) → HasNumbersFor (n + 1) p → HasNumbersFor n p
numbers-fewer n p h = record { email = omega (arith, h.email); thread = omega (arith, h.thread); new_emails = h.new_emails; numbered = h.numbered }

next_at_most : (o : Option ℕ) (n : ℕ) → next_after o n ≤ n + 1
next_at_most None n = omega arith
next_at_most (Some t) n = omega arith

pub numbers-made : (n : ℕ) (p q : Planner) (o : Option ℕ) → HasNumbersFor (n + 1) p → q.next_email ≡ p.next_email + 1 → q.next_thread ≡ next_after o p.next_thread
    → q.new_emails.content.next_email ≡ p.new_emails.content.next_email + 1 → AreNumbered q.new_emails.content → HasNumbersFor n q
numbers-made n p q o h email thread news numbered =
    let up = next_at_most o p.next_thread in
    record { email = omega (arith, h.email, email); thread = omega (arith, h.thread, thread, up); new_emails = omega (arith, h.new_emails, email, news); numbered = numbered }
