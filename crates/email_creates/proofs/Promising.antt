-- What the plan of creates of emails promises.
use Rattle.std.proofs.Common.{◌≡◌, ℕ, zero, suc, ◌<◌, ◌≤◌, Bool, true, false, ◌||◌, eqb, List, [], ◌∷◌, ◌++◌, length, nat_lt, Option, Some, None, is_some, unwrap_or, refl, sym, ap, ◌∙◌, subst, arith, true≢false, eqb-true, eq-eqb, length-append, append-nil, append_assoc, ⊎_elim, ◌⊎◌, inl, inr}
use Rattle.std.specs.List.{AllByRecursion}
use Rattle.std.proofs.lemmas.Option.{none-some}
use Rattle.jm_json.specs.declared.invocation.Created.{Created}
use Rattle.mail_records.specs.Contents.{Content, AreNumbered, AreTables, thread_at, thread_number}
use Rattle.mail_records.specs.Edits.{AllFit, after_edit, after_edits}
use Rattle.mail_records.specs.declared.edits.Edit.{Edit}
use Rattle.mail_records.specs.declared.edits.Edit.TheVariants.{PutMailbox, DropMailbox, PutEmail, DropEmail, PutThread, DropThread}
use Rattle.mail_records.specs.declared.records.Email.{Email}
use Rattle.mail_records.specs.declared.records.Mailbox.{Mailbox}
use Rattle.mail_records.specs.declared.records.Thread.{Thread}
use Rattle.mail_records.proofs.Growth.{AllFit-append, AreTables-after_edit, AreTables-after_edits, after_edits-append, all_map}
use Rattle.blob_store.specs.Blobs.{AreBlobsFew, has_room}
use Rattle.mail_counts.specs.CountsFlag.{AreCountsFlagsRight}
use Rattle.mail_counts.specs.Derived.{AllKeepCounts, LeavesEmails}
use Rattle.mail_counts.specs.DerivedEdits.{derived_edits}
use Rattle.mail_counts.specs.Tidy.{IsTidy, IsTidyEmail, ancestor, parent_of}
use Rattle.mail_counts.specs.TidyBut.{IsPlacedBelow, IsTidyButThreadsAndCounts, LeaveTidyButThreadsAndCounts, LeavesThreads}
use Rattle.mail_counts.specs.Touched.{is_one_of, threads_named, touched_threads}
use Rattle.mail_counts.proofs.Growth.{lookup-above}
use Rattle.mail_counts.proofs.Followed.{derived_flags, derived_leaves}
use Rattle.mail_counts.proofs.TidyAgain.{made_tidy}
use Rattle.set_parts.specs.Creates.{Creating, blobs_brought}
use Rattle.set_parts.specs.declared.set_errors.SetError.{SetError}
use Rattle.set_parts.proofs.Parts.{all_append, all_push}
use Rattle.mail_summary.specs.Summaries.{summary}
use Rattle.thread_assign.specs.Threads.{joined_thread}
use Rattle.plan_promises.specs.Planned.{AllKeepMessages, IsDelivered, IsFiled, IsPlanned, KeepsMessage, PutsEmail, PutsNewEmail}
use Rattle.plan_promises.proofs.Planned.{HasMessage-more, planned_mailboxes, threads_kept}
use Rattle.email_creates.specs.Emails.{Progress, after_check, after_made, after_rejected, next_after, thread_for}
use Rattle.email_creates.specs.Plans.{all_edits, beginning}
use Rattle.email_creates.proofs.Accepting.{IsNewEmail}
use Rattle.email_creates.proofs.Following.{Fits-new_email, emails-new, not_there, numbered-new}
use Rattle.email_creates.proofs.Joining.{joined_known}
use Rattle.email_creates.proofs.NewThreads.{AreNamed, named_push, one_push, threads_next}
use Rattle.email_creates.proofs.Room.{few_with}

-- ---- what each edit of a create is

abbrev IsMade : List (List ℕ) → Edit → Type 0
IsMade blobs (PutEmail e false) = IsDelivered summary blobs e × IsFiled e
IsMade blobs (PutEmail e true) = ⊥
IsMade blobs (PutMailbox item was counts) = ⊥
IsMade blobs (DropMailbox number) = ⊥
IsMade blobs (DropEmail number thread) = ⊥
IsMade blobs (PutThread item was) = ⊥
IsMade blobs (DropThread number) = ⊥

delivered : (blobs : List (List ℕ)) (e : Edit) → IsMade blobs e → PutsNewEmail (IsDelivered summary blobs) e
delivered blobs (PutEmail e false) is = is.0
delivered blobs (PutEmail e true) is = absurd is
delivered blobs (PutMailbox item was counts) is = absurd is
delivered blobs (DropMailbox number) is = absurd is
delivered blobs (DropEmail number thread) is = absurd is
delivered blobs (PutThread item was) is = absurd is
delivered blobs (DropThread number) is = absurd is

filed : (blobs : List (List ℕ)) (e : Edit) → IsMade blobs e → PutsEmail IsFiled e
filed blobs (PutEmail e false) is = is.1
filed blobs (PutEmail e true) is = absurd is
filed blobs (PutMailbox item was counts) is = absurd is
filed blobs (DropMailbox number) is = absurd is
filed blobs (DropEmail number thread) is = absurd is
filed blobs (PutThread item was) is = absurd is
filed blobs (DropThread number) is = absurd is

leaves_threads : (blobs : List (List ℕ)) (e : Edit) → IsMade blobs e → LeavesThreads e
leaves_threads blobs (PutEmail e was) is = refl
leaves_threads blobs (PutMailbox item was counts) is = refl
leaves_threads blobs (DropMailbox number) is = refl
leaves_threads blobs (DropEmail number thread) is = refl
leaves_threads blobs (PutThread item was) is = absurd is
leaves_threads blobs (DropThread number) is = absurd is

counts_kept : (blobs : List (List ℕ)) (es : List Edit) (c : Content) → AllByRecursion (IsMade blobs) es → AllKeepCounts c es
counts_kept blobs [] c all = tt
counts_kept blobs (PutEmail e was ∷ es) c all = (tt, counts_kept blobs es (after_edit c (PutEmail e was)) all.1)
counts_kept blobs (PutMailbox item was counts ∷ es) c all = absurd all.0
counts_kept blobs (DropMailbox number ∷ es) c all = absurd all.0
counts_kept blobs (DropEmail number thread ∷ es) c all = absurd all.0
counts_kept blobs (PutThread item was ∷ es) c all = absurd all.0
counts_kept blobs (DropThread number ∷ es) c all = absurd all.0

pub flags_append : (es more : List Edit) (c : Content) → AreCountsFlagsRight c es → AreCountsFlagsRight (after_edits c es) more → AreCountsFlagsRight c (es ++ more)
flags_append [] more c first rest = rest
flags_append (e ∷ es) more c first rest = (first.0, flags_append es more (after_edit c e) first.1 rest)

kept_append : (es more : List Edit) (c : Content) → AllKeepMessages c es → AllKeepMessages (after_edits c es) more → AllKeepMessages c (es ++ more)
kept_append [] more c first rest = rest
kept_append (e ∷ es) more c first rest = (first.0, kept_append es more (after_edit c e) first.1 rest)

-- ---- a content with one email more

ancestor_same : (k : ℕ) (c : Content) (e : Email) (o : Option ℕ) → ancestor k (after_edit c (PutEmail e false)) o ≡ ancestor k c o
ancestor_same zero c e o = refl
ancestor_same (suc k) c e None = refl
ancestor_same (suc k) c e (Some n) = ancestor_same k c e (parent_of c n)

placed_same : (c : Content) (e : Email) (m : Mailbox) → IsPlacedBelow c m → IsPlacedBelow (after_edit c (PutEmail e false)) m
placed_same c e m p = record { parent = p.parent; root = ancestor_same (length c.mailboxes) c e m.parent ∙ p.root }

tidy_same : (c : Content) (e x : Email) → IsTidyEmail c x → IsTidyEmail (after_edit c (PutEmail e false)) x
tidy_same c e x t = record {
  mailboxes = t.mailboxes;
  some_mailbox = t.some_mailbox;
  few_mailboxes = t.few_mailboxes;
  mailboxes_rise = t.mailboxes_rise;
  keywords = t.keywords;
  few_keywords = t.few_keywords;
  keywords_rise = t.keywords_rise;
  received = t.received;
  sent = t.sent;
}

tidy_with_email : (blobs : List (List ℕ)) (c : Content) (e : Email) → IsTidyButThreadsAndCounts c → IsNewEmail blobs c e → IsTidyButThreadsAndCounts (after_edit c (PutEmail e false))
tidy_with_email blobs c e tidy new =
    let d : Content = after_edit c (PutEmail e false) in
    let rows = emails-new c e tidy.numbered new.number in
    let count = ap length rows ∙ length-append c.emails (e ∷ []) in
    let room = new.room in
    record {
      tables = AreTables-after_edit c (PutEmail e false) tidy.tables;
      numbered = numbered-new c e tidy.numbered new.number;
      mailboxes = record {
        forms = tidy.mailboxes.forms;
        placed = all_map (IsPlacedBelow c) (IsPlacedBelow d) c.mailboxes (placed_same c e) tidy.mailboxes.placed;
        names = tidy.mailboxes.names;
        roles = tidy.mailboxes.roles;
      };
      emails = record {
        few = omega (arith, count, room);
        each = subst (AllByRecursion (IsTidyEmail d)) (sym rows) (all_push (IsTidyEmail d) c.emails e (all_map (IsTidyEmail c) (IsTidyEmail d) c.emails (tidy_same c e) tidy.emails.each) (tidy_same c e e new.tidy));
      };
    }

-- ---- creates one after the other

-- a thread that is there, or a new one below b
abbrev IsKnown : Content → ℕ → ℕ → Type 0
IsKnown c b t = (is_some (thread_at c t) ≡ true) ⊎ ((c.next_thread ≤ t) × (t < b))

known_more : (c : Content) (a b t : ℕ) → a ≤ b → IsKnown c a t → IsKnown c b t
known_more c a b t le known =
    ⊎_elim (λ (there : is_some (thread_at c t) ≡ true). inl there)
    (λ (r : (c.next_thread ≤ t) × (t < a)). inr (r.0, omega (arith, le, r.1))) known

-- the blobs are those of the account with those that were brought
pub record Led (blobs : List (List ℕ)) (c : Content) (s : Progress) : Type 0 where
  pub content : s.creating.content ≡ after_edits c s.creating.edits
  pub makes : AllByRecursion (IsMade (blobs ++ s.creating.blobs)) s.creating.edits
  pub fits : AllFit c s.creating.edits
  pub kept : AllKeepMessages c s.creating.edits
  pub tidy : IsTidyButThreadsAndCounts s.creating.content
  pub low : c.next_thread ≤ s.next_thread
  pub known : AllByRecursion (λ (e : Email). IsKnown c s.next_thread e.thread) s.creating.content.emails
  pub named : AreNamed c s.creating.edits s.next_thread

-- the thread that is taken and the next one after it
thread_taken : (c : Content) (o : Option ℕ) (next : ℕ) → c.next_thread ≤ next → ((t : ℕ) → o ≡ Some t → IsKnown c next t)
    → (next ≤ next_after o next) × IsKnown c (next_after o next) (unwrap_or o next)
thread_taken c None next low known = (omega arith, inr (low, omega arith))
thread_taken c (Some t) next low known = (omega arith, known t refl)

new_is_taken : (o : Option ℕ) (next n : ℕ) → next ≤ n → n < next_after o next → unwrap_or o next ≡ n
new_is_taken None next n le lt = omega arith
new_is_taken (Some t) next n le lt = absurd (omega arith)

low_or : (n next : ℕ) → (n < next) ⊎ (next ≤ n)
low_or n next = step (nat_lt n next) refl
  where
    step : (b : Bool) → nat_lt n next ≡ b → (n < next) ⊎ (next ≤ n)
    step true e = inl (grind arith)
    step false e = inr (grind arith)

or_cases : (a b : Bool) → (a || b) ≡ true → (a ≡ true) ⊎ (b ≡ true)
or_cases true b e = inl refl
or_cases false b e = inr e

or_true : (a b : Bool) → (a ≡ true) ⊎ (b ≡ true) → (a || b) ≡ true
or_true true b e = refl
or_true false b e = ⊎_elim (λ (f : false ≡ true). absurd (true≢false (sym f))) (λ (f : b ≡ true). f) e

named_more : (c : Content) (edits : List Edit) (e : Email) (o : Option ℕ) (next : ℕ) → e.thread ≡ unwrap_or o next → next ≤ next_after o next → IsKnown c (next_after o next) (unwrap_or o next)
    → AreNamed c edits next → AreNamed c (edits ++ PutEmail e false ∷ []) (next_after o next)
named_more c edits e o next is up taken named =
    let split = λ (n : ℕ). ap (λ ts. is_one_of ts n) (named_push edits e) ∙ one_push (threads_named edits) e.thread n in
    record {
      from = λ n h.
          ⊎_elim
          (λ (old : is_one_of (threads_named edits) n ≡ true). known_more c next (next_after o next) n up (named.from n old))
          (λ (own : eqb e.thread n ≡ true). subst (IsKnown c (next_after o next)) (sym is ∙ eqb-true e.thread n own) taken)
          (or_cases (is_one_of (threads_named edits) n) (eqb e.thread n) (sym (split n) ∙ h));
      to = λ n le lt.
          split n
          ∙ or_true (is_one_of (threads_named edits) n) (eqb e.thread n)
          (⊎_elim (λ (less : n < next). inl (named.to n le less))
          (λ (more : next ≤ n). inr (eq-eqb e.thread n (is ∙ new_is_taken o next n more lt)))
          (low_or n next));
    }

-- what is made stays so with more blobs
made_more : (blobs more : List (List ℕ)) (e : Edit) → IsMade blobs e → IsMade (blobs ++ more) e
made_more blobs more (PutEmail e false) is = (record { message = HasMessage-more summary blobs more e is.0.message; received = is.0.received }, is.1)
made_more blobs more (PutEmail e true) is = absurd is
made_more blobs more (PutMailbox item was counts) is = absurd is
made_more blobs more (DropMailbox number) is = absurd is
made_more blobs more (DropEmail number thread) is = absurd is
made_more blobs more (PutThread item was) is = absurd is
made_more blobs more (DropThread number) is = absurd is

led_created : (blobs : List (List ℕ)) (c : Content) (s : Progress) (creation : List ℕ) (e : Email) (brought : Option (List ℕ)) → Led blobs c s → IsNewEmail ((blobs ++ s.creating.blobs) ++ blobs_brought brought) s.creating.content e → e.thread ≡ thread_for s e.summary
    → Led blobs c (after_made s creation e brought)
led_created blobs c s creation e brought led new is =
    let p : Creating = s.creating in
    let more : List (List ℕ) = blobs_brought brought in
    let all : List (List ℕ) = (blobs ++ s.creating.blobs) ++ more in
    let o : Option ℕ = joined_thread p.content.emails e.summary in
    let numbered = led.tidy.numbered in
    let taken = thread_taken c o s.next_thread led.low (λ t joined. joined_known (IsKnown c s.next_thread) e.summary t p.content.emails led.known joined) in
    let fit = Fits-new_email p.content e numbered new.number in
    let none = not_there p.content e numbered new.number in
    let keeps : KeepsMessage p.content (PutEmail e false) = λ (old : Email) there. absurd (none-some old (sym none ∙ there)) in
    let up = taken.0 in
    let low = led.low in
    record {
      content = ap (λ d. after_edit d (PutEmail e false)) led.content ∙ sym (after_edits-append p.edits (PutEmail e false ∷ []) c);
      makes =
          subst (λ (bs : List (List ℕ)). AllByRecursion (IsMade bs) (p.edits ++ PutEmail e false ∷ [])) (append_assoc blobs s.creating.blobs more)
          (all_push (IsMade all) p.edits (PutEmail e false)
          (all_map (IsMade (blobs ++ s.creating.blobs)) (IsMade all) p.edits (made_more (blobs ++ s.creating.blobs) more) led.makes)
          (new.delivered, new.filed));
      fits = AllFit-append p.edits (PutEmail e false ∷ []) c led.fits (subst (λ d. AllFit d (PutEmail e false ∷ [])) led.content (fit, tt));
      kept = kept_append p.edits (PutEmail e false ∷ []) c led.kept (subst (λ d. AllKeepMessages d (PutEmail e false ∷ [])) led.content (keeps, tt));
      tidy = tidy_with_email all p.content e led.tidy new;
      low = omega (arith, up, low);
      known =
          subst (AllByRecursion (λ (x : Email). IsKnown c (next_after o s.next_thread) x.thread)) (sym (emails-new p.content e numbered new.number))
          (all_push (λ (x : Email). IsKnown c (next_after o s.next_thread) x.thread) p.content.emails e
          (all_map (λ (x : Email). IsKnown c s.next_thread x.thread) (λ (x : Email). IsKnown c (next_after o s.next_thread) x.thread) p.content.emails
          (λ (x : Email) k. known_more c s.next_thread (next_after o s.next_thread) x.thread up k) led.known)
          (subst (IsKnown c (next_after o s.next_thread)) (sym is) taken.1));
      named = named_more c p.edits e o s.next_thread is up taken.1 led.named;
    }

pub led_rejected : (blobs : List (List ℕ)) (c : Content) (s : Progress) (creation : List ℕ) (r : SetError) → Led blobs c s → Led blobs c (after_rejected s creation r)
led_rejected blobs c s creation r led = record {
  content = led.content;
  makes = led.makes;
  fits = led.fits;
  kept = led.kept;
  tidy = led.tidy;
  low = led.low;
  known = led.known;
  named = led.named;
}

pub led_checked : (blobs : List (List ℕ)) (c : Content) (s : Progress) (creation : List ℕ) (e : Email) (brought : Option (List ℕ)) (o : Option SetError) → Led blobs c s
    → (o ≡ None → IsNewEmail ((blobs ++ s.creating.blobs) ++ blobs_brought brought) s.creating.content e) → e.thread ≡ thread_for s e.summary → Led blobs c (after_check s creation e brought o)
led_checked blobs c s creation e brought None led new is = led_created blobs c s creation e brought led (new refl) is
led_checked blobs c s creation e brought (Some r) led new is = led_rejected blobs c s creation r led

-- ---- where they begin

tidy_but : (c : Content) → IsTidy c → IsTidyButThreadsAndCounts c
tidy_but c t = record {
  tables = t.tables;
  numbered = t.numbered;
  mailboxes = record {
    forms = t.mailboxes.forms;
    placed = all_map _ (IsPlacedBelow c) c.mailboxes (λ (m : Mailbox) p. record { parent = p.parent; root = p.root }) t.mailboxes.placed;
    names = t.mailboxes.names;
    roles = t.mailboxes.roles;
  };
  emails = t.emails;
}

pub led_first : (blobs : List (List ℕ)) (c : Content) (made : List Created) → IsTidy c → Led blobs c (beginning c made)
led_first blobs c made t = record {
  content = refl;
  makes = tt;
  fits = tt;
  kept = tt;
  tidy = tidy_but c t;
  low = omega arith;
  known = all_map (λ (e : Email). is_some (thread_at c e.thread) ≡ true) (λ (e : Email). IsKnown c c.next_thread e.thread) c.emails (λ (e : Email) there. inl there) t.threads.named;
  named = record { from = λ n h. absurd (true≢false (sym h)); to = λ n le lt. absurd (omega (arith, le, lt)) };
}

no_thread : (c : Content) (n : ℕ) → AreNumbered c → c.next_thread ≤ n → is_some (thread_at c n) ≡ false
no_thread c n numbered le =
    ap is_some (lookup-above thread_number n c.threads (all_map (λ (t : Thread). t.number < c.next_thread) (λ (t : Thread). t.number < n) c.threads (λ (t : Thread) (lt : t.number < c.next_thread). omega (arith, le, lt)) numbered.threads.below_next))

-- ---- flags

-- every edit of creates puts a new email, also of a content that isn't tidy
abbrev pub puts_email : Edit → Type 0
puts_email (PutEmail e was) = was ≡ false
puts_email (PutMailbox item was counts) = ⊥
puts_email (DropMailbox number) = ⊥
puts_email (DropEmail number thread) = ⊥
puts_email (PutThread item was) = ⊥
puts_email (DropThread number) = ⊥

flags_of : (es : List Edit) (c : Content) → AllByRecursion puts_email es → AreCountsFlagsRight c es
flags_of [] c all = tt
flags_of (PutEmail e was ∷ es) c all = (tt, flags_of es (after_edit c (PutEmail e was)) all.1)
flags_of (PutMailbox item was counts ∷ es) c all = absurd all.0
flags_of (DropMailbox number ∷ es) c all = absurd all.0
flags_of (DropEmail number thread ∷ es) c all = absurd all.0
flags_of (PutThread item was ∷ es) c all = absurd all.0
flags_of (DropThread number ∷ es) c all = absurd all.0

-- ---- the plan

pub promised_edits : (blobs : List (List ℕ)) (c : Content) (s : Progress) → IsTidy c → AllByRecursion puts_email s.creating.edits → Led blobs c s → IsPlanned summary (blobs ++ s.creating.blobs) c (all_edits c s)
promised_edits blobs c s tidy puts led =
    let more = derived_edits c s.creating.edits in
    let leave : LeaveTidyButThreadsAndCounts c s.creating.edits = record {
      fit = led.fits;
      keep_threads = threads_kept s.creating.edits c led.kept;
      keep_counts = counts_kept (blobs ++ s.creating.blobs) s.creating.edits c led.makes;
      leave_threads = all_map (IsMade (blobs ++ s.creating.blobs)) LeavesThreads s.creating.edits (leaves_threads (blobs ++ s.creating.blobs)) led.makes;
      new_threads = threads_next c s.creating.edits s.next_thread (λ n le. no_thread c n tidy.numbered le) led.named;
      after = subst IsTidyButThreadsAndCounts led.content led.tidy;
    } in
    let made = made_tidy c s.creating.edits tidy leave in
    let leaves : AllByRecursion LeavesEmails more = derived_leaves c (after_edits c s.creating.edits) (touched_threads s.creating.edits) in
    let flags : AreCountsFlagsRight (after_edits c s.creating.edits) more =
    derived_flags c (after_edits c s.creating.edits) (touched_threads s.creating.edits) (AreTables-after_edits s.creating.edits c tidy.tables).mailboxes in
    let rest : IsPlanned summary (blobs ++ s.creating.blobs) (after_edits c s.creating.edits) more =
    planned_mailboxes summary (blobs ++ s.creating.blobs) (after_edits c s.creating.edits) more (fit_rest s.creating.edits more c made.0) leaves (subst IsTidy (after_edits-append s.creating.edits more c) made.1) flags in
    record {
      fits = made.0;
      kept = kept_append s.creating.edits more c led.kept rest.kept;
      delivered = all_append (PutsNewEmail (IsDelivered summary (blobs ++ s.creating.blobs))) s.creating.edits more (all_map (IsMade (blobs ++ s.creating.blobs)) (PutsNewEmail (IsDelivered summary (blobs ++ s.creating.blobs))) s.creating.edits (delivered (blobs ++ s.creating.blobs)) led.makes) rest.delivered;
      filed = all_append (PutsEmail IsFiled) s.creating.edits more (all_map (IsMade (blobs ++ s.creating.blobs)) (PutsEmail IsFiled) s.creating.edits (filed (blobs ++ s.creating.blobs)) led.makes) rest.filed;
      tidy = made.1;
      flags = flags_append s.creating.edits more c (flags_of s.creating.edits c puts) flags;
    }
  where
    fit_rest : (es more : List Edit) (d : Content) → AllFit d (es ++ more) → AllFit (after_edits d es) more
    fit_rest [] more d fit = fit
    fit_rest (e ∷ es) more d fit = fit_rest es more (after_edit d e) fit.1

pub puts_checked : (s : Progress) (creation : List ℕ) (e : Email) (brought : Option (List ℕ)) (o : Option SetError) → AllByRecursion puts_email s.creating.edits
    → AllByRecursion puts_email (after_check s creation e brought o).creating.edits
puts_checked s creation e brought None all = all_push puts_email s.creating.edits (PutEmail e false) all refl
puts_checked s creation e brought (Some r) all = all

-- ---- the blobs

-- a create that had room leaves room for the blobs
pub few_checked : (blobs : List (List ℕ)) (s : Progress) (creation : List ℕ) (e : Email) (bytes : List ℕ) (o : Option SetError) → (o ≡ None → has_room (length bytes) (blobs ++ s.creating.blobs) ≡ true)
    → AreBlobsFew (blobs ++ s.creating.blobs) → AreBlobsFew (blobs ++ (after_check s creation e (Some bytes) o).creating.blobs)
few_checked blobs s creation e bytes None room few =
    subst AreBlobsFew (append_assoc blobs s.creating.blobs (bytes ∷ [])) (few_with (blobs ++ s.creating.blobs) bytes (room refl))
few_checked blobs s creation e bytes (Some r) room few = few

-- a create that brings no blob leaves the blobs
pub none_checked : (s : Progress) (creation : List ℕ) (e : Email) (o : Option SetError) → (after_check s creation e None o).creating.blobs ≡ s.creating.blobs
none_checked s creation e None = append-nil s.creating.blobs
none_checked s creation e (Some r) = refl

-- ---- what a plan promises

-- The flags are right in the plan of creates that put emails alone.
pub flags_promised : (c : Content) (s : Progress) → AllByRecursion puts_email s.creating.edits → AreTables c → AreCountsFlagsRight c (all_edits c s)
flags_promised c s puts tables =
    flags_append s.creating.edits (derived_edits c s.creating.edits) c (flags_of s.creating.edits c puts)
    (derived_flags c (after_edits c s.creating.edits) (touched_threads s.creating.edits) (AreTables-after_edits s.creating.edits c tables).mailboxes)
