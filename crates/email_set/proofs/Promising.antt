-- What the plan of a set of emails promises.
use Rattle.std.proofs.Common.{◌≡◌, ℕ, Bool, true, false, not, cond, eqb, List, [], ◌∷◌, ◌++◌, filter, map, if◌then◌else◌, Option, Some, None, is_some, refl, sym, ap, ◌∙◌, subst, true≢false}
use Rattle.std.specs.Bool.{⊤}
use Rattle.std.specs.List.{AllByRecursion}
use Rattle.std.specs.Ordering.{nat_cmp}
use Rattle.std.proofs.lemmas.Option.{none-some, same_Some}
use Rattle.jm_base.specs.declared.identifiers.Kind.TheVariants.{Email as OfEmail}
use Rattle.jm_json.specs.Tree.{Tree}
use Rattle.jm_json.specs.declared.invocation.Created.{Created}
use Rattle.mail_records.specs.Contents.{AreTables, Content, email_at, email_number, mailbox_number, thread_at}
use Rattle.mail_records.specs.Edits.{AllFit, Fits, after_edit, after_edits}
use Rattle.mail_records.specs.Tables.{lookup}
use Rattle.mail_records.specs.declared.edits.Edit.{Edit}
use Rattle.mail_records.specs.declared.edits.Edit.TheVariants.{PutMailbox, DropMailbox, PutEmail, DropEmail, PutThread, DropThread}
use Rattle.mail_records.specs.declared.records.Email.{Email}
use Rattle.mail_records.specs.declared.records.Mailbox.{Mailbox}
use Rattle.mail_records.specs.declared.records.Summary.{Summary}
use Rattle.mail_records.proofs.Growth.{AllFit-append, AreTables-after_edits, after_edits-append, all_map}
use Rattle.mail_records.proofs.Tables.{All-kept, All-put}
use Rattle.mail_counts.specs.CountsFlag.{AreCountsFlagsRight}
use Rattle.mail_counts.specs.Derived.{AllKeepCounts, LeavesEmails}
use Rattle.mail_counts.specs.DerivedEdits.{derived_edits}
use Rattle.mail_counts.specs.Plans.{Ground, present_state}
use Rattle.mail_counts.specs.Tidy.{IsTidy}
use Rattle.mail_counts.specs.TidyBut.{AreInTurn, IsPlacedBelow, IsTidyButThreadsAndCounts, LeaveTidyButThreadsAndCounts, LeavesThreads, new_threads}
use Rattle.mail_counts.specs.Touched.{threads_named, touched_threads}
use Rattle.mail_counts.proofs.Followed.{derived_flags, derived_leaves}
use Rattle.mail_counts.proofs.Sorted.{all_sorted}
use Rattle.mail_counts.proofs.TidyAgain.{made_tidy}
use Rattle.plan_promises.specs.Planned.{AllKeepMessages, HaveOneMessage, IsDelivered, IsFiled, IsPlanned, KeepsMessage, PutsEmail, PutsNewEmail}
use Rattle.plan_promises.proofs.Planned.{planned_mailboxes, threads_kept}
use Rattle.set_parts.specs.Arguments.{Update, count_objects, creates_in, destroys_in, set_forms, updates_in}
use Rattle.set_parts.specs.Creates.{Creating, before_creates}
use Rattle.set_parts.specs.CreationIds.{reported_id}
use Rattle.set_parts.specs.Outcomes.{Plan, planned}
use Rattle.set_parts.specs.Responses.{HasNewState}
use Rattle.set_parts.specs.Steps.{Progress, after_destroy, after_destroys, after_update, after_updates, before_steps, is_destroyed, with_edits}
use Rattle.set_parts.specs.declared.reported.Reported.{Reported}
use Rattle.set_parts.specs.declared.steps.Step.{Step}
use Rattle.set_parts.specs.declared.steps.Step.TheVariants as step
use Rattle.set_parts.proofs.Parts.{all_append, there}
use Rattle.set_parts.proofs.Rejecting.{plan_of_planned}
use Rattle.email_set.specs.Emails.{after_steps, destroy_email, destroy_of, email_meant, filing_of, is_same_filing, step_to, update_email, update_of, with_filing}
use Rattle.email_set.specs.Patches.{refiled}
use Rattle.email_set.specs.Plans.{KeepTidyBut, creates_of, email_set_outcome, plan_from, plan_in, steps_of}
use Rattle.email_set.specs.declared.filing.Filing.{Filing}
use Rattle.email_set.specs.declared.filing.Refiled.{Refiled}
use Rattle.email_set.specs.declared.filing.Refiled.TheVariants.{Rejected, Filed}
use Rattle.email_set.specs.Views.{IsEmailStep, IsOfEmail}
use Rattle.email_set.proofs.Planning.{forbidden_all}
use Rattle.email_set.proofs.EmailSteps.{destroy_step, update_step}
use Rattle.email_set.proofs.Found.{IsFound, meant_found, tidy_after_drop, tidy_after_put}
use Rattle.email_set.proofs.Refiling.{IsRefiled, refiled_good}

-- the edits of updates and destroys, and those that follow from them
abbrev all_edits : Content → Progress → List Edit
all_edits c s = s.edits ++ derived_edits c s.edits

-- ---- what each edit is

-- it puts an email that was there, or drops one
abbrev IsEmailEdit : Edit → Type 0
IsEmailEdit (PutEmail e true) = IsFiled e
IsEmailEdit (PutEmail e false) = ⊥
IsEmailEdit (DropEmail number thread) = ⊤
IsEmailEdit (PutMailbox item was counts) = ⊥
IsEmailEdit (DropMailbox number) = ⊥
IsEmailEdit (PutThread item was) = ⊥
IsEmailEdit (DropThread number) = ⊥

delivered : (summary : List ℕ → Summary) (blobs : List (List ℕ)) (e : Edit) → IsEmailEdit e → PutsNewEmail (IsDelivered summary blobs) e
delivered summary blobs (PutEmail e true) is = tt
delivered summary blobs (PutEmail e false) is = absurd is
delivered summary blobs (DropEmail number thread) is = tt
delivered summary blobs (PutMailbox item was counts) is = absurd is
delivered summary blobs (DropMailbox number) is = absurd is
delivered summary blobs (PutThread item was) is = absurd is
delivered summary blobs (DropThread number) is = absurd is

filed : (e : Edit) → IsEmailEdit e → PutsEmail IsFiled e
filed (PutEmail e true) is = is
filed (PutEmail e false) is = absurd is
filed (DropEmail number thread) is = tt
filed (PutMailbox item was counts) is = absurd is
filed (DropMailbox number) is = absurd is
filed (PutThread item was) is = absurd is
filed (DropThread number) is = absurd is

leaves_threads : (e : Edit) → IsEmailEdit e → LeavesThreads e
leaves_threads (PutEmail e was) is = refl
leaves_threads (DropEmail number thread) is = refl
leaves_threads (PutMailbox item was counts) is = refl
leaves_threads (DropMailbox number) is = refl
leaves_threads (PutThread item was) is = absurd is
leaves_threads (DropThread number) is = absurd is

of_email : (e : Edit) → IsEmailEdit e → IsOfEmail e
of_email (PutEmail e true) is = tt
of_email (PutEmail e false) is = absurd is
of_email (DropEmail number thread) is = tt
of_email (PutMailbox item was counts) is = absurd is
of_email (DropMailbox number) is = absurd is
of_email (PutThread item was) is = absurd is
of_email (DropThread number) is = absurd is

-- edits of emails have no flag
flags_of : (es : List Edit) (c : Content) → AllByRecursion IsOfEmail es → AreCountsFlagsRight c es
flags_of [] c all = tt
flags_of (PutEmail e was ∷ es) c all = (tt, flags_of es (after_edit c (PutEmail e was)) all.1)
flags_of (DropEmail number thread ∷ es) c all = (tt, flags_of es (after_edit c (DropEmail number thread)) all.1)
flags_of (PutMailbox item was counts ∷ es) c all = absurd all.0
flags_of (DropMailbox number ∷ es) c all = absurd all.0
flags_of (PutThread item was ∷ es) c all = absurd all.0
flags_of (DropThread number ∷ es) c all = absurd all.0

counts_kept : (es : List Edit) (c : Content) → AllByRecursion IsEmailEdit es → AllKeepCounts c es
counts_kept [] c all = tt
counts_kept (PutEmail e was ∷ es) c all = (tt, counts_kept es (after_edit c (PutEmail e was)) all.1)
counts_kept (DropEmail number thread ∷ es) c all = (tt, counts_kept es (after_edit c (DropEmail number thread)) all.1)
counts_kept (PutMailbox item was counts ∷ es) c all = absurd all.0
counts_kept (DropMailbox number ∷ es) c all = absurd all.0
counts_kept (PutThread item was ∷ es) c all = absurd all.0
counts_kept (DropThread number ∷ es) c all = absurd all.0

flags_append : (es more : List Edit) (c : Content) → AreCountsFlagsRight c es → AreCountsFlagsRight (after_edits c es) more → AreCountsFlagsRight c (es ++ more)
flags_append [] more c first rest = rest
flags_append (e ∷ es) more c first rest = (first.0, flags_append es more (after_edit c e) first.1 rest)

pub kept_append : (es more : List Edit) (c : Content) → AllKeepMessages c es → AllKeepMessages (after_edits c es) more → AllKeepMessages c (es ++ more)
kept_append [] more c first rest = rest
kept_append (e ∷ es) more c first rest = (first.0, kept_append es more (after_edit c e) first.1 rest)

pub tidy_append : (es more : List Edit) (c : Content) → KeepTidyBut c es → KeepTidyBut (after_edits c es) more → KeepTidyBut c (es ++ more)
tidy_append [] more c first rest = rest
tidy_append (e ∷ es) more c first rest = (first.0, tidy_append es more (after_edit c e) first.1 rest)

-- ---- edits that a step makes

pub record IsGoodEdit (d : Content) (e : Edit) : Type 0 where
  pub own : IsEmailEdit e
  pub fits : Fits d e
  pub keeps : KeepsMessage d e
  pub tidy : IsTidyButThreadsAndCounts (after_edit d e)

abbrev AreGoodEdits : Content → List Edit → Type 0
AreGoodEdits d [] = ⊤
AreGoodEdits d (e ∷ es) = IsGoodEdit d e × AreGoodEdits (after_edit d e) es

abbrev IsGoodStep : Content → Step → Type 0
IsGoodStep d (step.Rejected error) = ⊤
IsGoodStep d (step.Done es) = AreGoodEdits d es

good_own : (es : List Edit) (d : Content) → AreGoodEdits d es → AllByRecursion IsEmailEdit es
good_own [] d good = tt
good_own (e ∷ es) d good = (good.0.own, good_own es (after_edit d e) good.1)

good_fits : (es : List Edit) (d : Content) → AreGoodEdits d es → AllFit d es
good_fits [] d good = tt
good_fits (e ∷ es) d good = (good.0.fits, good_fits es (after_edit d e) good.1)

good_kept : (es : List Edit) (d : Content) → AreGoodEdits d es → AllKeepMessages d es
good_kept [] d good = tt
good_kept (e ∷ es) d good = (good.0.keeps, good_kept es (after_edit d e) good.1)

good_each : (es : List Edit) (d : Content) → AreGoodEdits d es → KeepTidyBut d es
good_each [] d good = tt
good_each (e ∷ es) d good = (good.0.tidy, good_each es (after_edit d e) good.1)

good_end : (es : List Edit) (d : Content) → IsTidyButThreadsAndCounts d → AreGoodEdits d es → IsTidyButThreadsAndCounts (after_edits d es)
good_end [] d tidy good = tidy
good_end (e ∷ es) d tidy good = good_end es (after_edit d e) good.0.tidy good.1

-- ---- one step

put_good : (d : Content) (e : Email) (f : Filing) → IsTidyButThreadsAndCounts d → IsFound d e → IsRefiled d f → IsGoodEdit d (PutEmail (with_filing f e) true)
put_good d e f tidy found good =
    let item : Email = with_filing f e in
    let one : HaveOneMessage e item = record { number = refl; thread = refl; blob = refl; size = refl; received = refl; summary = refl } in
    record {
      own = record { few_mailboxes = good.few_mailboxes; mailboxes_rise = good.mailboxes.rise; keywords_rise = good.keywords.rise };
      fits = (sym (ap is_some found.at), λ (no : true ≡ false). absurd (true≢false no));
      keeps = λ (old : Email) at. subst (λ (y : Email). HaveOneMessage y item) (same_Some e old (sym found.at ∙ at)) one;
      tidy = tidy_after_put d e f tidy found good;
    }

step_at : (b : Bool) (d : Content) (e : Email) (f : Filing) → IsTidyButThreadsAndCounts d → IsFound d e → IsRefiled d f
    → IsGoodStep d (if b then step.Done [] else step.Done (PutEmail (with_filing f e) true ∷ []))
step_at true d e f tidy found good = tt
step_at false d e f tidy found good = (put_good d e f tidy found good, tt)

step_good : (d : Content) (e : Email) (r : Refiled) → IsTidyButThreadsAndCounts d → IsFound d e → ((f : Filing) → r ≡ Filed f → IsRefiled d f) → IsGoodStep d (step_to e r)
step_good d e (Rejected error) tidy found good = tt
step_good d e (Filed f) tidy found good = step_at (is_same_filing (filing_of e) f) d e f tidy found (good f refl)

update_if : (b : Bool) (d : Content) (e : Email) (r : Refiled) → IsTidyButThreadsAndCounts d → IsFound d e → ((f : Filing) → r ≡ Filed f → IsRefiled d f)
    → (rejected : Step) → IsGoodStep d rejected → IsGoodStep d (if b then rejected else step_to e r)
update_if true d e r tidy found good rejected is = is
update_if false d e r tidy found good rejected is = step_good d e r tidy found good

update_at : (made : List Created) (destroys : List (List ℕ)) (d : Content) (x : Update) (o : Option Email) → IsTidyButThreadsAndCounts d → email_meant made d x.id ≡ o → IsGoodStep d (update_of made destroys d x o)
update_at made destroys d x None tidy is = tt
update_at made destroys d x (Some e) tidy is =
    update_if (is_destroyed made destroys x.id) d e (refiled (map mailbox_number d.mailboxes) made (filing_of e) x.patch) tidy (meant_found made d x.id e tidy is)
    (λ (f : Filing) filed. refiled_good d made (filing_of e) x.patch f filed) _ tt

update_good : (made : List Created) (destroys : List (List ℕ)) (d : Content) (x : Update) → IsTidyButThreadsAndCounts d → IsGoodStep d (update_email made destroys d x)
update_good made destroys d x tidy = update_at made destroys d x (email_meant made d x.id) tidy refl

destroy_at : (made : List Created) (d : Content) (s : List ℕ) (o : Option Email) → IsTidyButThreadsAndCounts d → email_meant made d s ≡ o → IsGoodStep d (destroy_of o)
destroy_at made d s None tidy is = tt
destroy_at made d s (Some e) tidy is =
    let found = meant_found made d s e tidy is in
    (record { own = tt; fits = (e, found.at, refl); keeps = tt; tidy = tidy_after_drop d e.number e.thread tidy }, tt)

destroy_good : (made : List Created) (d : Content) (s : List ℕ) → IsTidyButThreadsAndCounts d → IsGoodStep d (destroy_email made d s)
destroy_good made d s tidy = destroy_at made d s (email_meant made d s) tidy refl

-- ---- steps one after the other

pub record Led (c : Content) (s : Progress) : Type 0 where
  pub content : s.content ≡ after_edits c s.edits
  pub own : AllByRecursion IsEmailEdit s.edits
  pub fits : AllFit c s.edits
  pub kept : AllKeepMessages c s.edits
  pub tidy : IsTidyButThreadsAndCounts s.content
  pub each : KeepTidyBut c s.edits

led_report : (c : Content) (s : Progress) (r : Reported) → Led c s → Led c (record s { reported = r })
led_report c s r led = record { content = led.content; own = led.own; fits = led.fits; kept = led.kept; tidy = led.tidy; each = led.each }

led_edits : (c : Content) (es : List Edit) (s : Progress) → Led c s → AreGoodEdits s.content es → Led c (with_edits es s)
led_edits c es s led good = record {
  content = ap (λ d. after_edits d es) led.content ∙ sym (after_edits-append s.edits es c);
  own = all_append IsEmailEdit s.edits es led.own (good_own es s.content good);
  fits = AllFit-append s.edits es c led.fits (subst (λ d. AllFit d es) led.content (good_fits es s.content good));
  kept = kept_append s.edits es c led.kept (subst (λ d. AllKeepMessages d es) led.content (good_kept es s.content good));
  tidy = good_end es s.content led.tidy good;
  each = tidy_append s.edits es c led.each (subst (λ d. KeepTidyBut d es) led.content (good_each es s.content good));
}

led_update : (c : Content) (id : List ℕ) (s : Progress) (x : Step) → Led c s → IsGoodStep s.content x → Led c (after_update id s x)
led_update c id s (step.Rejected error) led good = led_report c s _ led
led_update c id s (step.Done es) led good = led_edits c es (record s { reported = _ }) (led_report c s _ led) good

led_destroy : (c : Content) (id : List ℕ) (s : Progress) (x : Step) → Led c s → IsGoodStep s.content x → Led c (after_destroy id s x)
led_destroy c id s (step.Rejected error) led good = led_report c s _ led
led_destroy c id s (step.Done es) led good = led_edits c es (record s { reported = _ }) (led_report c s _ led) good

led_updates : (c : Content) (made : List Created) (destroys : List (List ℕ)) (xs : List Update) (s : Progress) → Led c s → Led c (after_updates (update_email made destroys) made s xs)
led_updates c made destroys [] s led = led
led_updates c made destroys (x ∷ xs) s led =
    led_updates c made destroys xs _ (led_update c (reported_id made x.id) s (update_email made destroys s.content x) led (update_good made destroys s.content x led.tidy))

led_destroys : (c : Content) (made : List Created) (xs : List (List ℕ)) (s : Progress) → Led c s → Led c (after_destroys (destroy_email made) made s xs)
led_destroys c made [] s led = led
led_destroys c made (x ∷ xs) s led =
    led_destroys c made xs _ (led_destroy c (reported_id made x) s (destroy_email made s.content x) led (destroy_good made s.content x led.tidy))

pub led_steps : (c : Content) (made : List Created) (updates : List Update) (destroys : List (List ℕ)) → IsTidyButThreadsAndCounts c → Led c (after_steps (before_steps c) made updates destroys)
led_steps c made updates destroys tidy =
    led_destroys c made destroys _
    (led_updates c made destroys updates (before_steps c) (record { content = refl; own = tt; fits = tt; kept = tt; tidy = tidy; each = tt }))

-- ---- threads

first_or : (P : Email → Type 0) (x : Email) (o : Option Email) (e : Email) (b : Bool) → P x → (o ≡ Some e → P e) → cond b (Some x) o ≡ Some e → P e
first_or P x o e true here later h = subst P (same_Some x e h) here
first_or P x o e false here later h = later h

lookup_all : (P : Email → Type 0) (n : ℕ) (rows : List Email) (e : Email) → AllByRecursion P rows → lookup email_number n rows ≡ Some e → P e
lookup_all P n [] e all is = absurd (none-some e is)
lookup_all P n (x ∷ rows) e all is = first_or P x (lookup email_number n rows) e (eqb x.number n) all.0 (lookup_all P n rows e all.1) is

-- the threads that such edits name are those of emails that were there
pub named_known : (K : ℕ → Type 0) (es : List Edit) (d : Content) → AllByRecursion (λ (e : Email). K e.thread) d.emails → AllByRecursion IsEmailEdit es → AllFit d es → AllKeepMessages d es → AllByRecursion K (threads_named es)
named_known K [] d known own fits kept = tt
named_known K (PutEmail item true ∷ es) d known own fits kept =
    let old = there (email_at d item.number) (sym fits.0.0) in
    let one = kept.0 old.0 old.1 in
    let thread : K item.thread = subst K one.thread (lookup_all (λ (e : Email). K e.thread) item.number d.emails old.0 known old.1) in
    (thread, named_known K es (after_edit d (PutEmail item true)) (All-put (λ (e : Email). K e.thread) email_number item thread d.emails known) own.1 fits.1 kept.1)
named_known K (PutEmail item false ∷ es) d known own fits kept = absurd own.0
named_known K (DropEmail n t ∷ es) d known own fits kept =
    let old = fits.0 in (
      subst K old.2 (lookup_all (λ (e : Email). K e.thread) n d.emails old.0 known old.1),
      named_known K es (after_edit d (DropEmail n t)) (All-kept (λ (e : Email). K e.thread) (λ (e : Email). not (eqb e.number n)) d.emails known) own.1 fits.1 kept.1,
    )
named_known K (PutMailbox item was counts ∷ es) d known own fits kept = absurd own.0
named_known K (DropMailbox n ∷ es) d known own fits kept = absurd own.0
named_known K (PutThread item was ∷ es) d known own fits kept = absurd own.0
named_known K (DropThread n ∷ es) d known own fits kept = absurd own.0

none_new : (c : Content) (ts : List ℕ) → AllByRecursion (λ t. is_some (thread_at c t) ≡ true) ts → filter (λ t. not (is_some (thread_at c t))) ts ≡ []
none_new c [] all = refl
none_new c (t ∷ ts) all = rw all.0 (none_new c ts all.1)

in_turn : (c : Content) (es : List Edit) → AllByRecursion (λ t. is_some (thread_at c t) ≡ true) (threads_named es) → AreInTurn c.next_thread (new_threads c es)
in_turn c es all =
    let touched = all_sorted nat_cmp (λ t. is_some (thread_at c t) ≡ true) (threads_named es) all in
    subst (AreInTurn c.next_thread) (sym (none_new c (touched_threads es) touched)) tt

-- ---- the plan

tidy_but : (c : Content) → IsTidy c → IsTidyButThreadsAndCounts c
tidy_but c t = record {
  tables = t.tables;
  numbered = t.numbered;
  mailboxes = record {
    forms = t.mailboxes.forms;
    placed = all_map _ (IsPlacedBelow c) c.mailboxes (λ (m : Mailbox) p. record { parent = p.parent; root = p.root }) t.mailboxes.placed;
    names = t.mailboxes.names;
    roles = t.mailboxes.roles;
  };
  emails = t.emails;
}

promised_edits : (summary : List ℕ → Summary) (blobs : List (List ℕ)) (c : Content) (s : Progress) → IsTidy c → Led c s → IsPlanned summary blobs c (all_edits c s)
promised_edits summary blobs c s tidy led =
    let more = derived_edits c s.edits in
    let leave : LeaveTidyButThreadsAndCounts c s.edits = record {
      fit = led.fits;
      keep_threads = threads_kept s.edits c led.kept;
      keep_counts = counts_kept s.edits c led.own;
      leave_threads = all_map IsEmailEdit LeavesThreads s.edits leaves_threads led.own;
      new_threads = in_turn c s.edits (named_known (λ t. is_some (thread_at c t) ≡ true) s.edits c tidy.threads.named led.own led.fits led.kept);
      after = subst IsTidyButThreadsAndCounts led.content led.tidy;
    } in
    let made = made_tidy c s.edits tidy leave in
    let leaves : AllByRecursion LeavesEmails more = derived_leaves c (after_edits c s.edits) (touched_threads s.edits) in
    let flags : AreCountsFlagsRight (after_edits c s.edits) more =
    derived_flags c (after_edits c s.edits) (touched_threads s.edits) (AreTables-after_edits s.edits c tidy.tables).mailboxes in
    let rest : IsPlanned summary blobs (after_edits c s.edits) more =
    planned_mailboxes summary blobs (after_edits c s.edits) more (fit_rest s.edits more c made.0) leaves (subst IsTidy (after_edits-append s.edits more c) made.1) flags in
    record {
      fits = made.0;
      kept = kept_append s.edits more c led.kept rest.kept;
      delivered = all_append (PutsNewEmail (IsDelivered summary blobs)) s.edits more (all_map IsEmailEdit (PutsNewEmail (IsDelivered summary blobs)) s.edits (delivered summary blobs) led.own) rest.delivered;
      filed = all_append (PutsEmail IsFiled) s.edits more (all_map IsEmailEdit (PutsEmail IsFiled) s.edits filed led.own) rest.filed;
      tidy = made.1;
      flags = flags_append s.edits more c (flags_of s.edits c (all_map IsEmailEdit IsOfEmail s.edits of_email led.own)) flags;
    }
  where
    fit_rest : (es more : List Edit) (d : Content) → AllFit d (es ++ more) → AllFit (after_edits d es) more
    fit_rest [] more d fit = fit
    fit_rest (e ∷ es) more d fit = fit_rest es more (after_edit d e) fit.1

-- what a plan is promised to be
pub record Promised (g : Ground) (p : Plan) : Type 0 where
  pub planned : (summary : List ℕ → Summary) (blobs : List (List ℕ)) → IsTidy g.content → IsPlanned summary blobs g.content p.edits
  pub new_state : HasNewState OfEmail g p.reply p.edits
  pub flags : AreTables g.content → AreCountsFlagsRight g.content p.edits
  pub none_brought : p.blobs ≡ []

-- ---- flags, also of a content that is not tidy

of_update : (id : List ℕ) (s : Progress) (x : Step) → AllByRecursion IsOfEmail s.edits → IsEmailStep x → AllByRecursion IsOfEmail (after_update id s x).edits
of_update id s (step.Rejected error) all is = all
of_update id s (step.Done es) all is = all_append IsOfEmail s.edits es all is

of_destroy : (id : List ℕ) (s : Progress) (x : Step) → AllByRecursion IsOfEmail s.edits → IsEmailStep x → AllByRecursion IsOfEmail (after_destroy id s x).edits
of_destroy id s (step.Rejected error) all is = all
of_destroy id s (step.Done es) all is = all_append IsOfEmail s.edits es all is

of_updates : (made : List Created) (destroys : List (List ℕ)) (xs : List Update) (s : Progress) → AllByRecursion IsOfEmail s.edits → AllByRecursion IsOfEmail (after_updates (update_email made destroys) made s xs).edits
of_updates made destroys [] s all = all
of_updates made destroys (x ∷ xs) s all =
    of_updates made destroys xs _ (of_update (reported_id made x.id) s (update_email made destroys s.content x) all (update_step made destroys s.content x (email_meant made s.content x.id)))

of_destroys : (made : List Created) (xs : List (List ℕ)) (s : Progress) → AllByRecursion IsOfEmail s.edits → AllByRecursion IsOfEmail (after_destroys (destroy_email made) made s xs).edits
of_destroys made [] s all = all
of_destroys made (x ∷ xs) s all =
    of_destroys made xs _ (of_destroy (reported_id made x) s (destroy_email made s.content x) all (destroy_step (email_meant made s.content x)))

of_steps : (c : Content) (made : List Created) (updates : List Update) (destroys : List (List ℕ)) → AllByRecursion IsOfEmail (after_steps (before_steps c) made updates destroys).edits
of_steps c made updates destroys = of_destroys made destroys _ (of_updates made destroys updates (before_steps c) tt)

flags_steps : (c : Content) (s : Progress) → AllByRecursion IsOfEmail s.edits → AreTables c → AreCountsFlagsRight c (all_edits c s)
flags_steps c s all tables =
    flags_append s.edits (derived_edits c s.edits) c (flags_of s.edits c all)
    (derived_flags c (after_edits c s.edits) (touched_threads s.edits) (AreTables-after_edits s.edits c tables).mailboxes)

-- ---- the outcome

promised_steps : (g : Ground) (made : List Created) (ms rejected : List (List ℕ × Tree)) → Promised g (plan_from g ms (record (before_creates g.content made) { not_created = rejected }))
promised_steps g made ms rejected =
    let c = g.content in
    record {
      planned = λ summary blobs tidy. promised_edits summary blobs c (steps_of c made ms) tidy (led_steps c made (updates_in ms) (destroys_in ms) (tidy_but c tidy));
      new_state = refl;
      flags = flags_steps c (steps_of c made ms) (of_steps c made (updates_in ms) (destroys_in ms));
      none_brought = refl;
    }

promised_plan : (g : Ground) (made : List Created) (ms : List (List ℕ × Tree)) → Promised g (plan_in g made ms)
promised_plan g made ms =
    subst (λ (p : Creating). Promised g (plan_from g ms p)) (sym (forbidden_all (creates_in ms) (before_creates g.content made)))
    (promised_steps g made ms (creates_of g.content made ms).not_created)

pub promised : (g : Ground) (args : Tree) (made : List Created) (q : Plan) → email_set_outcome g args made ≡ planned q → Promised g q
promised g args made q e = plan_of_planned (Promised g) set_forms count_objects (present_state OfEmail g) (plan_in g made) (promised_plan g made) args q e
