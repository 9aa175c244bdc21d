-- What the edits of a set promise, step by step.
use Rattle.std.proofs.Common.{◌≡◌, ℕ, Bool, true, false, not, cond, ◌&&◌, List, [], ◌∷◌, ◌++◌, filter, map, length, Option, Some, None, is_some, refl, sym, ap, ◌∙◌, subst, true≢false, arith, append_assoc, append-nil, eqb}
use Rattle.std.specs.Prelude.{⊤}
use Rattle.std.specs.List.{AllByRecursion, list_all}
use Rattle.std.specs.Ordering.{match_ordering, nat_cmp}
use Rattle.std.specs.declared.cmp.Ordering.{Ordering}
use Rattle.std.specs.declared.cmp.Ordering.TheVariants.{Less, Equal, Greater}
use Rattle.std.proofs.lemmas.Bool.{false≢true}
use Rattle.std.proofs.lemmas.List.Kept.{IsStrictlySortedBy-filter}
use Rattle.std.proofs.lemmas.Option.{none-some}
use Rattle.jm_base.specs.declared.identifiers.Kind.TheVariants.{Mailbox as OfMailbox}
use Rattle.jm_json.specs.Tree.{Tree}
use Rattle.jm_json.specs.declared.invocation.Created.{Created}
use Rattle.mail_records.specs.Contents.{AreNumbered, AreTables, Content, mailbox_at, mailbox_number, thread_at}
use Rattle.mail_records.specs.Tables.{IsTable}
use Rattle.mail_records.specs.Commits.{NumbersRise}
use Rattle.mail_records.specs.Edits.{AllFit, after_edit, after_edits}
use Rattle.mail_records.specs.OrderSteps.{put_in}
use Rattle.mail_records.specs.declared.edits.Edit.{Edit}
use Rattle.mail_records.specs.declared.edits.Edit.TheVariants.{PutMailbox, DropMailbox, PutEmail, DropEmail, PutThread, DropThread}
use Rattle.mail_records.specs.declared.records.Email.{Email}
use Rattle.mail_records.specs.declared.records.Mailbox.{Mailbox}
use Rattle.mail_records.specs.declared.records.Summary.{Summary}
use Rattle.mail_records.proofs.Growth.{AllFit-append, AreTables-after_edits, after_edits-append, all_map}
use Rattle.mail_records.proofs.Tables.{All-kept}
use Rattle.mail_counts.specs.Counts.{SameCounts, is_in}
use Rattle.mail_counts.specs.CountsFlag.{AreCountsFlagsRight}
use Rattle.mail_counts.specs.Derived.{AllKeepCounts, LeavesEmails}
use Rattle.mail_counts.specs.DerivedEdits.{derived_edits}
use Rattle.mail_counts.specs.Plans.{Ground, present_state}
use Rattle.mail_counts.specs.Tidy.{IsPlaced, IsTidy, IsTidyEmail}
use Rattle.mail_counts.specs.TidyBut.{AreInTurn, IsPlacedBelow, IsTidyButThreadsAndCounts, LeaveTidyButThreadsAndCounts, LeavesThreads, new_threads}
use Rattle.mail_counts.specs.Touched.{sorted_once, threads_named, touched_threads}
use Rattle.mail_counts.proofs.Followed.{derived_flags, derived_leaves}
use Rattle.mail_counts.proofs.Kept.{emails-after_edits}
use Rattle.mail_counts.proofs.TidyAgain.{made_tidy}
use Rattle.plan_promises.specs.Planned.{AllKeepMessages, IsDelivered, IsFiled, IsPlanned, PutsEmail, PutsNewEmail}
use Rattle.plan_promises.proofs.Planned.{planned_mailboxes, threads_kept}
use Rattle.set_parts.specs.CreationIds.{reported_id}
use Rattle.set_parts.specs.Outcomes.{Plan, planned}
use Rattle.set_parts.specs.Plans.{plan_after}
use Rattle.set_parts.specs.Responses.{HasNewState}
use Rattle.set_parts.specs.Steps.{Progress as Steps, after_destroy, after_destroys, after_update, after_updates, before_steps}
use Rattle.set_parts.specs.declared.steps.Step.{Step}
use Rattle.set_parts.specs.declared.steps.Step.TheVariants.{Done, Rejected}
use Rattle.set_parts.specs.declared.set_errors.SetError.TheVariants.{MailboxHasChild, MailboxHasEmail}
use Rattle.set_parts.specs.Arguments.{Create, Update, account_in, count_objects, creates_in, destroys_in, updates_in}
use Rattle.set_parts.proofs.Parts.{all_append}
use Rattle.set_parts.proofs.Rejecting.{plan_of_planned}
use Rattle.set_parts.specs.Creates.{Creating, before_creates, record_under}
use Rattle.mailbox_creates.specs.Creates.{PutsNew, bad_in, mailbox_of, new_record}
use Rattle.mailbox_creates.specs.Properties.{mailbox_meant, sent_properties}
use Rattle.mailbox_set.specs.Destroys.{destroy_edits, destroy_mailbox, destroy_of, has_child, has_email, removal, removal_of}
use Rattle.mailbox_updates.specs.EmailsLeft.{left_with, left_without, mailboxes_but}
use Rattle.mailbox_creates.specs.Rounds.{after_creates}
use Rattle.mailbox_set.specs.Sets.{mailbox_set_forms, mailbox_set_outcome, plan_in, removes_emails, steps_after, updated_after}
use Rattle.mailbox_updates.specs.Updates.{after_mailbox_updates, all_keep_rules, keeps_rules, update_as}
use Rattle.mailbox_creates.specs.Views.{Follows}
use Rattle.mailbox_set.specs.Views.{IsCreated, IsStepsOf}
use Rattle.mailbox_updates.specs.Views.{PutsMailbox}
use Rattle.mailbox_set.specs.declared.plan.Steps.{Steps as TheSteps}
use Rattle.mailbox_creates.specs.declared.planner.Planner.{Planner}
use Rattle.mailbox_creates.proofs.Promising.{Fitting-creates, Leading, Leading-creates, Tidy-creates, by_checks, by_rounds, flags_right}
use Rattle.mailbox_updates.proofs.Moving.{AreMoves, StepKeeps, StepMoves, by_moves, moves_append, moves_count, moves_fit, moves_flag, moves_keep, moves_leave, update_keeps, update_moves}
use Rattle.mailbox_updates.proofs.Settled.{tidy_moved}
use Rattle.mailbox_updates.proofs.Showing.{meant_there}
use Rattle.mailbox_set.proofs.Removing.{all_flat, destroyed, few_kept, kept_append, tidy_destroyed}

-- ---- lists of edits

counts_append : (es more : List Edit) (c : Content) → AllKeepCounts c es → AllKeepCounts (after_edits c es) more → AllKeepCounts c (es ++ more)
counts_append [] more c all rest = rest
counts_append (e ∷ es) more c all rest = (all.0, counts_append es more (after_edit c e) all.1 rest)

flags_append : (es more : List Edit) (c : Content) → AreCountsFlagsRight c es → AreCountsFlagsRight (after_edits c es) more → AreCountsFlagsRight c (es ++ more)
flags_append [] more c all rest = rest
flags_append (e ∷ es) more c all rest = (all.0, flags_append es more (after_edit c e) all.1 rest)

-- the edit puts no mailbox
abbrev PutsNone : Edit → Type 0
PutsNone (PutMailbox item was counts) = ⊥
PutsNone (DropMailbox number) = ⊤
PutsNone (PutEmail item was) = ⊤
PutsNone (DropEmail number thread) = ⊤
PutsNone (PutThread item was) = ⊤
PutsNone (DropThread number) = ⊤

counts_none : (es : List Edit) (c : Content) → AllByRecursion PutsNone es → AllKeepCounts c es
counts_none [] c none = tt
counts_none (PutMailbox item was counts ∷ es) c none = absurd none.0
counts_none (DropMailbox number ∷ es) c none = (tt, counts_none es (after_edit c (DropMailbox number)) none.1)
counts_none (PutEmail item was ∷ es) c none = (tt, counts_none es (after_edit c (PutEmail item was)) none.1)
counts_none (DropEmail number thread ∷ es) c none = (tt, counts_none es (after_edit c (DropEmail number thread)) none.1)
counts_none (PutThread item was ∷ es) c none = (tt, counts_none es (after_edit c (PutThread item was)) none.1)
counts_none (DropThread number ∷ es) c none = (tt, counts_none es (after_edit c (DropThread number)) none.1)

flags_none : (es : List Edit) (c : Content) → AllByRecursion PutsNone es → AreCountsFlagsRight c es
flags_none [] c none = tt
flags_none (PutMailbox item was counts ∷ es) c none = absurd none.0
flags_none (DropMailbox number ∷ es) c none = (tt, flags_none es (after_edit c (DropMailbox number)) none.1)
flags_none (PutEmail item was ∷ es) c none = (tt, flags_none es (after_edit c (PutEmail item was)) none.1)
flags_none (DropEmail number thread ∷ es) c none = (tt, flags_none es (after_edit c (DropEmail number thread)) none.1)
flags_none (PutThread item was ∷ es) c none = (tt, flags_none es (after_edit c (PutThread item was)) none.1)
flags_none (DropThread number ∷ es) c none = (tt, flags_none es (after_edit c (DropThread number)) none.1)

-- new mailboxes are put where none was
fresh_counts : (o : Option Mailbox) (item m : Mailbox) → is_some o ≡ false → o ≡ Some m → SameCounts m item
fresh_counts None item m none is = absurd (none-some m is)
fresh_counts (Some x) item m none is = absurd (true≢false none)

counts_new : (es : List Edit) (c : Content) → AllFit c es → AllByRecursion PutsNew es → AllKeepCounts c es
counts_new [] c fit new = tt
counts_new (PutMailbox item was counts ∷ es) c fit new =
    ((λ no. new.0.2, λ m is. fresh_counts (mailbox_at c item.number) item m (sym fit.0.0 ∙ new.0.0) is), counts_new es (after_edit c (PutMailbox item was counts)) fit.1 new.1)
counts_new (DropMailbox number ∷ es) c fit new = absurd new.0
counts_new (PutEmail item was ∷ es) c fit new = absurd new.0
counts_new (DropEmail number thread ∷ es) c fit new = absurd new.0
counts_new (PutThread item was ∷ es) c fit new = absurd new.0
counts_new (DropThread number ∷ es) c fit new = absurd new.0

kept_new : (es : List Edit) (c : Content) → AllByRecursion PutsNew es → AllKeepMessages c es
kept_new [] c new = tt
kept_new (PutMailbox item was counts ∷ es) c new = (tt, kept_new es (after_edit c (PutMailbox item was counts)) new.1)
kept_new (DropMailbox number ∷ es) c new = absurd new.0
kept_new (PutEmail item was ∷ es) c new = absurd new.0
kept_new (DropEmail number thread ∷ es) c new = absurd new.0
kept_new (PutThread item was ∷ es) c new = absurd new.0
kept_new (DropThread number ∷ es) c new = absurd new.0

-- ---- edits of mailboxes and of emails whose threads are there

abbrev Known : Content → ℕ → Type 0
Known c t = is_some (thread_at c t) ≡ true

abbrev IsOwn : Content → Edit → Type 0
IsOwn c (PutMailbox item was counts) = ⊤
IsOwn c (DropMailbox number) = ⊤
IsOwn c (PutEmail item was) = (was ≡ true) × IsFiled item × Known c item.thread
IsOwn c (DropEmail number thread) = Known c thread
IsOwn c (PutThread item was) = ⊥
IsOwn c (DropThread number) = ⊥

own_new : (c : Content) (e : Edit) → PutsNew e → IsOwn c e
own_new c (PutMailbox item was counts) new = tt
own_new c (DropMailbox number) new = absurd new
own_new c (PutEmail item was) new = absurd new
own_new c (DropEmail number thread) new = absurd new
own_new c (PutThread item was) new = absurd new
own_new c (DropThread number) new = absurd new

leaves_new : (e : Edit) → PutsNew e → LeavesEmails e
leaves_new (PutMailbox item was counts) new = refl
leaves_new (DropMailbox number) new = absurd new
leaves_new (PutEmail item was) new = absurd new
leaves_new (DropEmail number thread) new = absurd new
leaves_new (PutThread item was) new = absurd new
leaves_new (DropThread number) new = absurd new

puts_new : (e : Edit) → PutsNew e → PutsMailbox e
puts_new (PutMailbox item was counts) new = tt
puts_new (DropMailbox number) new = absurd new
puts_new (PutEmail item was) new = absurd new
puts_new (DropEmail number thread) new = absurd new
puts_new (PutThread item was) new = absurd new
puts_new (DropThread number) new = absurd new

leaves_threads : (c : Content) (e : Edit) → IsOwn c e → LeavesThreads e
leaves_threads c (PutMailbox item was counts) own = refl
leaves_threads c (DropMailbox number) own = refl
leaves_threads c (PutEmail item was) own = refl
leaves_threads c (DropEmail number thread) own = refl
leaves_threads c (PutThread item was) own = absurd own
leaves_threads c (DropThread number) own = absurd own

files : (c : Content) (e : Edit) → IsOwn c e → PutsEmail IsFiled e
files c (PutMailbox item was counts) own = tt
files c (DropMailbox number) own = tt
files c (PutEmail item was) own = own.1
files c (DropEmail number thread) own = tt
files c (PutThread item was) own = absurd own
files c (DropThread number) own = absurd own

delivers : (summary : List ℕ → Summary) (blobs : List (List ℕ)) (c : Content) (e : Edit) → IsOwn c e → PutsNewEmail (IsDelivered summary blobs) e
delivers summary blobs c (PutMailbox item was counts) own = tt
delivers summary blobs c (DropMailbox number) own = tt
delivers summary blobs c (PutEmail item true) own = tt
delivers summary blobs c (PutEmail item false) own = absurd (false≢true own.0)
delivers summary blobs c (DropEmail number thread) own = tt
delivers summary blobs c (PutThread item was) own = absurd own
delivers summary blobs c (DropThread number) own = absurd own

named_known : (c : Content) (es : List Edit) → AllByRecursion (IsOwn c) es → AllByRecursion (Known c) (threads_named es)
named_known c [] own = tt
named_known c (PutMailbox item was counts ∷ es) own = named_known c es own.1
named_known c (DropMailbox number ∷ es) own = named_known c es own.1
named_known c (PutEmail item was ∷ es) own = (own.0.2, named_known c es own.1)
named_known c (DropEmail number thread ∷ es) own = (own.0, named_known c es own.1)
named_known c (PutThread item was ∷ es) own = absurd own.0
named_known c (DropThread number ∷ es) own = absurd own.0

all_match : (P : ℕ → Type 0) (o : Ordering) (xs ys zs : List ℕ) → AllByRecursion P xs → AllByRecursion P ys → AllByRecursion P zs → AllByRecursion P (match_ordering o xs ys zs)
all_match P Less xs ys zs a b d = a
all_match P Equal xs ys zs a b d = b
all_match P Greater xs ys zs a b d = d

all_put_in : (P : ℕ → Type 0) (R : ℕ → ℕ → Ordering) (k : ℕ) (xs : List ℕ) → P k → AllByRecursion P xs → AllByRecursion P (put_in R k xs)
all_put_in P R k [] here all = (here, tt)
all_put_in P R k (x ∷ xs) here all = all_match P (R x k) (x ∷ put_in R k xs) (x ∷ xs) (k ∷ x ∷ xs) (all.0, all_put_in P R k xs here all.1) all (here, all)

all_sorted : (P : ℕ → Type 0) (R : ℕ → ℕ → Ordering) (xs : List ℕ) → AllByRecursion P xs → AllByRecursion P (sorted_once R xs)
all_sorted P R [] all = tt
all_sorted P R (x ∷ xs) all = all_put_in P R x (sorted_once R xs) all.0 (all_sorted P R xs all.1)

none_new : (c : Content) (ts : List ℕ) → AllByRecursion (Known c) ts → filter (λ t. not (is_some (thread_at c t))) ts ≡ []
none_new c [] all = refl
none_new c (t ∷ ts) all = rw all.0 (none_new c ts all.1)

in_turn : (c : Content) (es : List Edit) → AllByRecursion (IsOwn c) es → AreInTurn c.next_thread (new_threads c es)
in_turn c es own =
    subst (AreInTurn c.next_thread) (sym (none_new c (touched_threads es) (all_sorted (Known c) nat_cmp (threads_named es) (named_known c es own)))) tt

-- ---- how far the edits of a set have come

abbrev ThreadKnown : Content → Email → Type 0
ThreadKnown c e = Known c e.thread

-- Over a tidy content, these edits led to a content that is tidy but for threads and counts.
pub record Led (c d : Content) (es : List Edit) : Type 0 where
  pub content : d ≡ after_edits c es
  pub fits : AllFit c es
  pub kept : AllKeepMessages c es
  pub counts : AllKeepCounts c es
  pub flags : AreCountsFlagsRight c es
  pub own : AllByRecursion (IsOwn c) es
  pub tidy : IsTidyButThreadsAndCounts d
  pub known : AllByRecursion (ThreadKnown c) d.emails

-- more edits
pub record Leads (c d : Content) (more : List Edit) : Type 0 where
  pub fits : AllFit d more
  pub kept : AllKeepMessages d more
  pub counts : AllKeepCounts d more
  pub flags : AreCountsFlagsRight d more
  pub own : AllByRecursion (IsOwn c) more
  pub tidy : IsTidyButThreadsAndCounts (after_edits d more)
  pub known : AllByRecursion (ThreadKnown c) (after_edits d more).emails

pub led_more : (c d : Content) (es more : List Edit) → Led c d es → Leads c d more → Led c (after_edits d more) (es ++ more)
led_more c d es more led leads = record {
  content = ap (λ (x : Content). after_edits x more) led.content ∙ sym (after_edits-append es more c);
  fits = AllFit-append es more c led.fits (subst (λ (x : Content). AllFit x more) led.content leads.fits);
  kept = kept_append es more c led.kept (subst (λ (x : Content). AllKeepMessages x more) led.content leads.kept);
  counts = counts_append es more c led.counts (subst (λ (x : Content). AllKeepCounts x more) led.content leads.counts);
  flags = flags_append es more c led.flags (subst (λ (x : Content). AreCountsFlagsRight x more) led.content leads.flags);
  own = all_append (IsOwn c) es more led.own leads.own;
  tidy = leads.tidy;
  known = leads.known;
}

-- ---- creates

tidy_but : (c : Content) → IsTidy c → IsTidyButThreadsAndCounts c
tidy_but c t = record {
  tables = t.tables;
  numbered = t.numbered;
  mailboxes = record {
    forms = t.mailboxes.forms;
    placed = all_map (IsPlaced c) (IsPlacedBelow c) c.mailboxes (λ (m : Mailbox) (p : IsPlaced c m). record { parent = p.parent; root = p.root }) t.mailboxes.placed;
    names = t.mailboxes.names;
    roles = t.mailboxes.roles;
  };
  emails = t.emails;
}

led_creates : (c : Content) (made : List Created) (xs : List Create) → IsTidy c → Led c (after_creates (before_creates c made) xs).content (after_creates (before_creates c made) xs).edits
led_creates c made xs tidy =
    let p = after_creates (before_creates c made) xs in
    let first : Leading c (before_creates c made) = record { content = refl; puts = tt } in
    let f = Leading-creates c (before_creates c made) xs first in
    let fits : AllFit c p.edits = (Fitting-creates c (before_creates c made) xs (record { leads = first; fits = tt; numbered = tidy.numbered })).fits in
    let same : p.content.emails ≡ c.emails = ap (λ (d : Content). d.emails) f.content ∙ emails-after_edits p.edits c (all_map PutsNew LeavesEmails p.edits leaves_new f.puts) in
    record {
      content = f.content;
      fits = fits;
      kept = kept_new p.edits c f.puts;
      counts = counts_new p.edits c fits f.puts;
      flags = flags_right p.edits c fits f.puts;
      own = all_map PutsNew (IsOwn c) p.edits (own_new c) f.puts;
      tidy = tidy_but p.content (Tidy-creates (before_creates c made) xs tidy);
      known = subst (AllByRecursion (ThreadKnown c)) (sym same) tidy.threads.named;
    }

-- what the creates of a set have created is what the request created with them
made_creates : (c : Content) (made : List Created) (xs : List Create) → (after_creates (before_creates c made) xs).made ≡ made ++ (after_creates (before_creates c made) xs).fresh
made_creates c made xs =
    by_rounds (λ (s : Creating). s.made ≡ made ++ s.fresh)
    (λ s x is.
    let a = sent_properties s.content s.made x.members in
    by_checks (λ (s : Creating). s.made ≡ made ++ s.fresh) s x (mailbox_of s.content.next_mailbox a) (bad_in s.content a x.members)
    (λ none.
    let one = record_under x.creation (new_record x.members (mailbox_of s.content.next_mailbox a)) in
    ap (λ (ms : List Created). ms ++ one ∷ []) is ∙ append_assoc made s.fresh (one ∷ []))
    (λ r. is))
    (length xs) (before_creates c made) xs (sym (append-nil made))

-- creates of mailboxes bring no blobs
none_brought : (c : Content) (made : List Created) (xs : List Create) → (after_creates (before_creates c made) xs).blobs ≡ []
none_brought c made xs =
    by_rounds (λ (s : Creating). s.blobs ≡ [])
    (λ s x is.
    let a = sent_properties s.content s.made x.members in
    by_checks (λ (s : Creating). s.blobs ≡ []) s x (mailbox_of s.content.next_mailbox a) (bad_in s.content a x.members) (λ none. append-nil s.blobs ∙ is) (λ r. is))
    (length xs) (before_creates c made) xs refl

pub created_by : (c : Content) (made : List Created) (xs : List Create) → IsCreated c made (after_creates (before_creates c made) xs)
created_by c made xs =
    let f = Leading-creates c (before_creates c made) xs (record { content = refl; puts = tt }) in
    record {
      made = made_creates c made xs;
      puts = all_map PutsNew PutsMailbox (after_creates (before_creates c made) xs).edits puts_new f.puts;
      content = f.content;
    }

-- ---- destroys

none_of : (n : ℕ) (e : Email) (ms : List ℕ) → PutsNone (removal_of e ms)
none_of n e [] = tt
none_of n e (m ∷ ms) = tt

puts_none : (n : ℕ) (xs : List Email) → AllByRecursion PutsNone (map (removal n) xs ++ DropMailbox n ∷ [])
puts_none n [] = (tt, tt)
puts_none n (e ∷ xs) = (none_of n e (mailboxes_but n e.mailboxes), puts_none n xs)

own_with : (c d : Content) (n : ℕ) (e : Email) (ms : List ℕ) → ms ≡ mailboxes_but n e.mailboxes → IsTidyEmail d e → ThreadKnown c e → IsOwn c (removal_of e ms)
own_with c d n e [] is tidy known = known
own_with c d n e (m ∷ ms) is tidy known = (
  refl,
  record {
    few_mailboxes =
        let few = few_kept (λ x. not (eqb x n)) e.mailboxes in
        let most = tidy.few_mailboxes in
        let same : length (m ∷ ms) ≡ length (mailboxes_but n e.mailboxes) = ap length is in
        omega (arith, few, most, same);
    mailboxes_rise = subst (λ (ns : List ℕ). NumbersRise ns) (sym is) (IsStrictlySortedBy-filter nat_cmp (λ x. not (eqb x n)) e.mailboxes tidy.mailboxes_rise);
    keywords_rise = tidy.keywords_rise;
  },
  known,
)

own_removals : (c d : Content) (n : ℕ) (xs : List Email) → AllByRecursion (IsTidyEmail d) xs → AllByRecursion (ThreadKnown c) xs → AllByRecursion (IsOwn c) (map (removal n) xs ++ DropMailbox n ∷ [])
own_removals c d n [] tidy known = (tt, tt)
own_removals c d n (e ∷ xs) tidy known = (own_with c d n e (mailboxes_but n e.mailboxes) refl tidy.0 known.0, own_removals c d n xs tidy.1 known.1)

known_with : (c : Content) (e : Email) (ms : List ℕ) → ThreadKnown c e → AllByRecursion (ThreadKnown c) (left_with e ms)
known_with c e [] known = tt
known_with c e (m ∷ ms) known = (known, tt)

known_left : (c : Content) (n : ℕ) (e : Email) (b : Bool) → ThreadKnown c e → AllByRecursion (ThreadKnown c) (cond b (left_with e (mailboxes_but n e.mailboxes)) (e ∷ []))
known_left c n e true known = known_with c e (mailboxes_but n e.mailboxes) known
known_left c n e false known = (known, tt)

leads_destroy : (c d : Content) (n : ℕ) → IsTidyButThreadsAndCounts d → AllByRecursion (ThreadKnown c) d.emails → is_some (mailbox_at d n) ≡ true → has_child d n ≡ false → Leads c d (destroy_edits d n)
leads_destroy c d n tidy known there childless =
    let is = destroyed n d tidy.tables.emails in
    let none = puts_none n (filter (is_in n) d.emails) in
    record {
      fits = is.fits there;
      kept = is.kept;
      counts = counts_none (destroy_edits d n) d none;
      flags = flags_none (destroy_edits d n) d none;
      own = own_removals c d n (filter (is_in n) d.emails) (All-kept (IsTidyEmail d) (is_in n) d.emails tidy.emails.each) (All-kept (ThreadKnown c) (is_in n) d.emails known);
      tidy = tidy_destroyed n d tidy there childless;
      known = subst (AllByRecursion (ThreadKnown c)) (sym is.emails) (all_flat (ThreadKnown c) (ThreadKnown c) (left_without n) d.emails (λ (e : Email) (k : ThreadKnown c e). known_left c n e (is_in n e) k) known);
    }

-- the edits of creates and those of steps up to here
abbrev LedBy : Content → List Edit → Steps → Type 0
LedBy c first s = Led c s.content (first ++ s.edits)

led_step : (c : Content) (first : List Edit) (s : Steps) (id : List ℕ) (n : ℕ) (b a : Bool) → has_child s.content n ≡ b → LedBy c first s → is_some (mailbox_at s.content n) ≡ true
    → LedBy c first (after_destroy id s (cond b (Rejected MailboxHasChild) (cond a (Rejected MailboxHasEmail) (Done (destroy_edits s.content n)))))
led_step c first s id n true a is led there = led
led_step c first s id n false true is led there = led
led_step c first s id n false false is led there =
    subst (Led c (after_edits s.content (destroy_edits s.content n))) (append_assoc first s.edits (destroy_edits s.content n))
    (led_more c s.content (first ++ s.edits) (destroy_edits s.content n) led (leads_destroy c s.content n led.tidy led.known there is))

led_meant : (c : Content) (first : List Edit) (remove : Bool) (s : Steps) (id : List ℕ) (o : Option Mailbox) → LedBy c first s → ((m : Mailbox) → o ≡ Some m → is_some (mailbox_at s.content m.number) ≡ true)
    → LedBy c first (after_destroy id s (destroy_of remove s.content o))
led_meant c first remove s id None led there = led
led_meant c first remove s id (Some m) led there =
    led_step c first s id m.number (has_child s.content m.number) (has_email s.content m.number && not remove) refl led (there m refl)

led_destroys : (c : Content) (first : List Edit) (made : List Created) (remove : Bool) (xs : List (List ℕ)) (s : Steps) → LedBy c first s → LedBy c first (after_destroys (destroy_mailbox made remove) made s xs)
led_destroys c first made remove [] s led = led
led_destroys c first made remove (x ∷ xs) s led =
    led_destroys c first made remove xs (after_destroy (reported_id made x) s (destroy_mailbox made remove s.content x))
    (led_meant c first remove s (reported_id made x) (mailbox_meant made s.content x) led (meant_there made s.content x))

-- ---- updates

moves_own : (c : Content) (es : List Edit) (d : Content) → AreMoves d es → AllByRecursion (IsOwn c) es
moves_own c es d moves = by_moves (λ (x : Content) (ys : List Edit). AllByRecursion (IsOwn c) ys) (λ x. tt) (λ x item ys move rest. (tt, rest)) es d moves

leads_moves : (c d : Content) (es : List Edit) → IsTidyButThreadsAndCounts d → AllByRecursion (ThreadKnown c) d.emails → AreMoves d es → list_all (keeps_rules (after_edits d es)) es ≡ true → Leads c d es
leads_moves c d es tidy known moves keeps = record {
  fits = moves_fit es d moves;
  kept = moves_keep es d moves;
  counts = moves_count es d moves;
  flags = moves_flag es d moves;
  own = moves_own c es d moves;
  tidy = tidy_moved d es tidy moves keeps;
  known = subst (AllByRecursion (ThreadKnown c)) (sym (emails-after_edits es d (moves_leave es d moves))) known;
}

-- The updates up to here put mailboxes that are there.
record Moved (d : Content) (s : Steps) : Type 0 where
  content : s.content ≡ after_edits d s.edits
  moves : AreMoves d s.edits

moved_step : (d : Content) (s : Steps) (id : List ℕ) (step : Step) → Moved d s → StepMoves s.content step → Moved d (after_update id s step)
moved_step d s id (Rejected error) moved moves = record { content = moved.content; moves = moved.moves }
moved_step d s id (Done es) moved moves = record {
  content = ap (λ (x : Content). after_edits x es) moved.content ∙ sym (after_edits-append s.edits es d);
  moves = moves_append s.edits es d moved.moves (subst (λ (x : Content). AreMoves x es) moved.content moves);
}

moved_updates : (alone : Bool) (made : List Created) (destroys : List (List ℕ)) (d : Content) → AreTables d → (xs : List Update) (s : Steps) → Moved d s → Moved d (after_updates (update_as alone made destroys) made s xs)
moved_updates alone made destroys d tables [] s moved = moved
moved_updates alone made destroys d tables (x ∷ xs) s moved =
    let table : IsTable mailbox_number s.content.mailboxes = subst (λ (y : Content). IsTable mailbox_number y.mailboxes) (sym moved.content) (AreTables-after_edits s.edits d tables).mailboxes in
    let step = update_as alone made destroys s.content x in
    moved_updates alone made destroys d tables xs (after_update (reported_id made x.id) s step)
    (moved_step d s (reported_id made x.id) step moved (update_moves alone made destroys s.content x table))

moved_first : (d : Content) → Moved d (before_steps d)
moved_first d = record { content = refl; moves = tt }

moved_all : (made : List Created) (destroys : List (List ℕ)) (d : Content) (xs : List Update) → AreTables d → Moved d (after_mailbox_updates made destroys (before_steps d) xs)
moved_all made destroys d xs tables = by_rules (all_keep_rules (after_updates (update_as false made destroys) made (before_steps d) xs))
  where
    by_rules : (b : Bool) → Moved d (cond b (after_updates (update_as false made destroys) made (before_steps d) xs) (after_updates (update_as true made destroys) made (before_steps d) xs))
    by_rules true = moved_updates false made destroys d tables xs (before_steps d) (moved_first d)
    by_rules false = moved_updates true made destroys d tables xs (before_steps d) (moved_first d)

led_update : (c : Content) (first : List Edit) (s : Steps) (id : List ℕ) (step : Step) → LedBy c first s → StepMoves s.content step → StepKeeps s.content step → LedBy c first (after_update id s step)
led_update c first s id (Rejected error) led moves keeps = led
led_update c first s id (Done es) led moves keeps =
    subst (Led c (after_edits s.content es)) (append_assoc first s.edits es)
    (led_more c s.content (first ++ s.edits) es led (leads_moves c s.content es led.tidy led.known moves keeps))

led_alone : (c : Content) (first : List Edit) (made : List Created) (destroys : List (List ℕ)) (xs : List Update) (s : Steps) → LedBy c first s → LedBy c first (after_updates (update_as true made destroys) made s xs)
led_alone c first made destroys [] s led = led
led_alone c first made destroys (x ∷ xs) s led =
    let step = update_as true made destroys s.content x in
    led_alone c first made destroys xs (after_update (reported_id made x.id) s step)
    (led_update c first s (reported_id made x.id) step led (update_moves true made destroys s.content x led.tidy.tables.mailboxes) (update_keeps made destroys s.content x))

led_updates : (c d : Content) (first : List Edit) (made : List Created) (destroys : List (List ℕ)) (xs : List Update) → Led c d first → LedBy c first (after_mailbox_updates made destroys (before_steps d) xs)
led_updates c d first made destroys xs led = by_rules (all_keep_rules all) refl
  where
    all : Steps
    all = after_updates (update_as false made destroys) made (before_steps d) xs

    one : Steps
    one = after_updates (update_as true made destroys) made (before_steps d) xs

    by_rules : (b : Bool) → all_keep_rules all ≡ b → LedBy c first (cond b all one)
    by_rules true keeps =
        let moved = moved_updates false made destroys d led.tidy.tables xs (before_steps d) (moved_first d) in
        let rules : list_all (keeps_rules (after_edits d all.edits)) all.edits ≡ true = subst (λ (x : Content). list_all (keeps_rules x) all.edits ≡ true) moved.content keeps in
        subst (λ (x : Content). Led c x (first ++ all.edits)) (sym moved.content)
        (led_more c d first all.edits led (leads_moves c d all.edits led.tidy led.known moved.moves rules))
    by_rules false keeps = led_alone c first made destroys xs (before_steps d) (subst (Led c d) (sym (append-nil first)) led)

-- ---- flags, also of a content that is not tidy

abbrev StepPutsNone : Step → Type 0
StepPutsNone (Rejected error) = ⊤
StepPutsNone (Done es) = AllByRecursion PutsNone es

none_there : (b a : Bool) (d : Content) (n : ℕ) → StepPutsNone (cond b (Rejected MailboxHasChild) (cond a (Rejected MailboxHasEmail) (Done (destroy_edits d n))))
none_there true a d n = tt
none_there false true d n = tt
none_there false false d n = puts_none n (filter (is_in n) d.emails)

none_meant : (remove : Bool) (d : Content) (o : Option Mailbox) → StepPutsNone (destroy_of remove d o)
none_meant remove d None = tt
none_meant remove d (Some m) = none_there (has_child d m.number) (has_email d m.number && not remove) d m.number

-- the flags are right up to here
record Flagged (d : Content) (s : Steps) : Type 0 where
  content : s.content ≡ after_edits d s.edits
  flags : AreCountsFlagsRight d s.edits

flagged_after : (d : Content) (id : List ℕ) (s : Steps) (step : Step) → Flagged d s → StepPutsNone step → Flagged d (after_destroy id s step)
flagged_after d id s (Rejected error) flagged none = record { content = flagged.content; flags = flagged.flags }
flagged_after d id s (Done es) flagged none = record {
  content = ap (λ (x : Content). after_edits x es) flagged.content ∙ sym (after_edits-append s.edits es d);
  flags = flags_append s.edits es d flagged.flags (flags_none es (after_edits d s.edits) none);
}

flagged_destroys : (d : Content) (made : List Created) (remove : Bool) (xs : List (List ℕ)) (s : Steps) → Flagged d s → Flagged d (after_destroys (destroy_mailbox made remove) made s xs)
flagged_destroys d made remove [] s flagged = flagged
flagged_destroys d made remove (x ∷ xs) s flagged =
    flagged_destroys d made remove xs (after_destroy (reported_id made x) s (destroy_mailbox made remove s.content x))
    (flagged_after d (reported_id made x) s (destroy_mailbox made remove s.content x) flagged (none_meant remove s.content (mailbox_meant made s.content x)))

flagged_updates : (made : List Created) (destroys : List (List ℕ)) (d : Content) (xs : List Update) → AreTables d → Flagged d (after_mailbox_updates made destroys (before_steps d) xs)
flagged_updates made destroys d xs tables =
    let s = after_mailbox_updates made destroys (before_steps d) xs in
    let moved = moved_all made destroys d xs tables in
    record { content = moved.content; flags = moves_flag s.edits d moved.moves }

-- ---- a plan

fit_rest : (es more : List Edit) (d : Content) → AllFit d (es ++ more) → AllFit (after_edits d es) more
fit_rest [] more d fit = fit
fit_rest (e ∷ es) more d fit = fit_rest es more (after_edit d e) fit.1

promised_edits : (summary : List ℕ → Summary) (blobs : List (List ℕ)) (c d : Content) (es : List Edit) → IsTidy c → Led c d es → IsPlanned summary blobs c (es ++ derived_edits c es)
promised_edits summary blobs c d es tidy led =
    let more = derived_edits c es in
    let leave : LeaveTidyButThreadsAndCounts c es = record {
      fit = led.fits;
      keep_threads = threads_kept es c led.kept;
      keep_counts = led.counts;
      leave_threads = all_map (IsOwn c) LeavesThreads es (leaves_threads c) led.own;
      new_threads = in_turn c es led.own;
      after = subst IsTidyButThreadsAndCounts led.content led.tidy;
    } in
    let made = made_tidy c es tidy leave in
    let leaves : AllByRecursion LeavesEmails more = derived_leaves c (after_edits c es) (touched_threads es) in
    let flags : AreCountsFlagsRight (after_edits c es) more = derived_flags c (after_edits c es) (touched_threads es) (AreTables-after_edits es c tidy.tables).mailboxes in
    let rest : IsPlanned summary blobs (after_edits c es) more =
    planned_mailboxes summary blobs (after_edits c es) more (fit_rest es more c made.0) leaves (subst IsTidy (after_edits-append es more c) made.1) flags in
    record {
      fits = made.0;
      kept = kept_append es more c led.kept rest.kept;
      delivered = all_append (PutsNewEmail (IsDelivered summary blobs)) es more (all_map (IsOwn c) (PutsNewEmail (IsDelivered summary blobs)) es (delivers summary blobs c) led.own) rest.delivered;
      filed = all_append (PutsEmail IsFiled) es more (all_map (IsOwn c) (PutsEmail IsFiled) es (files c) led.own) rest.filed;
      tidy = made.1;
      flags = flags_append es more c led.flags rest.flags;
    }

-- what a plan is promised to be
pub record Promised (g : Ground) (p : Plan) : Type 0 where
  pub planned : (summary : List ℕ → Summary) (blobs : List (List ℕ)) → IsTidy g.content → IsPlanned summary blobs g.content p.edits
  pub new_state : HasNewState OfMailbox g p.reply p.edits
  pub flags : AreTables g.content → AreNumbered g.content → AreCountsFlagsRight g.content p.edits
  pub none_brought : p.blobs ≡ []

promised_plan : (g : Ground) (made : List Created) (ms : List (List ℕ × Tree)) → Promised g (plan_in g made ms)
promised_plan g made ms =
    let c = g.content in
    let p = after_creates (before_creates c made) (creates_in ms) in
    let s = steps_after p ms in
    let es = p.edits ++ s.edits in
    let first : Leading c (before_creates c made) = record { content = refl; puts = tt } in
    let f = Leading-creates c (before_creates c made) (creates_in ms) first in
    let led : IsTidy c → LedBy c p.edits s =
    λ (tidy : IsTidy c).
    led_destroys c p.edits p.made (removes_emails ms) (destroys_in ms) (updated_after p ms)
    (led_updates c p.content p.edits p.made (destroys_in ms) (updates_in ms) (led_creates c made (creates_in ms) tidy)) in
    record {
      planned = λ summary blobs tidy. promised_edits summary blobs c s.content es tidy (led tidy);
      new_state = refl;
      flags = λ tables numbered.
          let fits : AllFit c p.edits = (Fitting-creates c (before_creates c made) (creates_in ms) (record { leads = first; fits = tt; numbered = numbered })).fits in
          let now : AreTables p.content = subst AreTables (sym f.content) (AreTables-after_edits p.edits c tables) in
          let flagged = flagged_destroys p.content p.made (removes_emails ms) (destroys_in ms) (updated_after p ms) (flagged_updates p.made (destroys_in ms) p.content (updates_in ms) now) in
          flags_append es (derived_edits c es) c
          (flags_append p.edits s.edits c (flags_right p.edits c fits f.puts) (subst (λ (x : Content). AreCountsFlagsRight x s.edits) f.content flagged.flags))
          (derived_flags c (after_edits c es) (touched_threads es) (AreTables-after_edits es c tables).mailboxes);
      none_brought = none_brought c made (creates_in ms);
    }

pub promised : (g : Ground) (args : Tree) (made : List Created) (q : Plan) → mailbox_set_outcome g args made ≡ planned q → Promised g q
promised g args made q e =
    plan_of_planned (Promised g) mailbox_set_forms count_objects (present_state OfMailbox g) (plan_in g made) (promised_plan g made) args q e

-- the plan of a set, from its creates and the steps after them
pub objects_planned : (g : Ground) (made : List Created) (ms : List (List ℕ × Tree)) (x : Plan) (account : List ℕ) (planner : Planner) (steps : TheSteps) → account ≡ account_in ms
    → Follows planner (after_creates (before_creates g.content made) (creates_in ms)) → IsStepsOf steps (steps_after (after_creates (before_creates g.content made) (creates_in ms)) ms)
    → ((p : Creating) (s : Steps) → Follows planner p → IsStepsOf steps s → x ≡ plan_after OfMailbox g account p s) → x ≡ plan_in g made ms
objects_planned g made ms x account planner steps same follows is all =
    all (after_creates (before_creates g.content made) (creates_in ms)) (steps_after (after_creates (before_creates g.content made) (creates_in ms)) ms) follows is
    ∙ ap (λ (a : List ℕ). plan_after OfMailbox g a (after_creates (before_creates g.content made) (creates_in ms)) (steps_after (after_creates (before_creates g.content made) (creates_in ms)) ms)) same
