-- A page brings the records of its kind up to date, and the next page continues from its new state.
use Rattle.std.proofs.Common.{◌≡◌, ℕ, ◌-◌, ◌≤◌, Bool, true, false, not, cond, ◌&&◌, ◌||◌, eqb, List, [], ◌∷◌, map, filter, take, drop, Option, Some, None, is_some, refl, sym, ap, ap₂, ◌∙◌, ⊎_elim}
use Rattle.std.specs.List.{list_any}
use Rattle.std.proofs.lemmas.Bool.{cases_Bool, or_parts, eqb-true}
use Rattle.std.proofs.lemmas.List.{drop-map, take-map}
use Rattle.jm_base.specs.declared.identifiers.Kind.{Kind}
use Rattle.jm_base.specs.declared.identifiers.Kind.TheVariants.{Mailbox as OfMailbox, Email as OfEmail, Thread as OfThread}
use Rattle.mail_records.specs.Contents.{Content, email_at, mailbox_at, thread_at, email_number, mailbox_number, thread_number}
use Rattle.mail_records.specs.Edits.{after_edit, after_edits, id_of}
use Rattle.mail_records.specs.Histories.{History, content_at, edits_between, edits_of, ids_of}
use Rattle.mail_records.specs.States.{ids_between, is_id}
use Rattle.mail_records.specs.declared.edits.Edit.{Edit}
use Rattle.mail_records.specs.declared.edits.Edit.TheVariants.{PutMailbox, DropMailbox, PutEmail, DropEmail, PutThread, DropThread}
use Rattle.mail_records.proofs.Tables.{lookup-put_other, lookup-without_other}
use Rattle.change_calls.specs.Changes.{created, destroyed, touched, updated}
use Rattle.change_calls.specs.Pages.{BringsUpToDate, brought, has}
use Rattle.change_calls.proofs.Named.{has-numbers}
use Rattle.change_calls.proofs.Spans.{content_is}

-- ---- a record that no edit names stays

pub mailbox_step : (n : ℕ) (c : Content) (e : Edit) → is_id OfMailbox n (id_of e) ≡ false → mailbox_at (after_edit c e) n ≡ mailbox_at c n
mailbox_step n c (PutMailbox item was counts) h = lookup-put_other mailbox_number item n h c.mailboxes
mailbox_step n c (DropMailbox number) h = lookup-without_other mailbox_number number n h c.mailboxes
mailbox_step n c (PutEmail item was) h = refl
mailbox_step n c (DropEmail number thread) h = refl
mailbox_step n c (PutThread item was) h = refl
mailbox_step n c (DropThread number) h = refl

pub email_step : (n : ℕ) (c : Content) (e : Edit) → is_id OfEmail n (id_of e) ≡ false → email_at (after_edit c e) n ≡ email_at c n
email_step n c (PutMailbox item was counts) h = refl
email_step n c (DropMailbox number) h = refl
email_step n c (PutEmail item was) h = lookup-put_other email_number item n h c.emails
email_step n c (DropEmail number thread) h = lookup-without_other email_number number n h c.emails
email_step n c (PutThread item was) h = refl
email_step n c (DropThread number) h = refl

thread_step : (n : ℕ) (c : Content) (e : Edit) → is_id OfThread n (id_of e) ≡ false → thread_at (after_edit c e) n ≡ thread_at c n
thread_step n c (PutMailbox item was counts) h = refl
thread_step n c (DropMailbox number) h = refl
thread_step n c (PutEmail item was) h = refl
thread_step n c (DropEmail number thread) h = refl
thread_step n c (PutThread item was) h = lookup-put_other thread_number item n h c.threads
thread_step n c (DropThread number) h = lookup-without_other thread_number number n h c.threads

module _ {R : Type 0} (at : Content → ℕ → Option R) (kind : Kind) (step : (n : ℕ) (c : Content) (e : Edit) → is_id kind n (id_of e) ≡ false → at (after_edit c e) n ≡ at c n) where
  pub stays : (es : List Edit) (c : Content) (n : ℕ) → list_any (is_id kind n) (map id_of es) ≡ false → at (after_edits c es) n ≡ at c n
  stays [] c n h = refl
  stays (e ∷ es) c n h =
      let parts = or_parts (is_id kind n (id_of e)) (list_any (is_id kind n) (map id_of es)) h in
      stays es (after_edit c e) n parts.1 ∙ step n c e parts.0

  -- between two positions
  stays_between : (h : History) (from upto n : ℕ) → from ≤ upto → has (touched h kind from upto) n ≡ false → at (content_at h upto) n ≡ at (content_at h from) n
  stays_between h from upto n le away =
      let es = edits_between h from upto in
      let ids : ids_between h.floor from upto (ids_of h) ≡ map id_of es =
      ap (drop (from - h.floor)) (take-map id_of (upto - h.floor) (edits_of h)) ∙ drop-map id_of (from - h.floor) (take (upto - h.floor) (edits_of h)) in
      let none : list_any (is_id kind n) (map id_of es) ≡ false =
      ap (list_any (is_id kind n)) (sym ids) ∙ (sym (has-numbers (ids_between h.floor from upto (ids_of h)) kind [] n) ∙ away) in
      ap (λ c. at c n) (content_is h from upto le) ∙ stays es (content_at h from) n none

-- ---- the cases of a record: named or not, there before or not, there after or not

has-filter : (keep : ℕ → Bool) (xs : List ℕ) (n : ℕ) → has (filter keep xs) n ≡ (has xs n && keep n)
has-filter keep [] n = refl
has-filter keep (x ∷ xs) n =
    ⊎_elim
    (λ (k : keep x ≡ true).
    rw k
    (⊎_elim
    (λ (s : eqb x n ≡ true). rw s (sym (ap keep (sym (eqb-true x n s)) ∙ k)))
    (λ (s : eqb x n ≡ false). rw s (has-filter keep xs n))
    (cases_Bool (eqb x n))))
    (λ (k : keep x ≡ false).
    rw k
    (⊎_elim
    (λ (s : eqb x n ≡ true).
    let no : keep n ≡ false = ap keep (sym (eqb-true x n s)) ∙ k in
    has-filter keep xs n ∙ (ap (λ b. has xs n && b) no ∙ (never (has xs n) ∙ sym (ap (λ b. (eqb x n || has xs n) && b) no ∙ never (eqb x n || has xs n)))))
    (λ (s : eqb x n ≡ false). rw s (has-filter keep xs n))
    (cases_Bool (eqb x n))))
    (cases_Bool (keep x))
  where
    never : (b : Bool) → (b && false) ≡ false
    never true = refl
    never false = refl

-- the cases of an id: named or not, there before or not, there after or not
cases : {R : Type 0} (named : Bool) (was is : Option R) → (named ≡ false → is ≡ was)
    → cond (named && (is_some was && not (is_some is))) None (cond ((named && (not (is_some was) && is_some is)) || (named && (is_some was && is_some is))) is was) ≡ is
cases false was is same = sym (same refl)
cases true None None same = refl
cases true None (Some y) same = refl
cases true (Some x) None same = refl
cases true (Some x) (Some y) same = refl

by_case : {R : Type 0} (named c u d : Bool) (was is : Option R) → c ≡ (named && (not (is_some was) && is_some is)) → u ≡ (named && (is_some was && is_some is)) → d ≡ (named && (is_some was && not (is_some is)))
    → (named ≡ false → is ≡ was) → cond d None (cond (c || u) is was) ≡ is
by_case named c u d was is ec eu ed same =
    ap₂ (λ a b. cond a None (cond b is was)) ed (ap₂ (λ a b. a || b) ec eu) ∙ cases named was is same

mailboxes_brought : (h : History) (from upto : ℕ) → from ≤ upto → (n : ℕ) → brought h OfMailbox from upto mailbox_at n ≡ mailbox_at (content_at h upto) n
mailboxes_brought h from upto le n =
    by_case (has (touched h OfMailbox from upto) n) (has (created h OfMailbox from upto) n) (has (updated h OfMailbox from upto) n) (has (destroyed h OfMailbox from upto) n)
    (mailbox_at (content_at h from) n) (mailbox_at (content_at h upto) n)
    (has-filter _ (touched h OfMailbox from upto) n) (has-filter _ (touched h OfMailbox from upto) n) (has-filter _ (touched h OfMailbox from upto) n)
    (stays_between mailbox_at OfMailbox mailbox_step h from upto n le)

emails_brought : (h : History) (from upto : ℕ) → from ≤ upto → (n : ℕ) → brought h OfEmail from upto email_at n ≡ email_at (content_at h upto) n
emails_brought h from upto le n =
    by_case (has (touched h OfEmail from upto) n) (has (created h OfEmail from upto) n) (has (updated h OfEmail from upto) n) (has (destroyed h OfEmail from upto) n)
    (email_at (content_at h from) n) (email_at (content_at h upto) n)
    (has-filter _ (touched h OfEmail from upto) n) (has-filter _ (touched h OfEmail from upto) n) (has-filter _ (touched h OfEmail from upto) n)
    (stays_between email_at OfEmail email_step h from upto n le)

threads_brought : (h : History) (from upto : ℕ) → from ≤ upto → (n : ℕ) → brought h OfThread from upto thread_at n ≡ thread_at (content_at h upto) n
threads_brought h from upto le n =
    by_case (has (touched h OfThread from upto) n) (has (created h OfThread from upto) n) (has (updated h OfThread from upto) n) (has (destroyed h OfThread from upto) n)
    (thread_at (content_at h from) n) (thread_at (content_at h upto) n)
    (has-filter _ (touched h OfThread from upto) n) (has-filter _ (touched h OfThread from upto) n) (has-filter _ (touched h OfThread from upto) n)
    (stays_between thread_at OfThread thread_step h from upto n le)

pub BringsUpToDate-page : (h : History) (from upto : ℕ) → from ≤ upto → BringsUpToDate h from upto
BringsUpToDate-page h from upto le = record {
  mailboxes = mailboxes_brought h from upto le;
  emails = emails_brought h from upto le;
  threads = threads_brought h from upto le;
}
