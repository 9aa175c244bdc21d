-- The numbers that edits name, and what is formed of a history.
use Rattle.std.proofs.Common.{◌≡◌, ℕ, ◌-◌, ◌<◌, ◌≤◌, Bool, true, false, not, eqb, List, [], ◌∷◌, ◌++◌, take, drop, map, Some, is_some, refl, sym, subst, arith, take-append-drop}
use Rattle.std.specs.List.{AllByRecursion}
use Rattle.jm_base.specs.declared.identifiers.Id.{Id}
use Rattle.jm_base.specs.declared.identifiers.Kind.{Kind}
use Rattle.jm_base.specs.declared.identifiers.Kind.TheVariants.{Mailbox as OfMailbox, Email as OfEmail, Thread as OfThread}
use Rattle.mail_records.specs.Tables.{IsNumbered, lookup}
use Rattle.mail_records.specs.Commits.{IsFormedEdit, IsFormedEmail}
use Rattle.mail_records.specs.Contents.{Content, AreNumbered, email_at, email_number, mailbox_at, mailbox_number, next_of, thread_at, thread_number}
use Rattle.mail_records.specs.Edits.{AllFit, Fits, PutFits, after_edit, after_edits, id_of, next_after}
use Rattle.mail_records.specs.Histories.{History, Entry, IsFormedHistory, IsFounded, IsNamedBelow, account_after, content_at, content_of, edits_in, edits_of, empty_history, grown_by, ids_of}
use Rattle.mail_records.specs.declared.edits.Edit.{Edit}
use Rattle.mail_records.specs.declared.edits.Edit.TheVariants.{PutMailbox, DropMailbox, PutEmail, DropEmail, PutThread, DropThread}
use Rattle.mail_records.proofs.Growth.{AreNumbered-after_edit, edits_of-grown_by, found, there}
use Rattle.mail_records.proofs.Prefixes.{all_front, edits_of-account_after}
use Rattle.mail_records.proofs.Tables.{All-put, All-kept}

-- ---- next numbers don't fall

record NextRises (c d : Content) : Type 0 where
  pub mailbox : c.next_mailbox ≤ d.next_mailbox
  pub email : c.next_email ≤ d.next_email
  pub thread : c.next_thread ≤ d.next_thread

next_put_rises : (present was : Bool) (number next : ℕ) → PutFits present was number next → next ≤ next_after was number next
next_put_rises present true number next fit = omega arith
next_put_rises present false number next fit = let is : number ≡ next = fit.1 refl in omega arith

next_rises : (c : Content) (e : Edit) → Fits c e → NextRises c (after_edit c e)
next_rises c (PutMailbox item was counts) fit = record { mailbox = next_put_rises (is_some (mailbox_at c item.number)) was item.number c.next_mailbox fit; email = omega arith; thread = omega arith }
next_rises c (DropMailbox number) fit = record { mailbox = omega arith; email = omega arith; thread = omega arith }
next_rises c (PutEmail item was) fit = record { mailbox = omega arith; email = next_put_rises (is_some (email_at c item.number)) was item.number c.next_email fit; thread = omega arith }
next_rises c (DropEmail number thread) fit = record { mailbox = omega arith; email = omega arith; thread = omega arith }
next_rises c (PutThread item was) fit = record { mailbox = omega arith; email = omega arith; thread = next_put_rises (is_some (thread_at c item.number)) was item.number c.next_thread fit }
next_rises c (DropThread number) fit = record { mailbox = omega arith; email = omega arith; thread = omega arith }

all_next_rise : (es : List Edit) (c : Content) → AllFit c es → NextRises c (after_edits c es)
all_next_rise [] c fit = record { mailbox = omega arith; email = omega arith; thread = omega arith }
all_next_rise (e ∷ es) c fit =
    let a = next_rises c e fit.0 in
    let b = all_next_rise es (after_edit c e) fit.1 in
    record {
      mailbox = omega (arith, a.mailbox, b.mailbox);
      email = omega (arith, a.email, b.email);
      thread = omega (arith, a.thread, b.thread);
    }

below_next : (i : Id) (c d : Content) → NextRises c d → IsNamedBelow c i → IsNamedBelow d i
below_next i c d rises is = by_kind i.kind is
  where
    by_kind : (kind : Kind) → (1 ≤ i.number) × (i.number < next_of c kind) → (1 ≤ i.number) × (i.number < next_of d kind)
    by_kind OfMailbox b = let lt = b.1 in (b.0, omega (arith, lt, rises.mailbox))
    by_kind OfEmail b = let lt = b.1 in (b.0, omega (arith, lt, rises.email))
    by_kind OfThread b = let lt = b.1 in (b.0, omega (arith, lt, rises.thread))

-- ---- an edit that fits names a number below the next one

number_of_found : {R : Type 0} (number : R → ℕ) (n next : ℕ) (xs : List R) (x : R) → IsNumbered number xs next → lookup number n xs ≡ Some x → (1 ≤ n) × (n < next)
number_of_found number n next xs x numbered is =
    let one = found (λ y. 1 ≤ number y) number n x xs numbered.from_one is in
    let low = found (λ y. number y < next) number n x xs numbered.below_next is in
    (subst (λ k. 1 ≤ k) one.1 one.0, subst (λ k. k < next) low.1 low.0)

number_there : {R : Type 0} (number : R → ℕ) (n next : ℕ) (xs : List R) → IsNumbered number xs next → is_some (lookup number n xs) ≡ true → (1 ≤ n) × (n < next)
number_there number n next xs numbered present =
    let r = there (lookup number n xs) present in number_of_found number n next xs r.0 numbered r.1

number_put : {R : Type 0} (number : R → ℕ) (n next : ℕ) (was : Bool) (xs : List R) → IsNumbered number xs next → PutFits (is_some (lookup number n xs)) was n next → (1 ≤ n) × (n < next_after was n next)
number_put number n next true xs numbered fit = number_there number n next xs numbered (sym fit.0)
number_put number n next false xs numbered fit =
    let is : n ≡ next = fit.1 refl in
    let first = numbered.next_from_one in
    (omega (arith, is, first), omega arith)

named_below : (c : Content) (e : Edit) → Fits c e → AreNumbered c → IsNamedBelow (after_edit c e) (id_of e)
named_below c (PutMailbox item was counts) fit n = number_put mailbox_number item.number c.next_mailbox was c.mailboxes n.mailboxes fit
named_below c (DropMailbox number) fit n = number_there mailbox_number number c.next_mailbox c.mailboxes n.mailboxes fit
named_below c (PutEmail item was) fit n = number_put email_number item.number c.next_email was c.emails n.emails fit
named_below c (DropEmail number thread) fit n = number_of_found email_number number c.next_email c.emails fit.0 n.emails fit.1
named_below c (PutThread item was) fit n = number_put thread_number item.number c.next_thread was c.threads n.threads fit
named_below c (DropThread number) fit n = number_there thread_number number c.next_thread c.threads n.threads fit

pub all_named_below : (es : List Edit) (c : Content) → AllFit c es → AreNumbered c → AllByRecursion (IsNamedBelow (after_edits c es)) (map id_of es)
all_named_below [] c fit n = tt
all_named_below (e ∷ es) c fit n = (
  below_next (id_of e) (after_edit c e) (after_edits (after_edit c e) es) (all_next_rise es (after_edit c e) fit.1) (named_below c e fit.0 n),
  all_named_below es (after_edit c e) fit.1 (AreNumbered-after_edit c e fit.0 n),
)

pub named_below_next : (h : History) → IsFounded h → AllFit h.base (edits_of h) → AllByRecursion (IsNamedBelow (content_of h)) (ids_of h)
named_below_next h founded fit = all_named_below (edits_of h) h.base fit founded.numbered

-- ---- formed histories

formed_edit : (c : Content) (e : Edit) → IsFormedEdit e → AllByRecursion IsFormedEmail c.emails → AllByRecursion IsFormedEmail (after_edit c e).emails
formed_edit c (PutMailbox item was counts) formed all = all
formed_edit c (DropMailbox number) formed all = all
formed_edit c (PutEmail item was) formed all = All-put IsFormedEmail email_number item formed c.emails all
formed_edit c (DropEmail number thread) formed all = All-kept IsFormedEmail (λ x. not (eqb x.number number)) c.emails all
formed_edit c (PutThread item was) formed all = all
formed_edit c (DropThread number) formed all = all

formed_edits : (es : List Edit) (c : Content) → AllByRecursion IsFormedEdit es → AllByRecursion IsFormedEmail c.emails → AllByRecursion IsFormedEmail (after_edits c es).emails
formed_edits [] c formed all = all
formed_edits (e ∷ es) c formed all = formed_edits es (after_edit c e) formed.1 (formed_edit c e formed.0 all)

all_both : {A : Type 0} (P : A → Type 0) (xs ys : List A) → AllByRecursion P xs → AllByRecursion P ys → AllByRecursion P (xs ++ ys)
all_both P [] ys a b = b
all_both P (x ∷ xs) ys a b = (a.0, all_both P xs ys a.1 b)

pub IsFormedHistory-empty : IsFormedHistory empty_history
IsFormedHistory-empty = record { base = tt; edits = tt }

pub IsFormedHistory-grown_by : (h : History) (more : List Entry) → IsFormedHistory h → AllByRecursion IsFormedEdit (edits_in more) → IsFormedHistory (grown_by h more)
IsFormedHistory-grown_by h more formed all = record {
  base = formed.base;
  edits = subst (AllByRecursion IsFormedEdit) (sym (edits_of-grown_by h more)) (all_both IsFormedEdit (edits_of h) (edits_in more) formed.edits all);
}

pub IsFormedHistory-account_after : (h : History) (c : ℕ) → IsFormedHistory h → IsFormedHistory (account_after h c)
IsFormedHistory-account_after h c formed = record {
  base = formed.base;
  edits =
      all_front IsFormedEdit (edits_of (account_after h c)) (edits_in (drop c h.entries))
      (subst (AllByRecursion IsFormedEdit) (edits_of-account_after h c) formed.edits);
}

pub formed_content : (h : History) (k : ℕ) → IsFormedHistory h → AllByRecursion IsFormedEmail (content_at h k).emails
formed_content h k formed =
    let n = k - h.floor in
    formed_edits (take n (edits_of h)) h.base
    (all_front IsFormedEdit (take n (edits_of h)) (drop n (edits_of h)) (subst (AllByRecursion IsFormedEdit) (sym (take-append-drop n (edits_of h))) formed.edits))
    formed.base
