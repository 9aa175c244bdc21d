-- A tidy content with one mailbox more.
use Rattle.std.proofs.Common.{◌≡◌, ℕ, ◌<◌, zero, suc, Bool, true, false, eqb, ltb, List, [], ◌∷◌, ◌++◌, length, map, filter, Option, Some, None, is_some, refl, sym, ap, ◌∙◌, subst, arith, ne_eqb, le-ltb, ◌||◌}
use Rattle.std.specs.List.{AllByRecursion, IsDistinct, list_any}
use Rattle.std.specs.Option.{ForSome}
use Rattle.std.specs.Prelude.{option_and_then}
use Rattle.std.proofs.lemmas.Bool.{false≢true, true≢false}
use Rattle.std.proofs.lemmas.Option.{none-some}
use Rattle.std.proofs.lemmas.List.{length-append}
use Rattle.mail_records.specs.Tables.{lookup, put}
use Rattle.mail_records.specs.Contents.{Content, empty_content, mailbox_at, mailbox_number, AreNumbered}
use Rattle.mail_records.specs.Edits.{after_edit, Fits}
use Rattle.mail_records.specs.declared.edits.Edit.TheVariants.{PutMailbox}
use Rattle.mail_records.specs.declared.records.Mailbox.{Mailbox}
use Rattle.mail_records.specs.declared.records.Email.{Email}
use Rattle.mail_records.proofs.Tables.{lookup-put_other, All-put}
use Rattle.mail_records.proofs.Growth.{found, all_map, AreTables-after_edit, AreNumbered-after_edit}
use Rattle.mail_counts.specs.Counts.{HasCounts, HasNoCounts, is_in, is_unread, is_unread_thread, emails_in, email_thread, each_once}
use Rattle.mail_counts.specs.Tidy.{IsTidy, IsThere, IsWellFormed, IsPlaced, IsNewMailbox, IsTidyEmail, AreMailboxesTidy, AreEmailsTidy, HasRoot, ancestor, parent_of, share_name, share_role}

-- ---- a record after all others

pub put-last : {R : Type 0} (number : R → ℕ) (r : R) (xs : List R) → AllByRecursion (λ x. number x < number r) xs → put number r xs ≡ xs ++ r ∷ []
put-last number r [] all = refl
put-last number r (x ∷ xs) all =
    let lt : number x < number r = all.0 in
    let after : ltb (number r) (number x) ≡ false = le-ltb (number r) (number x) (omega arith) in
    let other : eqb (number r) (number x) ≡ false = ne_eqb (number r) (number x) (λ e. omega arith) in
    rw after (rw other (ap (λ zs. x ∷ zs) (put-last number r xs all.1)))

pub lookup-above : {R : Type 0} (number : R → ℕ) (n : ℕ) (xs : List R) → AllByRecursion (λ x. number x < n) xs → lookup number n xs ≡ None
lookup-above number n [] all = refl
lookup-above number n (x ∷ xs) all =
    let lt : number x < n = all.0 in
    let other : eqb (number x) n ≡ false = ne_eqb (number x) n (λ e. omega arith) in
    rw other (lookup-above number n xs all.1)

below_new : (c : Content) (m : Mailbox) → AreNumbered c → m.number ≡ c.next_mailbox → AllByRecursion (λ (x : Mailbox). x.number < m.number) c.mailboxes
below_new c m numbered is =
    all_map (λ (x : Mailbox). x.number < c.next_mailbox) (λ (x : Mailbox). x.number < m.number) c.mailboxes (λ (x : Mailbox) (lt : x.number < c.next_mailbox). omega arith) numbered.mailboxes.below_next

-- a new mailbox follows the others
pub mailboxes-new : (c : Content) (m : Mailbox) → AreNumbered c → m.number ≡ c.next_mailbox → put mailbox_number m c.mailboxes ≡ c.mailboxes ++ m ∷ []
mailboxes-new c m numbered is = put-last mailbox_number m c.mailboxes (below_new c m numbered is)

not_there : (c : Content) (m : Mailbox) → AreNumbered c → m.number ≡ c.next_mailbox → mailbox_at c m.number ≡ None
not_there c m numbered is = lookup-above mailbox_number m.number c.mailboxes (below_new c m numbered is)

-- it may be put as a new one
pub Fits-new_mailbox : (c : Content) (m : Mailbox) (counts : Bool) → AreNumbered c → m.number ≡ c.next_mailbox → Fits c (PutMailbox m false counts)
Fits-new_mailbox c m counts numbered is = (sym (ap is_some (not_there c m numbered is)), λ no. is)

-- ---- mailboxes that are there

abbrev with_new : Content → Mailbox → Content
with_new c m = after_edit c (PutMailbox m false false)

other_number : (c : Content) (m : Mailbox) (n : ℕ) → AreNumbered c → m.number ≡ c.next_mailbox → IsThere c n → eqb m.number n ≡ false
other_number c m n numbered is there =
    ne_eqb m.number n (λ (e : m.number ≡ n). false≢true (sym (ap is_some (ap (mailbox_at c) (sym e) ∙ not_there c m numbered is)) ∙ there))

pub IsThere-with_new : (c : Content) (m : Mailbox) (n : ℕ) → AreNumbered c → m.number ≡ c.next_mailbox → IsThere c n → IsThere (with_new c m) n
IsThere-with_new c m n numbered is there =
    ap is_some (lookup-put_other mailbox_number m n (other_number c m n numbered is there) c.mailboxes) ∙ there

-- ---- chains of parents

-- every parent is there
abbrev ParentsThere : Content → Type 0
ParentsThere c = AllByRecursion (λ (x : Mailbox). ForSome x.parent (IsThere c)) c.mailboxes

parent_there : (c : Content) (n : ℕ) → ParentsThere c → ForSome (parent_of c n) (IsThere c)
parent_there c n parents = by_mailbox (mailbox_at c n) refl
  where
    by_mailbox : (o : Option Mailbox) → mailbox_at c n ≡ o → ForSome (option_and_then (λ (x : Mailbox). x.parent) o) (IsThere c)
    by_mailbox None at = λ p e. absurd (none-some p e)
    by_mailbox (Some x) at = (found (λ (y : Mailbox). ForSome y.parent (IsThere c)) mailbox_number n x c.mailboxes parents at).0

-- a chain that begins at a mailbox that is there doesn't come to the new one
ancestor-with_new : (k : ℕ) (c : Content) (m : Mailbox) (start : Option ℕ) → AreNumbered c → m.number ≡ c.next_mailbox → ParentsThere c → ForSome start (IsThere c)
    → ancestor k (with_new c m) start ≡ ancestor k c start
ancestor-with_new zero c m start numbered is parents there = refl
ancestor-with_new (suc k) c m None numbered is parents there = refl
ancestor-with_new (suc k) c m (Some n) numbered is parents there =
    let same : parent_of (with_new c m) n ≡ parent_of c n =
    ap (option_and_then (λ (x : Mailbox). x.parent)) (lookup-put_other mailbox_number m n (other_number c m n numbered is (there n refl)) c.mailboxes) in
    ap (ancestor k (with_new c m)) same ∙ ancestor-with_new k c m (parent_of c n) numbered is parents (parent_there c n parents)

-- a chain that has ended goes no further
ended : (k : ℕ) (c : Content) (start : Option ℕ) → ancestor k c start ≡ None → ancestor (suc k) c start ≡ None
ended zero c None e = refl
ended zero c (Some n) e = absurd (none-some n (sym e))
ended (suc k) c None e = refl
ended (suc k) c (Some n) e = ended k c (parent_of c n) e

no_start : (k : ℕ) (c : Content) → ancestor k c None ≡ None
no_start zero c = refl
no_start (suc k) c = refl

-- the chain from a mailbox that is there ends one step later than that of its parent
from_there : (c : Content) (start : Option ℕ) → AllByRecursion (λ (x : Mailbox). HasRoot c x.parent) c.mailboxes → ForSome start (IsThere c) → ancestor (suc (length c.mailboxes)) c start ≡ None
from_there c None roots there = refl
from_there c (Some n) roots there = by_mailbox (mailbox_at c n) refl
  where
    by_mailbox : (o : Option Mailbox) → mailbox_at c n ≡ o → ancestor (length c.mailboxes) c (option_and_then (λ (x : Mailbox). x.parent) o) ≡ None
    by_mailbox None at = no_start (length c.mailboxes) c
    by_mailbox (Some x) at = (found (λ (y : Mailbox). HasRoot c y.parent) mailbox_number n x c.mailboxes roots at).0

one_more : (c : Content) (m : Mailbox) → AreNumbered c → m.number ≡ c.next_mailbox → length (put mailbox_number m c.mailboxes) ≡ suc (length c.mailboxes)
one_more c m numbered is =
    let e = ap length (mailboxes-new c m numbered is) ∙ length-append c.mailboxes (m ∷ []) in omega arith

root_with_new : (c : Content) (m : Mailbox) (start : Option ℕ) → AreNumbered c → m.number ≡ c.next_mailbox → ParentsThere c → ForSome start (IsThere c)
    → ancestor (suc (length c.mailboxes)) c start ≡ None → HasRoot (with_new c m) start
root_with_new c m start numbered is parents there ends =
    ap (λ k. ancestor k (with_new c m) start) (one_more c m numbered is)
    ∙ (ancestor-with_new (suc (length c.mailboxes)) c m start numbered is parents there ∙ ends)

-- ---- counts of a mailbox without emails

no_filtered : {A : Type 0} (test : A → Bool) (xs : List A) → AllByRecursion (λ x. test x ≡ false) xs → filter test xs ≡ []
no_filtered test [] all = refl
no_filtered test (x ∷ xs) all = let no : test x ≡ false = all.0 in rw no (no_filtered test xs all.1)

pub HasCounts-none : (emails : List Email) (m : Mailbox) → emails_in m.number emails ≡ [] → HasNoCounts m → HasCounts emails m
HasCounts-none emails m none counts = record {
  total_emails = counts.total_emails ∙ sym (ap length none);
  unread_emails = counts.unread_emails ∙ sym (ap (λ (es : List Email). length (filter is_unread es)) none);
  total_threads = counts.total_threads ∙ sym (ap (λ (es : List Email). length (each_once (map email_thread es))) none);
  unread_threads = counts.unread_threads ∙ sym (ap (λ (es : List Email). length (filter (is_unread_thread emails) (each_once (map email_thread es)))) none);
}

-- no email is in a mailbox above all that they name
none_above : (n : ℕ) (ns : List ℕ) → AllByRecursion (λ x. x < n) ns → list_any (λ x. eqb x n) ns ≡ false
none_above n [] all = refl
none_above n (x ∷ xs) all =
    let lt : x < n = all.0 in
    let other : eqb x n ≡ false = ne_eqb x n (λ e. omega arith) in rw other (none_above n xs all.1)

pub emails_in-above : (n : ℕ) (emails : List Email) → AllByRecursion (λ (e : Email). AllByRecursion (λ x. x < n) e.mailboxes) emails → emails_in n emails ≡ []
emails_in-above n emails all =
    no_filtered (is_in n) emails
    (all_map (λ (e : Email). AllByRecursion (λ x. x < n) e.mailboxes) (λ (e : Email). is_in n e ≡ false) emails (λ (e : Email) (low : AllByRecursion (λ x. x < n) e.mailboxes). none_above n e.mailboxes low) all)

there_below : (c : Content) (n : ℕ) → AreNumbered c → IsThere c n → n < c.next_mailbox
there_below c n numbered there = by_mailbox (mailbox_at c n) refl
  where
    by_mailbox : (o : Option Mailbox) → mailbox_at c n ≡ o → n < c.next_mailbox
    by_mailbox None at = absurd (false≢true (sym (ap is_some at) ∙ there))
    by_mailbox (Some x) at =
        let low = found (λ (y : Mailbox). y.number < c.next_mailbox) mailbox_number n x c.mailboxes numbered.mailboxes.below_next at in
        subst (λ k. k < c.next_mailbox) low.1 low.0

-- in a tidy content each email's mailboxes are below the next number
pub mailboxes-below : (c : Content) → AreNumbered c → AreEmailsTidy c → AllByRecursion (λ (e : Email). AllByRecursion (λ x. x < c.next_mailbox) e.mailboxes) c.emails
mailboxes-below c numbered emails =
    all_map (IsTidyEmail c) (λ (e : Email). AllByRecursion (λ x. x < c.next_mailbox) e.mailboxes) c.emails
    (λ (e : Email) (tidy : IsTidyEmail c e). all_map (IsThere c) (λ x. x < c.next_mailbox) e.mailboxes (λ (n : ℕ) (there : IsThere c n). there_below c n numbered there) tidy.mailboxes)
    emails.each

-- ---- names and roles

or_first : (a b : Bool) → (a || b) ≡ false → a ≡ false
or_first true b h = absurd (true≢false h)
or_first false b h = refl

or_second : (a b : Bool) → (a || b) ≡ false → b ≡ false
or_second true b h = absurd (true≢false h)
or_second false b h = h

all_last : {A : Type 0} (P : A → Type 0) (r : A) (xs : List A) → AllByRecursion P xs → P r → AllByRecursion P (xs ++ r ∷ [])
all_last P r [] all here = (here, tt)
all_last P r (x ∷ xs) all here = (all.0, all_last P r xs all.1 here)

distinct_more : {A : Type 0} (same : A → A → Bool) (r : A) (xs : List A) → IsDistinct same xs → list_any (λ x. same x r) xs ≡ false → IsDistinct same (xs ++ r ∷ [])
unfolding IsDistinct
distinct_more same r [] distinct free = (tt, tt)
distinct_more same r (x ∷ xs) distinct free = (
  all_last (λ y. same x y ≡ false) r xs distinct.0 (or_first (same x r) (list_any (λ y. same y r) xs) free),
  distinct_more same r xs distinct.1 (or_second (same x r) (list_any (λ y. same y r) xs) free),
)

distinct_none : {A : Type 0} (same : A → A → Bool) → IsDistinct same []
unfolding IsDistinct
distinct_none same = tt

-- ---- the whole content

both : (c : Content) → AllByRecursion (IsPlaced c) c.mailboxes → ParentsThere c
both c placed = all_map (IsPlaced c) (λ (x : Mailbox). ForSome x.parent (IsThere c)) c.mailboxes (λ (x : Mailbox) (p : IsPlaced c x). p.parent) placed

IsPlaced-with_new : (c : Content) (m x : Mailbox) → AreNumbered c → m.number ≡ c.next_mailbox → ParentsThere c → ForSome x.parent (IsThere c)
    → ancestor (suc (length c.mailboxes)) c x.parent ≡ None → HasCounts c.emails x → IsPlaced (with_new c m) x
IsPlaced-with_new c m x numbered is parents there ends counts = record {
  parent = λ p e. IsThere-with_new c m p numbered is (there p e);
  root = root_with_new c m x.parent numbered is parents there ends;
  counts = counts;
}

AreMailboxesTidy-with_new : (c : Content) (m : Mailbox) → IsTidy c → IsNewMailbox c m → AreMailboxesTidy (with_new c m)
AreMailboxesTidy-with_new c m tidy new =
    let numbered = tidy.numbered in
    let old = tidy.mailboxes in
    let parents = both c old.placed in
    let roots = all_map (IsPlaced c) (λ (x : Mailbox). HasRoot c x.parent) c.mailboxes (λ (x : Mailbox) (p : IsPlaced c x). p.root) old.placed in
    let last : c.mailboxes ++ m ∷ [] ≡ put mailbox_number m c.mailboxes = sym (mailboxes-new c m numbered new.number) in
    let none : emails_in m.number c.emails ≡ [] =
    subst (λ n. emails_in n c.emails ≡ []) (sym new.number) (emails_in-above c.next_mailbox c.emails (mailboxes-below c numbered tidy.emails)) in
    record {
      forms = All-put IsWellFormed mailbox_number m new.form c.mailboxes old.forms;
      placed =
          All-put (IsPlaced (with_new c m)) mailbox_number m
          (IsPlaced-with_new c m m numbered new.number parents new.parent (from_there c m.parent roots new.parent) (HasCounts-none c.emails m none new.counts))
          c.mailboxes
          (all_map (IsPlaced c) (IsPlaced (with_new c m)) c.mailboxes
          (λ (x : Mailbox) (p : IsPlaced c x). IsPlaced-with_new c m x numbered new.number parents p.parent (ended (length c.mailboxes) c x.parent p.root) p.counts) old.placed);
      names = subst (IsDistinct share_name) last (distinct_more share_name m c.mailboxes old.names new.name_free);
      roles = subst (IsDistinct share_role) last (distinct_more share_role m c.mailboxes old.roles new.role_free);
    }

IsTidyEmail-with_new : (c : Content) (m : Mailbox) (e : Email) → AreNumbered c → m.number ≡ c.next_mailbox → IsTidyEmail c e → IsTidyEmail (with_new c m) e
IsTidyEmail-with_new c m e numbered is tidy = record {
  mailboxes = all_map (IsThere c) (IsThere (with_new c m)) e.mailboxes (λ (n : ℕ) (there : IsThere c n). IsThere-with_new c m n numbered is there) tidy.mailboxes;
  some_mailbox = tidy.some_mailbox;
  few_mailboxes = tidy.few_mailboxes;
  mailboxes_rise = tidy.mailboxes_rise;
  keywords = tidy.keywords;
  few_keywords = tidy.few_keywords;
  keywords_rise = tidy.keywords_rise;
  received = tidy.received;
  sent = tidy.sent;
}

-- a tidy content stays tidy with a new mailbox
pub Tidy_with_new_mailbox : (c : Content) (m : Mailbox) (counts : Bool) → IsTidy c → IsNewMailbox c m → IsTidy (after_edit c (PutMailbox m false counts))
Tidy_with_new_mailbox c m counts tidy new = record {
  tables = AreTables-after_edit c (PutMailbox m false counts) tidy.tables;
  numbered = AreNumbered-after_edit c (PutMailbox m false counts) (Fits-new_mailbox c m counts tidy.numbered new.number) tidy.numbered;
  mailboxes = AreMailboxesTidy-with_new c m tidy new;
  emails = record {
    few = tidy.emails.few;
    each = all_map (IsTidyEmail c) (IsTidyEmail (with_new c m)) c.emails (λ (e : Email) (t : IsTidyEmail c e). IsTidyEmail-with_new c m e tidy.numbered new.number t) tidy.emails.each;
  };
  threads = record { named = tidy.threads.named; lists = tidy.threads.lists };
}

pub IsTidy-empty : IsTidy empty_content
IsTidy-empty = record {
  tables = record { mailboxes = tt; emails = tt; threads = tt };
  numbered = record {
    mailboxes = record { next_from_one = omega arith; from_one = tt; below_next = tt };
    emails = record { next_from_one = omega arith; from_one = tt; below_next = tt };
    threads = record { next_from_one = omega arith; from_one = tt; below_next = tt };
  };
  mailboxes = record { forms = tt; placed = tt; names = distinct_none share_name; roles = distinct_none share_role };
  emails = record { few = omega arith; each = tt };
  threads = record { named = tt; lists = tt };
}
