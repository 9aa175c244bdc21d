-- When a content is tidy: all that is asked of an account's records by themselves, without blobs
-- and without its history.
use Rattle.std.specs.Prelude.{◌≡◌, ℕ, zero, suc, ◌≤◌, List, length, map, filter, Bool, true, false, ◌&&◌, ◌==◌, Option, Some, None, is_some, option_and_then, bytes_eq, IsPermutation}
use Rattle.std.specs.List.{AllByRecursion, IsDistinct, list_any}
use Rattle.std.specs.List.Sorted.{IsStrictlySortedBy}
use Rattle.std.specs.Option.{ForSome}
use Rattle.std.specs.Ordering.{nat_cmp, int_cmp, match_ordering}
use Rattle.std.specs.declared.cmp.Ordering.{Ordering}
use Rattle.std.specs.declared.cmp.Ordering.TheVariants.{Less, Greater}
use Rattle.jm_base.specs.UtcDates.{IsUtcDate}
use Rattle.mail_records.specs.Contents.{Content, mailbox_at, thread_at, email_number, AreTables, AreNumbered}
use Rattle.mail_records.specs.Commits.{NumbersRise, TextsRise}
use Rattle.mail_records.specs.declared.records.Mailbox.{Mailbox}
use Rattle.mail_records.specs.declared.records.Email.{Email}
use Rattle.mail_records.specs.declared.records.Thread.{Thread}
use Rattle.jm_base.specs.declared.limits.TheConstants.{MAX_MAILBOXES_PER_EMAIL}
use Rattle.mail_counts.specs.declared.limits.TheConstants.{MAX_EMAILS_PER_ACCOUNT, MAX_KEYWORDS_PER_EMAIL}
use Rattle.mail_counts.specs.Forms.{is_name, is_role, is_sort_order, is_keyword}
use Rattle.mail_counts.specs.Counts.{HasCounts, HasNoCounts}

-- ---- mailboxes (RFC 8621, 2)

-- the same parent, or none both
abbrev pub same_parent : Option ℕ → Option ℕ → Bool
same_parent None None = true
same_parent (Some p) (Some q) = p == q
same_parent _ _ = false

-- a mailbox of this parent and this name
abbrev pub is_sibling : Option ℕ → List ℕ → Mailbox → Bool
is_sibling parent name m = same_parent m.parent parent && bytes_eq m.name name

-- two mailboxes of one parent have one name
abbrev pub share_name : Mailbox → Mailbox → Bool
share_name m n = is_sibling n.parent n.name m

-- the same role, and not none
abbrev pub same_role : Option (List ℕ) → Option (List ℕ) → Bool
same_role (Some r) (Some s) = bytes_eq r s
same_role _ _ = false

-- two mailboxes have one role
abbrev pub share_role : Mailbox → Mailbox → Bool
share_role m n = same_role m.role n.role

-- the number of a mailbox's parent, if there is that mailbox and it has one
abbrev pub parent_of : Content → ℕ → Option ℕ
parent_of c n = option_and_then (λ (m : Mailbox). m.parent) (mailbox_at c n)

-- the mailbox that one comes to by so many steps from a mailbox to its parent; none where a chain
-- of parents ended before
abbrev pub ancestor : ℕ → Content → Option ℕ → Option ℕ
ancestor zero c start = start
ancestor (suc k) c None = None
ancestor (suc k) c (Some n) = ancestor k c (parent_of c n)

-- the chain of parents ends: it does so within as many steps as there are mailboxes, or never
abbrev pub HasRoot : Content → Option ℕ → Type 0
HasRoot c start = ancestor (length c.mailboxes) c start ≡ None

abbrev pub IsThere : Content → ℕ → Type 0
IsThere c n = is_some (mailbox_at c n) ≡ true

-- a mailbox by itself: name, role and sort order have their form
pub record IsWellFormed (m : Mailbox) : Type 0 where
  pub name : is_name m.name ≡ true
  pub role : ForSome m.role (λ r. is_role r ≡ true)
  pub sort_order : is_sort_order m.sort_order ≡ true

-- a mailbox in its content: its parent is there, its chain of parents ends, and its counts are
-- right
pub record IsPlaced (c : Content) (m : Mailbox) : Type 0 where
  pub parent : ForSome m.parent (IsThere c)
  pub root : HasRoot c m.parent
  pub counts : HasCounts c.emails m

pub record AreMailboxesTidy (c : Content) : Type 0 where
  pub forms : AllByRecursion IsWellFormed c.mailboxes
  pub placed : AllByRecursion (IsPlaced c) c.mailboxes
  pub names : IsDistinct share_name c.mailboxes
  pub roles : IsDistinct share_role c.mailboxes

-- A mailbox may be in a content as a new one: it has the next number, its form is right, its
-- parent is there, no mailbox of that parent has its name and none its role, and its counts are 0.
pub record IsNewMailbox (c : Content) (m : Mailbox) : Type 0 where
  pub number : m.number ≡ c.next_mailbox
  pub form : IsWellFormed m
  pub parent : ForSome m.parent (IsThere c)
  pub name_free : list_any (is_sibling m.parent m.name) c.mailboxes ≡ false
  pub role_free : list_any (λ (n : Mailbox). same_role n.role m.role) c.mailboxes ≡ false
  pub counts : HasNoCounts m

-- ---- emails (RFC 8621, 4)

-- Its mailboxes are there, one at least and few, and rise; its keywords are of their form, few, and
-- rise; its dates are of the years 0001 to 9999.
pub record IsTidyEmail (c : Content) (e : Email) : Type 0 where
  pub mailboxes : AllByRecursion (IsThere c) e.mailboxes
  pub some_mailbox : 1 ≤ length e.mailboxes
  pub few_mailboxes : length e.mailboxes ≤ MAX_MAILBOXES_PER_EMAIL
  pub mailboxes_rise : NumbersRise e.mailboxes
  pub keywords : AllByRecursion (λ k. is_keyword k ≡ true) e.keywords
  pub few_keywords : length e.keywords ≤ MAX_KEYWORDS_PER_EMAIL
  pub keywords_rise : TextsRise e.keywords
  pub received : IsUtcDate e.received
  pub sent : ForSome e.summary.sent IsUtcDate

-- few emails, each tidy
pub record AreEmailsTidy (c : Content) : Type 0 where
  pub few : length c.emails ≤ MAX_EMAILS_PER_ACCOUNT
  pub each : AllByRecursion (IsTidyEmail c) c.emails

-- ---- threads (RFC 8621, 3)

-- by the time received, and of equal times by number
abbrev pub by_received : Email → Email → Ordering
by_received a b = match_ordering (int_cmp a.received.seconds b.received.seconds) Less
    (nat_cmp a.number b.number) Greater

-- the thread lists these emails, which are all of its emails, in order
pub record IsListOf (emails : List Email) (t : Thread) (listed : List Email) : Type 0 where
  pub numbers : t.emails ≡ map email_number listed
  pub all : IsPermutation (filter (λ (e : Email). e.thread == t.number) emails) listed
  pub order : IsStrictlySortedBy by_received listed
  pub some : 1 ≤ length listed

-- the threads are exactly those that emails name, and each lists its emails
pub record AreThreadsTidy (c : Content) : Type 0 where
  pub named : AllByRecursion (λ (e : Email). is_some (thread_at c e.thread) ≡ true) c.emails
  pub lists : AllByRecursion (λ (t : Thread). (listed : List Email) × IsListOf c.emails t listed)
      c.threads

-- ---- a content

-- The records are in number order with each number below its kind's next one, and mailboxes, emails
-- and threads are tidy.
pub record IsTidy (c : Content) : Type 0 where
  pub tables : AreTables c
  pub numbered : AreNumbered c
  pub mailboxes : AreMailboxesTidy c
  pub emails : AreEmailsTidy c
  pub threads : AreThreadsTidy c
