-- A content passes the tests if and only if it is tidy.
use Rattle.std.proofs.Common.{◌≡◌, ◌↔◌, Result, Ok, Err, IfOk, ℕ, ℤ, pos, ◌≤ℤ◌, int_le, T, Bool, true, false, ◌&&◌, not, ◌≤◌, ◌<◌, nat_le, nat_lt, eqb, List, [], ◌∷◌, map, filter, length, Option, Some, None, is_none, is_some, refl, sym, ap, ap₂, ◌∙◌, subst, arith, ⊎_elim, Decides, IsTrue}
use Rattle.std.specs.Int.Signed.{le_z_yes}
use Rattle.std.specs.List.{AllByRecursion, list_all}
use Rattle.std.specs.Option.{ForSome}
use Rattle.std.specs.Ordering.{nat_cmp}
use Rattle.std.specs.Cmp.{nat_cmp_total}
use Rattle.std.specs.Cmp.Lexicographic.{slice_cmp, nat_list_cmp_total}
use Rattle.std.proofs.lemmas.Bool.{true≢false}
use Rattle.std.proofs.lemmas.Bool.Decides.{Decides-eqb}
use Rattle.std.proofs.lemmas.List.{length-map}
use Rattle.jm_base.specs.UtcDates.{IsUtcDate}
use Rattle.jm_base.specs.declared.identifiers.UtcDate.{UtcDate}
use Rattle.jm_base.specs.declared.utc_dates.TheConstants.{FIRST_TIMESTAMP, LAST_TIMESTAMP}
use Rattle.mail_records.specs.Contents.{AreTables, Content, email_number, mailbox_number, thread_at, thread_number}
use Rattle.mail_records.specs.Commits.{NumbersRise, TextsRise}
use Rattle.mail_records.specs.Tables.{IsNumbered, IsTable}
use Rattle.jm_base.specs.declared.limits.TheConstants.{MAX_MAILBOXES_PER_EMAIL}
use Rattle.mail_records.specs.declared.records.Mailbox.{Mailbox}
use Rattle.mail_records.specs.declared.records.Email.{Email}
use Rattle.mail_records.specs.declared.records.Thread.{Thread}
use Rattle.mail_records.proofs.Rising.{all_map}
use Rattle.mail_counts.specs.declared.limits.TheConstants.{MAX_EMAILS_PER_ACCOUNT, MAX_KEYWORDS_PER_EMAIL}
use Rattle.mail_counts.specs.Counts.{HasCounts}
use Rattle.mail_counts.specs.DerivedEdits.{counts_over, same_numbers}
use Rattle.mail_counts.specs.Forms.{is_keyword, is_name, is_role, is_sort_order}
use Rattle.mail_counts.specs.Tidy.{AreMailboxesTidy, HasRoot, IsListOf, IsPlaced, IsThere, IsTidy, IsTidyEmail, IsWellFormed, ancestor, share_name, share_role}
use Rattle.mail_counts.specs.Touched.{in_order, list_of_thread}
use Rattle.mail_counts.proofs.Listed.{in_order_moves, in_order_rises}
use Rattle.mail_counts.proofs.Groups.{list-unique, table_kept}
use Rattle.tidy_check.specs.Checks.{are_keywords, are_mailboxes, has_dates, has_nexts, has_parent, has_root, has_thread, is_counted, is_filed, is_in_use, is_listed, is_mailbox, is_name_shared, is_placed, is_role_shared, is_rooted, is_utc_date, is_well_formed, passes, passes_if_any, rises_after}
use Rattle.tidy_check.proofs.Siblings.{distinct, names_flip, share_roles_flip, undistinct}
use Rattle.tidy_check.proofs.Tested.{all_both, all_tells, and_tells, if_any_tells, le_tells, lt_number_tells, not_tells, rises_tells, same_tells, true_tells}

-- ---- numbers

abbrev IsInUse : ℕ → ℕ → Type 0
IsInUse next n = (1 ≤ n) × (n < next)

in_use_tells : (next n : ℕ) → Decides (is_in_use next n) (IsInUse next n)
in_use_tells next n = and_tells (nat_le 1 n) (nat_lt n next) (1 ≤ n) (n < next) (le_tells 1 n) (lt_number_tells n next)

numbered_by : {R : Type 0} (number : R → ℕ) (rows : List R) (next : ℕ) → 1 ≤ next → AllByRecursion (λ r. IsInUse next (number r)) rows → IsNumbered number rows next
numbered_by number rows next one all = record {
  next_from_one = one;
  from_one = all_map (λ r. IsInUse next (number r)) (λ r. 1 ≤ number r) (λ r u. u.0) rows all;
  below_next = all_map (λ r. IsInUse next (number r)) (λ r. number r < next) (λ r u. u.1) rows all;
}

in_use : {R : Type 0} (number : R → ℕ) (rows : List R) (next : ℕ) → IsNumbered number rows next → AllByRecursion (λ r. IsInUse next (number r)) rows
in_use number rows next n = all_both (λ r. 1 ≤ number r) (λ r. number r < next) (λ r. IsInUse next (number r)) (λ r a b. (a, b)) rows n.from_one n.below_next

-- ---- mailboxes

none_left : (o : Option ℕ) → is_none o ≡ true → o ≡ None
none_left None e = refl
none_left (Some n) e = absurd (true≢false (sym e))

root_tells : (c : Content) (start : Option ℕ) → Decides (has_root c start) (HasRoot c start)
root_tells c start = (none_left (ancestor (length c.mailboxes) c start), λ e. ap is_none e)

formed_tells : (m : Mailbox) → Decides (is_well_formed m) (IsWellFormed m)
formed_tells m =
    same_tells (is_well_formed m) _ (IsWellFormed m)
    (λ h. record { name = h.0; role = h.1.0; sort_order = h.1.1 })
    (λ f. (f.name, (f.role, f.sort_order)))
    (and_tells (is_name m.name) (passes_if_any is_role m.role && is_sort_order m.sort_order) (is_name m.name ≡ true) _ (true_tells (is_name m.name))
    (and_tells (passes_if_any is_role m.role) (is_sort_order m.sort_order) (ForSome m.role (λ r. is_role r ≡ true)) (is_sort_order m.sort_order ≡ true)
    (if_any_tells is_role (λ r. is_role r ≡ true) (λ r. true_tells (is_role r)) m.role) (true_tells (is_sort_order m.sort_order))))

four_tell : (a b c d e f g h : ℕ) → Decides (eqb a e && eqb b f && eqb c g && eqb d h) (((a ≡ e) × (b ≡ f)) × ((c ≡ g) × (d ≡ h)))
four_tell a b c d e f g h =
    by (eqb a e) (eqb b f) (eqb c g) (eqb d h) (Decides-eqb a e) (Decides-eqb b f) (Decides-eqb c g) (Decides-eqb d h)
  where
    by : {P Q R S : Type 0} (w x y z : Bool) → Decides w P → Decides x Q → Decides y R → Decides z S → Decides (w && x && y && z) ((P × Q) × (R × S))
    by true true true true p q r s = (λ t. ((p.0 refl, q.0 refl), (r.0 refl, s.0 refl)), λ t. refl)
    by true true true false p q r s = (λ t. absurd (true≢false (sym t)), λ t. s.1 t.1.1)
    by true true false z p q r s = (λ t. absurd (true≢false (sym t)), λ t. r.1 t.1.0)
    by true false y z p q r s = (λ t. absurd (true≢false (sym t)), λ t. q.1 t.0.1)
    by false x y z p q r s = (λ t. absurd (true≢false (sym t)), λ t. p.1 t.0.0)

counted_tells : (c : Content) (m : Mailbox) → Decides (is_counted c m) (HasCounts c.emails m)
counted_tells c m =
    let over = counts_over c.emails m.number in
    same_tells (is_counted c m) (((m.total_emails ≡ over.total_emails) × (m.unread_emails ≡ over.unread_emails)) × ((m.total_threads ≡ over.total_threads) × (m.unread_threads ≡ over.unread_threads))) (HasCounts c.emails m)
    (λ h. record { total_emails = h.0.0; unread_emails = h.0.1; total_threads = h.1.0; unread_threads = h.1.1 })
    (λ f. ((f.total_emails, f.unread_emails), (f.total_threads, f.unread_threads)))
    (four_tell m.total_emails m.unread_emails m.total_threads m.unread_threads over.total_emails over.unread_emails over.total_threads over.unread_threads)

parent_tells : (c : Content) (m : Mailbox) → Decides (has_parent c m) (ForSome m.parent (IsThere c))
parent_tells c m = if_any_tells (is_mailbox c) (IsThere c) (λ n. true_tells (is_mailbox c n)) m.parent

record IsTested (c : Content) (m : Mailbox) : Type 0 where
  number : IsInUse c.next_mailbox m.number
  form : IsWellFormed m
  parent : ForSome m.parent (IsThere c)
  name : is_name_shared c m ≡ false
  role : is_role_shared c m ≡ false
  counts : HasCounts c.emails m

placed_tells : (c : Content) (m : Mailbox) → Decides (is_placed c m) (IsTested c m)
placed_tells c m =
    same_tells (is_placed c m) _ (IsTested c m)
    (λ h. record { number = h.0; form = h.1.0; parent = h.1.1.0; name = h.1.1.1.0; role = h.1.1.1.1.0; counts = h.1.1.1.1.1 })
    (λ f. (f.number, (f.form, (f.parent, (f.name, (f.role, f.counts))))))
    (and_tells (is_in_use c.next_mailbox m.number) _ (IsInUse c.next_mailbox m.number) _ (in_use_tells c.next_mailbox m.number)
    (and_tells (is_well_formed m) _ (IsWellFormed m) _ (formed_tells m)
    (and_tells (has_parent c m) _ (ForSome m.parent (IsThere c)) _ (parent_tells c m)
    (and_tells (not (is_name_shared c m)) _ (is_name_shared c m ≡ false) _ (not_tells (is_name_shared c m))
    (and_tells (not (is_role_shared c m)) _ (is_role_shared c m ≡ false) _ (not_tells (is_role_shared c m)) (counted_tells c m))))))

-- the mailboxes are numbered and tidy
abbrev AreTested : Content → Type 0
AreTested c = AllByRecursion (λ (m : Mailbox). IsInUse c.next_mailbox m.number) c.mailboxes × AreMailboxesTidy c

abbrev IsFree : Content → Mailbox → Type 0
IsFree c m = (is_name_shared c m ≡ false) × (is_role_shared c m ≡ false)

mailboxes_tell : (c : Content) → AreTables c → Decides (list_all (is_rooted c) c.mailboxes && list_all (is_placed c) c.mailboxes) (AreTested c)
mailboxes_tell c tables =
    let ms = c.mailboxes in
    same_tells (list_all (is_rooted c) ms && list_all (is_placed c) ms) (AllByRecursion (λ (m : Mailbox). HasRoot c m.parent) ms × AllByRecursion (IsTested c) ms) (AreTested c)
    (λ h. (
      all_map (IsTested c) (λ (m : Mailbox). IsInUse c.next_mailbox m.number) (λ m t. t.number) ms h.1,
      record {
        forms = all_map (IsTested c) IsWellFormed (λ m t. t.form) ms h.1;
        placed = all_both (λ (m : Mailbox). HasRoot c m.parent) (IsTested c) (IsPlaced c) (λ m root t. record { parent = t.parent; root = root; counts = t.counts }) ms h.0 h.1;
        names = distinct mailbox_number share_name ms tables.mailboxes (all_map (IsTested c) (λ m. is_name_shared c m ≡ false) (λ m t. t.name) ms h.1);
        roles = distinct mailbox_number share_role ms tables.mailboxes (all_map (IsTested c) (λ m. is_role_shared c m ≡ false) (λ m t. t.role) ms h.1);
      },
    ))
    (λ t. (
      all_map (IsPlaced c) (λ (m : Mailbox). HasRoot c m.parent) (λ m p. p.root) ms t.1.placed,
      all_both (λ (m : Mailbox). IsInUse c.next_mailbox m.number × (IsWellFormed m × IsPlaced c m)) (IsFree c) (IsTested c)
          (λ m one other. record { number = one.0; form = one.1.0; parent = one.1.1.parent; name = other.0; role = other.1; counts = one.1.1.counts }) ms
          (all_both (λ (m : Mailbox). IsInUse c.next_mailbox m.number) (λ m. IsWellFormed m × IsPlaced c m) (λ (m : Mailbox). IsInUse c.next_mailbox m.number × (IsWellFormed m × IsPlaced c m)) (λ m n f. (n, f)) ms t.0
          (all_both IsWellFormed (IsPlaced c) (λ m. IsWellFormed m × IsPlaced c m) (λ m f p. (f, p)) ms t.1.forms t.1.placed))
          (all_both (λ m. is_name_shared c m ≡ false) (λ m. is_role_shared c m ≡ false) (IsFree c) (λ m f p. (f, p)) ms
          (undistinct mailbox_number share_name names_flip ms t.1.names) (undistinct mailbox_number share_role share_roles_flip ms t.1.roles)),
    ))
    (and_tells (list_all (is_rooted c) ms) (list_all (is_placed c) ms) _ _
    (all_tells (is_rooted c) (λ (m : Mailbox). HasRoot c m.parent) (λ m. root_tells c m.parent) ms)
    (all_tells (is_placed c) (IsTested c) (placed_tells c) ms))

-- ---- emails

int_tells : (a b : ℤ) → Decides (int_le a b) (a ≤ℤ b)
int_tells a b = (λ e. le_z_yes (subst T (sym e) tt), λ h. passed (int_le a b) h.le)
  where
    passed : (r : Bool) → T r → r ≡ true
    passed true t = refl
    passed false t = absurd t

date_tells : (d : UtcDate) → Decides (is_utc_date d) (IsUtcDate d)
date_tells d =
    same_tells (is_utc_date d) _ (IsUtcDate d)
    (λ h. record { not_before = h.0; not_after = h.1 })
    (λ f. (f.not_before, f.not_after))
    (and_tells (int_le FIRST_TIMESTAMP d.seconds) (int_le d.seconds (pos LAST_TIMESTAMP)) (FIRST_TIMESTAMP ≤ℤ d.seconds) (d.seconds ≤ℤ pos LAST_TIMESTAMP)
    (int_tells FIRST_TIMESTAMP d.seconds) (int_tells d.seconds (pos LAST_TIMESTAMP)))

-- an email that is numbered and tidy, and its thread is there
abbrev IsFiled : Content → Email → Type 0
IsFiled c e = IsInUse c.next_email e.number × (IsTidyEmail c e × (is_some (thread_at c e.thread) ≡ true))

filed_tells : (c : Content) (e : Email) → Decides (is_filed c e) (IsFiled c e)
filed_tells c e =
    same_tells (is_filed c e) _ (IsFiled c e)
    (λ h. (
      h.0,
      (
        record {
          mailboxes = h.1.0.0;
          some_mailbox = h.1.0.1.0;
          few_mailboxes = h.1.0.1.1.0;
          mailboxes_rise = h.1.0.1.1.1;
          keywords = h.1.1.0.0;
          few_keywords = h.1.1.0.1.0;
          keywords_rise = h.1.1.0.1.1;
          received = h.1.1.1.0.0;
          sent = h.1.1.1.0.1;
        },
        h.1.1.1.1,
      ),
    ))
    (λ f. (
      f.0,
      (
        (f.1.0.mailboxes, (f.1.0.some_mailbox, (f.1.0.few_mailboxes, f.1.0.mailboxes_rise))),
        ((f.1.0.keywords, (f.1.0.few_keywords, f.1.0.keywords_rise)), ((f.1.0.received, f.1.0.sent), f.1.1)),
      ),
    ))
    (and_tells (is_in_use c.next_email e.number) _ (IsInUse c.next_email e.number) _ (in_use_tells c.next_email e.number)
    (and_tells (are_mailboxes c e.mailboxes) _ _ _ boxes
    (and_tells (are_keywords e.keywords) _ _ _ words
    (and_tells (has_dates e) (has_thread c e) _ (is_some (thread_at c e.thread) ≡ true) dates (true_tells (is_some (thread_at c e.thread)))))))
  where
    boxes : Decides (are_mailboxes c e.mailboxes) (AllByRecursion (IsThere c) e.mailboxes × ((1 ≤ length e.mailboxes) × ((length e.mailboxes ≤ MAX_MAILBOXES_PER_EMAIL) × NumbersRise e.mailboxes)))
    boxes =
        and_tells (list_all (is_mailbox c) e.mailboxes) _ (AllByRecursion (IsThere c) e.mailboxes) _
        (all_tells (is_mailbox c) (IsThere c) (λ n. true_tells (is_mailbox c n)) e.mailboxes)
        (and_tells (nat_le 1 (length e.mailboxes)) _ (1 ≤ length e.mailboxes) _ (le_tells 1 (length e.mailboxes))
        (and_tells (nat_le (length e.mailboxes) MAX_MAILBOXES_PER_EMAIL) (rises_after nat_cmp None e.mailboxes) (length e.mailboxes ≤ MAX_MAILBOXES_PER_EMAIL) (NumbersRise e.mailboxes)
        (le_tells (length e.mailboxes) MAX_MAILBOXES_PER_EMAIL) (rises_tells nat_cmp_total e.mailboxes)))

    words : Decides (are_keywords e.keywords) (AllByRecursion (λ k. is_keyword k ≡ true) e.keywords × ((length e.keywords ≤ MAX_KEYWORDS_PER_EMAIL) × TextsRise e.keywords))
    words =
        and_tells (list_all is_keyword e.keywords) _ (AllByRecursion (λ k. is_keyword k ≡ true) e.keywords) _
        (all_tells is_keyword (λ k. is_keyword k ≡ true) (λ k. true_tells (is_keyword k)) e.keywords)
        (and_tells (nat_le (length e.keywords) MAX_KEYWORDS_PER_EMAIL) (rises_after (slice_cmp nat_cmp) None e.keywords) (length e.keywords ≤ MAX_KEYWORDS_PER_EMAIL) (TextsRise e.keywords)
        (le_tells (length e.keywords) MAX_KEYWORDS_PER_EMAIL) (rises_tells nat_list_cmp_total e.keywords))

    dates : Decides (has_dates e) (IsUtcDate e.received × ForSome e.summary.sent IsUtcDate)
    dates =
        and_tells (is_utc_date e.received) (passes_if_any is_utc_date e.summary.sent) (IsUtcDate e.received) (ForSome e.summary.sent IsUtcDate)
        (date_tells e.received) (if_any_tells is_utc_date IsUtcDate date_tells e.summary.sent)

-- ---- threads

abbrev IsListing : Content → Thread → Type 0
IsListing c t = (listed : List Email) × IsListOf c.emails t listed

abbrev IsListed : Content → Thread → Type 0
IsListed c t = IsInUse c.next_thread t.number × IsListing c t

numbers_tell : (xs ys : List ℕ) → Decides (same_numbers xs ys) (xs ≡ ys)
numbers_tell [] [] = (λ e. refl, λ h. refl)
numbers_tell [] (y ∷ ys) = (λ e. absurd (true≢false (sym e)), λ h. absurd (cc))
numbers_tell (x ∷ xs) [] = (λ e. absurd (true≢false (sym e)), λ h. absurd (cc))
numbers_tell (x ∷ xs) (y ∷ ys) =
    same_tells (eqb x y && same_numbers xs ys) ((x ≡ y) × (xs ≡ ys)) (x ∷ xs ≡ y ∷ ys)
    (λ h. ap₂ (λ z zs. z ∷ zs) h.0 h.1) (λ h. (cc, cc))
    (and_tells (eqb x y) (same_numbers xs ys) (x ≡ y) (xs ≡ ys) (Decides-eqb x y) (numbers_tell xs ys))

listing_tells : (c : Content) (t : Thread) → IsTable email_number c.emails → Decides (nat_le 1 (length t.emails) && same_numbers t.emails (list_of_thread c.emails t.number)) (IsListing c t)
listing_tells c t table =
    let own : List Email = filter (λ (e : Email). eqb e.thread t.number) c.emails in
    same_tells (nat_le 1 (length t.emails) && same_numbers t.emails (list_of_thread c.emails t.number)) ((1 ≤ length t.emails) × (t.emails ≡ list_of_thread c.emails t.number)) (IsListing c t)
    (λ h. (
      in_order own,
      record {
        numbers = h.1;
        all = in_order_moves own (table_kept (λ (e : Email). eqb e.thread t.number) c.emails table);
        order = in_order_rises own;
        some = some_listed t.emails (in_order own) h.0 h.1;
      },
    ))
    (λ f. (listed_some t.emails f.0 f.1.some f.1.numbers, f.1.numbers ∙ list-unique t.number c.emails f.0 f.1.all f.1.order))
    (and_tells (nat_le 1 (length t.emails)) (same_numbers t.emails (list_of_thread c.emails t.number)) (1 ≤ length t.emails) (t.emails ≡ list_of_thread c.emails t.number)
    (le_tells 1 (length t.emails)) (numbers_tell t.emails (list_of_thread c.emails t.number)))
  where
    some_listed : (ns : List ℕ) (es : List Email) → 1 ≤ length ns → ns ≡ map email_number es → 1 ≤ length es
    some_listed ns es one is = let same = ap length is ∙ length-map es email_number in omega (arith, same, one)

    listed_some : (ns : List ℕ) (es : List Email) → 1 ≤ length es → ns ≡ map email_number es → 1 ≤ length ns
    listed_some ns es one is = let same = ap length is ∙ length-map es email_number in omega (arith, same, one)

listed_tells : (c : Content) (t : Thread) → IsTable email_number c.emails → Decides (is_listed c t) (IsListed c t)
listed_tells c t table =
    and_tells (is_in_use c.next_thread t.number) (nat_le 1 (length t.emails) && same_numbers t.emails (list_of_thread c.emails t.number)) (IsInUse c.next_thread t.number) (IsListing c t)
    (in_use_tells c.next_thread t.number) (listing_tells c t table)

-- ---- all

abbrev HasNexts : Content → Type 0
HasNexts c = (1 ≤ c.next_mailbox) × ((1 ≤ c.next_email) × (1 ≤ c.next_thread))

nexts_tell : (c : Content) → Decides (has_nexts c) (HasNexts c)
nexts_tell c =
    and_tells (nat_le 1 c.next_mailbox) (nat_le 1 c.next_email && nat_le 1 c.next_thread) (1 ≤ c.next_mailbox) ((1 ≤ c.next_email) × (1 ≤ c.next_thread)) (le_tells 1 c.next_mailbox)
    (and_tells (nat_le 1 c.next_email) (nat_le 1 c.next_thread) (1 ≤ c.next_email) (1 ≤ c.next_thread) (le_tells 1 c.next_email) (le_tells 1 c.next_thread))

abbrev HasAll : Content → Type 0
HasAll c = HasNexts c × ((length c.emails ≤ MAX_EMAILS_PER_ACCOUNT) × (AllByRecursion (IsFiled c) c.emails × (AreTested c × AllByRecursion (IsListed c) c.threads)))

all_tidy : (c : Content) → AreTables c → HasAll c → IsTidy c
all_tidy c tables h = record {
  tables = tables;
  numbered = record {
    mailboxes = numbered_by mailbox_number c.mailboxes c.next_mailbox h.0.0 h.1.1.1.0.0;
    emails = numbered_by email_number c.emails c.next_email h.0.1.0 (all_map (IsFiled c) (λ e. IsInUse c.next_email (email_number e)) (λ e f. f.0) c.emails h.1.1.0);
    threads = numbered_by thread_number c.threads c.next_thread h.0.1.1 (all_map (IsListed c) (λ t. IsInUse c.next_thread (thread_number t)) (λ t f. f.0) c.threads h.1.1.1.1);
  };
  mailboxes = h.1.1.1.0.1;
  emails = record { few = h.1.0; each = all_map (IsFiled c) (IsTidyEmail c) (λ e f. f.1.0) c.emails h.1.1.0 };
  threads = record {
    named = all_map (IsFiled c) (λ (e : Email). is_some (thread_at c e.thread) ≡ true) (λ e f. f.1.1) c.emails h.1.1.0;
    lists = all_map (IsListed c) (IsListing c) (λ t f. f.1) c.threads h.1.1.1.1;
  };
}

tidy_all : (c : Content) → IsTidy c → HasAll c
tidy_all c t = (
  (t.numbered.mailboxes.next_from_one, (t.numbered.emails.next_from_one, t.numbered.threads.next_from_one)),
  (
    t.emails.few,
    (
      all_both (λ e. IsInUse c.next_email (email_number e)) (λ e. IsTidyEmail c e × (is_some (thread_at c e.thread) ≡ true)) (IsFiled c) (λ e one other. (one, other)) c.emails
          (in_use email_number c.emails c.next_email t.numbered.emails)
          (all_both (IsTidyEmail c) (λ (e : Email). is_some (thread_at c e.thread) ≡ true) (λ e. IsTidyEmail c e × (is_some (thread_at c e.thread) ≡ true)) (λ e one other. (one, other)) c.emails t.emails.each t.threads.named),
      (
        (in_use mailbox_number c.mailboxes c.next_mailbox t.numbered.mailboxes, t.mailboxes),
        all_both (λ k. IsInUse c.next_thread (thread_number k)) (IsListing c) (IsListed c) (λ k one other. (one, other)) c.threads
            (in_use thread_number c.threads c.next_thread t.numbered.threads) t.threads.lists,
      ),
    ),
  ),
)

pub passes_tells : (c : Content) → AreTables c → Decides (passes c) (IsTidy c)
passes_tells c tables =
    same_tells (passes c) (HasAll c) (IsTidy c) (all_tidy c tables) (tidy_all c)
    (and_tells (has_nexts c) _ (HasNexts c) _ (nexts_tell c)
    (and_tells (nat_le (length c.emails) MAX_EMAILS_PER_ACCOUNT) _ (length c.emails ≤ MAX_EMAILS_PER_ACCOUNT) _ (le_tells (length c.emails) MAX_EMAILS_PER_ACCOUNT)
    (and_tells (list_all (is_filed c) c.emails) _ (AllByRecursion (IsFiled c) c.emails) _ (all_tells (is_filed c) (IsFiled c) (filed_tells c) c.emails)
    (regrouped (list_all (is_rooted c) c.mailboxes) (list_all (is_placed c) c.mailboxes) (list_all (is_listed c) c.threads)
    (and_tells (list_all (is_rooted c) c.mailboxes && list_all (is_placed c) c.mailboxes) (list_all (is_listed c) c.threads) (AreTested c) (AllByRecursion (IsListed c) c.threads)
    (mailboxes_tell c tables) (all_tells (is_listed c) (IsListed c) (λ t. listed_tells c t tables.emails) c.threads))))))
  where
    regrouped : {P : Type 0} (x y z : Bool) → Decides ((x && y) && z) P → Decides (x && (y && z)) P
    regrouped true y z d = d
    regrouped false y z d = d

pub tidy_result : {E : Type 0} (r : Result Bool E) (c : Content) → AreTables c → IfOk r (λ b. b ≡ passes c) → IfOk r (λ b. IsTrue b ↔ IsTidy c)
tidy_result (Ok b) c tables is = let tells = passes_tells c tables in (λ e. tells.0 (sym is ∙ e), λ t. is ∙ tells.1 t)
tidy_result (Err e) c tables is = tt
