-- What edits do not touch is shown after them as before them, and in the same order.
use Rattle.std.proofs.Common.{◌≡◌, ℕ, ◌-◌, Bool, true, false, ◌&&◌, ◌||◌, List, Option, take, refl, sym, ap, ◌∙◌, subst, ⊎_elim, map, Ordering, Less, Equal, Greater}
use Rattle.std.specs.List.{AllByRecursion, list_any}
use Rattle.std.specs.Cmp.{IsTotalOrder}
use Rattle.std.specs.Ordering.{is_lt, ordering_reverse}
use Rattle.std.proofs.lemmas.Bool.{and_cases, or_parts, true≢false}
use Rattle.jm_base.specs.Splices.{IsOneWay}
use Rattle.jm_base.specs.declared.identifiers.Kind.{Kind}
use Rattle.jm_base.specs.declared.identifiers.Kind.TheVariants.{Mailbox as OfMailboxes, Email as OfEmails, Thread as OfThreads}
use Rattle.mail_records.specs.Contents.{Content, email_at, mailbox_at}
use Rattle.mail_records.specs.Edits.{after_edits, id_of}
use Rattle.mail_records.specs.Histories.{HasOneThread, History, NamesThread, content_at, content_of, edits_after, edits_of}
use Rattle.mail_records.specs.States.{is_id, is_kind}
use Rattle.mail_records.specs.declared.edits.Edit.{Edit}
use Rattle.mail_records.specs.declared.records.Email.{Email}
use Rattle.change_calls.proofs.UpToDate.{email_step, mailbox_step, stays}
use Rattle.filter_terms.specs.Laws.{SameEmailInThread}
use Rattle.filter_terms.specs.Targets.{of_thread}
use Rattle.filter_terms.specs.Texts.{MessageTexts}
use Rattle.sort_terms.specs.Orders
use Rattle.sort_terms.specs.Orders.{is_before}
use Rattle.sort_terms.proofs.Alone as sorting
use Rattle.sort_terms.proofs.Total.{numbers_total}
use Rattle.query_engine.specs.Queries.{is_wide, order_of, shows, shows_of}
use Rattle.query_engine.specs.Views.{QueryTree}
use Rattle.query_engine.proofs.Local as showing
use Rattle.filter_terms.specs.ThreadScope
use Rattle.query_changes.specs.Touched.{looks_at_threads, names_thread, shares_thread, touches}
use Rattle.query_changes.proofs.Stays.{All-drop, All-take, AllOwned, end_from, owned_after, same_thread}

-- a content, and the one after some edits, each of the one thread that its email has
pub record Span (thread_of : ℕ → ℕ) (c d : Content) (edits : List Edit) : Type 0 where
  pub goes : d ≡ after_edits c edits
  pub owned : AllOwned thread_of c.emails
  pub edits_owned : AllByRecursion (NamesThread thread_of) edits

pub span_of : (h : History) (thread_of : ℕ → ℕ) → HasOneThread h thread_of → (s : ℕ) → Span thread_of (content_at h s) (content_of h) (edits_after h s)
span_of h thread_of one s = record {
  goes = end_from h s;
  owned =
      owned_after thread_of h.base (take (s - h.floor) (edits_of h)) (All-take (NamesThread thread_of) (s - h.floor) (edits_of h) one.in_edits) one.in_base;
  edits_owned = All-drop (NamesThread thread_of) (s - h.floor) (edits_of h) one.in_edits;
}

-- ---- booleans and orders

or_last : (a b c : Bool) → c ≡ true → (a || (b || c)) ≡ true
or_last true b c h = refl
or_last false true c h = refl
or_last false false c h = h

both_true : (a b : Bool) → a ≡ true → b ≡ true → (a && b) ≡ true
both_true a b e f = rw (e, f) refl

-- an order of two items follows from which of them is before the other
same_by : (r s back rear : Ordering) → back ≡ ordering_reverse r → rear ≡ ordering_reverse s → is_lt r ≡ is_lt s → is_lt back ≡ is_lt rear → r ≡ s
same_by Less Less b t e f g h = refl
same_by Less Equal b t e f g h = absurd (true≢false g)
same_by Less Greater b t e f g h = absurd (true≢false g)
same_by Equal Less b t e f g h = absurd (true≢false (sym g))
same_by Equal Equal b t e f g h = refl
same_by Equal Greater b t e f g h = absurd (true≢false (sym (sym (ap is_lt e) ∙ (h ∙ ap is_lt f))))
same_by Greater Less b t e f g h = absurd (true≢false (sym g))
same_by Greater Equal b t e f g h = absurd (true≢false (sym (ap is_lt e) ∙ (h ∙ ap is_lt f)))
same_by Greater Greater b t e f g h = refl

same_order : (kind : Kind) (q : QueryTree) (c d : Content) (a b : ℕ) → is_before q.kind q.order c a b ≡ is_before q.kind q.order d a b → is_before q.kind q.order c b a ≡ is_before q.kind q.order d b a
    → order_of q c a b ≡ order_of q d a b
same_order kind q c d a b one other =
    same_by (order_of q c a b) (order_of q d a b) (order_of q c b a) (order_of q d b a)
    ((numbers_total q.kind q.order c).antisymm b a) ((numbers_total q.kind q.order d).antisymm b a) one other

-- a total order is one way
pub one_way : (R : ℕ → ℕ → Ordering) → IsTotalOrder R → IsOneWay R
one_way R total a b h k = reversed (R a b) (R b a) (total.antisymm a b) h k
  where
    reversed : (p q : Ordering) → p ≡ ordering_reverse q → p ≡ Less → q ≡ Less → ⊥
    reversed p q e h k = true≢false (sym (ap is_lt h) ∙ (ap is_lt e ∙ ap (λ (r : Ordering). is_lt (ordering_reverse r)) k))

-- ---- records that are not touched

module _ (thread_of : ℕ → ℕ) (c d : Content) (edits : List Edit) (span : Span thread_of c d edits) (q : QueryTree) where
  not_named : (kind : Kind) (n : ℕ) → q.kind ≡ kind → touches q edits d n ≡ false → list_any (is_id kind n) (map id_of edits) ≡ false
  not_named kind n is u =
      let p = or_parts (list_any (is_id q.kind n) (map id_of edits)) (looks_at_threads q && shares_thread edits (email_at d n)) u in
      subst (λ (k : Kind). list_any (is_id k n) (map id_of edits) ≡ false) is p.0

  same_email : (n : ℕ) → q.kind ≡ OfEmails → touches q edits d n ≡ false → email_at c n ≡ email_at d n
  same_email n is u =
      sym (ap (λ (x : Content). email_at x n) span.goes ∙ stays email_at OfEmails email_step edits c n (not_named OfEmails n is u))

  same_mailbox : (n : ℕ) → q.kind ≡ OfMailboxes → touches q edits d n ≡ false → mailbox_at c n ≡ mailbox_at d n
  same_mailbox n is u =
      sym (ap (λ (x : Content). mailbox_at x n) span.goes ∙ stays mailbox_at OfMailboxes mailbox_step edits c n (not_named OfMailboxes n is u))

  not_shared : (n : ℕ) → q.kind ≡ OfEmails → is_wide q ≡ true → touches q edits d n ≡ false → shares_thread edits (email_at d n) ≡ false
  not_shared n is wide u =
      let p = or_parts (list_any (is_id q.kind n) (map id_of edits)) (looks_at_threads q && shares_thread edits (email_at d n)) u in
      let looks : looks_at_threads q ≡ true = both_true (is_kind q.kind OfEmails) (is_wide q) (ap (λ k. is_kind k OfEmails) is) wide in
      ⊎_elim
      (λ (no_look : looks_at_threads q ≡ false). absurd (true≢false (sym looks ∙ no_look)))
      (λ (away : shares_thread edits (email_at d n) ≡ false). away)
      (and_cases (looks_at_threads q) (shares_thread edits (email_at d n)) p.1)

  pub same_seen : (n : ℕ) → q.kind ≡ OfEmails → touches q edits d n ≡ false → SameEmailInThread (is_wide q) c d n
  same_seen n is u = record {
    email = same_email n is u;
    thread = λ wide e found.
        let away : list_any (names_thread e.thread) edits ≡ false =
        subst (λ (o : Option Email). shares_thread edits o ≡ false) (sym (same_email n is u) ∙ found) (not_shared n is wide u) in
        sym
        (ap (λ (x : Content). of_thread e.thread x.emails) span.goes
        ∙ same_thread thread_of e.thread c edits span.edits_owned span.owned away);
  }

  -- of what an order looks at
  seen_by_order : (n : ℕ) → q.kind ≡ OfEmails → touches q edits d n ≡ false → SameEmailInThread (Orders.is_wide OfEmails q.order) c d n
  seen_by_order n is u =
      let same = same_seen n is u in
      record {
        email = same.email;
        thread = λ wide e found.
            same.thread
            (or_last q.collapse (ThreadScope.is_wide q.kind q.filter) (Orders.is_wide q.kind q.order) (ap (λ k. Orders.is_wide k q.order) is ∙ wide))
            e found;
      }

  emails_before : (a b : ℕ) → q.kind ≡ OfEmails → touches q edits d a ≡ false → touches q edits d b ≡ false → is_before q.kind q.order c a b ≡ is_before q.kind q.order d a b
  emails_before a b is u v =
      ap (λ k. is_before k q.order c a b) is
      ∙ (sorting.emails_decide q.order c d a b (seen_by_order a is u) (seen_by_order b is v)
      ∙ sym (ap (λ k. is_before k q.order d a b) is))

  mailboxes_before : (a b : ℕ) → q.kind ≡ OfMailboxes → touches q edits d a ≡ false → touches q edits d b ≡ false → is_before q.kind q.order c a b ≡ is_before q.kind q.order d a b
  mailboxes_before a b is u v =
      ap (λ k. is_before k q.order c a b) is
      ∙ (sorting.mailboxes_decide q.order c d a b (same_mailbox a is u) (same_mailbox b is v)
      ∙ sym (ap (λ k. is_before k q.order d a b) is))

  shown_of : (kind : Kind) → q.kind ≡ kind → (texts : ℕ → MessageTexts) (n : ℕ) → touches q edits d n ≡ false → shows q c texts n ≡ shows q d texts n
  shown_of OfEmails is texts n u = showing.emails_decide q c d texts n is (same_seen n is u)
  shown_of OfMailboxes is texts n u = showing.mailboxes_decide q c d texts n is (same_mailbox n is u)
  shown_of OfThreads is texts n u = never c is ∙ sym (never d is)
    where
      never : (x : Content) → q.kind ≡ OfThreads → shows q x texts n ≡ false
      never x k = ap (λ j. shows_of j q x texts n) k

  before_of : (kind : Kind) → q.kind ≡ kind → (a b : ℕ) → touches q edits d a ≡ false → touches q edits d b ≡ false → is_before q.kind q.order c a b ≡ is_before q.kind q.order d a b
  before_of OfEmails is a b u v = emails_before a b is u v
  before_of OfMailboxes is a b u v = mailboxes_before a b is u v
  before_of OfThreads is a b u v = ap (λ k. is_before k q.order c a b) is ∙ sym (ap (λ k. is_before k q.order d a b) is)

  pub shown_alike : (texts : ℕ → MessageTexts) (n : ℕ) → touches q edits d n ≡ false → shows q c texts n ≡ shows q d texts n
  shown_alike texts n u = shown_of q.kind refl texts n u

  pub ordered_alike : (a b : ℕ) → touches q edits d a ≡ false → touches q edits d b ≡ false → order_of q c a b ≡ order_of q d a b
  ordered_alike a b u v = same_order q.kind q c d a b (before_of q.kind refl a b u v) (before_of q.kind refl b a v u)
