-- Whether a query shows a record depends on the record alone.
use Rattle.std.proofs.Common.{◌≡◌, ℕ, Bool, true, false, not, ◌&&◌, ◌||◌, List, Option, Some, None, option_map, refl, sym, ap, ◌∙◌, subst, ⊎_elim}
use Rattle.std.proofs.lemmas.Bool.{cases_Bool, or_parts, true≢false}
use Rattle.jm_base.specs.declared.identifiers.Kind.TheVariants.{Email as OfEmails}
use Rattle.mail_records.specs.Contents.{Content, email_at}
use Rattle.mail_records.specs.declared.records.Email.{Email}
use Rattle.method_args.specs.Arguments.{passes}
use Rattle.filter_terms.specs.Laws.{SameEmailInThread}
use Rattle.filter_terms.specs.Targets.{email_in_thread_at, email_in_thread}
use Rattle.filter_terms.specs.Texts.{MessageTexts}
use Rattle.filter_terms.specs.ThreadScope
use Rattle.filter_terms.proofs.Alone as alone
use Rattle.sort_terms.specs.Orders
use Rattle.query_engine.specs.Laws.{EmailsDecide, MailboxesDecide}
use Rattle.query_engine.specs.Queries.{email_matches, is_hidden, is_wide, shows_email, shows_of}
use Rattle.query_engine.specs.Views.{QueryTree}

same_seen : (c d : Content) (n : ℕ) → SameEmailInThread true c d n → email_in_thread_at c.emails n ≡ email_in_thread_at d.emails n
same_seen c d n h = by (email_at c n) refl
  where
    by : (o : Option Email) → email_at c n ≡ o → email_in_thread_at c.emails n ≡ email_in_thread_at d.emails n
    by None is = ap (option_map (email_in_thread c.emails)) is ∙ sym (ap (option_map (email_in_thread d.emails)) (sym h.email ∙ is))
    by (Some e) is =
        ap (option_map (email_in_thread c.emails)) is
        ∙ (ap (λ (t : List Email). Some (record { email = e; thread = t })) (h.thread refl e is) ∙ sym (ap (option_map (email_in_thread d.emails)) (sym h.email ∙ is)))

and_true : (b : Bool) → (b && true) ≡ b
and_true true = refl
and_true false = refl

alone_is : (q : QueryTree) (c : Content) (texts : ℕ → MessageTexts) → q.collapse ≡ false → (o : Option Email)
    → passes (λ s. shows_email q texts s) (option_map (email_in_thread c.emails) o) ≡ passes (λ s. email_matches q texts s) (option_map (email_in_thread c.emails) o)
alone_is q c texts off None = refl
alone_is q c texts off (Some e) =
    ap (λ b. email_matches q texts (email_in_thread c.emails e) && not (b && is_hidden q texts (email_in_thread c.emails e))) off ∙ and_true (email_matches q texts (email_in_thread c.emails e))

narrow : (q : QueryTree) (c d : Content) (texts : ℕ → MessageTexts) (n : ℕ) → q.collapse ≡ false → ThreadScope.is_wide OfEmails q.filter ≡ false → email_at c n ≡ email_at d n
    → shows_of OfEmails q c texts n ≡ shows_of OfEmails q d texts n
narrow q c d texts n off no_wide same =
    let seen : SameEmailInThread (ThreadScope.is_wide OfEmails q.filter) c d n = record { email = same; thread = λ w e is. absurd (true≢false (sym w ∙ no_wide)) } in
    alone_is q c texts off (email_at c n) ∙ (alone.emails_decide q.filter c d texts n seen ∙ sym (alone_is q d texts off (email_at d n)))

pub emails_decide : EmailsDecide
emails_decide q c d texts n k h =
    ap (λ kind. shows_of kind q c texts n) k
    ∙ (⊎_elim
    (λ (w : is_wide q ≡ true). ap (passes (λ s. shows_email q texts s)) (same_seen c d n (subst (λ b. SameEmailInThread b c d n) w h)))
    (λ (w : is_wide q ≡ false).
    let first = or_parts q.collapse (ThreadScope.is_wide q.kind q.filter || Orders.is_wide q.kind q.order) w in
    let second = or_parts (ThreadScope.is_wide q.kind q.filter) (Orders.is_wide q.kind q.order) first.1 in
    narrow q c d texts n first.0 (ap (λ kind. ThreadScope.is_wide kind q.filter) (sym k) ∙ second.0) h.email)
    (cases_Bool (is_wide q))
    ∙ sym (ap (λ kind. shows_of kind q d texts n) k))

pub mailboxes_decide : MailboxesDecide
mailboxes_decide q c d texts n k same =
    ap (λ kind. shows_of kind q c texts n) k ∙ (alone.mailboxes_decide q.filter c d texts n same ∙ sym (ap (λ kind. shows_of kind q d texts n) k))
