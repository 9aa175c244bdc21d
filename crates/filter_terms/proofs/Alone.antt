-- A filter that does not look at the thread says the same whatever the thread.
use Rattle.std.proofs.Common.{◌≡◌, ℕ, ◌∷◌, true, false, ◌&&◌, cond, Bool, List, Option, Some, None, codes, bytes_eq, refl, ap, ap₂, ◌∙◌, option_map}
use Rattle.std.proofs.lemmas.Bool.{or_parts, true≢false}
use Rattle.std.specs.Str.{str_to_ascii_lowercase}
use Rattle.jm_base.specs.declared.identifiers.Kind.{Kind}
use Rattle.jm_base.specs.declared.identifiers.Kind.TheVariants.{Mailbox as OfMailboxes, Email as OfEmails}
use Rattle.jm_json.specs.Tree.{Tree, null, boolean, number, text, list, object, Trees, no_trees, tree, Fields, no_fields, field}
use Rattle.jm_json.specs.Find.{as_text, pairs_of}
use Rattle.mail_records.specs.Contents.{email_at}
use Rattle.mail_records.specs.declared.records.Email.{Email}
use Rattle.method_args.specs.Arguments.{passes}
use Rattle.filter_terms.specs.EmailTerms.{email_term_holds, keyword_holds}
use Rattle.filter_terms.specs.Filters.{by_operator, conditions_match, holds, if_joined, if_term_holds, items_match, list_matches, members_hold, operator_in}
use Rattle.filter_terms.specs.Laws.{EmailsDecide, MailboxesDecide}
use Rattle.filter_terms.specs.Names.{operator_of, term_of}
use Rattle.filter_terms.specs.Targets.{AMailbox, AnEmail, EmailInThread, Target, of_thread, email_in_thread}
use Rattle.filter_terms.specs.Texts.{MessageTexts}
use Rattle.filter_terms.specs.ThreadScope.{conditions_wide, is_wide, is_wide_email, is_wide_term, is_wide_test, items_wide, list_wide, members_wide, object_wide}
use Rattle.filter_terms.specs.declared.terms.KeywordTest.{KeywordTest}
use Rattle.filter_terms.specs.declared.terms.KeywordTest.TheVariants.{AllInThread, SomeInThread, NoneInThread, Has, HasNot}
use Rattle.filter_terms.specs.declared.terms.EmailTerm.{EmailTerm}
use Rattle.filter_terms.specs.declared.terms.EmailTerm.TheVariants.{InMailbox, InMailboxOtherThan, Before, After, MinSize, MaxSize, Keyword, HasAttachment, Contains, Header}
use Rattle.filter_terms.specs.declared.terms.Term.{Term}
use Rattle.filter_terms.specs.declared.terms.Term.TheVariants.{OfEmail, OfMailbox}

abbrev pub with_thread : Email → List Email → EmailInThread
with_thread e m = record { email = e; thread = m }

abbrev asked : (ℕ → MessageTexts) → Email → List Email → Target
asked texts e m = AnEmail texts (with_thread e m)

test_alone : (e : Email) (m n : List Email) (test : KeywordTest) (k : List ℕ) → is_wide_test test ≡ false → keyword_holds (with_thread e m) test k ≡ keyword_holds (with_thread e n) test k
test_alone e m n AllInThread k h = absurd (true≢false h)
test_alone e m n SomeInThread k h = absurd (true≢false h)
test_alone e m n NoneInThread k h = absurd (true≢false h)
test_alone e m n Has k h = refl
test_alone e m n HasNot k h = refl

text_alone : (e : Email) (m n : List Email) (test : KeywordTest) (o : Option (List ℕ)) → is_wide_test test ≡ false
    → passes (λ k. keyword_holds (with_thread e m) test (str_to_ascii_lowercase k)) o ≡ passes (λ k. keyword_holds (with_thread e n) test (str_to_ascii_lowercase k)) o
text_alone e m n test None h = refl
text_alone e m n test (Some k) h = test_alone e m n test (str_to_ascii_lowercase k) h

email_alone : (texts : ℕ → MessageTexts) (e : Email) (m n : List Email) (term : EmailTerm) (t : Tree) → is_wide_email term ≡ false
    → email_term_holds texts (with_thread e m) term t ≡ email_term_holds texts (with_thread e n) term t
email_alone texts e m n InMailbox t h = refl
email_alone texts e m n InMailboxOtherThan t h = refl
email_alone texts e m n Before t h = refl
email_alone texts e m n After t h = refl
email_alone texts e m n MinSize t h = refl
email_alone texts e m n MaxSize t h = refl
email_alone texts e m n (Keyword test) t h = text_alone e m n test (as_text t) h
email_alone texts e m n HasAttachment t h = refl
email_alone texts e m n (Contains place) t h = refl
email_alone texts e m n Header t h = refl

term_alone : (texts : ℕ → MessageTexts) (e : Email) (m n : List Email) (o : Option Term) (t : Tree) → is_wide_term o ≡ false
    → if_term_holds (asked texts e m) o t ≡ if_term_holds (asked texts e n) o t
term_alone texts e m n None t h = refl
term_alone texts e m n (Some (OfEmail term)) t h = email_alone texts e m n term t h
term_alone texts e m n (Some (OfMailbox term)) t h = refl

members_alone : (kind : Kind) (texts : ℕ → MessageTexts) (e : Email) (m n : List Email) (fs : Fields) → members_wide kind fs ≡ false
    → members_hold kind (asked texts e m) fs ≡ members_hold kind (asked texts e n) fs
members_alone kind texts e m n no_fields h = refl
members_alone kind texts e m n (field k t fs) h =
    let p = or_parts (is_wide_term (term_of kind k)) (members_wide kind fs) h in
    ap₂ (λ a b. a && b) (term_alone texts e m n (term_of kind k) t p.0) (members_alone kind texts e m n fs p.1)

-- an operator's conditions count where there is one, and else the members
chosen : (o : Option Tree) (conditions conditions' : List Bool) (all all' a b : Bool) → (a ≡ false → conditions ≡ conditions') → (b ≡ false → all ≡ all') → object_wide o a b ≡ false
    → by_operator o conditions all ≡ by_operator o conditions' all'
chosen None conditions conditions' all all' a b f g h = g h
chosen (Some t) conditions conditions' all all' a b f g h = ap (if_joined (operator_of t)) (f h)

conditions_step : (b : Bool) (s s' r r' : List Bool) (v w : Bool) → (v ≡ false → s ≡ s') → (w ≡ false → r ≡ r') → cond b v w ≡ false → cond b s r ≡ cond b s' r'
conditions_step true s s' r r' v w f g h = f h
conditions_step false s s' r r' v w f g h = g h

mutual
  pub alone : (kind : Kind) (texts : ℕ → MessageTexts) (e : Email) (m n : List Email) (t : Tree) → is_wide kind t ≡ false → holds kind (asked texts e m) t ≡ holds kind (asked texts e n) t
  alone kind texts e m n null h = refl
  alone kind texts e m n (boolean b) h = refl
  alone kind texts e m n (number z) h = refl
  alone kind texts e m n (text k) h = refl
  alone kind texts e m n (list ts) h = refl
  alone kind texts e m n (object fs) h =
      chosen (operator_in (pairs_of fs)) (conditions_match kind (asked texts e m) fs) (conditions_match kind (asked texts e n) fs) (members_hold kind (asked texts e m) fs) (members_hold kind (asked texts e n) fs)
      (conditions_wide kind fs) (members_wide kind fs) (conditions_alone kind texts e m n fs) (members_alone kind texts e m n fs) h

  conditions_alone : (kind : Kind) (texts : ℕ → MessageTexts) (e : Email) (m n : List Email) (fs : Fields) → conditions_wide kind fs ≡ false
      → conditions_match kind (asked texts e m) fs ≡ conditions_match kind (asked texts e n) fs
  conditions_alone kind texts e m n no_fields h = refl
  conditions_alone kind texts e m n (field k t fs) h =
      conditions_step (bytes_eq k (codes "conditions")) (list_matches kind (asked texts e m) t) (list_matches kind (asked texts e n) t) (conditions_match kind (asked texts e m) fs) (conditions_match kind (asked texts e n) fs)
      (list_wide kind t) (conditions_wide kind fs) (list_alone kind texts e m n t) (conditions_alone kind texts e m n fs) h

  list_alone : (kind : Kind) (texts : ℕ → MessageTexts) (e : Email) (m n : List Email) (t : Tree) → list_wide kind t ≡ false → list_matches kind (asked texts e m) t ≡ list_matches kind (asked texts e n) t
  list_alone kind texts e m n null h = refl
  list_alone kind texts e m n (boolean b) h = refl
  list_alone kind texts e m n (number z) h = refl
  list_alone kind texts e m n (text k) h = refl
  list_alone kind texts e m n (list ts) h = items_alone kind texts e m n ts h
  list_alone kind texts e m n (object fs) h = refl

  items_alone : (kind : Kind) (texts : ℕ → MessageTexts) (e : Email) (m n : List Email) (ts : Trees) → items_wide kind ts ≡ false → items_match kind (asked texts e m) ts ≡ items_match kind (asked texts e n) ts
  items_alone kind texts e m n no_trees h = refl
  items_alone kind texts e m n (tree t ts) h =
      let p = or_parts (is_wide kind t) (items_wide kind ts) h in
      ap₂ (λ a bs. a ∷ bs) (alone kind texts e m n t p.0) (items_alone kind texts e m n ts p.1)

same_of : (t : Tree) (texts : ℕ → MessageTexts) (e : Email) (m n : List Email) (w : Bool) → is_wide OfEmails t ≡ w → (w ≡ true → m ≡ n)
    → holds OfEmails (asked texts e m) t ≡ holds OfEmails (asked texts e n) t
same_of t texts e m n true is same = ap (λ l. holds OfEmails (asked texts e l) t) (same refl)
same_of t texts e m n false is same = alone OfEmails texts e m n t is

there : (t : Tree) (texts : ℕ → MessageTexts) (xs ys : List Email) (o : Option Email)
    → ((e : Email) → o ≡ Some e → holds OfEmails (AnEmail texts (email_in_thread xs e)) t ≡ holds OfEmails (AnEmail texts (email_in_thread ys e)) t)
    → passes (λ s. holds OfEmails (AnEmail texts s) t) (option_map (email_in_thread xs) o) ≡ passes (λ s. holds OfEmails (AnEmail texts s) t) (option_map (email_in_thread ys) o)
there t texts xs ys None f = refl
there t texts xs ys (Some e) f = f e refl

pub emails_decide : EmailsDecide
emails_decide t c d texts n h =
    there t texts c.emails d.emails (email_at c n)
    (λ e is. same_of t texts e (of_thread e.thread c.emails) (of_thread e.thread d.emails) (is_wide OfEmails t) refl (λ w. h.thread w e is))
    ∙ ap (λ o. passes (λ s. holds OfEmails (AnEmail texts s) t) (option_map (email_in_thread d.emails) o)) h.email

pub mailboxes_decide : MailboxesDecide
mailboxes_decide t c d texts n h = ap (λ o. passes (λ m. holds OfMailboxes (AMailbox m) t) o) h
