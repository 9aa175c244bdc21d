-- Of all texts a filter looks at those of the email's own message alone.
use Rattle.std.proofs.Common.{◌≡◌, ℕ, ◌∷◌, ◌&&◌, cond, List, Option, Some, None, codes, bytes_eq, refl, ap, ap₂, option_map}
use Rattle.jm_base.specs.declared.identifiers.Kind.{Kind}
use Rattle.jm_base.specs.declared.identifiers.Kind.TheVariants.{Mailbox as OfMailboxes, Email as OfEmails, Thread as OfThreads}
use Rattle.jm_json.specs.Tree.{Tree, null, boolean, number, text, list, object, Trees, no_trees, tree, Fields, no_fields, field}
use Rattle.jm_json.specs.Find.{as_text, pairs_of}
use Rattle.mail_records.specs.Contents.{email_at}
use Rattle.mail_records.specs.declared.records.Email.{Email}
use Rattle.method_args.specs.Arguments.{passes}
use Rattle.filter_terms.specs.EmailTerms.{email_term_holds, field_holds}
use Rattle.filter_terms.specs.Filters.{by_operator, conditions_match, holds, if_term_holds, items_match, list_matches, members_hold, operator_in}
use Rattle.filter_terms.specs.Laws.{OwnTextsDecide, TextsOfRecordDecide}
use Rattle.filter_terms.specs.Names.{term_of}
use Rattle.filter_terms.specs.Targets.{AnEmail, EmailInThread, email_in_thread}
use Rattle.filter_terms.specs.Texts.{MessageTexts, has_text}
use Rattle.filter_terms.specs.Values.{as_field_test}
use Rattle.filter_terms.specs.declared.terms.EmailTerm.{EmailTerm}
use Rattle.filter_terms.specs.declared.terms.EmailTerm.TheVariants.{InMailbox, InMailboxOtherThan, Before, After, MinSize, MaxSize, Keyword, HasAttachment, Contains, Header}
use Rattle.filter_terms.specs.declared.terms.Term.{Term}
use Rattle.filter_terms.specs.declared.terms.Term.TheVariants.{OfEmail, OfMailbox}

module _ (texts others : ℕ → MessageTexts) (s : EmailInThread) (same : texts s.email.blob ≡ others s.email.blob) where
  condition_same : (term : EmailTerm) (t : Tree) → email_term_holds texts s term t ≡ email_term_holds others s term t
  condition_same InMailbox t = refl
  condition_same InMailboxOtherThan t = refl
  condition_same Before t = refl
  condition_same After t = refl
  condition_same MinSize t = refl
  condition_same MaxSize t = refl
  condition_same (Keyword test) t = refl
  condition_same HasAttachment t = refl
  condition_same (Contains place) t = ap (λ m. passes (λ needle. has_text m place needle) (as_text t)) same
  condition_same Header t = ap (λ m. passes (λ test. field_holds m test) (as_field_test t)) same

  term_same : (o : Option Term) (t : Tree) → if_term_holds (AnEmail texts s) o t ≡ if_term_holds (AnEmail others s) o t
  term_same None t = refl
  term_same (Some (OfEmail term)) t = condition_same term t
  term_same (Some (OfMailbox term)) t = refl

  members_same : (kind : Kind) (fs : Fields) → members_hold kind (AnEmail texts s) fs ≡ members_hold kind (AnEmail others s) fs
  members_same kind no_fields = refl
  members_same kind (field k t fs) = ap₂ (λ a b. a && b) (term_same (term_of kind k) t) (members_same kind fs)

  mutual
    filter_same : (kind : Kind) (t : Tree) → holds kind (AnEmail texts s) t ≡ holds kind (AnEmail others s) t
    filter_same kind null = refl
    filter_same kind (boolean b) = refl
    filter_same kind (number z) = refl
    filter_same kind (text k) = refl
    filter_same kind (list ts) = refl
    filter_same kind (object fs) = ap₂ (by_operator (operator_in (pairs_of fs))) (conditions_same kind fs) (members_same kind fs)

    conditions_same : (kind : Kind) (fs : Fields) → conditions_match kind (AnEmail texts s) fs ≡ conditions_match kind (AnEmail others s) fs
    conditions_same kind no_fields = refl
    conditions_same kind (field k t fs) = ap₂ (cond (bytes_eq k (codes "conditions"))) (list_same kind t) (conditions_same kind fs)

    list_same : (kind : Kind) (t : Tree) → list_matches kind (AnEmail texts s) t ≡ list_matches kind (AnEmail others s) t
    list_same kind null = refl
    list_same kind (boolean b) = refl
    list_same kind (number z) = refl
    list_same kind (text k) = refl
    list_same kind (list ts) = items_same kind ts
    list_same kind (object fs) = refl

    items_same : (kind : Kind) (ts : Trees) → items_match kind (AnEmail texts s) ts ≡ items_match kind (AnEmail others s) ts
    items_same kind no_trees = refl
    items_same kind (tree t ts) = ap₂ (λ a bs. a ∷ bs) (filter_same kind t) (items_same kind ts)

pub own_texts_decide : OwnTextsDecide
own_texts_decide kind t s texts others same = filter_same texts others s same kind t

there : (t : Tree) (emails : List Email) (texts others : ℕ → MessageTexts) (o : Option Email) → ((e : Email) → o ≡ Some e → texts e.blob ≡ others e.blob)
    → passes (λ s. holds OfEmails (AnEmail texts s) t) (option_map (email_in_thread emails) o) ≡ passes (λ s. holds OfEmails (AnEmail others s) t) (option_map (email_in_thread emails) o)
there t emails texts others None f = refl
there t emails texts others (Some e) f = own_texts_decide OfEmails t (email_in_thread emails e) texts others (f e refl)

pub texts_of_record_decide : TextsOfRecordDecide
texts_of_record_decide OfMailboxes t c texts others n h = refl
texts_of_record_decide OfEmails t c texts others n h = there t c.emails texts others (email_at c n) h
texts_of_record_decide OfThreads t c texts others n h = refl
