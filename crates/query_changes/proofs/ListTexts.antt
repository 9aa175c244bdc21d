-- Of all texts, those of the emails that are there decide a result list.
use Rattle.std.proofs.Common.{◌≡◌, ℕ, Bool, true, false, not, cond, ◌&&◌, ◌||◌, eqb, List, [], ◌∷◌, filter, Option, Some, None, option_map, refl, sym, ap, ap₂, ◌∙◌, subst, ⊎_elim}
use Rattle.std.specs.List.{AllByRecursion, list_any}
use Rattle.std.proofs.lemmas.Bool.{cases_Bool}
use Rattle.jm_base.specs.declared.identifiers.Kind.{Kind}
use Rattle.jm_base.specs.declared.identifiers.Kind.TheVariants.{Mailbox as OfMailboxes, Email as OfEmails, Thread as OfThreads}
use Rattle.jm_json.specs.Tree.{Tree}
use Rattle.jm_json.specs.Find.{as_object}
use Rattle.mail_records.specs.Contents.{Content, email_at, email_number}
use Rattle.mail_records.specs.Tables.{lookup}
use Rattle.mail_records.specs.declared.records.Email.{Email}
use Rattle.method_args.specs.Arguments.{passes}
use Rattle.filter_terms.specs.Laws.{HaveSameTexts, OwnTextsDecide}
use Rattle.filter_terms.specs.Targets.{EmailInThread, email_in_thread}
use Rattle.filter_terms.specs.Texts.{MessageTexts}
use Rattle.query_engine.specs.Queries.{email_before, email_matches, in_same_thread, numbers_of, order_of, result_list, shows, shows_email, shows_of, sorted_by}
use Rattle.query_engine.specs.Responses.{Reading, call_query, invalid, invalid_argument, outcome_of_list, outcome_of_members, outcome_of_query, outcome_with, query, unsupported_filter, unsupported_sort}
use Rattle.query_engine.specs.Views.{QueryTree}
use Rattle.query_changes.specs.Laws.{TextsDecideLists, TextsDecideQueries}

-- what holds of all records holds of the one that is found
found_holds : {R : Type 0} (P : R → Type 0) (number : R → ℕ) (n : ℕ) (rows : List R) (r : R) → AllByRecursion P rows → lookup number n rows ≡ Some r → P r
found_holds P number n [] r all is = absurd (cc is)
found_holds P number n (x ∷ xs) r all is =
    ⊎_elim
    (λ (k : eqb (number x) n ≡ true). let same : x ≡ r = cc (is, k) in subst P same all.0)
    (λ (k : eqb (number x) n ≡ false). found_holds P number n xs r all.1 (sym (rw k refl) ∙ is))
    (cases_Bool (eqb (number x) n))

all_filter : {A : Type 0} (P : A → Type 0) (test : A → Bool) (xs : List A) → AllByRecursion P xs → AllByRecursion P (filter test xs)
all_filter P test [] all = tt
all_filter P test (x ∷ xs) all =
    ⊎_elim
    (λ (k : test x ≡ true). rw k (all.0, all_filter P test xs all.1))
    (λ (k : test x ≡ false). rw k (all_filter P test xs all.1))
    (cases_Bool (test x))

filter_same : (p q : ℕ → Bool) → ((n : ℕ) → p n ≡ q n) → (ns : List ℕ) → filter p ns ≡ filter q ns
filter_same p q same [] = refl
filter_same p q same (n ∷ ns) = ap₂ (λ b rest. cond b (n ∷ rest) rest) (same n) (filter_same p q same ns)

module _ (own : OwnTextsDecide) (q : QueryTree) (texts others : ℕ → MessageTexts) where
  abbrev Same : Email → Type 0
  Same e = texts e.blob ≡ others e.blob

  match_same : (s : EmailInThread) → Same s.email → email_matches q texts s ≡ email_matches q others s
  match_same s same = own OfEmails q.filter s texts others same

  hidden_same : (s : EmailInThread) (es : List Email) → AllByRecursion Same es
      → list_any (λ e. email_matches q texts (in_same_thread s e) && email_before q (in_same_thread s e) s) es ≡ list_any (λ e. email_matches q others (in_same_thread s e) && email_before q (in_same_thread s e) s) es
  hidden_same s [] all = refl
  hidden_same s (e ∷ es) all =
      ap₂ (λ a b. a && email_before q (in_same_thread s e) s || b) (match_same (in_same_thread s e) all.0) (hidden_same s es all.1)

  email_same : (s : EmailInThread) → Same s.email → AllByRecursion Same s.thread → shows_email q texts s ≡ shows_email q others s
  email_same s same all = ap₂ (λ a b. a && not (q.collapse && b)) (match_same s same) (hidden_same s s.thread all)

  there : (es : List Email) → AllByRecursion Same es → (o : Option Email) → ((e : Email) → o ≡ Some e → Same e)
      → passes (λ s. shows_email q texts s) (option_map (email_in_thread es) o) ≡ passes (λ s. shows_email q others s) (option_map (email_in_thread es) o)
  there es all None f = refl
  there es all (Some e) f =
      email_same (email_in_thread es e) (f e refl) (all_filter Same (λ (x : Email). eqb x.thread e.thread) es all)

  module _ (c : Content) (all : AllByRecursion Same c.emails) where
    shown_same : (kind : Kind) (n : ℕ) → shows_of kind q c texts n ≡ shows_of kind q c others n
    shown_same OfMailboxes n = refl
    shown_same OfEmails n = there c.emails all (email_at c n) (λ e is. found_holds Same email_number n c.emails e all is)
    shown_same OfThreads n = refl

    list_same : result_list q c texts ≡ result_list q c others
    list_same = ap (sorted_by (order_of q c)) (filter_same (shows q c texts) (shows q c others) (shown_same q.kind) (numbers_of q.kind c))

pub texts_decide_lists : OwnTextsDecide → TextsDecideLists
texts_decide_lists own q c texts others same = list_same own q texts others c same

module _ (own : OwnTextsDecide) (kind : Kind) (state : ℕ) (c : Content) (texts others : ℕ → MessageTexts) (same : HaveSameTexts texts others c.emails) where
  read_same : (ms : List (List ℕ × Tree)) (r : Reading) → outcome_of_query kind state c texts ms r ≡ outcome_of_query kind state c others ms r
  read_same ms (query q) = ap (outcome_of_list kind state ms) (texts_decide_lists own q c texts others same)
  read_same ms (invalid name) = refl
  read_same ms (unsupported_filter name) = refl
  read_same ms (unsupported_sort name) = refl

  checked_same : (ms : List (List ℕ × Tree)) (o : Option (List ℕ)) → outcome_with kind state c texts ms o ≡ outcome_with kind state c others ms o
  checked_same ms None = read_same ms (call_query kind ms)
  checked_same ms (Some name) = refl

  members_same : (o : Option (List (List ℕ × Tree))) → outcome_of_members kind state c texts o ≡ outcome_of_members kind state c others o
  members_same None = refl
  members_same (Some ms) = checked_same ms (invalid_argument kind ms)

pub texts_decide_queries : OwnTextsDecide → TextsDecideQueries
texts_decide_queries own kind state c texts others args same = members_same own kind state c texts others same (as_object args)
