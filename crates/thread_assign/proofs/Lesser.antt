-- The least numbered email, link by link.
use Rattle.std.proofs.Common.{◌≡◌, ℕ, ◌+◌, ◌<◌, Bool, true, false, ◌||◌, ◌&&◌, cond, nat_lt, List, [], ◌∷◌, take, length, get_or, find, Option, Some, None, option_map, refl, sym, ap, ◌∙◌, arith}
use Rattle.std.specs.List.{AllByRecursion}
use Rattle.std.proofs.lemmas.List.Folds.{list_any_more}
use Rattle.mail_records.specs.Tables.{IsTable}
use Rattle.mail_records.specs.Contents.{email_number}
use Rattle.mail_records.specs.declared.records.Email.{Email}
use Rattle.mail_records.specs.declared.records.Summary.{Summary}
use Rattle.thread_assign.specs.Threads.{has_link, has_subject, is_related, joined_thread, share_link}
use Rattle.thread_assign.specs.Candidates.{candidate_of, first_candidate, has_any, has_both, lesser}
use Rattle.thread_assign.specs.declared.candidates.Candidate.{Candidate}
use Rattle.thread_assign.proofs.Found.{find_never, find_same, found_above}

-- ---- the lesser of two

or_same : {C : Type 0} (b : Bool) (x : C) → cond b x x ≡ x
or_same true x = refl
or_same false x = refl

below_no : (m n : ℕ) → m < n → nat_lt n m ≡ false
below_no m n less = grind (arith, less)

below_yes : (m n : ℕ) → m < n → nat_lt m n ≡ true
below_yes m n less = grind (arith, less)

-- an email that is below all others is the lesser one
first_is_lesser : (r : Email) (rs : List Email) (q : Email → Bool) → AllByRecursion (λ x. r.number < x.number) rs
    → lesser (Some (candidate_of r)) (first_candidate q rs) ≡ Some (candidate_of r)
first_is_lesser r rs q all = step (find q rs) refl
  where
    step : (o : Option Email) → find q rs ≡ o → lesser (Some (candidate_of r)) (option_map candidate_of (find q rs)) ≡ Some (candidate_of r)
    step None e = ap (λ o. lesser (Some (candidate_of r)) (option_map candidate_of o)) e
    step (Some y) e =
        ap (λ o. lesser (Some (candidate_of r)) (option_map candidate_of o)) e
        ∙ ap (λ b. cond b (Some (candidate_of y)) (Some (candidate_of r))) (below_no r.number y.number (found_above email_number q r.number rs y all e))

second_is_lesser : (r : Email) (rs : List Email) (p : Email → Bool) → AllByRecursion (λ x. r.number < x.number) rs
    → lesser (first_candidate p rs) (Some (candidate_of r)) ≡ Some (candidate_of r)
second_is_lesser r rs p all = step (find p rs) refl
  where
    step : (o : Option Email) → find p rs ≡ o → lesser (option_map candidate_of (find p rs)) (Some (candidate_of r)) ≡ Some (candidate_of r)
    step None e = ap (λ o. lesser (option_map candidate_of o) (Some (candidate_of r))) e
    step (Some y) e =
        ap (λ o. lesser (option_map candidate_of o) (Some (candidate_of r))) e
        ∙ ap (λ b. cond b (Some (candidate_of r)) (Some (candidate_of y))) (below_yes r.number y.number (found_above email_number p r.number rs y all e))

-- the first that passes one of two tests is the lesser of the first of each
first_either : (p q : Email → Bool) (rows : List Email) → IsTable email_number rows
    → lesser (first_candidate p rows) (first_candidate q rows) ≡ first_candidate (λ e. p e || q e) rows
first_either p q [] table = refl
first_either p q (r ∷ rs) table = step (p r) (q r) (first_either p q rs table.1)
  where
    head : Bool → Option Email → Option Candidate
    head b o = option_map candidate_of (cond b (Some r) o)

    step : (a b : Bool) → lesser (first_candidate p rs) (first_candidate q rs) ≡ first_candidate (λ e. p e || q e) rs
        → lesser (option_map candidate_of (cond a (Some r) (find p rs))) (option_map candidate_of (cond b (Some r) (find q rs)))
        ≡ option_map candidate_of (cond (a || b) (Some r) (find (λ e. p e || q e) rs))
    step true true rec = or_same (nat_lt r.number r.number) (Some (candidate_of r))
    step true false rec = first_is_lesser r rs q table.0
    step false true rec = second_is_lesser r rs p table.0
    step false false rec = rec

-- ---- one link after the other

or_and : (a b c : Bool) → ((a || b) && c) ≡ ((a && c) || (b && c))
or_and true true true = refl
or_and true true false = refl
or_and true false true = refl
or_and true false false = refl
or_and false b c = refl

pub no_link : (subject : List ℕ) (rows : List Email) → None ≡ first_candidate (has_any [] subject) rows
no_link subject rows = sym (ap (option_map candidate_of) (find_never (has_any [] subject) (λ e. refl) rows))

pub one_link_more : (links : List (List ℕ)) (subject : List ℕ) (rows : List Email) (i : ℕ) (link : List ℕ) → IsTable email_number rows → i < length links
    → link ≡ get_or links i link
    → lesser (first_candidate (has_any (take i links) subject) rows) (first_candidate (has_both link subject) rows)
    ≡ first_candidate (has_any (take (i + 1) links) subject) rows
one_link_more links subject rows i link table lt is =
    first_either (has_any (take i links) subject) (has_both link subject) rows table
    ∙ ap (option_map candidate_of) (find_same
    (λ e. has_any (take i links) subject e || has_both link subject e)
    (has_any (take (i + 1) links) subject)
    (λ e.
    sym (or_and (share_link (take i links) e.summary.links) (has_link e.summary.links link) (has_subject subject e))
    ∙ ap (λ b. b && has_subject subject e)
    (ap (λ l. share_link (take i links) e.summary.links || has_link e.summary.links l) is
    ∙ sym (list_any_more (λ l. has_link e.summary.links l) links i link lt))) rows)

-- ---- the thread

thread_only : (o : Option Email) → option_map (λ c. c.thread) (option_map candidate_of o) ≡ option_map (λ e. e.thread) o
thread_only None = refl
thread_only (Some e) = refl

thread_of_candidate : Candidate → ℕ
thread_of_candidate c = c.thread

-- the thread of the candidate after all links
pub thread_at_end : (s : Summary) (rows : List Email) (links : List (List ℕ)) (o : Option Candidate) → links ≡ s.links
    → o ≡ first_candidate (has_any links s.subject) rows → option_map (λ c. c.thread) o ≡ joined_thread rows s
thread_at_end s rows links o same is =
    ap (option_map (λ c. c.thread)) (is ∙ ap (λ ls. first_candidate (has_any ls s.subject) rows) same) ∙ thread_only (find (is_related s) rows)
