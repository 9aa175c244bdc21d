-- The rule in plain words.
use Rattle.std.proofs.Common.{◌≡◌, ℕ, zero, suc, ◌<◌, Bool, true, false, ◌&&◌, cond, eqb, List, [], ◌∷◌, length, get_or, find, Option, Some, None, option_map, refl, sym, ap, ap₂, ◌∙◌, subst, arith, ⊎_elim, bytes_eq}
use Rattle.std.specs.List.{Contains}
use Rattle.std.proofs.lemmas.Bool.{cases_Bool, true≢false}
use Rattle.std.proofs.lemmas.List.Folds.{Any-from_list_any, list_any_at}
use Rattle.std.proofs.lemmas.Slice.Eq.{bytes_eq-Decides}
use Rattle.mail_records.specs.Tables.{IsTable, lookup}
use Rattle.mail_records.specs.Contents.{email_number}
use Rattle.mail_records.specs.declared.records.Email.{Email}
use Rattle.mail_records.specs.declared.records.Summary.{Summary}
use Rattle.thread_assign.specs.Threads.{has_link, has_subject, is_related, joined_thread, share_link}
use Rattle.thread_assign.specs.Related.{AreRelated, Decides, HaveSameLinks}
use Rattle.thread_assign.proofs.Found.{at_first, at_itself, at_rest, find_least, find_same, found_least, none_some, past_first, some_same}
use Rattle.thread_assign.proofs.Entries.{and_left, and_right}

-- ---- links

link_among : (links : List (List ℕ)) (link : List ℕ) → has_link links link ≡ true → Contains links link
link_among links link h =
    let any = Any-from_list_any (λ other. bytes_eq other link) links h in
    let same : any.1 ≡ link = (bytes_eq-Decides any.1 link).0 any.4 in
    (any.0, any.2, subst (λ x. get_or links any.0 x ≡ x) same any.3)

among_link : (links : List (List ℕ)) (link : List ℕ) → Contains links link → has_link links link ≡ true
among_link links link at =
    list_any_at (λ other. bytes_eq other link) links at.0 link at.1 ((bytes_eq-Decides (get_or links at.0 link) link).1 at.2)

plain_related : (s : Summary) (e : Email) → is_related s e ≡ true → AreRelated s e
plain_related s e h =
    let any = Any-from_list_any (λ link. has_link e.summary.links link) s.links (and_left (share_link s.links e.summary.links) (has_subject s.subject e) h) in record {
      link = any.1;
      in_summary = (any.0, any.2, any.3);
      in_email = link_among e.summary.links any.1 any.4;
      subject = (bytes_eq-Decides e.summary.subject s.subject).0 (and_right (share_link s.links e.summary.links) (has_subject s.subject e) h);
    }

related_plain : (s : Summary) (e : Email) → AreRelated s e → is_related s e ≡ true
related_plain s e are =
    ap₂ (λ a b. a && b)
    (list_any_at (λ link. has_link e.summary.links link) s.links are.in_summary.0 are.link are.in_summary.1
    (ap (has_link e.summary.links) are.in_summary.2 ∙ among_link e.summary.links are.link are.in_email))
    ((bytes_eq-Decides e.summary.subject s.subject).1 are.subject)

-- ---- tables

lookup_at : {R : Type 0} (number : R → ℕ) (rows : List R) (x : R) → IsTable number rows → (k : ℕ) → k < length rows → get_or rows k x ≡ x → lookup number (number x) rows ≡ Some x
lookup_at number [] x table k lt is = absurd (omega (arith, lt))
lookup_at number (r ∷ rs) x table zero lt is = subst (λ y. lookup number (number y) (r ∷ rs) ≡ Some y) is (at_itself number r rs)
lookup_at number (r ∷ rs) x table (suc k) lt is = past_first number r x rs table.0 (lookup_at number rs x table.1 k (omega (arith, lt)) is)

among_at : {R : Type 0} (number : R → ℕ) (n : ℕ) (rows : List R) (x : R) → lookup number n rows ≡ Some x → Contains rows x
among_at number n [] x e = none_some x e
among_at number n (r ∷ rs) x e =
    ⊎_elim
    (λ (t : eqb (number r) n ≡ true). (0, omega arith, at_first number n r x rs t e))
    (λ (t : eqb (number r) n ≡ false).
    let rest = among_at number n rs x (at_rest number n r x rs t e) in
    let lt : rest.0 < length rs = rest.1 in
    (suc rest.0, omega (arith, lt), rest.2))
    (cases_Bool (eqb (number r) n))

first_fails : {R : Type 0} (p : R → Bool) (r : R) (rs : List R) → find p (r ∷ rs) ≡ None → p r ≡ false
first_fails p r rs e =
    ⊎_elim
    (λ (t : p r ≡ true). none_some r (sym (subst (λ b. cond b (Some r) (find p rs) ≡ None) t e)))
    (λ (t : p r ≡ false). t)
    (cases_Bool (p r))

-- where none is found no record passes
none_passes : {R : Type 0} (p : R → Bool) (rows : List R) (x : R) → find p rows ≡ None → (k : ℕ) → k < length rows → get_or rows k x ≡ x → p x ≡ false
none_passes p [] x e k lt is = absurd (omega (arith, lt))
none_passes p (r ∷ rs) x e zero lt is = subst (λ y. p y ≡ false) is (first_fails p r rs e)
none_passes p (r ∷ rs) x e (suc k) lt is =
    none_passes p rs x (subst (λ b. cond b (Some r) (find p rs) ≡ None) (first_fails p r rs e) e) k (omega (arith, lt)) is

-- ---- the laws

pub decided : (emails : List Email) (s : Summary) (t : ℕ) → IsTable email_number emails → joined_thread emails s ≡ Some t → (e : Email) × Decides emails s e × (e.thread ≡ t)
decided emails s t table = step (find (is_related s) emails) refl
  where
    step : (o : Option Email) → find (is_related s) emails ≡ o → option_map (λ e. e.thread) (find (is_related s) emails) ≡ Some t → (e : Email) × Decides emails s e × (e.thread ≡ t)
    step None is h = none_some t (sym (ap (option_map (λ e. e.thread)) is) ∙ h)
    step (Some x) is h =
        let least = found_least email_number (is_related s) emails x table is in (
          x,
          record {
            among = among_at email_number x.number emails x least.there;
            related = plain_related s x least.passes;
            least = λ other among related. least.least other (lookup_at email_number emails other table among.0 among.1 among.2) (related_plain s other related);
          },
          some_same x.thread t (sym (ap (option_map (λ e. e.thread)) is) ∙ h),
        )

pub joined : (emails : List Email) (s : Summary) (e : Email) → IsTable email_number emails → Decides emails s e → joined_thread emails s ≡ Some e.thread
joined emails s e table by =
    ap (option_map (λ e. e.thread))
    (find_least email_number (is_related s) emails e table (lookup_at email_number emails e table by.among.0 by.among.1 by.among.2) (related_plain s e by.related)
    (λ other there passes. by.least other (among_at email_number other.number emails other there) (plain_related s other passes)))

no_thread : (o : Option Email) → option_map (λ e. e.thread) o ≡ None → o ≡ None
no_thread None e = refl
no_thread (Some x) e = none_some x.thread (sym e)

pub alone : (emails : List Email) (s : Summary) → joined_thread emails s ≡ None → (e : Email) → Contains emails e → AreRelated s e → ⊥
alone emails s none e among related =
    true≢false
    (sym (related_plain s e related) ∙ none_passes (is_related s) emails e (no_thread (find (is_related s) emails) none) among.0 among.1 among.2)

pub begins : (emails : List Email) (s : Summary) → IsTable email_number emails → ((e : Email) → Contains emails e → AreRelated s e → ⊥) → joined_thread emails s ≡ None
begins emails s table no_one = step (find (is_related s) emails) refl
  where
    step : (o : Option Email) → find (is_related s) emails ≡ o → joined_thread emails s ≡ None
    step None is = ap (option_map (λ e. e.thread)) is
    step (Some x) is =
        let least = found_least email_number (is_related s) emails x table is in
        absurd (no_one x (among_at email_number x.number emails x least.there) (plain_related s x least.passes))

same_answer : (a b : Bool) → (a ≡ true → b ≡ true) → (b ≡ true → a ≡ true) → a ≡ b
same_answer true b to from = sym (to refl)
same_answer false true to from = from refl
same_answer false false to from = refl

pub order : (emails : List Email) (one other : Summary) → HaveSameLinks one other → joined_thread emails one ≡ joined_thread emails other
order emails one other have =
    ap (option_map (λ e. e.thread))
    (find_same (is_related one) (is_related other)
    (λ e. same_answer (is_related one e) (is_related other e)
    (λ h.
    let are = plain_related one e h in
    related_plain other e (record { link = are.link; in_summary = have.to are.link are.in_summary; in_email = are.in_email; subject = are.subject ∙ have.subject }))
    (λ h.
    let are = plain_related other e h in
    related_plain one e (record { link = are.link; in_summary = have.from are.link are.in_summary; in_email = are.in_email; subject = are.subject ∙ sym have.subject })))
    emails)
