-- The first email by the entries of a link is the first of all emails that has the link.
use Rattle.std.proofs.Common.{◌≡◌, ℕ, ◌≤◌, Bool, true, false, ◌&&◌, cond, eqb, List, [], ◌∷◌, map, find, Option, Some, None, option_map, option_and_then, refl, sym, ap, ap₂, ◌∙◌, subst, arith, ⊎_elim, inl, inr, ◌⊎◌, eqb-true, eq-eqb}
use Rattle.std.specs.Prelude.{⊤}
use Rattle.std.specs.List.{AllByRecursion, list_any}
use Rattle.std.specs.List.Sorted.{IsStrictlySortedBy}
use Rattle.std.specs.declared.cmp.Ordering.TheVariants.{Less}
use Rattle.std.specs.Ordering.{is_eq}
use Rattle.std.specs.Option.{option_or}
use Rattle.std.specs.Cmp.{tied_itself}
use Rattle.std.proofs.lemmas.Bool.{cases_Bool, true≢false, or_cases}
use Rattle.mail_records.specs.Tables.{IsTable, lookup}
use Rattle.mail_records.specs.Contents.{Content, email_number}
use Rattle.mail_records.specs.Orders.{AreKeys, AreWithLink, Key, has_in, has_key, has_text, is_in_group, is_key_of, key_cmp, key_of, keys_of, link_keys, linked_key, linked_owner}
use Rattle.mail_records.specs.declared.records.Email.{Email}
use Rattle.mail_records.specs.declared.entries.Linked.{Linked}
use Rattle.mail_records.proofs.KeyOrder.{key_total}
use Rattle.mail_records.proofs.KeyTables.{lookup_number}
use Rattle.mail_records.proofs.Unique.{key_equal}
use Rattle.thread_assign.specs.Threads.{has_link, has_subject}
use Rattle.thread_assign.specs.Candidates.{candidate_of, first_candidate, first_entry, has_both, if_has_subject}
use Rattle.thread_assign.specs.declared.candidates.Candidate.{Candidate}
use Rattle.thread_assign.proofs.Found.{find_least, find_none, none_some, some_same}
use Rattle.thread_assign.proofs.Entries.{and_left, and_right, at_link, entry_group, entry_number, entry_time, has_link_key, key_link, or_left, or_right, rises_number, same_text, text_equal}

-- the email of a number, which has the link
record IsLinked (rows : List Email) (link : List ℕ) (n : ℕ) : Type 0 where
  email : Email
  there : lookup email_number n rows ≡ Some email
  has : has_link email.summary.links link ≡ true

-- the keys of the entries of a link
abbrev OfLink : List Email → List ℕ → List Linked → Type 0
OfLink rows link ls = AreKeys (λ k. is_in_group None k && has_text link k) email_number link_keys rows (keys_of email_number linked_owner linked_key rows ls)

abbrev entry_key : List Email → Linked → Key
entry_key rows l = key_of email_number linked_owner linked_key rows l

-- an entry has the number
abbrev has_number : ℕ → List Linked → Bool
has_number n ls = list_any (λ l. eqb l.email n) ls

-- the numbers of entries don't fall
abbrev Rises : List Linked → Type 0
Rises [] = ⊤
Rises (l ∷ ls) = AllByRecursion (λ y. l.email ≤ y.email) ls × Rises ls

linked_in : (rows : List Email) (link : List ℕ) (k : Key) (o : Option Email) → has_text link k ≡ true → lookup email_number k.number rows ≡ o → has_in link_keys k o ≡ true → IsLinked rows link k.number
linked_in rows link k None text is h = absurd (true≢false (sym h))
linked_in rows link k (Some e) text is h = record { email = e; there = is; has = key_link link k e.number 0 e.summary.links text h }

-- a key among those of the entries
key_passes : (rows : List Email) (link : List ℕ) (ls : List Linked) → OfLink rows link ls → (k : Key)
    → has_key k (keys_of email_number linked_owner linked_key rows ls) ≡ true → (has_text link k ≡ true) × IsLinked rows link k.number
key_passes rows link ls are k h =
    let both = sym (are.exactly k) ∙ h in
    let text = and_right (is_in_group None k) (has_text link k) (and_left (is_in_group None k && has_text link k) (is_key_of email_number link_keys rows k) both) in (
      text,
      linked_in rows link k (lookup email_number k.number rows) text refl (and_right (is_in_group None k && has_text link k) (is_key_of email_number link_keys rows k) both),
    )

-- what holds of each key holds of each entry's
all_entries : (rows : List Email) (P : Key → Type 0) (ls : List Linked) → ((k : Key) → has_key k (keys_of email_number linked_owner linked_key rows ls) ≡ true → P k)
    → AllByRecursion (λ l. P (entry_key rows l)) ls
all_entries rows P [] holds = tt
all_entries rows P (l ∷ ls) holds =
    let k = entry_key rows l in
    let rest = keys_of email_number linked_owner linked_key rows ls in (
      holds k (or_left (is_eq (key_cmp k k)) (has_key k rest) (ap is_eq (tied_itself key_total k))),
      all_entries rows P ls (λ x h. holds x (or_right (is_eq (key_cmp k x)) (has_key x rest) h)),
    )

map_all : {A : Type 0} (P Q : A → Type 0) → ((x : A) → P x → Q x) → (xs : List A) → AllByRecursion P xs → AllByRecursion Q xs
map_all P Q f [] all = tt
map_all P Q f (x ∷ xs) all = (f x all.0, map_all P Q f xs all.1)

-- each entry's email has the link
all_linked : (rows : List Email) (link : List ℕ) (ls : List Linked) → OfLink rows link ls → AllByRecursion (λ l. IsLinked rows link l.email) ls
all_linked rows link ls are =
    map_all (λ l. IsLinked rows link (entry_key rows l).number) (λ l. IsLinked rows link l.email)
    (λ l p. subst (IsLinked rows link) (entry_number (lookup email_number l.email rows) l) p) ls
    (all_entries rows (λ k. IsLinked rows link k.number) ls (λ k h. (key_passes rows link ls are k h).1))

all_texts : (rows : List Email) (link : List ℕ) (ls : List Linked) → OfLink rows link ls → AllByRecursion (λ l. (entry_key rows l).text ≡ link) ls
all_texts rows link ls are =
    all_entries rows (λ k. k.text ≡ link) ls (λ k h. text_equal k.text link (key_passes rows link ls are k h).0)

-- an entry before another has no greater number
entry_le : (rows : List Email) (l y : Linked) → (entry_key rows l).text ≡ (entry_key rows y).text → key_cmp (entry_key rows l) (entry_key rows y) ≡ Less → l.email ≤ y.email
entry_le rows l y text less =
    let one = lookup email_number l.email rows in
    let two = lookup email_number y.email rows in
    let le : (entry_key rows l).number ≤ (entry_key rows y).number =
    rises_number (entry_key rows l) (entry_key rows y) (entry_group one l ∙ sym (entry_group two y)) text (entry_time one l ∙ sym (entry_time two y)) less in
    subst (λ m. m ≤ y.email) (entry_number one l) (subst (λ n. (entry_key rows l).number ≤ n) (entry_number two y) le)

all_le : (rows : List Email) (link : List ℕ) (l : Linked) (ls : List Linked) → (entry_key rows l).text ≡ link → AllByRecursion (λ y. (entry_key rows y).text ≡ link) ls
    → AllByRecursion (λ k. key_cmp (entry_key rows l) k ≡ Less) (map (entry_key rows) ls) → AllByRecursion (λ y. l.email ≤ y.email) ls
all_le rows link l [] text texts all = tt
all_le rows link l (y ∷ ys) text texts all = (entry_le rows l y (text ∙ sym texts.0) all.0, all_le rows link l ys text texts.1 all.1)

entries_rise : (rows : List Email) (link : List ℕ) (ls : List Linked) → AllByRecursion (λ y. (entry_key rows y).text ≡ link) ls
    → IsStrictlySortedBy key_cmp (map (entry_key rows) ls) → Rises ls
unfolding IsStrictlySortedBy
entries_rise rows link [] texts rise = tt
entries_rise rows link (l ∷ ls) texts rise = (all_le rows link l ls texts.0 texts.1 rise.0, entries_rise rows link ls texts.1 rise.1)

key_among : (rows : List Email) (k : Key) (ls : List Linked) → has_key k (map (entry_key rows) ls) ≡ true → has_number k.number ls ≡ true
key_among rows k [] h = absurd (true≢false (sym h))
key_among rows k (l ∷ ls) h =
    ⊎_elim
    (λ (t : is_eq (key_cmp (entry_key rows l) k) ≡ true).
    let one : entry_key rows l ≡ k = key_equal (entry_key rows l) k t in
    or_left (eqb l.email k.number) (has_number k.number ls)
    (eq-eqb l.email k.number (sym (entry_number (lookup email_number l.email rows) l) ∙ ap (λ x. x.number) one)))
    (λ (t : has_key k (map (entry_key rows) ls) ≡ true). or_right (eqb l.email k.number) (has_number k.number ls) (key_among rows k ls t))
    (or_cases (is_eq (key_cmp (entry_key rows l) k)) (has_key k (map (entry_key rows) ls)) h)

-- an email with the link has an entry
entries_cover : (rows : List Email) (link : List ℕ) (ls : List Linked) → OfLink rows link ls → (e : Email) → lookup email_number e.number rows ≡ Some e
    → has_link e.summary.links link ≡ true → has_number e.number ls ≡ true
entries_cover rows link ls are e there has =
    let place = has_link_key link e.number 0 e.summary.links has in
    let k = at_link link e.number place.0 in
    let of : is_key_of email_number link_keys rows k ≡ true = ap (has_in link_keys k) there ∙ place.1 in
    let test : (is_in_group None k && has_text link k) ≡ true = same_text link in
    key_among rows k ls (are.exactly k ∙ ap₂ (λ a b. a && b) test of)

-- ---- the first email by entries

-- the email of a number, if it has the subject
abbrev found_at : List ℕ → List Email → ℕ → Option Candidate
found_at subject rows n = option_and_then (if_has_subject subject) (lookup email_number n rows)

-- what the first email by entries is, if there is one
record IsFirst (link subject : List ℕ) (rows : List Email) (ls : List Linked) (c : Candidate) : Type 0 where
  email : Email
  there : lookup email_number email.number rows ≡ Some email
  both : has_both link subject email ≡ true
  is : candidate_of email ≡ c
  least : (n : ℕ) → has_number n ls ≡ true → (found_at subject rows n ≡ None) ⊎ (email.number ≤ n)

none_first : (subject : List ℕ) (rows : List Email) (ls : List Linked) → first_entry subject rows ls ≡ None → (n : ℕ) → has_number n ls ≡ true → found_at subject rows n ≡ None
none_first subject rows [] e n h = absurd (true≢false (sym h))
none_first subject rows (l ∷ ls) e n h = step (found_at subject rows l.email) refl e (λ rest among. none_first subject rows ls rest n among)
  where
    step : (o : Option Candidate) → found_at subject rows l.email ≡ o → option_or o (first_entry subject rows ls) ≡ None
        → (first_entry subject rows ls ≡ None → has_number n ls ≡ true → found_at subject rows n ≡ None) → found_at subject rows n ≡ None
    step (Some c) is e rec = none_some c (sym e)
    step None is e rec =
        ⊎_elim
        (λ (t : eqb l.email n ≡ true). subst (λ m. found_at subject rows m ≡ None) (eqb-true l.email n t) is)
        (λ (t : has_number n ls ≡ true). rec e t)
        (or_cases (eqb l.email n) (has_number n ls) h)

subject_of : (subject : List ℕ) (e : Email) (c : Candidate) → if_has_subject subject e ≡ Some c → (has_subject subject e ≡ true) × (candidate_of e ≡ c)
subject_of subject e c h =
    ⊎_elim
    (λ (t : has_subject subject e ≡ true). (t, some_same (candidate_of e) c (subst (λ b. cond b (Some (candidate_of e)) None ≡ Some c) t h)))
    (λ (t : has_subject subject e ≡ false). none_some c (subst (λ b. cond b (Some (candidate_of e)) None ≡ Some c) t h))
    (cases_Bool (has_subject subject e))

at_least : (m : ℕ) (ls : List Linked) → AllByRecursion (λ y. m ≤ y.email) ls → (n : ℕ) → has_number n ls ≡ true → m ≤ n
at_least m [] all n h = absurd (true≢false (sym h))
at_least m (l ∷ ls) all n h =
    ⊎_elim
    (λ (t : eqb l.email n ≡ true). subst (λ x. m ≤ x) (eqb-true l.email n t) all.0)
    (λ (t : has_number n ls ≡ true). at_least m ls all.1 n t)
    (or_cases (eqb l.email n) (has_number n ls) h)

some_first : (link subject : List ℕ) (rows : List Email) (ls : List Linked) → AllByRecursion (λ l. IsLinked rows link l.email) ls → Rises ls
    → (c : Candidate) → first_entry subject rows ls ≡ Some c → IsFirst link subject rows ls c
some_first link subject rows [] all rise c e = none_some c e
some_first link subject rows (l ∷ ls) all rise c e = step (found_at subject rows l.email) refl e (some_first link subject rows ls all.1 rise.1 c)
  where
    step : (o : Option Candidate) → found_at subject rows l.email ≡ o → option_or o (first_entry subject rows ls) ≡ Some c
        → (first_entry subject rows ls ≡ Some c → IsFirst link subject rows ls c) → IsFirst link subject rows (l ∷ ls) c
    step (Some d) is e rec =
        let email = all.0.email in
        let same : d ≡ c = some_same d c e in
        let named : email.number ≡ l.email = lookup_number email_number l.email rows email all.0.there in
        let of = subject_of subject email d (sym (ap (option_and_then (if_has_subject subject)) all.0.there) ∙ is) in record {
          email = email;
          there = ap (λ n. lookup email_number n rows) named ∙ all.0.there;
          both = ap₂ (λ a b. a && b) all.0.has of.0;
          is = of.1 ∙ same;
          least = λ n h.
              inr (subst (λ m. m ≤ n) (sym named)
              (⊎_elim
              (λ (t : eqb l.email n ≡ true). let same : l.email ≡ n = eqb-true l.email n t in omega (arith, same))
              (λ (t : has_number n ls ≡ true). at_least l.email ls rise.0 n t)
              (or_cases (eqb l.email n) (has_number n ls) h)));
        }
    step None is e rec =
        let rest = rec e in record {
          email = rest.email;
          there = rest.there;
          both = rest.both;
          is = rest.is;
          least = λ n h.
              ⊎_elim
              (λ (t : eqb l.email n ≡ true). inl (subst (λ m. found_at subject rows m ≡ None) (eqb-true l.email n t) is))
              (λ (t : has_number n ls ≡ true). rest.least n t)
              (or_cases (eqb l.email n) (has_number n ls) h);
        }

-- an email of the table with the subject is found
found_related : (link subject : List ℕ) (rows : List Email) (e : Email) → lookup email_number e.number rows ≡ Some e → has_both link subject e ≡ true
    → found_at subject rows e.number ≡ Some (candidate_of e)
found_related link subject rows e there both =
    ap (option_and_then (if_has_subject subject)) there
    ∙ ap (λ b. cond b (Some (candidate_of e)) None) (and_right (has_link e.summary.links link) (has_subject subject e) both)

-- the first email by the entries of a link is the first of all that has the link and the subject
pub first_with_link : (c : Content) (link subject : List ℕ) (ls : List Linked) → IsTable email_number c.emails → AreWithLink c link ls
    → first_entry subject c.emails ls ≡ first_candidate (has_both link subject) c.emails
first_with_link content link subject ls table are = step (first_entry subject rows ls) refl
  where
    rows : List Email
    rows = content.emails

    test : Email → Bool
    test = has_both link subject

    step : (o : Option Candidate) → first_entry subject rows ls ≡ o → first_entry subject rows ls ≡ first_candidate test rows
    step None e =
        e ∙ sym (ap (option_map candidate_of)
        (find_none email_number test rows table
        (λ y there. ⊎_elim
        (λ (t : test y ≡ true).
        none_some (candidate_of y)
        (sym (none_first subject rows ls e y.number (entries_cover rows link ls are y there (and_left (has_link y.summary.links link) (has_subject subject y) t)))
        ∙ found_related link subject rows y there t))
        (λ (t : test y ≡ false). t)
        (cases_Bool (test y)))))
    step (Some c) e =
        let first = some_first link subject rows ls (all_linked rows link ls are) (entries_rise rows link ls (all_texts rows link ls are) are.rise) c e in
        let found : find test rows ≡ Some first.email =
        find_least email_number test rows first.email table first.there first.both
        (λ y there t. ⊎_elim
        (λ (none : found_at subject rows y.number ≡ None). none_some (candidate_of y) (sym none ∙ found_related link subject rows y there t))
        (λ (le : first.email.number ≤ y.number). le)
        (first.least y.number (entries_cover rows link ls are y there (and_left (has_link y.summary.links link) (has_subject subject y) t)))) in
        e ∙ (ap Some (sym first.is) ∙ sym (ap (option_map candidate_of) found))
