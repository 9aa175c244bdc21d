-- What destroys leave of emails, by the numbers of the destroyed mailboxes.
use Rattle.std.proofs.Common.{◌≡◌, ℕ, ◌<◌, Bool, true, false, ◌||◌, cond, eqb, List, [], ◌∷◌, ◌++◌, filter, map, not, Some, refl, sym, ap, ap₂, ◌∙◌, ⊎_elim, append-nil}
use Rattle.std.specs.Cmp.{nat_eq_equiv}
use Rattle.std.specs.List.{AllByRecursion, flat_map, list_any}
use Rattle.std.proofs.lemmas.Bool.{cases_Bool, eqb-true, true≢false}
use Rattle.std.proofs.lemmas.List.Concat.{flat_map-append}
use Rattle.std.proofs.lemmas.Map.Views.{any-filter_same}
use Rattle.mail_records.specs.Contents.{email_number}
use Rattle.mail_records.specs.Tables.{IsTable, lookup}
use Rattle.mail_records.specs.declared.edits.Edit.{Edit}
use Rattle.mail_records.specs.declared.records.Email.{Email}
use Rattle.mail_records.proofs.Tables.{All-kept}
use Rattle.mail_counts.specs.Counts.{is_in}
use Rattle.mail_counts.specs.Touched.{is_one_of}
use Rattle.mail_counts.proofs.Groups.{filter_append}
use Rattle.mail_counts.proofs.Partition.{all_found}
use Rattle.mailbox_updates.specs.EmailsLeft.{emails_left, left_of, left_with, left_without, mailboxes_but, mailboxes_left}
use Rattle.mailbox_set.specs.Destroys.{removal, removal_at, removal_of}
use Rattle.set_parts.proofs.Parts.{all_append}
use Rattle.mailbox_updates.proofs.Present.{one_pushed}

-- ---- numbers

or_first : (a b : Bool) → (a || b) ≡ false → a ≡ false
or_first true b h = h
or_first false b h = refl

or_second : (a b : Bool) → (a || b) ≡ false → b ≡ false
or_second true b h = absurd (true≢false h)
or_second false b h = h

-- where none of the mailboxes is destroyed all are left
all_stay : (gone ms : List ℕ) → list_any (is_one_of gone) ms ≡ false → mailboxes_left gone ms ≡ ms
all_stay gone [] none = refl
all_stay gone (m ∷ ms) none =
    let out = or_first (is_one_of gone m) (list_any (is_one_of gone) ms) none in
    rw out (ap (λ (zs : List ℕ). m ∷ zs) (all_stay gone ms (or_second (is_one_of gone m) (list_any (is_one_of gone) ms) none)))

all_but : (n : ℕ) (ms : List ℕ) → list_any (λ m. eqb m n) ms ≡ false → mailboxes_but n ms ≡ ms
all_but n [] none = refl
all_but n (m ∷ ms) none =
    let out = or_first (eqb m n) (list_any (λ m. eqb m n) ms) none in
    rw out (ap (λ (zs : List ℕ). m ∷ zs) (all_but n ms (or_second (eqb m n) (list_any (λ m. eqb m n) ms) none)))

-- one destroyed mailbox more
left_more : (gone : List ℕ) (n : ℕ) (ms : List ℕ) → mailboxes_left (gone ++ n ∷ []) ms ≡ mailboxes_but n (mailboxes_left gone ms)
left_more gone n [] = refl
left_more gone n (m ∷ ms) =
    ⊎_elim
    (λ (out : is_one_of gone m ≡ true).
    let both : is_one_of (gone ++ n ∷ []) m ≡ true = one_pushed gone n m ∙ ap (λ b. b || eqb n m) out in
    rw (out, both) (left_more gone n ms))
    (λ (stays : is_one_of gone m ≡ false).
    let only : is_one_of (gone ++ n ∷ []) m ≡ eqb m n = one_pushed gone n m ∙ (ap (λ b. b || eqb n m) stays ∙ nat_eq_equiv.symm n m) in
    rw (stays, only)
    (⊎_elim
    (λ (same : eqb m n ≡ true). rw same (left_more gone n ms))
    (λ (other : eqb m n ≡ false). rw other (ap (λ (zs : List ℕ). m ∷ zs) (left_more gone n ms)))
    (cases_Bool (eqb m n))))
    (cases_Bool (is_one_of gone m))

any_more : (gone : List ℕ) (n : ℕ) (ms : List ℕ) → list_any (is_one_of (gone ++ n ∷ [])) ms ≡ (list_any (is_one_of gone) ms || list_any (λ m. eqb m n) ms)
any_more gone n [] = refl
any_more gone n (m ∷ ms) =
    ap₂ (λ (a b : Bool). a || b) (one_pushed gone n m ∙ ap (λ b. is_one_of gone m || b) (nat_eq_equiv.symm n m)) (any_more gone n ms)
    ∙ or_parts (is_one_of gone m) (eqb m n) (list_any (is_one_of gone) ms) (list_any (λ m. eqb m n) ms)
  where
    or_parts : (a b c d : Bool) → ((a || b) || (c || d)) ≡ ((a || c) || (b || d))
    or_parts true b c d = refl
    or_parts false true true d = refl
    or_parts false true false d = refl
    or_parts false false c d = refl

-- ---- one email

with_again : (e : Email) (m : ℕ) (ms zs : List ℕ) → left_with (record e { mailboxes = m ∷ ms }) zs ≡ left_with e zs
with_again e m ms [] = refl
with_again e m ms (z ∷ zs) = refl

-- an email with some mailboxes loses one more
some_left : (n : ℕ) (e : Email) (ms : List ℕ) → flat_map (left_without n) (left_with e ms) ≡ left_with e (mailboxes_but n ms)
some_left n e [] = refl
some_left n e (m ∷ ms) =
    append-nil (left_without n (record e { mailboxes = m ∷ ms }))
    ∙ ⊎_elim
    (λ (there : list_any (λ x. eqb x n) (m ∷ ms) ≡ true).
    ap (λ b. cond b (left_with (record e { mailboxes = m ∷ ms }) (mailboxes_but n (m ∷ ms))) (record e { mailboxes = m ∷ ms } ∷ [])) there
    ∙ with_again e m ms (mailboxes_but n (m ∷ ms)))
    (λ (other : list_any (λ x. eqb x n) (m ∷ ms) ≡ false).
    ap (λ b. cond b (left_with (record e { mailboxes = m ∷ ms }) (mailboxes_but n (m ∷ ms))) (record e { mailboxes = m ∷ ms } ∷ [])) other
    ∙ ap (left_with e) (sym (all_but n (m ∷ ms) other)))
    (cases_Bool (list_any (λ x. eqb x n) (m ∷ ms)))

one_more : (gone : List ℕ) (n : ℕ) (e : Email) → left_of (gone ++ n ∷ []) e ≡ flat_map (left_without n) (left_of gone e)
one_more gone n e =
    ap (λ b. cond b (left_with e (mailboxes_left (gone ++ n ∷ []) e.mailboxes)) (e ∷ [])) (any_more gone n e.mailboxes)
    ∙ ⊎_elim
    (λ (some : list_any (is_one_of gone) e.mailboxes ≡ true).
    rw some (ap (left_with e) (left_more gone n e.mailboxes) ∙ sym (some_left n e (mailboxes_left gone e.mailboxes))))
    (λ (none : list_any (is_one_of gone) e.mailboxes ≡ false).
    rw none
    (ap (λ (ms : List ℕ). cond (is_in n e) (left_with e ms) (e ∷ [])) (left_more gone n e.mailboxes ∙ ap (mailboxes_but n) (all_stay gone e.mailboxes none))
    ∙ sym (append-nil (left_without n e))))
    (cases_Bool (list_any (is_one_of gone) e.mailboxes))

-- ---- all emails

pub emails_more : (gone : List ℕ) (n : ℕ) (es : List Email) → emails_left (gone ++ n ∷ []) es ≡ flat_map (left_without n) (emails_left gone es)
emails_more gone n [] = refl
emails_more gone n (e ∷ es) =
    ap₂ (λ (xs ys : List Email). xs ++ ys) (one_more gone n e) (emails_more gone n es)
    ∙ sym (flat_map-append (left_without n) (left_of gone e) (emails_left gone es))

-- ---- the emails in a mailbox that is not destroyed

-- it is in the mailbox as it was
in_still : (gone : List ℕ) (n : ℕ) → is_one_of gone n ≡ false → (ms : List ℕ) → list_any (λ m. eqb m n) (mailboxes_left gone ms) ≡ list_any (λ m. eqb m n) ms
in_still gone n stays ms =
    any-filter_same (λ m. eqb m n) (λ m. not (is_one_of gone m)) true
    (λ (k : ℕ) (same : eqb k n ≡ true). ap (λ (x : ℕ). not (is_one_of gone x)) (eqb-true k n same) ∙ ap not stays)
    ms

removed_with : (n : ℕ) (e : Email) (ms : List ℕ) → map (removal n) (filter (is_in n) (left_with e ms)) ≡ cond (list_any (λ m. eqb m n) ms) (removal_of e (mailboxes_but n ms) ∷ []) []
removed_with n e [] = refl
removed_with n e (m ∷ ms) =
    ⊎_elim
    (λ (there : list_any (λ x. eqb x n) (m ∷ ms) ≡ true). rw there (ap (λ (x : Edit). x ∷ []) (again (mailboxes_but n (m ∷ ms)))))
    (λ (other : list_any (λ x. eqb x n) (m ∷ ms) ≡ false). rw other refl)
    (cases_Bool (list_any (λ x. eqb x n) (m ∷ ms)))
  where
    again : (zs : List ℕ) → removal_of (record e { mailboxes = m ∷ ms }) zs ≡ removal_of e zs
    again [] = refl
    again (z ∷ zs) = refl

one_removed : (gone : List ℕ) (n : ℕ) (e : Email) → is_one_of gone n ≡ false → map (removal n) (filter (is_in n) (left_of gone e)) ≡ cond (is_in n e) (removal_at gone n (Some e)) []
one_removed gone n e stays =
    ⊎_elim
    (λ (some : list_any (is_one_of gone) e.mailboxes ≡ true).
    rw some
    (removed_with n e (mailboxes_left gone e.mailboxes)
    ∙ ap (λ b. cond b (removal_at gone n (Some e)) []) (in_still gone n stays e.mailboxes)))
    (λ (none : list_any (is_one_of gone) e.mailboxes ≡ false).
    rw none
    (⊎_elim
    (λ (there : is_in n e ≡ true). rw there (ap (λ (ms : List ℕ). removal_of e (mailboxes_but n ms) ∷ []) (sym (all_stay gone e.mailboxes none))))
    (λ (other : is_in n e ≡ false). rw other refl)
    (cases_Bool (is_in n e))))
    (cases_Bool (list_any (is_one_of gone) e.mailboxes))

map_append : (f : Email → Edit) (xs ys : List Email) → map f (xs ++ ys) ≡ map f xs ++ map f ys
map_append f [] ys = refl
map_append f (x ∷ xs) ys = ap (λ (zs : List Edit). f x ∷ zs) (map_append f xs ys)

abbrev removed_here : List ℕ → ℕ → Email → List Edit
removed_here gone n e = removal_at gone n (Some e)

-- the removals of the emails that are left are those of the emails that were there
removed_all : (gone : List ℕ) (n : ℕ) → is_one_of gone n ≡ false → (es : List Email) → map (removal n) (filter (is_in n) (emails_left gone es)) ≡ flat_map (removed_here gone n) (filter (is_in n) es)
removed_all gone n stays [] = refl
removed_all gone n stays (e ∷ es) =
    ap (map (removal n)) (filter_append (is_in n) (left_of gone e) (emails_left gone es))
    ∙ (map_append (removal n) (filter (is_in n) (left_of gone e)) (filter (is_in n) (emails_left gone es))
    ∙ (ap₂ (λ (xs ys : List Edit). xs ++ ys) (one_removed gone n e stays) (removed_all gone n stays es)
    ∙ ⊎_elim
    (λ (there : is_in n e ≡ true). rw there refl)
    (λ (other : is_in n e ≡ false). rw other refl)
    (cases_Bool (is_in n e))))

-- ---- by their numbers

abbrev IsAt : List Email → Email → Type 0
IsAt es e = lookup email_number e.number es ≡ Some e

by_number : (gone : List ℕ) (n : ℕ) (es xs : List Email) → AllByRecursion (IsAt es) xs
    → flat_map (λ k. removal_at gone n (lookup email_number k es)) (map email_number xs) ≡ flat_map (removed_here gone n) xs
by_number gone n es [] all = refl
by_number gone n es (x ∷ xs) all =
    ap₂ (λ (ys zs : List Edit). ys ++ zs) (ap (removal_at gone n) all.0) (by_number gone n es xs all.1)

each_at : (es : List Email) → IsTable email_number es → AllByRecursion (IsAt es) es
each_at es table = all_found email_number (IsAt es) es table (λ (e : Email) at. at)

-- The edits of a destroy, from the numbers of the emails that were in the mailbox.
pub removals_found : (gone : List ℕ) (n : ℕ) (es : List Email) → IsTable email_number es → is_one_of gone n ≡ false
    → flat_map (λ k. removal_at gone n (lookup email_number k es)) (map email_number (filter (is_in n) es)) ≡ map (removal n) (filter (is_in n) (emails_left gone es))
removals_found gone n es table stays =
    by_number gone n es (filter (is_in n) es) (All-kept (IsAt es) (is_in n) es (each_at es table))
    ∙ sym (removed_all gone n stays es)

-- ---- whether some email is in the mailbox

any_join : (test : Email → Bool) (xs ys : List Email) → list_any test (xs ++ ys) ≡ (list_any test xs || list_any test ys)
any_join test [] ys = refl
any_join test (x ∷ xs) ys = ap (λ b. test x || b) (any_join test xs ys) ∙ or_assoc (test x) (list_any test xs) (list_any test ys)
  where
    or_assoc : (a b c : Bool) → (a || (b || c)) ≡ ((a || b) || c)
    or_assoc true b c = refl
    or_assoc false b c = refl

or_nothing : (a : Bool) → (a || false) ≡ a
or_nothing true = refl
or_nothing false = refl

any_with : (n : ℕ) (e : Email) (ms : List ℕ) → list_any (is_in n) (left_with e ms) ≡ list_any (λ m. eqb m n) ms
any_with n e [] = refl
any_with n e (m ∷ ms) = or_nothing (list_any (λ x. eqb x n) (m ∷ ms))

any_one : (gone : List ℕ) (n : ℕ) (e : Email) → is_one_of gone n ≡ false → list_any (is_in n) (left_of gone e) ≡ is_in n e
any_one gone n e stays =
    ⊎_elim
    (λ (some : list_any (is_one_of gone) e.mailboxes ≡ true). rw some (any_with n e (mailboxes_left gone e.mailboxes) ∙ in_still gone n stays e.mailboxes))
    (λ (none : list_any (is_one_of gone) e.mailboxes ≡ false). rw none (or_nothing (is_in n e)))
    (cases_Bool (list_any (is_one_of gone) e.mailboxes))

pub any_left : (gone : List ℕ) (n : ℕ) (es : List Email) → is_one_of gone n ≡ false → list_any (is_in n) (emails_left gone es) ≡ list_any (is_in n) es
any_left gone n [] stays = refl
any_left gone n (e ∷ es) stays =
    any_join (is_in n) (left_of gone e) (emails_left gone es)
    ∙ ap₂ (λ (a b : Bool). a || b) (any_one gone n e stays) (any_left gone n es stays)

-- ---- the emails that are left are in number order

above_with : (n : ℕ) (e : Email) (ms : List ℕ) → n < e.number → AllByRecursion (λ (y : Email). n < y.number) (left_with e ms)
above_with n e [] less = tt
above_with n e (m ∷ ms) less = (less, tt)

above_one : (n : ℕ) (e : Email) (ms : List ℕ) (b : Bool) → n < e.number → AllByRecursion (λ (y : Email). n < y.number) (cond b (left_with e ms) (e ∷ []))
above_one n e ms true less = above_with n e ms less
above_one n e ms false less = (less, tt)

above_left : (gone : List ℕ) (n : ℕ) (es : List Email) → AllByRecursion (λ (y : Email). n < y.number) es → AllByRecursion (λ (y : Email). n < y.number) (emails_left gone es)
above_left gone n [] all = tt
above_left gone n (e ∷ es) all =
    all_append (λ (y : Email). n < y.number) (left_of gone e) (emails_left gone es)
    (above_one n e (mailboxes_left gone e.mailboxes) (list_any (is_one_of gone) e.mailboxes) all.0) (above_left gone n es all.1)

table_with : (e : Email) (ms : List ℕ) (rest : List Email) → AllByRecursion (λ (y : Email). e.number < y.number) rest → IsTable email_number rest → IsTable email_number (left_with e ms ++ rest)
table_with e [] rest above table = table
table_with e (m ∷ ms) rest above table = (above, table)

table_one : (e : Email) (ms : List ℕ) (b : Bool) (rest : List Email) → AllByRecursion (λ (y : Email). e.number < y.number) rest → IsTable email_number rest → IsTable email_number (cond b (left_with e ms) (e ∷ []) ++ rest)
table_one e ms true rest above table = table_with e ms rest above table
table_one e ms false rest above table = (above, table)

pub table_left : (gone : List ℕ) (es : List Email) → IsTable email_number es → IsTable email_number (emails_left gone es)
table_left gone [] table = tt
table_left gone (e ∷ es) table =
    table_one e (mailboxes_left gone e.mailboxes) (list_any (is_one_of gone) e.mailboxes) (emails_left gone es) (above_left gone e.number es table.0) (table_left gone es table.1)
