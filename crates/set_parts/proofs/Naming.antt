-- The mailbox that an identifier names, by its number.
use Rattle.std.proofs.Common.{◌≡◌, ℕ, Bool, true, false, Decides, cond, eqb, List, [], ◌∷◌, map, Option, Some, None, MatchOption, is_some, option_map, option_and_then, refl, sym, ap, ◌∙◌, ⊎_elim}
use Rattle.std.proofs.lemmas.Bool.{cases_Bool, eqb-true}
use Rattle.jm_base.specs.declared.identifiers.Kind.TheVariants.{Mailbox as OfMailbox}
use Rattle.mail_records.specs.Tables.{lookup}
use Rattle.mail_records.specs.Contents.{mailbox_number}
use Rattle.mail_records.specs.declared.records.Mailbox.{Mailbox}
use Rattle.mail_counts.specs.Touched.{is_one_of}
use Rattle.mail_counts.specs.Views.{is_id_of, mailbox_id, mailbox_named}
use Rattle.set_parts.specs.CreationIds.{is_id, number_named}
use Rattle.set_parts.specs.Views.{IsNumber, Means, MeansIfAny}
use Rattle.set_parts.proofs.Identifiers.{IsIdText, decides_id, is_id_by_number}

-- among numbers an identifier names that of the mailbox which it names among mailboxes
pub named_is : (rows : List Mailbox) (s : List ℕ) → number_named OfMailbox (map mailbox_number rows) s ≡ option_map mailbox_number (mailbox_named rows s)
named_is [] s = refl
named_is (m ∷ rows) s =
    ⊎_elim
    (λ (same : is_id_of s m ≡ true). rw same refl)
    (λ (other : is_id_of s m ≡ false). rw other (named_is rows s))
    (cases_Bool (is_id_of s m))

-- a content has a mailbox of a number where the number is one of its mailboxes'
pub has_row : (n : ℕ) (rows : List Mailbox) → is_some (lookup mailbox_number n rows) ≡ is_one_of (map mailbox_number rows) n
has_row n [] = refl
has_row n (m ∷ rows) =
    ⊎_elim
    (λ (same : eqb m.number n ≡ true). rw same refl)
    (λ (other : eqb m.number n ≡ false). rw other (has_row n rows))
    (cases_Bool (eqb m.number n))

-- what is lent is there where it is found
pub is_lent : {A B : Type 0} (see : A → B) (lent : Option A) (found : Option B) → MatchOption lent (found ≡ None) (λ r. found ≡ Some (see r)) → is_some lent ≡ is_some found
is_lent see None found none = sym (ap is_some none)
is_lent see (Some r) found some = sym (ap is_some some)

-- ---- the one of these numbers that an identifier names

own_id : (n : ℕ) → IsNumber n → is_id OfMailbox (mailbox_id n) n ≡ true
own_id n is = (decides_id OfMailbox (mailbox_id n) n).1 ((is.from_one, is.below), refl)

by_number : (n : ℕ) (numbers : List ℕ) → IsNumber n → number_named OfMailbox numbers (mailbox_id n) ≡ cond (is_one_of numbers n) (Some n) None
by_number n [] is = refl
by_number n (m ∷ ms) is =
    ap (λ b. cond b (Some m) (number_named OfMailbox ms (mailbox_id n))) (is_id_by_number OfMailbox (mailbox_id n) n m (own_id n is))
    ∙ ⊎_elim
    (λ (same : eqb m n ≡ true). rw same (ap Some (eqb-true m n same)))
    (λ (other : eqb m n ≡ false). rw other (by_number n ms is))
    (cases_Bool (eqb m n))

not_decided : (P : Type 0) (b : Bool) → Decides b P → (P → ⊥) → b ≡ false
not_decided P true d never = absurd (never (d.0 refl))
not_decided P false d never = refl

by_none : (s : List ℕ) (numbers : List ℕ) → Means s None → number_named OfMailbox numbers s ≡ None
by_none s [] means = refl
by_none s (m ∷ ms) means =
    ap (λ b. cond b (Some m) (number_named OfMailbox ms s))
    (not_decided (IsIdText OfMailbox s m) (is_id OfMailbox s m) (decides_id OfMailbox s m) (λ w. means m (record { from_one = w.0.0; below = w.0.1 }) (sym w.1)))
    ∙ by_none s ms means

-- where it is that of this number
pub named_some : (numbers : List ℕ) (o : Option (List ℕ)) (n : ℕ) → MeansIfAny o (Some n) → option_and_then (number_named OfMailbox numbers) o ≡ cond (is_one_of numbers n) (Some n) None
named_some numbers None n means = absurd (none-some means)
  where
    none-some : Some n ≡ None → ⊥
    none-some e = cc
named_some numbers (Some s) n means = ap (number_named OfMailbox numbers) means.1 ∙ by_number n numbers means.0

-- and where it is none
pub named_nothing : (numbers : List ℕ) (o : Option (List ℕ)) → MeansIfAny o None → option_and_then (number_named OfMailbox numbers) o ≡ None
named_nothing numbers None means = refl
named_nothing numbers (Some s) means = by_none s numbers means
