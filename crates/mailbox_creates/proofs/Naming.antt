-- The mailbox that an identifier names, by its number.
use Rattle.std.proofs.Common.{◌≡◌, ◌≢◌, ℕ, true, false, cond, eqb, List, [], ◌∷◌, Option, Some, None, is_some, option_map, option_and_then, refl, sym, ap, ◌∙◌, ⊎_elim, bytes_eq}
use Rattle.std.specs.List.{list_any}
use Rattle.std.proofs.lemmas.Bool.{cases_Bool, eqb-true}
use Rattle.std.proofs.lemmas.Slice.Eq.{bytes_eq-Decides}
use Rattle.mail_records.specs.Tables.{lookup}
use Rattle.mail_records.specs.Contents.{Content, mailbox_number, mailbox_at}
use Rattle.mail_records.specs.declared.records.Mailbox.{Mailbox}
use Rattle.mail_counts.specs.Tidy.{same_role}
use Rattle.mail_counts.proofs.Named.{named_by_number, named_none}
use Rattle.mailbox_creates.specs.Properties.{named}
use Rattle.mailbox_creates.specs.Creates.{is_role_taken}
use Rattle.set_parts.specs.Views.{MeansIfAny}

-- texts that are the same pass the test, and others don't
pub texts_same : (s t : List ℕ) → s ≡ t → bytes_eq s t ≡ true
texts_same s t e = (bytes_eq-Decides s t).1 e

pub texts_tested : (s t : List ℕ) → bytes_eq s t ≡ true → s ≡ t
texts_tested s t e = (bytes_eq-Decides s t).0 e

pub texts_differ : (s t : List ℕ) → s ≢ t → bytes_eq s t ≡ false
texts_differ s t ne =
    ⊎_elim
    (λ (same : bytes_eq s t ≡ true). absurd (ne (texts_tested s t same)))
    (λ (other : bytes_eq s t ≡ false). other)
    (cases_Bool (bytes_eq s t))

named_at : (n : ℕ) (rows : List Mailbox) → option_map mailbox_number (lookup mailbox_number n rows) ≡ cond (is_some (lookup mailbox_number n rows)) (Some n) None
named_at n [] = refl
named_at n (m ∷ rows) =
    ⊎_elim
    (λ (same : eqb m.number n ≡ true). rw same (ap Some (eqb-true m.number n same)))
    (λ (other : eqb m.number n ≡ false). rw other (named_at n rows))
    (cases_Bool (eqb m.number n))

-- what an identifier names, where it is that of this number
pub named_some : (c : Content) (o : Option (List ℕ)) (n : ℕ) → MeansIfAny o (Some n) → option_and_then (named c) o ≡ cond (is_some (mailbox_at c n)) (Some n) None
named_some c None n means = absurd (none-some means)
  where
    none-some : Some n ≡ None → ⊥
    none-some e = cc
named_some c (Some s) n means =
    ap (named c) means.1 ∙ (ap (option_map mailbox_number) (named_by_number n c.mailboxes means.0.from_one means.0.below) ∙ named_at n c.mailboxes)

-- and where it is none
pub named_nothing : (c : Content) (o : Option (List ℕ)) → MeansIfAny o None → option_and_then (named c) o ≡ None
named_nothing c None means = refl
named_nothing c (Some s) means =
    ap (option_map mailbox_number) (named_none s c.mailboxes (λ a w. means a (record { from_one = w.0.0; below = w.0.1 }) (sym w.1)))

-- no mailbox has a role that is none
none_same : (r : Option (List ℕ)) → same_role r None ≡ false
none_same None = refl
none_same (Some s) = refl

none_used : (rows : List Mailbox) → list_any (λ (m : Mailbox). same_role m.role None) rows ≡ false
none_used [] = refl
none_used (m ∷ rows) = rw (none_same m.role) (none_used rows)

pub no_role_taken : (c : Content) → is_role_taken c None ≡ false
no_role_taken c = none_used c.mailboxes
