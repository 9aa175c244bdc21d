-- What edits that are laid over a content make of its records.
use Rattle.std.proofs.Common.{Bor, MatchOption, option_map, ◌≡◌, ℕ, ◌+◌, ◌<◌, Bool, true, false, ◌||◌, ◌&&◌, cond, eqb, List, [], ◌∷◌, Option, Some, None, refl, sym, ap, ◌∙◌, subst, ⊎_elim, eqb-true}
use Rattle.std.specs.Option.{option_or}
use Rattle.std.proofs.lemmas.Bool.{cases_Bool, true≢false}
use Rattle.mail_records.specs.Tables.{lookup, put, without}
use Rattle.mail_records.specs.Contents.{Content, mailbox_at, email_at, thread_at, mailbox_number, email_number, thread_number}
use Rattle.mail_records.specs.Edits.{after_edit, after_edits, id_of, kind_of}
use Rattle.mail_records.specs.States.{is_kind}
use Rattle.mail_records.specs.declared.edits.Edit.{Edit}
use Rattle.mail_records.specs.declared.edits.Edit.TheVariants.{PutMailbox, DropMailbox, PutEmail, DropEmail, PutThread, DropThread}
use Rattle.mail_records.proofs.Tables.{lookup-put_same, lookup-put_other, lookup-without_other, lookup-without_same}
use Rattle.jm_base.specs.declared.identifiers.Kind.{Kind}
use Rattle.jm_base.specs.declared.identifiers.Kind.TheVariants.{Mailbox as OfMailbox, Email as OfEmail, Thread as OfThread}
use Rattle.mail_counts.specs.Overlay.{if_of, last_edit, laid_over, mailbox_put, email_put, thread_put, emails_named}
use Rattle.mail_counts.specs.Touched.{is_one_of}

-- a record that is put, or was there before
put_over : {R : Type 0} (number : R → ℕ) (r : R) (n : ℕ) (rows : List R) (put_of : Edit → Option R) (e : Edit) → put_of e ≡ Some r
    → lookup number n (put number r rows) ≡ laid_over put_of (cond (eqb (number r) n) (Some e) None) (lookup number n rows)
put_over number r n rows put_of e is =
    ⊎_elim
    (λ (t : eqb (number r) n ≡ true). rw t (lookup-put_same number r n (eqb-true (number r) n t) rows ∙ sym is))
    (λ (t : eqb (number r) n ≡ false). rw t (lookup-put_other number r n t rows))
    (cases_Bool (eqb (number r) n))

-- a record that is dropped, or was there before
drop_over : {R : Type 0} (number : R → ℕ) (m n : ℕ) (rows : List R) (put_of : Edit → Option R) (e : Edit) → put_of e ≡ None
    → lookup number n (without number m rows) ≡ laid_over put_of (cond (eqb m n) (Some e) None) (lookup number n rows)
drop_over number m n rows put_of e is =
    ⊎_elim
    (λ (t : eqb m n ≡ true).
    let same : m ≡ n = eqb-true m n t in
    rw t (subst (λ k. lookup number k (without number m rows) ≡ put_of e) same (lookup-without_same number m rows ∙ sym is)))
    (λ (t : eqb m n ≡ false). rw t (lookup-without_other number m n t rows))
    (cases_Bool (eqb m n))

mailbox_step : (c : Content) (n : ℕ) (e : Edit) → mailbox_at (after_edit c e) n ≡ laid_over mailbox_put (if_of OfMailbox n e) (mailbox_at c n)
mailbox_step c n (PutMailbox item was counts) = put_over mailbox_number item n c.mailboxes mailbox_put (PutMailbox item was counts) refl
mailbox_step c n (DropMailbox number) = drop_over mailbox_number number n c.mailboxes mailbox_put (DropMailbox number) refl
mailbox_step c n (PutEmail item was) = refl
mailbox_step c n (DropEmail number thread) = refl
mailbox_step c n (PutThread item was) = refl
mailbox_step c n (DropThread number) = refl

email_step : (c : Content) (n : ℕ) (e : Edit) → email_at (after_edit c e) n ≡ laid_over email_put (if_of OfEmail n e) (email_at c n)
email_step c n (PutMailbox item was counts) = refl
email_step c n (DropMailbox number) = refl
email_step c n (PutEmail item was) = put_over email_number item n c.emails email_put (PutEmail item was) refl
email_step c n (DropEmail number thread) = drop_over email_number number n c.emails email_put (DropEmail number thread) refl
email_step c n (PutThread item was) = refl
email_step c n (DropThread number) = refl

thread_step : (c : Content) (n : ℕ) (e : Edit) → thread_at (after_edit c e) n ≡ laid_over thread_put (if_of OfThread n e) (thread_at c n)
thread_step c n (PutMailbox item was counts) = refl
thread_step c n (DropMailbox number) = refl
thread_step c n (PutEmail item was) = refl
thread_step c n (DropEmail number thread) = refl
thread_step c n (PutThread item was) = put_over thread_number item n c.threads thread_put (PutThread item was) refl
thread_step c n (DropThread number) = drop_over thread_number number n c.threads thread_put (DropThread number) refl

later : {R : Type 0} (put_of : Edit → Option R) (last first : Option Edit) (before : Option R)
    → laid_over put_of last (laid_over put_of first before) ≡ laid_over put_of (option_or last first) before
later put_of None first before = refl
later put_of (Some e) first before = refl

pub mailbox_after : (es : List Edit) (c : Content) (n : ℕ) → mailbox_at (after_edits c es) n ≡ laid_over mailbox_put (last_edit OfMailbox n es) (mailbox_at c n)
mailbox_after [] c n = refl
mailbox_after (e ∷ es) c n =
    mailbox_after es (after_edit c e) n
    ∙ (ap (laid_over mailbox_put (last_edit OfMailbox n es)) (mailbox_step c n e) ∙ later mailbox_put (last_edit OfMailbox n es) (if_of OfMailbox n e) (mailbox_at c n))

pub email_after : (es : List Edit) (c : Content) (n : ℕ) → email_at (after_edits c es) n ≡ laid_over email_put (last_edit OfEmail n es) (email_at c n)
email_after [] c n = refl
email_after (e ∷ es) c n =
    email_after es (after_edit c e) n
    ∙ (ap (laid_over email_put (last_edit OfEmail n es)) (email_step c n e) ∙ later email_put (last_edit OfEmail n es) (if_of OfEmail n e) (email_at c n))

pub thread_after : (es : List Edit) (c : Content) (n : ℕ) → thread_at (after_edits c es) n ≡ laid_over thread_put (last_edit OfThread n es) (thread_at c n)
thread_after [] c n = refl
thread_after (e ∷ es) c n =
    thread_after es (after_edit c e) n
    ∙ (ap (laid_over thread_put (last_edit OfThread n es)) (thread_step c n e) ∙ later thread_put (last_edit OfThread n es) (if_of OfThread n e) (thread_at c n))

-- ---- emails that edits name

or_none : (o : Option Edit) → option_or o None ≡ o
or_none None = refl
or_none (Some e) = refl

-- an email that no edit names has no last edit
pub none_last : (es : List Edit) (n : ℕ) → is_one_of (emails_named es) n ≡ false → last_edit OfEmail n es ≡ None
none_last [] n away = refl
none_last (PutMailbox item was counts ∷ es) n away = or_none (last_edit OfEmail n es) ∙ none_last es n away
none_last (DropMailbox number ∷ es) n away = or_none (last_edit OfEmail n es) ∙ none_last es n away
none_last (PutEmail item was ∷ es) n away =
    let first : eqb item.number n ≡ false = or_first (eqb item.number n) (is_one_of (emails_named es) n) away in
    let rest = or_second (eqb item.number n) (is_one_of (emails_named es) n) away in
    rw first (or_none (last_edit OfEmail n es) ∙ none_last es n rest)
  where
    or_first : (a b : Bool) → (a || b) ≡ false → a ≡ false
    or_first true b h = absurd (true≢false h)
    or_first false b h = refl

    or_second : (a b : Bool) → (a || b) ≡ false → b ≡ false
    or_second true b h = absurd (true≢false h)
    or_second false b h = h
none_last (DropEmail number thread ∷ es) n away =
    let first : eqb number n ≡ false = or_first (eqb number n) (is_one_of (emails_named es) n) away in
    let rest = or_second (eqb number n) (is_one_of (emails_named es) n) away in
    rw first (or_none (last_edit OfEmail n es) ∙ none_last es n rest)
  where
    or_first : (a b : Bool) → (a || b) ≡ false → a ≡ false
    or_first true b h = absurd (true≢false h)
    or_first false b h = refl

    or_second : (a b : Bool) → (a || b) ≡ false → b ≡ false
    or_second true b h = absurd (true≢false h)
    or_second false b h = h
none_last (PutThread item was ∷ es) n away = or_none (last_edit OfEmail n es) ∙ none_last es n away
none_last (DropThread number ∷ es) n away = or_none (last_edit OfEmail n es) ∙ none_last es n away

-- such an email is as it was
pub email_as_before : (es : List Edit) (c : Content) (n : ℕ) → is_one_of (emails_named es) n ≡ false → email_at (after_edits c es) n ≡ email_at c n
email_as_before es c n away = email_after es c n ∙ ap (λ o. laid_over email_put o (email_at c n)) (none_last es n away)

-- ---- the last edits up to here

grouped : (a b c : Option Edit) → option_or (option_or a b) c ≡ option_or a (option_or b c)
grouped None b c = refl
grouped (Some e) b c = refl

-- an edit more
pub last_more : (kind : Kind) (n : ℕ) (e : Edit) (es : List Edit) (before after : Option Edit) → after ≡ option_or (if_of kind n e) before
    → option_or (last_edit kind n es) after ≡ option_or (last_edit kind n (e ∷ es)) before
last_more kind n e es before after is = ap (option_or (last_edit kind n es)) is ∙ sym (grouped (last_edit kind n es) (if_of kind n e) before)

-- an edit of another kind
pub of_other_kind : (kind : Kind) (n : ℕ) (e : Edit) (before : Option Edit) → is_kind kind (kind_of e) ≡ false → before ≡ option_or (if_of kind n e) before
of_other_kind kind n e before other =
    ap (λ b. option_or (cond (b && eqb (id_of e).number n) (Some e) None) before) (sym other)

-- an edit of the kind
pub of_this_kind : (kind : Kind) (n : ℕ) (e : Edit) (before : Option Edit) → is_kind kind (kind_of e) ≡ true
    → cond (eqb (id_of e).number n) (Some e) before ≡ option_or (if_of kind n e) before
of_this_kind kind n e before same =
    by (eqb (id_of e).number n) ∙ ap (λ b. option_or (cond (b && eqb (id_of e).number n) (Some e) None) before) (sym same)
  where
    by : (b : Bool) → cond b (Some e) before ≡ option_or (cond b (Some e) None) before
    by true = refl
    by false = refl

-- ---- look-ups

-- what a look-up in a table lends
pub found_is : {R : Type 0} (r : Option (Bor R)) (o : Option R) → MatchOption r (o ≡ None) (λ x. o ≡ Some x.now) → option_map (λ x. x.now) r ≡ o
found_is None o is = sym is
found_is (Some x) o is = sym is

pub mailbox_found : (es : List Edit) (c : Content) (n : ℕ) (e : Edit) → last_edit OfMailbox n es ≡ Some e → mailbox_put e ≡ mailbox_at (after_edits c es) n
mailbox_found es c n e is = sym (mailbox_after es c n ∙ ap (λ o. laid_over mailbox_put o (mailbox_at c n)) is)

pub mailbox_kept : (es : List Edit) (c : Content) (n : ℕ) → last_edit OfMailbox n es ≡ None → mailbox_at c n ≡ mailbox_at (after_edits c es) n
mailbox_kept es c n is = sym (mailbox_after es c n ∙ ap (λ o. laid_over mailbox_put o (mailbox_at c n)) is)

pub email_found : (es : List Edit) (c : Content) (n : ℕ) (e : Edit) → last_edit OfEmail n es ≡ Some e → email_put e ≡ email_at (after_edits c es) n
email_found es c n e is = sym (email_after es c n ∙ ap (λ o. laid_over email_put o (email_at c n)) is)

pub email_kept : (es : List Edit) (c : Content) (n : ℕ) → last_edit OfEmail n es ≡ None → email_at c n ≡ email_at (after_edits c es) n
email_kept es c n is = sym (email_after es c n ∙ ap (λ o. laid_over email_put o (email_at c n)) is)

pub thread_found : (es : List Edit) (c : Content) (n : ℕ) (e : Edit) → last_edit OfThread n es ≡ Some e → thread_put e ≡ thread_at (after_edits c es) n
thread_found es c n e is = sym (thread_after es c n ∙ ap (λ o. laid_over thread_put o (thread_at c n)) is)

pub thread_kept : (es : List Edit) (c : Content) (n : ℕ) → last_edit OfThread n es ≡ None → thread_at c n ≡ thread_at (after_edits c es) n
thread_kept es c n is = sym (thread_after es c n ∙ ap (λ o. laid_over thread_put o (thread_at c n)) is)
