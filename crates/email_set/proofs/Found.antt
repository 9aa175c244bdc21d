-- The email that a string means is in the content, and what its put and its drop leave of it.
use Rattle.std.proofs.Common.{◌≡◌, ℕ, zero, suc, ◌<◌, ◌≤◌, Bool, true, false, not, cond, eqb, List, [], ◌∷◌, filter, length, nat_lt, Option, Some, None, is_some, refl, sym, ap, ◌∙◌, subst, arith, ⊎_elim, eqb-true, eq-eqb, ltb-true, true≢false}
use Rattle.std.specs.List.{AllByRecursion, find as first_that}
use Rattle.std.proofs.lemmas.Bool.{cases_Bool}
use Rattle.std.proofs.lemmas.Option.{none-some, same_Some}
use Rattle.jm_base.specs.declared.identifiers.Kind.TheVariants.{Email as OfEmail}
use Rattle.jm_json.specs.declared.invocation.Created.{Created}
use Rattle.mail_records.specs.Contents.{Content, email_at, email_number}
use Rattle.mail_records.specs.Edits.{after_edit}
use Rattle.mail_records.specs.Tables.{IsTable, lookup, put}
use Rattle.mail_records.specs.declared.edits.Edit.TheVariants.{PutEmail, DropEmail}
use Rattle.mail_records.specs.declared.records.Email.{Email}
use Rattle.mail_records.specs.declared.records.Mailbox.{Mailbox}
use Rattle.mail_records.proofs.Growth.{AreTables-after_edit, all_map}
use Rattle.mail_records.proofs.Tables.{All-kept, All-put}
use Rattle.mail_counts.specs.Tidy.{IsTidyEmail, ancestor, parent_of}
use Rattle.mail_counts.specs.TidyBut.{IsPlacedBelow, IsTidyButThreadsAndCounts}
use Rattle.set_parts.specs.CreationIds.{identifier, is_id}
use Rattle.set_parts.proofs.Parts.{bound}
use Rattle.email_set.specs.Emails.{email_meant, email_named, with_filing}
use Rattle.email_set.specs.declared.filing.Filing.{Filing}
use Rattle.email_set.proofs.Refiling.{IsRefiled}

-- ---- the first that passes

at_first : (P : Email → Type 0) (b : Bool) (x : Email) (o : Option Email) (e : Email) → P x → (o ≡ Some e → P e) → cond b (Some x) o ≡ Some e → P e
at_first P true x o e here later is = subst P (same_Some x e is) here
at_first P false x o e here later is = later is

found_in : (p : Email → Bool) (P : Email → Type 0) (rows : List Email) (e : Email) → AllByRecursion P rows → first_that p rows ≡ Some e → P e
found_in p P [] e all is = absurd (none-some e is)
found_in p P (x ∷ rows) e all is = at_first P (p x) x (first_that p rows) e all.0 (found_in p P rows e all.1) is

looked_up_first : (x : Email) (rows : List Email) → lookup email_number x.number (x ∷ rows) ≡ Some x
looked_up_first x rows = let same = eq-eqb x.number x.number refl in rw same refl

looked_up_later : (x : Email) (rows : List Email) (e : Email) → x.number < e.number → lookup email_number e.number rows ≡ Some e → lookup email_number e.number (x ∷ rows) ≡ Some e
looked_up_later x rows e less is =
    ⊎_elim
    (λ (same : eqb x.number e.number ≡ true). absurd (let equal = eqb-true x.number e.number same in omega (arith, less, equal)))
    (λ (other : eqb x.number e.number ≡ false). rw other is)
    (cases_Bool (eqb x.number e.number))

found_step : (p : Email → Bool) (x : Email) (rows : List Email) (e : Email) (b : Bool) → AllByRecursion (λ (y : Email). x.number < y.number) rows
    → (first_that p rows ≡ Some e → lookup email_number e.number rows ≡ Some e)
    → cond b (Some x) (first_that p rows) ≡ Some e → lookup email_number e.number (x ∷ rows) ≡ Some e
found_step p x rows e true above rest h = subst (λ (y : Email). lookup email_number y.number (x ∷ rows) ≡ Some y) (same_Some x e h) (looked_up_first x rows)
found_step p x rows e false above rest h = looked_up_later x rows e (found_in p (λ (y : Email). x.number < y.number) rows e above h) (rest h)

found_at : (p : Email → Bool) (rows : List Email) (e : Email) → IsTable email_number rows → first_that p rows ≡ Some e → lookup email_number e.number rows ≡ Some e
found_at p [] e table is = absurd (none-some e is)
found_at p (x ∷ rows) e table is = found_step p x rows e (p x) table.0 (found_at p rows e table.1) is

-- an email of a content that is tidy but for threads and counts
pub record IsFound (c : Content) (e : Email) : Type 0 where
  pub at : email_at c e.number ≡ Some e
  pub tidy : IsTidyEmail c e
  pub from_one : 1 ≤ e.number
  pub below : e.number < c.next_email

pub meant_found : (made : List Created) (c : Content) (s : List ℕ) (e : Email) → IsTidyButThreadsAndCounts c → email_meant made c s ≡ Some e → IsFound c e
meant_found made c s e tidy is =
    let id = bound (email_named c.emails) (identifier made s) e is in
    let p : Email → Bool = λ (x : Email). is_id OfEmail id.0 x.number in
    record {
      at = found_at p c.emails e tidy.tables.emails id.2;
      tidy = found_in p (IsTidyEmail c) c.emails e tidy.emails.each id.2;
      from_one = found_in p (λ (x : Email). 1 ≤ x.number) c.emails e tidy.numbered.emails.from_one id.2;
      below = found_in p (λ (x : Email). x.number < c.next_email) c.emails e tidy.numbered.emails.below_next id.2;
    }

-- ---- lengths

lookup_below : (n : ℕ) (rows : List Email) → AllByRecursion (λ (y : Email). n < y.number) rows → lookup email_number n rows ≡ None
lookup_below n [] all = refl
lookup_below n (x ∷ rows) all =
    ⊎_elim
    (λ (same : eqb x.number n ≡ true). absurd (let equal = eqb-true x.number n same in let less = all.0 in omega (arith, equal, less)))
    (λ (other : eqb x.number n ≡ false). rw other (lookup_below n rows all.1))
    (cases_Bool (eqb x.number n))

above_all : (n : ℕ) (x : Email) (rows : List Email) → n < x.number → AllByRecursion (λ (y : Email). x.number < y.number) rows → AllByRecursion (λ (y : Email). n < y.number) (x ∷ rows)
above_all n x rows less all = (less, all_map (λ (y : Email). x.number < y.number) (λ (y : Email). n < y.number) rows (λ (y : Email) (more : x.number < y.number). omega (arith, less, more)) all)

-- an email that replaces one leaves as many as there were
pub length_put : (r : Email) (rows : List Email) (old : Email) → IsTable email_number rows → lookup email_number r.number rows ≡ Some old → length (put email_number r rows) ≡ length rows
length_put r [] old table is = absurd (none-some old is)
length_put r (x ∷ rows) old table is =
    ⊎_elim
    (λ (lt : nat_lt r.number x.number ≡ true).
    let less = ltb-true r.number x.number lt in
    absurd (none-some old (sym (lookup_below r.number (x ∷ rows) (above_all r.number x rows less table.0)) ∙ is)))
    (λ (ge : nat_lt r.number x.number ≡ false).
    ⊎_elim
    (λ (same : eqb r.number x.number ≡ true). rw (ge, same) refl)
    (λ (other : eqb r.number x.number ≡ false). rw (ge, other) (ap suc (length_put r rows old table.1 (in_rest other))))
    (cases_Bool (eqb r.number x.number)))
    (cases_Bool (nat_lt r.number x.number))
  where
    in_rest : eqb r.number x.number ≡ false → lookup email_number r.number rows ≡ Some old
    in_rest other =
        ⊎_elim
        (λ (same : eqb x.number r.number ≡ true). absurd (let equal : eqb r.number x.number ≡ true = eq-eqb r.number x.number (sym (eqb-true x.number r.number same)) in true≢false (sym equal ∙ other)))
        (λ (differ : eqb x.number r.number ≡ false). subst (λ (b : Bool). cond b (Some x) (lookup email_number r.number rows) ≡ Some old) differ is)
        (cases_Bool (eqb x.number r.number))

pub few_left : (test : Email → Bool) (rows : List Email) → length (filter test rows) ≤ length rows
few_left test [] = omega arith
few_left test (x ∷ rows) =
    ⊎_elim
    (λ (kept : test x ≡ true). let more = few_left test rows in rw kept (omega (arith, more)))
    (λ (gone : test x ≡ false). let more = few_left test rows in rw gone (omega (arith, more)))
    (cases_Bool (test x))

-- ---- a content with one email changed

-- edits of emails leave the mailboxes
abbrev pub SameMailboxes : Content → Content → Type 0
SameMailboxes c d = c.mailboxes ≡ d.mailboxes

ancestor_same : (k : ℕ) (c : Content) (e : Email) (was : Bool) (o : Option ℕ) → ancestor k (after_edit c (PutEmail e was)) o ≡ ancestor k c o
ancestor_same zero c e was o = refl
ancestor_same (suc k) c e was None = refl
ancestor_same (suc k) c e was (Some n) = ancestor_same k c e was (parent_of c n)

ancestor_left : (k : ℕ) (c : Content) (n t : ℕ) (o : Option ℕ) → ancestor k (after_edit c (DropEmail n t)) o ≡ ancestor k c o
ancestor_left zero c n t o = refl
ancestor_left (suc k) c n t None = refl
ancestor_left (suc k) c n t (Some m) = ancestor_left k c n t (parent_of c m)

-- an email with other mailboxes and keywords that it may have
pub refiled_tidy : (c : Content) (e : Email) (f : Filing) → IsTidyEmail c e → IsRefiled c f → IsTidyEmail c (with_filing f e)
refiled_tidy c e f tidy good = record {
  mailboxes = good.mailboxes.there;
  some_mailbox = good.mailboxes.some;
  few_mailboxes = good.few_mailboxes;
  mailboxes_rise = good.mailboxes.rise;
  keywords = good.keywords.formed;
  few_keywords = good.few_keywords;
  keywords_rise = good.keywords.rise;
  received = tidy.received;
  sent = tidy.sent;
}

tidy_same : (c d : Content) → c.mailboxes ≡ d.mailboxes → (x : Email) → IsTidyEmail c x → IsTidyEmail d x
tidy_same c d same x t = record {
  mailboxes = subst (λ (rows : List Mailbox). AllByRecursion (λ n. is_some (lookup (λ (m : Mailbox). m.number) n rows) ≡ true) x.mailboxes) same t.mailboxes;
  some_mailbox = t.some_mailbox;
  few_mailboxes = t.few_mailboxes;
  mailboxes_rise = t.mailboxes_rise;
  keywords = t.keywords;
  few_keywords = t.few_keywords;
  keywords_rise = t.keywords_rise;
  received = t.received;
  sent = t.sent;
}

-- after a put of an email that is there, with mailboxes and keywords that it may have
pub tidy_after_put : (c : Content) (e : Email) (f : Filing) → IsTidyButThreadsAndCounts c → IsFound c e → IsRefiled c f → IsTidyButThreadsAndCounts (after_edit c (PutEmail (with_filing f e) true))
tidy_after_put c e f tidy found good =
    let item : Email = with_filing f e in
    let d : Content = after_edit c (PutEmail item true) in
    let count = length_put item c.emails e tidy.tables.emails found.at in
    let few = tidy.emails.few in
    record {
      tables = AreTables-after_edit c (PutEmail item true) tidy.tables;
      numbered = record {
        mailboxes = tidy.numbered.mailboxes;
        emails = record {
          next_from_one = tidy.numbered.emails.next_from_one;
          from_one = All-put (λ (x : Email). 1 ≤ x.number) email_number item found.from_one c.emails tidy.numbered.emails.from_one;
          below_next = All-put (λ (x : Email). x.number < c.next_email) email_number item found.below c.emails tidy.numbered.emails.below_next;
        };
        threads = tidy.numbered.threads;
      };
      mailboxes = record {
        forms = tidy.mailboxes.forms;
        placed = all_map (IsPlacedBelow c) (IsPlacedBelow d) c.mailboxes (λ (m : Mailbox) p. record { parent = p.parent; root = ancestor_same (length c.mailboxes) c item true m.parent ∙ p.root }) tidy.mailboxes.placed;
        names = tidy.mailboxes.names;
        roles = tidy.mailboxes.roles;
      };
      emails = record {
        few = omega (arith, count, few);
        each =
            All-put (IsTidyEmail d) email_number item (tidy_same c d refl item (refiled_tidy c e f found.tidy good)) c.emails
            (all_map (IsTidyEmail c) (IsTidyEmail d) c.emails (tidy_same c d refl) tidy.emails.each);
      };
    }

-- after a drop of an email
pub tidy_after_drop : (c : Content) (n t : ℕ) → IsTidyButThreadsAndCounts c → IsTidyButThreadsAndCounts (after_edit c (DropEmail n t))
tidy_after_drop c n t tidy =
    let d : Content = after_edit c (DropEmail n t) in
    let stays : Email → Bool = λ (x : Email). not (eqb x.number n) in
    let count = few_left stays c.emails in
    let few = tidy.emails.few in
    record {
      tables = AreTables-after_edit c (DropEmail n t) tidy.tables;
      numbered = record {
        mailboxes = tidy.numbered.mailboxes;
        emails = record {
          next_from_one = tidy.numbered.emails.next_from_one;
          from_one = All-kept (λ (x : Email). 1 ≤ x.number) stays c.emails tidy.numbered.emails.from_one;
          below_next = All-kept (λ (x : Email). x.number < c.next_email) stays c.emails tidy.numbered.emails.below_next;
        };
        threads = tidy.numbered.threads;
      };
      mailboxes = record {
        forms = tidy.mailboxes.forms;
        placed = all_map (IsPlacedBelow c) (IsPlacedBelow d) c.mailboxes (λ (m : Mailbox) p. record { parent = p.parent; root = ancestor_left (length c.mailboxes) c n t m.parent ∙ p.root }) tidy.mailboxes.placed;
        names = tidy.mailboxes.names;
        roles = tidy.mailboxes.roles;
      };
      emails = record {
        few = omega (arith, count, few);
        each = All-kept (IsTidyEmail d) stays c.emails (all_map (IsTidyEmail c) (IsTidyEmail d) c.emails (tidy_same c d refl) tidy.emails.each);
      };
    }
