-- What the code keeps of a content that the updates and destroys of a set change, and a put.
use Rattle.std.proofs.Common.{◌≡◌, ℕ, zero, suc, ◌+◌, ◌<◌, arith, take, get_or, Result, Ok, Err, MatchResult, IfOk, Bool, true, false, cond, eqb, List, [], ◌∷◌, ◌++◌, length, Option, Some, None, is_some, option_map, option_and_then, refl, sym, ap, ap₂, ◌∙◌, subst, ⊎_elim}
use Rattle.std.specs.List.{AllByRecursion, list_any}
use Rattle.std.proofs.lemmas.Bool.{cases_Bool, eqb-true, true≢false}
use Rattle.std.proofs.lemmas.List.{take_more}
use Rattle.std.proofs.lemmas.Option.{none-some}
use Rattle.mail_records.specs.Contents.{Content, Held, email_number, mailbox_at, mailbox_number}
use Rattle.mail_records.specs.Edits.{after_edit, after_edits}
use Rattle.mail_records.specs.Tables.{IsTable, lookup, put}
use Rattle.mail_records.specs.declared.edits.Edit.{Edit}
use Rattle.mail_records.specs.declared.edits.Edit.TheVariants.{PutMailbox}
use Rattle.mail_records.specs.declared.records.Mailbox.{Mailbox}
use Rattle.mail_records.proofs.Growth.{after_edits-append}
use Rattle.mail_records.proofs.Tables.{IsTable-put, lookup-put_other}
use Rattle.mail_counts.specs.Touched.{is_one_of}
use Rattle.mail_counts.specs.Views.{mailbox_named}
use Rattle.mail_counts.proofs.Named.{named_by_number, named_none}
use Rattle.jm_json.specs.declared.invocation.Created.{Created}
use Rattle.set_parts.specs.CreationIds.{identifier}
use Rattle.set_parts.specs.Views.{MeansIfAny}
use Rattle.mailbox_updates.specs.EmailsLeft.{emails_left}
use Rattle.mailbox_updates.specs.PresentMailboxes.{present_at}
use Rattle.mailbox_updates.specs.Views.{Shows}
use Rattle.mailbox_updates.specs.declared.current.Current.{Current}
use Rattle.mailbox_creates.specs.Properties.{mailbox_meant}
use Rattle.mailbox_creates.proofs.Promising.{named_there}
use Rattle.mailbox_updates.proofs.Present.{present_put}
use Rattle.mail_records.specs.declared.records.Email.{Email}

-- ---- loops

pub took : {A : Type 0} (xs : List A) (i : ℕ) (x : A) → i < length xs → x ≡ get_or xs i x → take (i + 1) xs ≡ take i xs ++ x ∷ []
took xs i x lt is = take_more xs i x lt ∙ ap (λ y. take i xs ++ y ∷ []) (sym is)

pub after_took : (c : Content) (es : List Edit) (i : ℕ) (e : Edit) → i < length es → e ≡ get_or es i e → after_edit (after_edits c (take i es)) e ≡ after_edits c (take (i + 1) es)
after_took c es i e lt is = sym (ap (after_edits c) (took es i e lt is) ∙ after_edits-append (take i es) (e ∷ []) c)

pub all_at : {A : Type 0} (P : A → Type 0) (xs : List A) (i : ℕ) (x : A) → AllByRecursion P xs → i < length xs → x ≡ get_or xs i x → P x
all_at P [] i x all lt is = absurd (omega (arith, lt))
all_at P (y ∷ xs) zero x all lt is = subst P (sym is) all.0
all_at P (y ∷ xs) (suc i) x all lt is = all_at P xs i x all.1 (omega (arith, lt)) is

pub both_ways : {T E : Type 0} (r : Result T E) (P S : T → Type 0) (Q R : E → Type 0) → ((x : T) → P x → S x) → ((e : E) → Q e → R e) → MatchResult r P Q → MatchResult r S R
both_ways (Ok x) P S Q R f g h = f x h
both_ways (Err e) P S Q R f g h = g e h

pub if_more : {T E : Type 0} (r : Result T E) (P S : T → Type 0) → ((x : T) → P x → S x) → IfOk r P → IfOk r S
if_more (Ok x) P S f h = f x h
if_more (Err e) P S f h = tt

-- ---- look-ups

pub present_changed : (changed base : List Mailbox) (gone : List ℕ) (n : ℕ) (m : Mailbox) → lookup mailbox_number n changed ≡ Some m → present_at changed gone base n ≡ Some m
present_changed changed base gone n m at =
    ap (λ (o : Option Mailbox). cond (is_some o) o (cond (is_one_of gone n) None (lookup mailbox_number n base))) at

pub present_other : (changed base : List Mailbox) (gone : List ℕ) (n : ℕ) → lookup mailbox_number n changed ≡ None → present_at changed gone base n ≡ cond (is_one_of gone n) None (lookup mailbox_number n base)
present_other changed base gone n at =
    ap (λ (o : Option Mailbox). cond (is_some o) o (cond (is_one_of gone n) None (lookup mailbox_number n base))) at

-- what an identifier means, where it is that of this number, and where it is none
pub meant_some : (rows : List Mailbox) (o : Option (List ℕ)) (n : ℕ) → MeansIfAny o (Some n) → option_and_then (mailbox_named rows) o ≡ lookup mailbox_number n rows
meant_some rows None n means = absurd (none-some n (sym means))
meant_some rows (Some s) n means = ap (mailbox_named rows) means.1 ∙ named_by_number n rows means.0.from_one means.0.below

pub meant_nothing : (rows : List Mailbox) (o : Option (List ℕ)) → MeansIfAny o None → option_and_then (mailbox_named rows) o ≡ None
meant_nothing rows None means = refl
meant_nothing rows (Some s) means = named_none s rows (λ a w. means a (record { from_one = w.0.0; below = w.0.1 }) (sym w.1))

-- the mailbox that a string means is there
pub meant_there : (made : List Created) (c : Content) (s : List ℕ) (m : Mailbox) → mailbox_meant made c s ≡ Some m → is_some (mailbox_at c m.number) ≡ true
meant_there made c s m e = by_id (identifier made s) e
  where
    by_id : (o : Option (List ℕ)) → option_and_then (mailbox_named c.mailboxes) o ≡ Some m → is_some (mailbox_at c m.number) ≡ true
    by_id None is = absurd (none-some m is)
    by_id (Some id) is = named_there id c.mailboxes m.number (ap (option_map mailbox_number) is)

-- ---- a put

pub shows_put : (p q : Current) (c : Content) (m : Mailbox) (was counts : Bool) → q.content.now ≡ p.content.now → q.changed.rows ≡ put mailbox_number m p.changed.rows → q.destroyed.items ≡ p.destroyed.items
    → is_one_of p.destroyed.items m.number ≡ false → Shows p c → Shows q (after_edit c (PutMailbox m was counts))
shows_put p q c m was counts content changed destroyed out shows = record {
  table = IsTable-put mailbox_number m c.mailboxes shows.table;
  changed = subst (IsTable mailbox_number) (sym changed) (IsTable-put mailbox_number m p.changed.rows shows.changed);
  base = subst (λ (h : Held). IsTable mailbox_number h.content.mailboxes) (sym content) shows.base;
  base_emails = subst (λ (h : Held). IsTable email_number h.content.emails) (sym content) shows.base_emails;
  found = λ n.
      present_put c.mailboxes p.changed.rows p.content.now.content.mailboxes p.destroyed.items shows.found m n
      ∙ (ap (λ (h : Held). present_at (put mailbox_number m p.changed.rows) p.destroyed.items h.content.mailboxes n) (sym content)
      ∙ ap₂ (λ (rows : List Mailbox) (gone : List ℕ). present_at rows gone q.content.now.content.mailboxes n) (sym changed) (sym destroyed));
  gone = λ n one. ap (lookup mailbox_number n) changed ∙ not_put n (subst (λ (ns : List ℕ). is_one_of ns n ≡ true) destroyed one);
  emails = shows.emails ∙ (ap (λ (ns : List ℕ). emails_left ns p.content.now.content.emails) (sym destroyed) ∙ ap (λ (h : Held). emails_left q.destroyed.items h.content.emails) (sym content));
}
  where
    not_put : (n : ℕ) → is_one_of p.destroyed.items n ≡ true → lookup mailbox_number n (put mailbox_number m p.changed.rows) ≡ None
    not_put n one =
        ⊎_elim
        (λ (same : eqb m.number n ≡ true). absurd (true≢false (sym one ∙ (ap (is_one_of p.destroyed.items) (sym (eqb-true m.number n same)) ∙ out))))
        (λ (other : eqb m.number n ≡ false). lookup-put_other mailbox_number m n other p.changed.rows ∙ shows.gone n one)
        (cases_Bool (eqb m.number n))

-- ---- no destroys

none_of : (ms : List ℕ) → list_any (is_one_of []) ms ≡ false
none_of [] = refl
none_of (m ∷ ms) = none_of ms

pub emails_first : (es : List Email) → emails_left [] es ≡ es
emails_first [] = refl
emails_first (e ∷ es) = rw (none_of e.mailboxes) (ap (λ (zs : List Email). e ∷ zs) (emails_first es))
